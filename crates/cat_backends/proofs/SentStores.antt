-- The store of a database in a file may go to other threads, where its disk may.
use denote.Param.Send.{IsSend, sendable}
use denote.Param.SendFields.{declared_send, owner_send}
use denote.RattleType.{RattleType}
use Rattle.std.proofs.Crossing.{crosses}
use Rattle.std.specs.contracts.fs.File as OsFile
use Rattle.sqlite_value.specs.contracts.row.Row as Row
use Rattle.sqlite_disk.specs.declared.Disk as Disk
use Rattle.sqlite_disk.specs.declared.calls.Calls as Calls
use Rattle.sqlite_disk.specs.declared.start.Start as Start
use Rattle.sqlite_disk.specs.contracts.modelled.Modelled as Modelled
use Rattle.sqlite_std_file.specs.contracts.host.Host as Host
use Rattle.sqlite_std_file.specs.contracts.record.Record as Record
use Rattle.sqlite_wal.specs.contracts.batch.Batch as Frames
use Rattle.sqlite_wal.specs.contracts.index.PageIndex as PageIndex
use Rattle.sqlite_wal.specs.contracts.log.Ahead as Ahead
use Rattle.sqlite_wal.specs.contracts.log.Log as Log
use Rattle.sqlite_wal.specs.contracts.log.Point as Point
use Rattle.sqlite_wal.specs.contracts.recover.Mark as Durable
use Rattle.sqlite_pager.specs.contracts.cache.Cache as Cache
use Rattle.sqlite_pager.specs.contracts.layers.Layer as Layer
use Rattle.sqlite_pager.specs.contracts.pager.Options as Options
use Rattle.sqlite_pager.specs.contracts.pager.Pager as Pager
use Rattle.sqlite_pool.specs.contracts.backing.Backing as Backing
use Rattle.sqlite_pool.specs.contracts.free_set.FreeSet as FreeSet
use Rattle.sqlite_pool.specs.contracts.pool.Mark as Mark
use Rattle.sqlite_pool.specs.contracts.pool.Pool as Pool
use Rattle.sqlite_btree.specs.contracts.scratch.Scratch as Scratch
use Rattle.sqlite_store.specs.contracts.catalog.Wanted as Wanted
use Rattle.sqlite_store.specs.contracts.cursor.Cursor as Cursor
use Rattle.sqlite_store.specs.contracts.limits.Limits as Limits
use Rattle.sqlite_store.specs.contracts.saved.Listed as Listed
use Rattle.sqlite_store.specs.contracts.saved.Saved as Saved
use Rattle.sqlite_store.specs.contracts.store.FileStore as FileStore

pub row_send : IsSend Row.the_row
row_send = search (sendable, crosses) depth 60

ruleset known = (row_send, sendable, crosses)

-- ---- a file and what is told of it

pub os_file_send : IsSend OsFile.the_row
os_file_send = search sendable depth 60

record_send : IsSend Record.the_row
record_send = owner_send Record.the_type (search sendable depth 60, tt) (λ d. tt) (λ k d w. tt)

pub host_send : IsSend Host.the_row
host_send = declared_send Host.the_type (os_file_send, (record_send, tt))

pub modelled_send : (C S : RattleType) (calls : Calls.Ghosts C.Denot) (start : Start.Ghosts S.Denot) → IsSend C → IsSend (Modelled.the_row C S calls start)
modelled_send C S calls start c = declared_send (Modelled.the_type C S calls start) (search (c, known) depth 60, (search known depth 60, (search known depth 60, (search known depth 60, (search known depth 60, (search known depth 60, tt))))))

-- ---- parts of a store

index_send : IsSend PageIndex.the_row
index_send = search known depth 60

frames_send : IsSend Frames.the_row
frames_send = search (index_send, known) depth 60

layer_send : IsSend Layer.the_row
layer_send = search known depth 60

point_send : IsSend Point.the_row
point_send = search known depth 60

ahead_send : IsSend Ahead.the_row
ahead_send = search known depth 60

durable_send : IsSend Durable.the_row
durable_send = search known depth 60

cache_send : IsSend Cache.the_row
cache_send = search known depth 60

options_send : IsSend Options.the_row
options_send = search known depth 60

free_send : IsSend FreeSet.the_row
free_send = search known depth 60

mark_send : IsSend Mark.the_row
mark_send = search known depth 60

scratch_send : IsSend Scratch.the_row
scratch_send = search known depth 60

cursor_send : IsSend Cursor.the_row
cursor_send = search known depth 60

wanted_send : IsSend Wanted.the_row
wanted_send = search known depth 60

listed_send : IsSend Listed.the_row
listed_send = search (wanted_send, known) depth 60

saved_send : IsSend Saved.the_row
saved_send = search (wanted_send, listed_send, known) depth 60

limits_send : IsSend Limits.the_row
limits_send = search known depth 60

-- ---- stores

module _ (D : RattleType) (disk : Disk.Ghosts D.Denot) (d : IsSend D) where
  log_send : IsSend (Log.the_row D disk)
  log_send = declared_send (Log.the_type D disk) (
    search (d, known) depth 60,
    (
      search (d, known) depth 60,
      (
        search known depth 60,
        (
          search (index_send, known) depth 60,
          (
            search known depth 60,
            (
              search known depth 60,
              (
                durable_send,
                (search known depth 60, (search known depth 60, (search known depth 60, (search known depth 60, (ahead_send, (search known depth 60, tt)))))),
              ),
            ),
          ),
        ),
      ),
    ),
  )

  pager_send : IsSend (Pager.the_row D disk)
  pager_send = declared_send (Pager.the_type D disk) (
    log_send,
    (
      frames_send,
      (
        search known depth 60,
        (
          search (point_send, known) depth 60,
          (
            search (layer_send, known) depth 60,
            (
              search known depth 60,
              (
                search (frames_send, known) depth 60,
                (
                  cache_send,
                  (
                    search known depth 60,
                    (search known depth 60, (search known depth 60, (options_send, (search known depth 60, (search known depth 60, tt))))),
                  ),
                ),
              ),
            ),
          ),
        ),
      ),
    ),
  )

  backing_send : IsSend (Backing.the_row D disk)
  backing_send = declared_send (Backing.the_type D disk) (pager_send, (search known depth 60, (search known depth 60, (search known depth 60, (search known depth 60, tt)))))

  pool_send : IsSend (Pool.the_row D disk)
  pool_send = declared_send (Pool.the_type D disk) (
    backing_send,
    (free_send, (search known depth 60, (search known depth 60, (search (mark_send, known) depth 60, (search known depth 60, (search known depth 60, tt)))))),
  )

  pub store_send : IsSend (FileStore.the_row D disk)
  store_send = declared_send (FileStore.the_type D disk) (
    pool_send,
    (
      search known depth 60,
      (
        search (wanted_send, known) depth 60,
        (
          search known depth 60,
          (
            search (saved_send, known) depth 60,
            (
              search known depth 60,
              (
                search (cursor_send, known) depth 60,
                (scratch_send, (search known depth 60, (search known depth 60, (limits_send, (search known depth 60, tt))))),
              ),
            ),
          ),
        ),
      ),
    ),
  )
