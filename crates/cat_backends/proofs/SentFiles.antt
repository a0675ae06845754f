-- The keeper of a file, and a keeper for each place over it, may go to other threads.
use denote.Param.Send.{IsSend, sendable, view_send}
use denote.Param.SendFields.{declared_send, variants_send}
use denote.RattleType.{RattleType}
use Rattle.std.proofs.Crossing.{crosses}
use Rattle.sqlite_trees.specs.declared.store.Store as Store
use Rattle.sqlite_disk.specs.declared.Disk as SqlDisk
use Rattle.sqlite_disk.specs.contracts.modelled.Modelled as Modelled
use Rattle.sqlite_disk.specs.contracts.modelled.ModelledDisk.TheImpl as modelled
use Rattle.sqlite_disk.specs.contracts.start.Unknown as Unknown
use Rattle.sqlite_disk.specs.contracts.start.UnknownStart.TheImpl as unknown
use Rattle.sqlite_std_file.specs.contracts.host.Host as Host
use Rattle.sqlite_std_file.specs.contracts.host.HostCalls.TheImpl as host
use Rattle.sqlite_store.specs.contracts.store.FileStore as FileStore
use Rattle.sqlite_store.specs.contracts.store.FileStoreStore.TheImpl as stored
use Rattle.cat_disk.specs.declared.disk.Disk as Disk
use Rattle.cat_keeper.specs.declared.keeper.Keeper as Keeper
use Rattle.cat_keeper.specs.contracts.memory.MemoryKeeper as MemoryKeeper
use Rattle.cat_keeper.specs.contracts.memory.MemoryKeeper.TheInside as memory
use Rattle.cat_journal.specs.contracts.keeper.JournalKeeper as JournalKeeper
use Rattle.cat_journal.specs.contracts.keeper.JournalKeeper.TheInside as journal
use Rattle.cat_backends.specs.contracts.place.PlaceKeeper as PlaceKeeper
use Rattle.cat_backends.specs.contracts.place.PlaceKeeper.TheInside as place
use Rattle.cat_backends.specs.contracts.place.Store as Kept
use Rattle.cat_backends.specs.contracts.sql.SqlKeeper as SqlKeeper
use Rattle.cat_backends.specs.contracts.file.FileDisk as FileDisk
use Rattle.cat_backends.specs.contracts.file.FileDiskDisk.TheImpl as disk
use Rattle.cat_backends.specs.contracts.files.ToolFile as ToolFile
use Rattle.cat_backends.specs.contracts.files.ToolFileKeeper.TheImpl as keeper
use Rattle.cat_backends.specs.contracts.files.ToolFiles as ToolFiles
use Rattle.cat_backends.proofs.SentMaps.{Map-send}
use Rattle.cat_backends.proofs.SentSqlite.{connection_send}
use Rattle.cat_backends.proofs.SentStores.{host_send, modelled_send, os_file_send, store_send}

ruleset known = (sendable, crosses)

-- ---- keepers

sql_send : (S : RattleType) (store : Store.Ghosts S.Denot) → IsSend S → IsSend (SqlKeeper.the_row S store)
sql_send S store s = declared_send (SqlKeeper.the_type S store) (connection_send S store s, (search known depth 60, tt))

journal_send : (D : RattleType) (g : Disk.Ghosts D.Denot) → IsSend D → IsSend (JournalKeeper.the_row D g)
journal_send D g d = view_send _ _ _ _ _ (declared_send (journal.the_type D g) (search (d, known) depth 60, (search known depth 60, (search known depth 60, (search known depth 60, tt)))))

memory_send : IsSend MemoryKeeper.the_row
memory_send = view_send _ _ _ _ _ (declared_send memory.the_type (search (Map-send, known) depth 60, (search known depth 60, tt)))

-- ---- files

disk_send : IsSend FileDisk.the_row
disk_send = declared_send FileDisk.the_type (search known depth 60, (search known depth 60, (search (os_file_send, known) depth 60, (search known depth 60, (search known depth 60, tt)))))

abbrev file : RattleType
file = Modelled.the_row Host.the_row Unknown.the_row host.ghosts unknown.ghosts

file_send : IsSend file
file_send = modelled_send Host.the_row Unknown.the_row host.ghosts unknown.ghosts host_send

abbrev of_file : SqlDisk.Ghosts file.Denot
of_file = modelled.ghosts Host.the_row Unknown.the_row host.ghosts modelled.no_dict unknown.ghosts modelled.no_dict modelled.no_dict

pub tool_file_send : IsSend ToolFile.the_row
tool_file_send = variants_send ToolFile.enum (
  (sql_send (FileStore.the_row file of_file) (stored.ghosts file of_file stored.no_dict) (store_send file of_file file_send), tt),
  ((journal_send FileDisk.the_row disk.ghosts disk_send, tt), tt),
)

tool_files_send : IsSend ToolFiles.the_row
tool_files_send = declared_send ToolFiles.the_type (search known depth 60, (search known depth 60, tt))

-- ---- places

kept_send : (K : RattleType) → IsSend K → IsSend (Kept.the_row K)
kept_send K k = variants_send (Kept.enum K) ((memory_send, tt), ((search (k, known) depth 60, tt), (tt, tt)))

place_send : (O K : RattleType) (g : Keeper.Ghosts K.Denot) → IsSend O → IsSend K → IsSend (PlaceKeeper.the_row O K g)
place_send O K g o k = view_send _ _ _ _ _ (declared_send (place.the_type O K g) (search (o, known) depth 60, (kept_send K k, (search known depth 60, tt))))

pub place_keeper_send : IsSend (PlaceKeeper.the_row ToolFiles.the_row ToolFile.the_row keeper.ghosts)
place_keeper_send = place_send ToolFiles.the_row ToolFile.the_row keeper.ghosts tool_files_send tool_file_send
