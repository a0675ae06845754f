-- A connection may go to other threads, where its store may.
use denote.Param.Send.{IsSend, sendable, view_send}
use denote.Param.SendFields.{declared_send}
use denote.RattleType.{RattleType}
use Rattle.std.proofs.Crossing.{crosses}
use Rattle.sqlite_trees.specs.declared.store.Store as Store
use Rattle.sqlite_exec.specs.contracts.budget.Budget as Budget
use Rattle.sqlite_exec.specs.contracts.mark.Mark as At
use Rattle.sqlite_exec.specs.contracts.marks.Marks as Marks
use Rattle.sqlite_exec.specs.contracts.page.Page as Page
use Rattle.sqlite_exec.specs.contracts.rows.Rows as Rows
use Rattle.sqlite_exec.specs.contracts.slots.Slots as Slots
use Rattle.sqlite_exec.specs.contracts.stream.Rounds as Rounds
use Rattle.sqlite_exec.specs.contracts.stream.Stream as Stream
use Rattle.sqlite_exec.specs.contracts.work.Workspace as Workspace
use Rattle.sqlite.specs.contracts.cache.Entry as Entry
use Rattle.sqlite.specs.contracts.clock.WallClock as WallClock
use Rattle.sqlite.specs.contracts.connection.Connection as Connection
use Rattle.sqlite.specs.contracts.connection.Connection.TheInside as connection
use Rattle.sqlite.specs.contracts.history.History as History
use Rattle.sqlite.specs.contracts.history.Mark as Mark
use Rattle.sqlite.specs.contracts.rows.Row as Shown
use Rattle.sqlite.specs.contracts.run.reading.Reading as Reading
use Rattle.cat_backends.proofs.SentStatements.{bytes_send, compiled_send, schema_send}
use Rattle.cat_backends.proofs.SentStores.{row_send}

ruleset known = (row_send, bytes_send, sendable, crosses)

-- ---- what reads rows

rows_send : IsSend Rows.the_row
rows_send = search known depth 60

page_send : IsSend Page.the_row
page_send = search (rows_send, known) depth 60

at_send : IsSend At.the_row
at_send = search known depth 60

marks_send : IsSend Marks.the_row
marks_send = search (at_send, known) depth 60

rounds_send : IsSend Rounds.the_row
rounds_send = search (rows_send, known) depth 60

stream_send : IsSend Stream.the_row
stream_send = search (page_send, marks_send, rounds_send, known) depth 60

budget_send : IsSend Budget.the_row
budget_send = search known depth 60

shown_send : IsSend Shown.the_row
shown_send = search known depth 60

reading_send : IsSend Reading.the_row
reading_send = declared_send Reading.the_type (stream_send, (budget_send, (search (shown_send, known) depth 60, (search known depth 60, (search (shown_send, known) depth 60, (search known depth 60, tt))))))

slots_send : IsSend Slots.the_row
slots_send = search known depth 60

work_send : IsSend Workspace.the_row
work_send = search (slots_send, known) depth 60

-- ---- statements that are kept, and the schemas to go back to

entry_send : IsSend Entry.the_row
entry_send = declared_send Entry.the_type (search known depth 60, (compiled_send, (search known depth 60, tt)))

mark_send : IsSend Mark.the_row
mark_send = declared_send Mark.the_type (search known depth 60, (search known depth 60, (search (schema_send, known) depth 60, tt)))

history_send : IsSend History.the_row
history_send = declared_send History.the_type (search (schema_send, known) depth 60, (search (mark_send, known) depth 60, tt))

clock_send : IsSend WallClock.the_row
clock_send = search known depth 60

-- ---- connections

module _ (S : RattleType) (store : Store.Ghosts S.Denot) (s : IsSend S) where
  pub connection_send : IsSend (Connection.the_row S store)
  connection_send = view_send _ _ _ _ _ (declared_send (connection.the_type S store) (
    search (s, known) depth 60,
    (
      schema_send,
      (
        history_send,
        (
          search known depth 60,
          (
            search known depth 60,
            (
              search known depth 60,
              (
                search (entry_send, known) depth 60,
                (
                  search known depth 60,
                  (
                    search known depth 60,
                    (search known depth 60, (search (clock_send, known) depth 60, (reading_send, (work_send, (search known depth 60, tt))))),
                  ),
                ),
              ),
            ),
          ),
        ),
      ),
    ),
  ))
