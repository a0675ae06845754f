-- The schema of a database and its compiled statements may go to other threads.
use denote.Param.Send.{IsSend, sendable, view_send}
use denote.Param.SendFields.{declared_send, variants_send}
use Rattle.std.proofs.Crossing.{crosses}
use Rattle.sqlite_value.specs.contracts.value.Bytes as Bytes
use Rattle.sqlite_value.specs.contracts.value.Value as Value
use Rattle.sqlite_sql.specs.contracts.query.Aggregate as Aggregate
use Rattle.sqlite_sql.specs.contracts.query.SortKey as SortKey
use Rattle.sqlite_schema.specs.contracts.code.Op as Op
use Rattle.sqlite_schema.specs.contracts.code.Terms as Terms
use Rattle.sqlite_schema.specs.contracts.command.Command as Command
use Rattle.sqlite_schema.specs.contracts.command.Returning as Returning
use Rattle.sqlite_schema.specs.contracts.command.Source as Source
use Rattle.sqlite_schema.specs.contracts.command.Upsert as Upsert
use Rattle.sqlite_schema.specs.contracts.plan.Groups as Groups
use Rattle.sqlite_schema.specs.contracts.plan.Plan as Plan
use Rattle.sqlite_schema.specs.contracts.plan.Plan.TheInside as plan
use Rattle.sqlite_schema.specs.contracts.plan.Stage as Stage
use Rattle.sqlite_schema.specs.contracts.program.Program as Program
use Rattle.sqlite_schema.specs.contracts.program.Table as Let
use Rattle.sqlite_schema.specs.contracts.schema.Column as Column
use Rattle.sqlite_schema.specs.contracts.schema.Index as Index
use Rattle.sqlite_schema.specs.contracts.schema.Reference as Reference
use Rattle.sqlite_schema.specs.contracts.schema.Schema as Schema
use Rattle.sqlite_schema.specs.contracts.schema.Stamps as Stamps
use Rattle.sqlite_schema.specs.contracts.schema.Table as Table
use Rattle.sqlite_schema.specs.contracts.schema.View as View
use Rattle.sqlite_resolve.specs.contracts.compiled.Compiled as Compiled

pub bytes_send : IsSend Bytes.the_row
bytes_send = search (sendable, crosses) depth 60

value_send : IsSend Value.the_row
value_send = search (bytes_send, sendable, crosses) depth 60

op_send : IsSend Op.the_row
op_send = search (sendable, crosses) depth 60

terms_send : IsSend Terms.the_row
terms_send = search (op_send, sendable, crosses) depth 60

ruleset known = (bytes_send, terms_send, sendable, crosses)

-- ---- schemas

column_send : IsSend Column.the_row
column_send = search known depth 60

reference_send : IsSend Reference.the_row
reference_send = search known depth 60

stamps_send : IsSend Stamps.the_row
stamps_send = search known depth 60

index_send : IsSend Index.the_row
index_send = search known depth 60

view_of_send : IsSend View.the_row
view_of_send = search known depth 60

table_send : IsSend Table.the_row
table_send = declared_send Table.the_type (
  search known depth 60,
  (
    search known depth 60,
    (
      search (column_send, known) depth 60,
      (
        search known depth 60,
        (
          search known depth 60,
          (
            search known depth 60,
            (
              search known depth 60,
              (search known depth 60, (search (reference_send, known) depth 60, (search known depth 60, (stamps_send, (search known depth 60, tt))))),
            ),
          ),
        ),
      ),
    ),
  ),
)

pub schema_send : IsSend Schema.the_row
schema_send = declared_send Schema.the_type (search (table_send, known) depth 60, (search (index_send, known) depth 60, (search (view_of_send, known) depth 60, tt)))

-- ---- queries

aggregate_send : IsSend Aggregate.the_row
aggregate_send = search sendable depth 60

sort_send : IsSend SortKey.the_row
sort_send = search sendable depth 60

stage_send : IsSend Stage.the_row
stage_send = search (aggregate_send, sort_send, known) depth 60

groups_send : IsSend Groups.the_row
groups_send = search (aggregate_send, known) depth 60

plan_send : IsSend Plan.the_row
plan_send = view_send _ _ _ _ _ (declared_send plan.the_type (
  search (op_send, known) depth 60,
  (
    search (stage_send, known) depth 60,
    (
      search known depth 60,
      (
        search known depth 60,
        (
          search (groups_send, known) depth 60,
          (
            search known depth 60,
            (search known depth 60, (search known depth 60, (search (sort_send, known) depth 60, (search known depth 60, (search known depth 60, tt))))),
          ),
        ),
      ),
    ),
  ),
))

let_send : IsSend Let.the_row
let_send = search (plan_send, known) depth 60

program_send : IsSend Program.the_row
program_send = declared_send Program.the_type (search (let_send, known) depth 60, (plan_send, tt))

-- ---- statements

source_send : IsSend Source.the_row
source_send = variants_send Source.enum ((search known depth 60, (search known depth 60, tt)), ((program_send, tt), tt))

upsert_send : IsSend Upsert.the_row
upsert_send = declared_send Upsert.the_type (search known depth 60, (search (program_send, known) depth 60, tt))

returning_send : IsSend Returning.the_row
returning_send = declared_send Returning.the_type (search known depth 60, (source_send, tt))

command_send : IsSend Command.the_row
command_send = variants_send Command.enum (
  (program_send, (search known depth 60, tt)),
  (
    (search known depth 60, (source_send, tt)),
    (
      (search known depth 60, (search known depth 60, (source_send, (search (upsert_send, known) depth 60, tt)))),
      (
        (search known depth 60, (program_send, tt)),
        (
          (search known depth 60, (program_send, tt)),
          (
            tt,
            (
              (search known depth 60, tt),
              (
                tt,
                (
                  (search known depth 60, tt),
                  (
                    (search known depth 60, tt),
                    (
                      (search known depth 60, tt),
                      (
                        (search (value_send, known) depth 60, (search known depth 60, (search known depth 60, tt))),
                        (tt, (tt, (tt, ((search known depth 60, tt), ((search known depth 60, tt), ((search known depth 60, tt), (tt, tt))))))),
                      ),
                    ),
                  ),
                ),
              ),
            ),
          ),
        ),
      ),
    ),
  ),
)

pub compiled_send : IsSend Compiled.the_row
compiled_send = declared_send Compiled.the_type (
  command_send,
  (
    search (returning_send, known) depth 60,
    (search known depth 60, (search known depth 60, (search known depth 60, (search known depth 60, (search known depth 60, tt))))),
  ),
)
