-- So far nothing was committed.
use Rattle.std.proofs.Common.{◌≡◌}
use Rattle.sqlite.specs.Held.{state}
use Rattle.cat_backends.specs.Kept.{CommitsNothing}
use Rattle.cat_backends.proofs.rows.change_rows.Given as goal

abbrev pub invariant-loop-entry : goal.invariant-loop-entry
invariant-loop-entry g l =
    (l.transaction.conn.ghost_name ≡ l.fn.transaction.conn.ghost_name)
    × CommitsNothing (state g.S.Store l.fn.transaction.conn.now) (state g.S.Store l.transaction.conn.now)
