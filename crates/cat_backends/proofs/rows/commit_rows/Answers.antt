-- A commit that failed committed nothing.
use Rattle.std.proofs.Common.{rules}
use Rattle.sqlite.specs.Held.{state}
use Rattle.cat_backends.specs.Kept.{CommitsNothing}
use Rattle.cat_backends.proofs.Kept.{kept_then, kept_begin, kept_failed}
use Rattle.cat_backends.proofs.rows.commit_rows.Goals as goal

pub returns-in_err-commit : goal.returns-in_err-commit
returns-in_err-commit g c =
    let old = c.args.connection.now in
    let last = c.change_rows.new.transaction.conn.now in
    let end = c.commit.new.self.0 in
    let begun = c.transaction-transaction.ensures.begun in
    let made = kept_begin g.S.Store old (state g.S.Store last) (rw begun at c.change_rows.ensures.kept) in
    let failed = kept_failed (state g.S.Store last) (state g.S.Store end) _ _ c.commit.ensures.survives c.in_err-commit.ensures.err in
    let whole : CommitsNothing (state g.S.Store old) (state g.S.Store end) = kept_then _ (state g.S.Store last) _ made failed in
    search rules
