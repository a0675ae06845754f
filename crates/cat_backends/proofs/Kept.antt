-- Calls that commit nothing.
use Rattle.std.proofs.Common.{true, arith, inl, inr}
use Rattle.sqlite.specs.Store.{Ghosts}
use Rattle.sqlite.specs.declared.error.Error.{Error}
use Rattle.sqlite.specs.Tree.{Trees}
use Rattle.sqlite.specs.State.{State, HasCleanDisk, KeepsCommit, Survives}
use Rattle.sqlite.specs.Steps.{FailsToCommit}
use Rattle.sqlite.specs.Held.{Held, state}
use Rattle.sqlite.proofs.InsideLemmas.{keeps_then, unchanged_keeps}
use Rattle.cat_backends.specs.Kept.{CommitsNothing}

-- One after the other, they commit nothing.
pub kept_then : (a b c : State) → CommitsNothing a b → CommitsNothing b c → CommitsNothing a c
kept_then a b c one two clean =
    let late = two clean in
    let early = one late.0 in
    (early.0, keeps_then a b c early.1 late.1)

-- To begin a transaction commits nothing.
pub kept_begin : {S : Type 0} (g : Ghosts S) (old : Held S) (new : State) → CommitsNothing (state g (record old { in_transaction = true })) new → CommitsNothing (state g old) new
kept_begin g old new kept clean =
    let late = kept clean in
    (late.0, record { was_open = late.1.was_open; committed = late.1.committed })

-- why a commit failed tells that it committed nothing
pub failed_keeps : (old new : State) (e : Error) → FailsToCommit old new e → KeepsCommit old new
failed_keeps old new e (inl failed) = unchanged_keeps old new (inr failed.3)
failed_keeps old new e (inr ended) = unchanged_keeps old new (inl ended.2)

-- a commit that failed
pub kept_failed : (old new : State) (P : Trees → Type 0) (e : Error) → Survives old new P → (HasCleanDisk new → FailsToCommit old new e) → CommitsNothing old new
kept_failed old new P e survives fails clean =
    let was : HasCleanDisk old = omega (arith, survives.clean) in
    (was, failed_keeps old new e (fails clean))
