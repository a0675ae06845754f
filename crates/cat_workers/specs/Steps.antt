-- What is done at a desk, step by step.
use Rattle.std.specs.Prelude.{◌≡◌, List, [], ◌∷◌}
use Rattle.std.specs.declared.option.Option.{Option}
use Rattle.std.specs.declared.option.Option.TheVariants.{None, Some}
use Rattle.cat_desk.specs.Deed.{Deed}
use Rattle.cat_desk.specs.Deed.Deed.{Mutate, ShelfPut, ShelfDrop, Refresh, Forget, ForgetNumber, Take, Finish, TakeStitch, PutStitch, Settle}
use Rattle.cat_desk.specs.declared.command.Reply.{Reply}
use Rattle.cat_workers.specs.declared.gate.GateCall.{GateCall}
use Rattle.cat_workers.specs.declared.gate.GateCall.TheVariants as calls

-- a deed, and the reply to it
abbrev pub Step : Type 0
Step = Deed × Reply

-- The call of a worker that a deed is. All but takes and what is brought back are none.
abbrev pub call_of : Deed → Option GateCall
call_of (Mutate provider x) = None
call_of (ShelfPut name text) = None
call_of (ShelfDrop name) = None
call_of (Refresh r) = None
call_of (Forget r) = None
call_of (ForgetNumber number) = None
call_of Take = Some calls.Take
call_of (Finish order) = Some (calls.Finish order.token)
call_of (TakeStitch after) = Some calls.StitchTake
call_of (PutStitch order) = Some (calls.StitchPut order.ticket)
call_of Settle = None

module _ {D : Type 0} (acts : D → Deed → D → Reply → Type 0) (told : GateCall → Type 0) where
  -- A desk did a deed, which is a call that the gate was told of.
  pub record DoesGated (old : D) (d : Deed) (new : D) (reply : Reply) : Type 0 where
    pub call : GateCall
    pub is_call : call_of d ≡ Some call
    pub was_told : told call
    pub does : acts old d new reply

  -- These steps lead in turn from the first desk to the second one, each by a call that the gate was told of.
  abbrev pub Leads : List Step → D → D → Type 0
  Leads [] old new = new ≡ old
  Leads (step ∷ steps) old new = (mid : D) × DoesGated old step.0 mid step.1 × Leads steps mid new
