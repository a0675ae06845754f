-- A catalogue that isn't kept never answers by the keeper's fault.
use Rattle.std.proofs.Common.{◌≡◌, ℕ, true, false, refl, sym, ap, ◌∙◌, true≢false, inl, inr}
use Rattle.std.specs.declared.option.Option.{Option}
use Rattle.std.specs.declared.option.Option.TheVariants.{None, Some}
use Rattle.std.specs.declared.result.Result.{Result}
use Rattle.std.specs.declared.result.Result.TheVariants.{Ok, Err}
use Rattle.cat_core.specs.Answer.{core_fault, stop_answer}
use Rattle.cat_core.specs.declared.fault.CoreFault.{CoreFault}
use Rattle.cat_core.specs.declared.fault.CoreFault.TheVariants as core
use Rattle.cat_core.specs.declared.fault.Cut.{Cut as CutSettle}
use Rattle.cat_core.specs.declared.ledger.Ledger.{Ledger}
use Rattle.cat_desk.specs.Acts.{Acts, answered, deed_reply, event_reply, or_refused, settle_reply, settled_as}
use Rattle.cat_desk.specs.Deed.{Deed}
use Rattle.cat_desk.specs.Deed.Deed.{Mutate, ShelfPut, ShelfDrop, Refresh, Forget, ForgetNumber, Take, Finish, TakeStitch, PutStitch, Settle}
use Rattle.cat_desk.specs.declared.command.Reply.{Reply}
use Rattle.cat_desk.specs.declared.command.Reply.TheVariants as replies
use Rattle.cat_io.specs.Word.{Word, plain, memory, cut, unkept, cut_unkept}
use Rattle.cat_model.specs.Catalogue.{Rules}
use Rattle.cat_model.specs.Reply.{acted, finished, placed, taken}
use Rattle.cat_model.specs.Settle.{try_settle}
use Rattle.cat_model.specs.Step.{Event, refusal}
use Rattle.cat_model.specs.Step.Event.{Mutate as Mutated, ShelfPut as PutOnShelf, ShelfDrop as DroppedFromShelf, Refresh as Refreshed, Forget as Forgotten, ForgetNumber as NumberForgotten, Take as Taken, Finish as Finished, PutStitch as StitchPut}
use Rattle.cat_model.specs.declared.types.Counts.{Counts}
use Rattle.cat_model.specs.declared.types.Fault.{Fault}
use Rattle.cat_model.specs.declared.types.Fault.TheVariants as model
use Rattle.cat_model.specs.declared.types.Progress.{Progress}
use Rattle.cat_model.specs.declared.types.Settings.{Settings}
use Rattle.cat_model.specs.declared.types.State.{State}
use Rattle.cat_desk.specs.Kept.{IsLost, is_keeper, is_lost, is_settle}
use Rattle.cat_model.specs.declared.types.Stop.{Stop}
use Rattle.cat_model.specs.declared.types.Stop.TheVariants.{Refused as StopRefused, Limit}

others : (f : Fault) → is_keeper (core_fault f) ≡ false
others (model.OldSerial n) = refl
others model.NotFound = refl
others (model.TooLarge n) = refl
others (model.Spent c) = refl

refused : (v : Option Fault) (y : Reply) → is_lost y ≡ false → is_lost (or_refused v y) ≡ false
refused None y h = h
refused (Some f) y h = others f

stopped : (p : Progress) (v : Option Stop) → is_lost (settled_as (stop_answer p v)) ≡ false
stopped p None = refl
stopped p (Some (StopRefused f)) = others f
stopped p (Some Limit) = refl

settles : (limit : Option ℕ) (p : Progress) → is_lost (settle_reply limit p) ≡ false
settles None p = stopped p p.stop
settles (Some n) p = refl

module _ (rules : Rules) (s : Settings) (now : ℕ) (m : State) where
  event : (e : Event) (y : Reply) → is_lost y ≡ false → is_lost (event_reply rules s e m y) ≡ false
  event e y h = refused (refusal rules s e m) y h

  whole : (limit : Option ℕ) (d : Deed) → is_lost (answered rules s now limit d m) ≡ false
  whole limit (Mutate p x) = event (Mutated p x) (replies.Mutated (acted p x m)) refl
  whole limit (ShelfPut name text) = event (PutOnShelf name text) replies.Changed refl
  whole limit (ShelfDrop name) = event (DroppedFromShelf name) replies.Changed refl
  whole limit (Refresh r) = event (Refreshed r) replies.Changed refl
  whole limit (Forget r) = event (Forgotten r) replies.Changed refl
  whole limit (ForgetNumber number) = event (NumberForgotten number) replies.Changed refl
  whole limit Take = event (Taken now) (replies.Taken (taken rules s now m)) refl
  whole limit (Finish order) = event (Finished order now) (replies.Finished (finished rules order m)) refl
  whole limit (TakeStitch after) = refl
  whole limit (PutStitch order) = event (StitchPut order) (replies.Placed (placed rules order m)) refl
  whole limit Settle = settles limit (try_settle rules s now limit m)

  worded : (word : Word) (d : Deed) → is_lost (deed_reply rules s now word d m) ≡ false
  worded plain d = whole None d
  worded memory d = refl
  worded (cut n) d = whole (Some n) d
  worded unkept d = whole None d
  worded (cut_unkept n) d = whole None d

pub acts_kept : (rules : Rules) (now : ℕ) (d : Deed) (old new : Ledger) (reply : Reply) → Acts rules now d old new reply → is_lost reply ≡ false
acts_kept rules now d old new reply acts = ap is_lost acts.answer ∙ worded rules old.settings now old.state acts.word d

pub acts_never : {A : Type 0} (rules : Rules) (now : ℕ) (d : Deed) (old new : Ledger) (reply : Reply) → Acts rules now d old new reply → reply ≡ replies.Refused core.Keeper → A
acts_never rules now d old new reply acts is = absurd (true≢false (sym (ap is_lost is) ∙ acts_kept rules now d old new reply acts))

-- what wasn't kept, or not all of it, is answered by the keeper's fault
pub lost_is : (rules : Rules) (now : ℕ) (d : Deed) (old new : Ledger) (reply : Reply) → IsLost rules now d old new reply → is_lost reply ≡ true
lost_is rules now d old new reply (inl h) = ap is_lost h.answer
lost_is rules now d old new reply (inr h) = ap is_lost h.answer

-- a settle alone is one
pub settle_is : (d : Deed) → is_settle d ≡ true → d ≡ Settle
settle_is (Mutate p x) h = absurd (true≢false (sym h))
settle_is (ShelfPut name text) h = absurd (true≢false (sym h))
settle_is (ShelfDrop name) h = absurd (true≢false (sym h))
settle_is (Refresh r) h = absurd (true≢false (sym h))
settle_is (Forget r) h = absurd (true≢false (sym h))
settle_is (ForgetNumber number) h = absurd (true≢false (sym h))
settle_is Take h = absurd (true≢false (sym h))
settle_is (Finish order) h = absurd (true≢false (sym h))
settle_is (TakeStitch after) h = absurd (true≢false (sym h))
settle_is (PutStitch order) h = absurd (true≢false (sym h))
settle_is Settle h = refl
