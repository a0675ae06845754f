-- What a deed leaves, where its reply says it.
use Rattle.std.proofs.Common.{◌≡◌, ℕ, Bool, true, false, cond, is_some, refl, sym, ap, subst, ◌∙◌, true≢false}
use Rattle.std.proofs.Math.Logic.{∥∥₁_elim}
use Rattle.std.specs.Coded.{Coded-set}
use Rattle.std.specs.declared.option.Option.{Option}
use Rattle.std.specs.declared.option.Option.TheVariants.{None, Some}
use Rattle.std.specs.declared.result.Result.{Result}
use Rattle.std.specs.declared.result.Result.TheVariants.{Ok, Err}
use Rattle.cat_core.specs.Answer.{stop_answer}
use Rattle.cat_core.specs.declared.fault.Cut.{Cut as CutSettle}
use Rattle.cat_core.specs.declared.ledger.Ledger.{Ledger}
use Rattle.cat_desk.specs.Acts.{Acts, IsExact, after_deed, answered, deed_reply, done, event_reply, or_refused, settle_reply, settled_as}
use Rattle.cat_desk.specs.Deed.{Deed}
use Rattle.cat_desk.specs.Deed.Deed.{Mutate, ShelfPut, ShelfDrop, Refresh, Forget, ForgetNumber, Take, Finish, TakeStitch, PutStitch, Settle}
use Rattle.cat_desk.specs.declared.command.Reply.{Reply}
use Rattle.cat_desk.specs.declared.command.Reply.TheVariants as replies
use Rattle.cat_io.specs.Word.{Word, plain, memory, cut, unkept, cut_unkept}
use Rattle.cat_model.specs.Catalogue.{Rules}
use Rattle.cat_model.specs.contracts.types.State.{the_row as state_row}
use Rattle.cat_model.specs.Reply.{acted, finished, taken}
use Rattle.cat_model.specs.Settle.{try_settle}
use Rattle.cat_model.specs.Step.{Event, change, is_present_stitch, put_stitch, refusal, step, without_key}
use Rattle.cat_model.specs.Step.Event.{Mutate as Mutated, ShelfPut as PutOnShelf, ShelfDrop as DroppedFromShelf, Refresh as Refreshed, Forget as Forgotten, ForgetNumber as NumberForgotten, Take as Taken, Finish as Finished, PutStitch as StitchPut}
use Rattle.cat_model.specs.declared.types.Counts.{Counts}
use Rattle.cat_model.specs.declared.types.Fault.{Fault}
use Rattle.cat_model.specs.declared.types.Progress.{Progress}
use Rattle.cat_model.specs.declared.types.Settings.{Settings}
use Rattle.cat_model.specs.declared.types.State.{State}
use Rattle.cat_model.specs.declared.types.StitchOrder.{StitchOrder}
use Rattle.cat_collections.specs.Table.{put, text_cmp}
use Rattle.cat_desk.specs.Spare.{IsSpare, leaves_records, says_whole}

refused : (v : Option Fault) (y : Reply) (m n : State) → leaves_records y ≡ false → leaves_records (or_refused v y) ≡ true → (cond (is_some v) m n).records ≡ m.records
refused None y m n h leaves = absurd (true≢false (sym leaves ∙ h))
refused (Some fault) y m n h leaves = refl

settled : (r : Result Counts CutSettle) → leaves_records (settled_as r) ≡ false
settled (Ok counts) = refl
settled (Err short) = refl

settles : (limit : Option ℕ) (p : Progress) → leaves_records (settle_reply limit p) ≡ false
settles None p = settled (stop_answer p p.stop)
settles (Some n) p = refl

-- one of two states that have the same records
either : (b : Bool) (m n : State) → n.records ≡ m.records → (cond b m n).records ≡ m.records
either true m n same = refl
either false m n same = same

module _ (rules : Rules) (s : Settings) (now : ℕ) (m : State) where
  -- what is refused changes nothing
  event : (e : Event) (y : Reply) → leaves_records y ≡ false → leaves_records (event_reply rules s e m y) ≡ true → (step rules s e m).records ≡ m.records
  unfolding step
  event e y h leaves = refused (refusal rules s e m) y m (change rules s e m) h leaves

  -- the document of a stitch order leaves the records
  stitch : (order : StitchOrder) → (step rules s (StitchPut order) m).records ≡ m.records
  unfolding step
  stitch order = either (is_some (refusal rules s (StitchPut order) m)) m (put_stitch rules order m) (go (is_present_stitch rules m order))
    where
      go : (b : Bool) → (cond b (record m { documents = put text_cmp order.reference (rules.doc order.parts) m.documents; marks = without_key order.reference m.marks }) m).records ≡ m.records
      go true = refl
      go false = refl

  stays : (limit : Option ℕ) (d : Deed) → leaves_records (answered rules s now limit d m) ≡ true → (done rules s now limit d m).records ≡ m.records
  stays limit (Mutate p x) h = event (Mutated p x) (replies.Mutated (acted p x m)) refl h
  stays limit (ShelfPut name text) h = event (PutOnShelf name text) replies.Changed refl h
  stays limit (ShelfDrop name) h = event (DroppedFromShelf name) replies.Changed refl h
  stays limit (Refresh r) h = event (Refreshed r) replies.Changed refl h
  stays limit (Forget r) h = event (Forgotten r) replies.Changed refl h
  stays limit (ForgetNumber number) h = event (NumberForgotten number) replies.Changed refl h
  stays limit Take h = event (Taken now) (replies.Taken (taken rules s now m)) refl h
  stays limit (Finish order) h = event (Finished order now) (replies.Finished (finished rules order m)) refl h
  stays limit (TakeStitch after) h = refl
  stays limit (PutStitch order) h = stitch order
  stays limit Settle h = absurd (true≢false (sym h ∙ settles limit (try_settle rules s now limit m)))

  worded_stays : (word : Word) (d : Deed) → leaves_records (deed_reply rules s now word d m) ≡ true → (after_deed rules s now word d m).records ≡ m.records
  worded_stays plain d h = stays None d h
  worded_stays memory d h = refl
  worded_stays (cut n) d h = stays (Some n) d h
  worded_stays unkept d h = stays None d h
  worded_stays (cut_unkept i) d h = stays None d h

  -- what is cut short is a settle, which is answered so
  cut_says : (n : ℕ) (d : Deed) → d ≡ Settle → says_whole (answered rules s now (Some n) d m) ≡ false
  cut_says n d e = subst (λ d. says_whole (answered rules s now (Some n) d m) ≡ false) (sym e) refl

  worded_whole : (word : Word) (d : Deed) → IsExact rules s now m d word → says_whole (deed_reply rules s now word d m) ≡ true → after_deed rules s now word d m ≡ done rules s now None d m
  worded_whole plain d exact h = refl
  worded_whole memory d exact h = absurd (true≢false (sym h))
  worded_whole (cut n) d exact h = absurd (true≢false (sym h ∙ cut_says n d exact.0))
  worded_whole unkept d exact h = refl
  worded_whole (cut_unkept i) d exact h = refl

-- where the reply says so, the records are as before
pub acts_stays : (rules : Rules) (now : ℕ) (d : Deed) (old new : Ledger) (reply : Reply) → Acts rules now d old new reply → leaves_records reply ≡ true → new.state.records ≡ old.state.records
acts_stays rules now d old new reply acts h = ap (λ (m : State). m.records) acts.state ∙ worded_stays rules old.settings now old.state acts.word d (ap leaves_records (sym acts.answer) ∙ h)

-- where the reply says so, the state is what the deed makes of the one before
pub acts_whole : (rules : Rules) (now : ℕ) (d : Deed) (old new : Ledger) (reply : Reply) → Acts rules now d old new reply → says_whole reply ≡ true → new.state ≡ done rules old.settings now None d old.state
acts_whole rules now d old new reply acts h = acts.state ∙ worded_whole rules old.settings now old.state acts.word d acts.exact (ap says_whole (sym acts.answer) ∙ h)

-- the same of a copy of the state before, and of settings that are equal
pub whole_of : (rules : Rules) (s : Settings) (now : ℕ) (d : Deed) (old new : Ledger) (reply : Reply) (m n : State) → Acts rules now d old new reply → s ≡ old.settings → m ≡ old.state → n ≡ new.state → says_whole reply ≡ true → n ≡ done rules s now None d m
whole_of rules s now d old new reply m n acts settings before after h =
    after ∙ (acts_whole rules now d old new reply acts h ∙ (λ i. done rules (sym settings i) now None d (sym before i)))

-- what was done to a ledger was done to the copy that was held of it
pub acts_from : (rules : Rules) (now : ℕ) (d : Deed) (old new : Ledger) (reply : Reply) (m : State) → Acts rules now d old new reply → m ≡ old.state → Acts rules now d (record new { state = m }) new reply
acts_from rules now d old new reply m acts before =
    subst (λ (l : Ledger). Acts rules now d l new reply) (λ i. record { settings = sym acts.settings i; state = sym before i }) acts

-- ledgers are the same by their state and their settings
pub same_ledger : (a b : Ledger) → a.state ≡ b.state → a.settings ≡ b.settings → a ≡ b
same_ledger a b states settings = λ i. record { settings = settings i; state = states i }

-- what is kept as a spare is one
pub spare_is : (spare : Option State) (m : State) → ∥ IsSpare spare m ∥₁ → IsSpare spare m
spare_is spare m h s e = ∥∥₁_elim h (Coded-set state_row.coded s m) (λ f. f s e)
