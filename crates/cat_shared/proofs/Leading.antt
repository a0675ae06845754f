-- Where a deed leads, by what is noted of it.
use Rattle.std.proofs.Common.{◌≡◌, ℕ, Bool, true, false, not, ◌&&◌, cond, nat_eq, nat_lt, is_some, refl, sym, ap, subst, ◌∙◌, true≢false, arith}
use Rattle.std.proofs.lemmas.Bool.Decides.{nat_tests}
use Rattle.std.specs.Option.{option_and_then}
use Rattle.std.specs.declared.option.Option.{Option}
use Rattle.std.specs.declared.option.Option.TheVariants.{None, Some}
use Rattle.cat_core.specs.Answer.{core_fault, stop_answer}
use Rattle.cat_core.specs.declared.fault.CoreFault.TheVariants as core
use Rattle.cat_desk.specs.Acts.{IsExact, after_deed, answered, deed_reply, done, or_refused, settled_as}
use Rattle.cat_desk.specs.Deed.{Deed}
use Rattle.cat_desk.specs.Deed.Deed.{Mutate, ShelfPut, ShelfDrop, Refresh, Forget, ForgetNumber, Take, Finish, TakeStitch, PutStitch, Settle}
use Rattle.cat_desk.specs.declared.command.Reply.{Reply}
use Rattle.cat_desk.specs.declared.command.Reply.TheVariants as replies
use Rattle.cat_desk.specs.Kept.{is_keeper}
use Rattle.cat_laws.proofs.Asked.{taken_given}
use Rattle.cat_laws.proofs.Stands.{settle_keeps}
use Rattle.cat_laws.proofs.Steps.{step_kept}
use Rattle.cat_io.specs.Word.{Word, plain, memory, cut, unkept, cut_unkept}
use Rattle.cat_model.specs.Catalogue.{Ref, Rules, frame}
use Rattle.cat_model.specs.Given.{given}
use Rattle.cat_model.specs.Reply.{acted, finished, finished_as, finished_with, placed, token_of}
use Rattle.cat_model.specs.Settle.{try_settle}
use Rattle.cat_model.specs.Sound.{Sound}
use Rattle.cat_model.specs.Step.{Event, change, finish, finished_state, is_present, is_present_stitch, leaving, next_taken, refusal, source_at, step, take_next}
use Rattle.cat_model.specs.Step.Event.{Mutate as Mutated, ShelfPut as PutOnShelf, ShelfDrop as DroppedFromShelf, Refresh as Refreshed, Forget as Forgotten, ForgetNumber as NumberForgotten, Take as Taken, Finish as Finished, PutStitch as StitchPut}
use Rattle.cat_model.specs.declared.types.Fault.{Fault}
use Rattle.cat_model.specs.declared.types.Fault.TheVariants as model
use Rattle.cat_model.specs.declared.types.Acted.{Acted}
use Rattle.cat_model.specs.declared.types.Acted.TheVariants.{Now, Again}
use Rattle.cat_model.specs.declared.types.Finished.TheVariants.{Late}
use Rattle.cat_model.specs.declared.types.Order.{Order}
use Rattle.cat_model.specs.declared.types.Placed.TheVariants.{Counted, Late as LateStitch}
use Rattle.cat_model.specs.declared.types.Progress.{Progress}
use Rattle.cat_model.specs.declared.types.Record.{Record}
use Rattle.cat_model.specs.declared.types.Settings.{Settings}
use Rattle.cat_model.specs.declared.types.State.{State}
use Rattle.cat_model.specs.declared.types.StitchOrder.{StitchOrder}
use Rattle.cat_model.specs.declared.types.Stop.{Stop}
use Rattle.cat_model.specs.declared.types.Stop.TheVariants.{Refused, Limit}
use Rattle.cat_shared.specs.Notes.{IsNoteOf, deed_in, has_counted, is_counted, is_cut_short, is_noted, is_now, is_want}
use Rattle.cat_shared.specs.Replay.{are_alike, led, led_by}
use Rattle.cat_shared.specs.declared.entry.Input.{Input}
use Rattle.cat_shared.specs.declared.entry.Input.TheVariants as inputs
use Rattle.cat_shared.specs.declared.entry.Noted.{Noted}
use Rattle.cat_shared.specs.declared.entry.Noted.TheVariants as notes
use Rattle.cat_collections.proofs.Tables.{or_false_first, or_false_second}
use Rattle.cat_collections.specs.Table.{get}
use Rattle.cat_types.specs.declared.work.Outcome.{Outcome}
use Rattle.cat_types.specs.declared.work.Outcome.TheVariants.{Good, Bad}
use Rattle.cat_shared.proofs.Present.{finish_present, stitch_present}
use Rattle.cat_shared.proofs.Standing.{none_counted, none_stands, settle_unlimited}

same_self : (k : ℕ) → nat_eq k k ≡ true
same_self k = grind (arith, nat_tests)

none_below : (k : ℕ) → nat_lt 0 k ≡ false → k ≡ 0
none_below k h = grind (arith, nat_tests)

-- how many events a reply says that they stand
abbrev cut_events : Reply → ℕ
cut_events (replies.Cut short) = short.events
cut_events _ = 0

-- a refused event isn't the keeper's fault
no_keeper : (f : Fault) → is_keeper (core_fault f) ≡ false
no_keeper (model.OldSerial k) = refl
no_keeper model.NotFound = refl
no_keeper (model.TooLarge k) = refl
no_keeper (model.Spent c) = refl

-- what isn't to be noted isn't noted
not_noted : {A : Type 0} (reply : Reply) → is_noted reply ≡ true → is_noted reply ≡ false → A
not_noted reply h k = absurd (true≢false (sym h ∙ k))

-- a settle's deed is no input command's
no_settle : (input : Input) → deed_in input ≡ Settle → ⊥
no_settle (inputs.Mutate p x) h = absurd (cc)
no_settle (inputs.ShelfPut name text) h = absurd (cc)
no_settle (inputs.ShelfDrop name) h = absurd (cc)
no_settle (inputs.Refresh r) h = absurd (cc)
no_settle (inputs.Forget r) h = absurd (cc)
no_settle (inputs.ForgetNumber n) h = absurd (cc)

module _ (rules : Rules) (s : Settings) (now : ℕ) where
  -- a deed that is noted leads to the state after it
  led_on : (limit : Option ℕ) (d : Deed) (m : State) → is_noted (answered rules s now limit d m) ≡ true → led_by rules s now limit d m ≡ Some (done rules s now limit d m)
  led_on limit d m h = ap (λ b. cond b (Some (done rules s now limit d m)) None) h

  -- ---- where something is noted

  module _ (m n : State) (reply : Reply) where
    -- what was done by this word
    pub record By (d : Deed) (w : Word) : Type 0 where
      pub state : n ≡ after_deed rules s now w d m
      pub answer : reply ≡ deed_reply rules s now w d m
      pub exact : IsExact rules s now m d w

    module _ (h : is_noted reply ≡ true) where
      -- what was done whole leads to the state after it
      whole_leads : (d : Deed) → n ≡ done rules s now None d m → reply ≡ answered rules s now None d m → led_by rules s now None d m ≡ Some n
      whole_leads d state answer = led_on None d m (ap is_noted (sym answer) ∙ h) ∙ ap Some (sym state)

      -- a deed that is no settle was done whole
      done_whole : (d : Deed) → (d ≡ Settle → ⊥) → (w : Word) → By d w → led_by rules s now None d m ≡ Some n
      done_whole d never plain by = whole_leads d by.state by.answer
      done_whole d never memory by = not_noted reply h (ap is_noted by.answer)
      done_whole d never (cut k) by = absurd (never by.exact.0)
      done_whole d never unkept by = whole_leads d by.state by.answer
      done_whole d never (cut_unkept i) by = whole_leads d by.state by.answer

      answered_whole : (d : Deed) → (d ≡ Settle → ⊥) → (w : Word) → By d w → reply ≡ answered rules s now None d m
      answered_whole d never plain by = by.answer
      answered_whole d never memory by = not_noted reply h (ap is_noted by.answer)
      answered_whole d never (cut k) by = absurd (never by.exact.0)
      answered_whole d never unkept by = by.answer
      answered_whole d never (cut_unkept i) by = by.answer

      -- ---- input commands

      -- an input command's deed asks no moment
      timeless : (input : Input) → led_by rules s now None (deed_in input) m ≡ led_by rules s 0 None (deed_in input) m
      timeless (inputs.Mutate p x) = refl
      timeless (inputs.ShelfPut name text) = refl
      timeless (inputs.ShelfDrop name) = refl
      timeless (inputs.Refresh r) = refl
      timeless (inputs.Forget r) = refl
      timeless (inputs.ForgetNumber number) = refl

      timeless_answer : (input : Input) → answered rules s now None (deed_in input) m ≡ answered rules s 0 None (deed_in input) m
      timeless_answer (inputs.Mutate p x) = refl
      timeless_answer (inputs.ShelfPut name text) = refl
      timeless_answer (inputs.ShelfDrop name) = refl
      timeless_answer (inputs.Refresh r) = refl
      timeless_answer (inputs.Forget r) = refl
      timeless_answer (inputs.ForgetNumber number) = refl

      alike_event : (v : Option Fault) (y : Reply) → (is_noted y ≡ true → are_alike y y ≡ true) → is_noted (or_refused v y) ≡ true → are_alike (or_refused v y) (or_refused v y) ≡ true
      alike_event None y same k = same k
      alike_event (Some f) y same k = absurd (true≢false (sym k))

      alike_mutated : (a : Acted) → is_noted (replies.Mutated a) ≡ true → are_alike (replies.Mutated a) (replies.Mutated a) ≡ true
      alike_mutated Now k = refl
      alike_mutated Again k = absurd (true≢false (sym k))

      -- the reply to an input command that acted is like itself
      alike : (input : Input) → is_noted (answered rules s 0 None (deed_in input) m) ≡ true → are_alike (answered rules s 0 None (deed_in input) m) (answered rules s 0 None (deed_in input) m) ≡ true
      alike (inputs.Mutate p x) k = alike_event (refusal rules s (Mutated p (given p x)) m) (replies.Mutated (acted p (given p x) m)) (alike_mutated (acted p (given p x) m)) k
      alike (inputs.ShelfPut name text) k = alike_event _ replies.Changed (λ _. refl) k
      alike (inputs.ShelfDrop name) k = alike_event _ replies.Changed (λ _. refl) k
      alike (inputs.Refresh r) k = alike_event _ replies.Changed (λ _. refl) k
      alike (inputs.Forget r) k = alike_event _ replies.Changed (λ _. refl) k
      alike (inputs.ForgetNumber number) k = alike_event _ replies.Changed (λ _. refl) k

      acted_leads : (input : Input) (w : Word) → By (deed_in input) w → (said : Reply) → said ≡ reply → led rules s (notes.Acted input said) m ≡ Some n
      unfolding led
      acted_leads input w by said same =
          let r = answered rules s 0 None (deed_in input) m in
          let is : reply ≡ r = answered_whole (deed_in input) (no_settle input) w by ∙ timeless_answer input in
          let both : are_alike said r ≡ true = ap (λ v. are_alike v r) (same ∙ is) ∙ alike input (ap is_noted (sym is) ∙ h) in
          ap (λ b. cond b (led_by rules s 0 None (deed_in input) m) None) both ∙ (sym (timeless input) ∙ done_whole (deed_in input) (no_settle input) w by)

      -- ---- orders

      taken_leads : (w : Word) → By Take w → led rules s (notes.Taken now) m ≡ Some n
      unfolding led
      taken_leads w by = done_whole Take (λ e. absurd (cc)) w by

      noted_event : (v : Option Fault) (y : Reply) → is_noted (or_refused v y) ≡ true → is_noted y ≡ true
      noted_event None y k = k
      noted_event (Some f) y k = absurd (true≢false (sym k))

      finished_leads : (o : Order) (w : Word) → By (Finish o) w → led rules s (notes.Finished o.reference o.token now) m ≡ Some n
      unfolding led
      finished_leads o w by =
          let never : Finish o ≡ Settle → ⊥ = λ e. absurd (cc) in
          let counts = noted_event (refusal rules s (Finished o now) m) (replies.Finished (finished rules o m)) (ap is_noted (sym (answered_whole (Finish o) never w by)) ∙ h) in
          ap (option_and_then (λ x. cond (nat_eq x.token o.token) (led_by rules s now None (Finish x) m) None)) (finish_present rules m o counts)
          ∙ (ap (λ b. cond b (led_by rules s now None (Finish o) m) None) (same_self o.token) ∙ done_whole (Finish o) never w by)

      stitched_leads : (o : StitchOrder) (w : Word) → By (PutStitch o) w → led rules s (notes.Stitched o.reference o.ticket) m ≡ Some n
      unfolding led
      stitched_leads o w by =
          let never : PutStitch o ≡ Settle → ⊥ = λ e. absurd (cc) in
          let counts = noted_event (refusal rules s (StitchPut o) m) (replies.Placed (placed rules o m)) (ap is_noted (sym (answered_whole (PutStitch o) never w by)) ∙ h) in
          ap (option_and_then (λ x. cond (nat_eq x.ticket o.ticket) (led_by rules s 0 None (PutStitch x) m) None)) (stitch_present rules m o counts)
          ∙ (ap (λ b. cond b (led_by rules s 0 None (PutStitch o) m) None) (same_self o.ticket) ∙ done_whole (PutStitch o) never w by)

      -- ---- settles

      settled_leads : (w : Word) → By Settle w → is_cut_short reply ≡ false → led rules s (notes.Settled now) m ≡ Some n
      unfolding led
      settled_leads plain by never = whole_leads Settle by.state by.answer
      settled_leads memory by never = not_noted reply h (ap is_noted by.answer)
      settled_leads (cut k) by never = absurd (true≢false (sym (ap is_cut_short by.answer) ∙ never))
      settled_leads unkept by never = whole_leads Settle by.state by.answer
      settled_leads (cut_unkept i) by never = whole_leads Settle by.state by.answer

      no_want : (f : Fault) → is_want (core_fault f) ≡ false
      no_want (model.OldSerial k) = refl
      no_want model.NotFound = refl
      no_want (model.TooLarge k) = refl
      no_want (model.Spent c) = refl

      -- a settle without a limit isn't cut for want of memory
      not_short : (p : Progress) (v : Option Stop) → (v ≡ Some Limit → ⊥) → is_cut_short (settled_as (stop_answer p v)) ≡ false
      not_short p None never = refl
      not_short p (Some (Refused f)) never = no_want f
      not_short p (Some Limit) never = absurd (never refl)

      cut_at : (k : ℕ) → By Settle (cut k) → led rules s (notes.Cut now k) m ≡ Some n
      unfolding led
      cut_at k by =
          let p = try_settle rules s now (Some k) m in
          ap (λ b. cond b (led_by rules s now (Some k) Settle m) None) (ap (λ e. nat_eq e k) by.exact.1 ∙ same_self k)
          ∙ (led_on (Some k) Settle m (ap is_noted (sym by.answer) ∙ h) ∙ ap Some (sym by.state))

      cut_leads : (events : ℕ) (w : Word) → By Settle w → reply ≡ replies.Cut (record { events = events; fault = core.NoMemory }) → led rules s (notes.Cut now events) m ≡ Some n
      cut_leads k plain by is =
          let p = try_settle rules s now None m in
          absurd (true≢false (sym (ap is_cut_short is) ∙ (ap is_cut_short by.answer ∙ not_short p p.stop (settle_unlimited rules s now m))))
      cut_leads k memory by is = not_noted reply h (ap is_noted by.answer)
      cut_leads k unkept by is =
          let p = try_settle rules s now None m in
          absurd (true≢false (sym (ap is_cut_short is) ∙ (ap is_cut_short by.answer ∙ not_short p p.stop (settle_unlimited rules s now m))))
      cut_leads k (cut_unkept i) by is =
          let p = try_settle rules s now None m in
          absurd (true≢false (sym (ap is_cut_short is) ∙ (ap is_cut_short by.answer ∙ not_short p p.stop (settle_unlimited rules s now m))))
      cut_leads k (cut limit) by is =
          ap (λ e. led rules s (notes.Cut now e) m) (ap cut_events (sym is ∙ by.answer) ∙ by.exact.1) ∙ cut_at limit by

      -- what is noted leads to the state after it
      pub note_leads : (d : Deed) (w : Word) → By d w → (x : Noted) → IsNoteOf now d reply x → led rules s x m ≡ Some n
      note_leads d w by (notes.Acted input said) is = acted_leads input w (subst (λ v. By v w) (sym is.0) by) said is.1
      note_leads d w by (notes.Taken moment) is = ap (λ k. led rules s (notes.Taken k) m) is.1 ∙ taken_leads w (subst (λ v. By v w) is.0 by)
      note_leads d w by (notes.Finished r token moment) is =
          (λ i. led rules s (notes.Finished (is.2 i) (is.3 i) (is.4 i)) m) ∙ finished_leads is.0 w (subst (λ v. By v w) is.1 by)
      note_leads d w by (notes.Stitched r ticket) is =
          (λ i. led rules s (notes.Stitched (is.2 i) (is.3 i)) m) ∙ stitched_leads is.0 w (subst (λ v. By v w) is.1 by)
      note_leads d w by (notes.Settled moment) is = ap (λ k. led rules s (notes.Settled k) m) is.1 ∙ settled_leads w (subst (λ v. By v w) is.0 by) is.2
      note_leads d w by notes.Unkept is = absurd is
      note_leads d w by (notes.CutUnkept moment events) is = absurd is
      note_leads d w by (notes.Cut moment events) is = ap (λ k. led rules s (notes.Cut k events) m) is.1 ∙ cut_leads events w (subst (λ v. By v w) is.0 by) is.2

    -- ---- where nothing is noted

    module _ (h : is_noted reply ≡ false) where
      -- an event that isn't noted changes nothing, where one with this reply changes nothing
      event_stays : (e : Event) (y : Reply) → n ≡ step rules s e m → reply ≡ or_refused (refusal rules s e m) y → (is_noted y ≡ false → change rules s e m ≡ m) → n ≡ m
      unfolding step
      event_stays e y state answer same = state ∙ go (refusal rules s e m) answer
        where
          go : (v : Option Fault) → reply ≡ or_refused v y → cond (is_some v) m (change rules s e m) ≡ m
          go None a = same (ap is_noted (sym a) ∙ h)
          go (Some f) a = refl

      changed_stays : (e : Event) → n ≡ step rules s e m → reply ≡ or_refused (refusal rules s e m) replies.Changed → n ≡ m
      changed_stays e state answer = event_stays e replies.Changed state answer (λ k. absurd (true≢false k))

      mutate_same : (b : Bool) (k : State) → is_now (cond b Now Again) ≡ false → cond b k m ≡ m
      mutate_same true k never = absurd (true≢false never)
      mutate_same false k never = refl

      take_same : (v : Option Ref) → is_some v ≡ false → take_next s now m v ≡ m
      take_same None never = refl
      take_same (Some r) never = absurd (true≢false never)

      counts_always : (x : Outcome) → has_counted (finished_as x) ≡ true
      counts_always (Good output issues) = refl
      counts_always (Bad issues) = refl

      finish_same : (o : Order) (v : Option Record) → has_counted (finished_with rules o m v) ≡ false → finish rules s o now m v ≡ m
      finish_same o None never = refl
      finish_same o (Some x) never = go (is_present rules m o x) never
        where
          go : (b : Bool) → has_counted (cond b (finished_as (rules.result o.work)) (Late (token_of (Some x)))) ≡ false
              → cond b (frame rules (leaving s.orphans) m (finished_state s o.reference now x (rules.result o.work) m)) m ≡ m
          go true never = absurd (true≢false (sym (counts_always (rules.result o.work)) ∙ never))
          go false never = refl

      stitch_same : (o : StitchOrder) (b : Bool) (k : State) → is_counted (cond b Counted (LateStitch (get m.marks o.reference))) ≡ false → cond b k m ≡ m
      stitch_same o true k never = absurd (true≢false never)
      stitch_same o false k never = refl

      settle_same : (p : Progress) → p ≡ try_settle rules s now None m → (v : Option Stop) → is_noted (settled_as (stop_answer p v)) ≡ false → p.state ≡ m
      settle_same p is None never = subst (λ (q : Progress). q.leases ≡ 0 → q.stitched ≡ 0 → q.state ≡ m) (sym is) (none_counted rules s now None m)
          (none_below p.leases (or_false_first (nat_lt 0 p.leases) (nat_lt 0 p.stitched) never)) (none_below p.stitched (or_false_second (nat_lt 0 p.leases) (nat_lt 0 p.stitched) never))
      settle_same p is (Some (Refused f)) never =
          let none : nat_lt 0 p.events ≡ false = ap (λ b. not b && nat_lt 0 p.events) (sym (no_keeper f)) ∙ never in
          subst (λ (q : Progress). q.events ≡ 0 → q.state ≡ m) (sym is) (none_stands rules s now None m) (none_below p.events none)
      settle_same p is (Some Limit) never = subst (λ (q : Progress). q.events ≡ 0 → q.state ≡ m) (sym is) (none_stands rules s now None m) (none_below p.events never)

      cut_same : (k : ℕ) → is_noted (answered rules s now (Some k) Settle m) ≡ false → (try_settle rules s now (Some k) m).state ≡ m
      cut_same k never = none_stands rules s now (Some k) m (none_below (try_settle rules s now (Some k) m).events never)

      done_stays : Sound rules m → (d : Deed) → n ≡ done rules s now None d m → reply ≡ answered rules s now None d m → n ≡ m
      done_stays sound (Mutate p x) state answer = event_stays (Mutated p x) _ state answer (mutate_same (nat_lt (source_at (get m.providers p)).serial x.serial) _)
      done_stays sound (ShelfPut name text) state answer = changed_stays (PutOnShelf name text) state answer
      done_stays sound (ShelfDrop name) state answer = changed_stays (DroppedFromShelf name) state answer
      done_stays sound (Refresh r) state answer = changed_stays (Refreshed r) state answer
      done_stays sound (Forget r) state answer = changed_stays (Forgotten r) state answer
      done_stays sound (ForgetNumber number) state answer = changed_stays (NumberForgotten number) state answer
      done_stays sound Take state answer = event_stays (Taken now) _ state answer (λ never. take_same (next_taken now m) (sym (taken_given rules s m now sound) ∙ never))
      done_stays sound (Finish o) state answer = event_stays (Finished o now) _ state answer (finish_same o (get m.records o.reference))
      done_stays sound (TakeStitch after) state answer = state
      done_stays sound (PutStitch o) state answer = event_stays (StitchPut o) _ state answer (stitch_same o (is_present_stitch rules m o) _)
      done_stays sound Settle state answer = let p = try_settle rules s now None m in state ∙ settle_same p refl p.stop (ap is_noted (sym answer) ∙ h)

      -- what isn't noted changed nothing
      pub unnoted_stays : Sound rules m → (d : Deed) (w : Word) → By d w → n ≡ m
      unnoted_stays sound d plain by = done_stays sound d by.state by.answer
      unnoted_stays sound d memory by = by.state
      unnoted_stays sound d unkept by = done_stays sound d by.state by.answer
      unnoted_stays sound d (cut_unkept i) by = done_stays sound d by.state by.answer
      unnoted_stays sound d (cut k) by =
          let is : By Settle (cut k) = subst (λ v. By v (cut k)) by.exact.0 by in
          is.state ∙ cut_same k (ap is_noted (sym is.answer) ∙ h)

    -- ---- what must hold between two events

    done_sound : (limit : Option ℕ) (d : Deed) → Sound rules m → Sound rules (done rules s now limit d m)
    done_sound limit (Mutate p x) sound = step_kept rules s (Mutated p x) m sound
    done_sound limit (ShelfPut name text) sound = step_kept rules s (PutOnShelf name text) m sound
    done_sound limit (ShelfDrop name) sound = step_kept rules s (DroppedFromShelf name) m sound
    done_sound limit (Refresh r) sound = step_kept rules s (Refreshed r) m sound
    done_sound limit (Forget r) sound = step_kept rules s (Forgotten r) m sound
    done_sound limit (ForgetNumber number) sound = step_kept rules s (NumberForgotten number) m sound
    done_sound limit Take sound = step_kept rules s (Taken now) m sound
    done_sound limit (Finish o) sound = step_kept rules s (Finished o now) m sound
    done_sound limit (TakeStitch after) sound = sound
    done_sound limit (PutStitch o) sound = step_kept rules s (StitchPut o) m sound
    done_sound limit Settle sound = (settle_keeps rules s now limit m).sound sound

    -- what holds before a deed holds after it
    pub deed_sound : (d : Deed) (w : Word) → By d w → Sound rules m → Sound rules n
    deed_sound d plain by sound = subst (Sound rules) (sym by.state) (done_sound None d sound)
    deed_sound d memory by sound = subst (Sound rules) (sym by.state) sound
    deed_sound d (cut k) by sound = subst (Sound rules) (sym by.state) (done_sound (Some k) d sound)
    deed_sound d unkept by sound = subst (Sound rules) (sym by.state) (done_sound None d sound)
    deed_sound d (cut_unkept i) by sound = subst (Sound rules) (sym by.state) (done_sound None d sound)
