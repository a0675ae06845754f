-- What events and settles keep, a journal keeps; and a settle that is answered as settled leaves a catalogue quiet.
use Rattle.std.proofs.Common.{◌≡◌, ◌≤◌, ◌&&◌, ℕ, Bool, true, false, cond, is_some, nat_eq, List, [], ◌∷◌, refl, sym, ap, subst, true≢false}
use Rattle.std.specs.Option.{option_and_then, unwrap_or}
use Rattle.std.specs.declared.option.Option.{Option}
use Rattle.std.specs.declared.option.Option.TheVariants.{None, Some}
use Rattle.cat_core.specs.Answer.{stop_answer}
use Rattle.cat_desk.specs.Acts.{after_deed, answered, deed_reply, done, settled_as}
use Rattle.cat_desk.specs.Deed.{Deed}
use Rattle.cat_desk.specs.Deed.Deed.{Take, Finish, PutStitch, Settle}
use Rattle.cat_desk.specs.declared.command.Reply.{Reply}
use Rattle.cat_desk.specs.declared.command.Reply.TheVariants as replies
use Rattle.cat_io.specs.Word.{Word, plain, memory, cut, unkept, cut_unkept}
use Rattle.cat_laws.proofs.Tried.{unstopped_quiet}
use Rattle.cat_model.specs.Catalogue.{Rules}
use Rattle.cat_model.specs.Settle.{mark_order, order, try_settle}
use Rattle.cat_model.specs.Sound.{Quiet, Sound}
use Rattle.cat_model.specs.Step.{Event, step}
use Rattle.cat_model.specs.declared.types.Counts.{Counts}
use Rattle.cat_model.specs.declared.types.Order.{Order}
use Rattle.cat_model.specs.declared.types.Progress.{Progress}
use Rattle.cat_model.specs.declared.types.Settings.{Settings}
use Rattle.cat_model.specs.declared.types.State.{State}
use Rattle.cat_model.specs.declared.types.StitchOrder.{StitchOrder}
use Rattle.cat_model.specs.declared.types.Stop.{Stop}
use Rattle.cat_model.specs.declared.types.Stop.TheVariants as stops
use Rattle.cat_run_laws.proofs.Keeping.{done_kept}
use Rattle.cat_shared.specs.Notes.{deed_in, is_noted}
use Rattle.cat_shared.specs.Replay.{are_alike, led, led_by, replay}
use Rattle.cat_shared.specs.declared.entry.Entry.{Entry}
use Rattle.cat_shared.specs.declared.entry.Noted.{Noted}
use Rattle.cat_shared.specs.declared.entry.Noted.TheVariants as notes

-- ---- journals

none_some : {A : Type 0} {x : A} → None ≡ Some x → ⊥
none_some e = true≢false (sym (ap is_some e))

same_some : {A : Type 0} (x y : A) → Some x ≡ Some y → x ≡ y
same_some x y e = ap (λ v. unwrap_or v x) e

module _ (rules : Rules) (s : Settings) (P : State → Type 0) (steps : (e : Event) (m : State) → P m → P (step rules s e m)) (settles : (now : ℕ) (limit : Option ℕ) (m : State) → P m → P (try_settle rules s now limit m).state) where
  -- a state that is led to, if one is
  abbrev KeepsIn : Option State → Type 0
  KeepsIn v = (n : State) → v ≡ Some n → P n

  chosen : (b : Bool) (n : State) → P n → KeepsIn (cond b (Some n) None)
  chosen true n h = λ k e. subst P (same_some n k e) h
  chosen false n h = λ k e. absurd (none_some e)

  when : (b : Bool) (v : Option State) → KeepsIn v → KeepsIn (cond b v None)
  when true v h = h
  when false v h = λ k e. absurd (none_some e)

  led_by_kept : (now : ℕ) (limit : Option ℕ) (d : Deed) (m : State) → P m → KeepsIn (led_by rules s now limit d m)
  led_by_kept now limit d m h = chosen (is_noted (answered rules s now limit d m)) (done rules s now limit d m) (done_kept rules s P steps settles now limit d m h)

  finished_kept : (token now : ℕ) (m : State) → P m → (o : Option Order) → KeepsIn (option_and_then (λ x. cond (nat_eq x.token token) (led_by rules s now None (Finish x) m) None) o)
  finished_kept token now m h None = λ k e. absurd (none_some e)
  finished_kept token now m h (Some x) = when (nat_eq x.token token) (led_by rules s now None (Finish x) m) (led_by_kept now None (Finish x) m h)

  stitched_kept : (ticket : ℕ) (m : State) → P m → (o : Option StitchOrder) → KeepsIn (option_and_then (λ x. cond (nat_eq x.ticket ticket) (led_by rules s 0 None (PutStitch x) m) None) o)
  stitched_kept ticket m h None = λ k e. absurd (none_some e)
  stitched_kept ticket m h (Some x) = when (nat_eq x.ticket ticket) (led_by rules s 0 None (PutStitch x) m) (led_by_kept 0 None (PutStitch x) m h)

  led_kept : (note : Noted) (m : State) → P m → KeepsIn (led rules s note m)
  unfolding led
  led_kept (notes.Acted input reply) m h = when (are_alike reply (answered rules s 0 None (deed_in input) m)) (led_by rules s 0 None (deed_in input) m) (led_by_kept 0 None (deed_in input) m h)
  led_kept (notes.Taken now) m h = led_by_kept now None Take m h
  led_kept (notes.Finished reference token now) m h = finished_kept token now m h (order rules m reference)
  led_kept (notes.Stitched reference ticket) m h = stitched_kept ticket m h (mark_order rules m reference)
  led_kept (notes.Settled now) m h = led_by_kept now None Settle m h
  led_kept notes.Unkept m h = λ k e. subst P (same_some m k e) h
  led_kept (notes.Cut now events) m h = when (nat_eq (try_settle rules s now (Some events) m).events events) (led_by rules s now (Some events) Settle m) (led_by_kept now (Some events) Settle m h)
  led_kept (notes.CutUnkept now events) m h =
      chosen (nat_eq events 1 && nat_eq (try_settle rules s now (Some 1) m).events 1) (done rules s now (Some 1) Settle m) (done_kept rules s P steps settles now (Some 1) Settle m h)

  -- what is kept in one state led to, and from there on, is kept in the last one
  further : (next : State → Option State) → ((n : State) → P n → KeepsIn (next n)) → (v : Option State) → KeepsIn v → KeepsIn (option_and_then next v)
  further next keeps None kept = λ k e. absurd (none_some e)
  further next keeps (Some n) kept = keeps n (kept n refl)

  pub replay_kept : (m : State) (journal : List Entry) → P m → KeepsIn (replay rules s m journal)
  replay_kept m [] h = λ k e. subst P (same_some m k e) h
  replay_kept m (entry ∷ journal) h = further (λ n. replay rules s n journal) (λ n. replay_kept n journal) (led rules s entry.noted m) (led_kept entry.noted m h)

-- ---- settles

abbrev is_settled : Reply → Bool
is_settled (replies.Settled counts) = true
is_settled _ = false

unstopped : (p : Progress) (stop : Option Stop) → is_settled (settled_as (stop_answer p stop)) ≡ true → stop ≡ None
unstopped p None e = refl
unstopped p (Some (stops.Refused fault)) e = absurd (true≢false (sym e))
unstopped p (Some stops.Limit) e = absurd (true≢false (sym e))

module _ (rules : Rules) (s : Settings) where
  pub settled_quiet : (m : State) (now : ℕ) (word : Word) (counts : Counts) → 1 ≤ s.interval → Sound rules m → deed_reply rules s now word Settle m ≡ replies.Settled counts
      → Quiet (after_deed rules s now word Settle m) now
  settled_quiet m now plain counts later sound e = unstopped_quiet rules s None now later m sound (unstopped (try_settle rules s now None m) (try_settle rules s now None m).stop (ap is_settled e))
  settled_quiet m now memory counts later sound e = absurd (true≢false (sym (ap is_settled e)))
  settled_quiet m now (cut n) counts later sound e = absurd (true≢false (sym (ap is_settled e)))
  settled_quiet m now unkept counts later sound e = unstopped_quiet rules s None now later m sound (unstopped (try_settle rules s now None m) (try_settle rules s now None m).stop (ap is_settled e))
  settled_quiet m now (cut_unkept n) counts later sound e = unstopped_quiet rules s None now later m sound (unstopped (try_settle rules s now None m) (try_settle rules s now None m).stop (ap is_settled e))
