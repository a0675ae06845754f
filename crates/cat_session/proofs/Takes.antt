-- What a take and a take of a stitch order hand out, and the room for their replies.
use Rattle.std.proofs.Common.{◌≡◌, ◌≤◌, ℕ, List, length, arith, refl, sym, ap, ◌∙◌, subst, option_and_then}
use Rattle.std.specs.declared.option.Option.{Option}
use Rattle.std.specs.declared.option.Option.TheVariants.{None, Some}
use Rattle.cat_collections.specs.Table.{Text}
use Rattle.cat_core.specs.declared.ledger.Ledger.{Ledger}
use Rattle.cat_desk.specs.Acts.{Acts, deed_reply, or_refused}
use Rattle.cat_desk.specs.Deed.Deed.{Take, TakeStitch}
use Rattle.cat_desk.specs.declared.command.Reply.{Reply}
use Rattle.cat_desk.specs.declared.command.Reply.TheVariants as replies
use Rattle.cat_io.specs.Word.{Word, plain, memory, cut, unkept, cut_unkept}
use Rattle.cat_model.specs.Catalogue.{Rules}
use Rattle.cat_model.specs.Reply as model
use Rattle.cat_model.specs.Settle.{order, order_with}
use Rattle.cat_model.specs.Step.{change, next_taken, refusal}
use Rattle.cat_model.specs.Step.Event.{Take as Taken}
use Rattle.cat_model.specs.declared.types.Fault.{Fault}
use Rattle.cat_model.specs.declared.types.Lease.{Lease}
use Rattle.cat_model.specs.declared.types.Order.{Order}
use Rattle.cat_model.specs.declared.types.State.{State}
use Rattle.cat_types.specs.declared.work.Work.{Work}
use Rattle.cat_session.specs.Carried.{order_taken}
use Rattle.cat_session.specs.Replies.{IsSaid, order_in, order_length, order_shown, shown, stitch_in}
use Rattle.cat_session_model.specs.Session.{add_order, unless_refused}

-- ---- what is handed out

order_of : (r : Option Fault) (o : Option Order) → order_in (or_refused r (replies.Taken o)) ≡ unless_refused r o
order_of None o = refl
order_of (Some f) o = refl

module _ (rules : Rules) (now : ℕ) (old : Ledger) (reply : Reply) where
  order_by : (word : Word) → reply ≡ deed_reply rules old.settings now word Take old.state → IsSaid reply
      → order_in reply ≡ unless_refused (refusal rules old.settings (Taken now) old.state) (model.taken rules old.settings now old.state)
  order_by plain answer h = ap order_in answer ∙ order_of (refusal rules old.settings (Taken now) old.state) (model.taken rules old.settings now old.state)
  order_by memory answer h = absurd (subst IsSaid answer h)
  order_by (cut n) answer h = ap order_in answer ∙ order_of (refusal rules old.settings (Taken now) old.state) (model.taken rules old.settings now old.state)
  order_by unkept answer h = ap order_in answer ∙ order_of (refusal rules old.settings (Taken now) old.state) (model.taken rules old.settings now old.state)
  order_by (cut_unkept i) answer h = ap order_in answer ∙ order_of (refusal rules old.settings (Taken now) old.state) (model.taken rules old.settings now old.state)

  -- the order that the reply to a take gives
  pub order_given : (new : Ledger) → Acts rules now Take old new reply → IsSaid reply → order_in reply ≡ order_taken rules now old
  order_given new acts h = order_by acts.word acts.answer h

  stitch_by : (after : ℕ) (word : Word) → reply ≡ deed_reply rules old.settings now word (TakeStitch after) old.state → IsSaid reply → stitch_in reply ≡ model.next_stitch rules old.state after
  stitch_by after plain answer h = ap stitch_in answer
  stitch_by after memory answer h = absurd (subst IsSaid answer h)
  stitch_by after (cut n) answer h = ap stitch_in answer
  stitch_by after unkept answer h = ap stitch_in answer
  stitch_by after (cut_unkept i) answer h = ap stitch_in answer

  -- the stitch order that the reply to a take of one gives
  pub stitch_given : (after : ℕ) (new : Ledger) → Acts rules now (TakeStitch after) old new reply → IsSaid reply → stitch_in reply ≡ model.next_stitch rules old.state after
  stitch_given after new acts h = stitch_by after acts.word acts.answer h

-- the order is kept behind those that were kept before
pub kept_order : (now then before : List Order) (o o' : Option Order) → now ≡ add_order o then → o ≡ o' → then ≡ before → now ≡ add_order o' before
kept_order now then before o o' kept given same = kept ∙ (ap (λ x. add_order x then) given ∙ ap (add_order o') same)

-- ---- the room for the reference of the order that a take gives

with_fits : (r : Text) (l : Option Lease) (w : Option Work) → order_shown (order_with r l w) ≤ length r
with_fits r None w = omega arith
with_fits r (Some l) None = omega arith
with_fits r (Some l) (Some w) = omega arith

given_fits : (rules : Rules) (n : State) (q : Option Text) → order_shown (option_and_then (order rules n) q) ≤ order_length q
given_fits rules n None = omega arith
given_fits rules n (Some r) = with_fits r _ _

event_fits : (r : Option Fault) (o : Option Order) (n : ℕ) → order_shown o ≤ n → shown (or_refused r (replies.Taken o)) ≤ n
event_fits None o n h = h
event_fits (Some f) o n h = omega arith

module _ (rules : Rules) (now : ℕ) (old : Ledger) (reply : Reply) where
  fits_by : (word : Word) → reply ≡ deed_reply rules old.settings now word Take old.state → shown reply ≤ order_length (next_taken now old.state)
  fits_by plain answer = subst (λ r. shown r ≤ order_length (next_taken now old.state)) (sym answer) (event_fits (refusal rules old.settings (Taken now) old.state) (model.taken rules old.settings now old.state) (order_length (next_taken now old.state)) (given_fits rules (change rules old.settings (Taken now) old.state) (next_taken now old.state)))
  fits_by memory answer = subst (λ r. shown r ≤ order_length (next_taken now old.state)) (sym answer) (omega arith)
  fits_by (cut n) answer = subst (λ r. shown r ≤ order_length (next_taken now old.state)) (sym answer) (event_fits (refusal rules old.settings (Taken now) old.state) (model.taken rules old.settings now old.state) (order_length (next_taken now old.state)) (given_fits rules (change rules old.settings (Taken now) old.state) (next_taken now old.state)))
  fits_by unkept answer = subst (λ r. shown r ≤ order_length (next_taken now old.state)) (sym answer) (event_fits (refusal rules old.settings (Taken now) old.state) (model.taken rules old.settings now old.state) (order_length (next_taken now old.state)) (given_fits rules (change rules old.settings (Taken now) old.state) (next_taken now old.state)))
  fits_by (cut_unkept i) answer = subst (λ r. shown r ≤ order_length (next_taken now old.state)) (sym answer) (event_fits (refusal rules old.settings (Taken now) old.state) (model.taken rules old.settings now old.state) (order_length (next_taken now old.state)) (given_fits rules (change rules old.settings (Taken now) old.state) (next_taken now old.state)))

  -- the reply to a take shows no longer reference than that of the record that is due first
  pub take_fits : (new : Ledger) → Acts rules now Take old new reply → shown reply ≤ order_length (next_taken now old.state)
  take_fits new acts = fits_by acts.word acts.answer
