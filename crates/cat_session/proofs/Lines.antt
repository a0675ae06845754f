-- A line that is a command of the desk.
use Rattle.std.proofs.Common.{◌≡◌, ℕ, List, refl, sym, ap, ◌∙◌, subst}
use Rattle.std.specs.declared.option.Option.{Option}
use Rattle.std.specs.declared.option.Option.TheVariants.{None, Some}
use Rattle.std.specs.Ordering.{nat_cmp}
use Rattle.cat_collections.specs.Table.{Text, find}
use Rattle.cat_types.specs.declared.input.Mutation.{Mutation}
use Rattle.cat_session_lines.specs.declared.line.Line.{Line}
use Rattle.cat_session_lines.specs.declared.line.Line.TheVariants as asks
use Rattle.cat_core.specs.Answer.{stop_answer}
use Rattle.cat_core.specs.declared.ledger.Ledger.{Ledger}
use Rattle.cat_desk.specs.Acts as desk
use Rattle.cat_desk.specs.Deed.{Deed}
use Rattle.cat_desk.specs.Deed.Deed.{Mutate, ShelfPut, ShelfDrop, Refresh, Forget, Take, Finish, PutStitch, Settle}
use Rattle.cat_desk.specs.declared.command.Reply.{Reply}
use Rattle.cat_desk.specs.declared.command.Reply.TheVariants as replies
use Rattle.cat_io.specs.Word.{Word, IsActing, plain, memory, cut, unkept, cut_unkept}
use Rattle.cat_model.specs.Catalogue.{Rules}
use Rattle.cat_model.specs.Given.{given}
use Rattle.cat_model.specs.Reply.{acted, finished, placed, taken}
use Rattle.cat_model.specs.Settle.{try_settle}
use Rattle.cat_model.specs.Step.{refusal}
use Rattle.cat_model.specs.Step.Event.{Mutate as Mutated, ShelfPut as PutOnShelf, ShelfDrop as DroppedFromShelf, Refresh as Refreshed, Forget as Forgotten, Take as Taken, Finish as Finished, PutStitch as StitchPut}
use Rattle.cat_model.specs.declared.types.Fault.{Fault}
use Rattle.cat_model.specs.declared.types.Fault.TheVariants as model
use Rattle.cat_model.specs.declared.types.Order.{Order}
use Rattle.cat_model.specs.declared.types.OrphanRule.{OrphanRule}
use Rattle.cat_model.specs.declared.types.Progress.{Progress}
use Rattle.cat_model.specs.declared.types.Settings.{Settings}
use Rattle.cat_model.specs.declared.types.State.{State}
use Rattle.cat_model.specs.declared.types.StitchOrder.{StitchOrder}
use Rattle.cat_model.specs.declared.types.Stop.{Stop}
use Rattle.cat_model.specs.declared.types.Stop.TheVariants.{Refused as StopRefused, Limit}
use Rattle.cat_query.specs.declared.ask.Ask.{Ask}
use Rattle.cat_session.specs.Carried.{Carries, CarriesDeed, order_taken}
use Rattle.cat_session.specs.Replies.{reply_line}
use Rattle.cat_session_model.specs.Program.{program_settings}
use Rattle.cat_session_model.specs.Session.{add_order, after_finish, after_place, after_reading, finish_reply, limit_of, or_refused, order_numbered, place_reply, reply_to, settle_reply, stop_reply, with_state}
use Rattle.cat_session_model.specs.declared.state.RuledSession.{RuledSession}
use Rattle.cat_session_model.specs.declared.state.SessionState.{SessionState}

abbrev seen : State → ℕ → List Order → List (ℕ × StitchOrder) → SessionState
seen state now orders stitches = record { state = state; now = now; orders = orders; stitches = stitches }

abbrev ruled : OrphanRule → SessionState → RuledSession
ruled rule session = record { orphans = rule; session = session }

-- ---- the lines of replies

refused_line : (r : Option Fault) (reply : Reply) → reply_line (desk.or_refused r reply) ≡ or_refused r (reply_line reply)
refused_line None reply = refl
refused_line (Some (model.OldSerial n)) reply = refl
refused_line (Some model.NotFound) reply = refl
refused_line (Some (model.TooLarge n)) reply = refl
refused_line (Some (model.Spent c)) reply = refl

stop_line : (p : Progress) (stop : Option Stop) → stop_reply p stop ≡ reply_line (desk.settled_as (stop_answer p stop))
stop_line p None = refl
stop_line p (Some (StopRefused (model.OldSerial n))) = refl
stop_line p (Some (StopRefused model.NotFound)) = refl
stop_line p (Some (StopRefused (model.TooLarge n))) = refl
stop_line p (Some (StopRefused (model.Spent c))) = refl
stop_line p (Some Limit) = refl

settle_line : (word : Word) → IsActing word → (p : Progress) → settle_reply word p ≡ reply_line (desk.settle_reply (limit_of word) p)
settle_line plain acts p = stop_line p p.stop
settle_line memory acts p = absurd acts
settle_line (cut n) acts p = refl
settle_line unkept acts p = stop_line p p.stop
settle_line (cut_unkept i) acts p = stop_line p p.stop

-- ---- lines and deeds

-- a line does what a deed does, and is answered by the line of its reply
pub record Fits (rules : Rules) (s : Settings) (now : ℕ) (orders : List Order) (stitches : List (ℕ × StitchOrder)) (state : State) (line : Line) (d : Deed) : Type 0 where
  pub after : (word : Word) → IsActing word → after_reading rules s word line (seen state now orders stitches) ≡ with_state (desk.done rules s now (limit_of word) d state) (seen state now orders stitches)
  pub says : (word : Word) → IsActing word → reply_to rules s word line (seen state now orders stitches) ≡ reply_line (desk.answered rules s now (limit_of word) d state)

module _ (rules : Rules) (s : Settings) (now : ℕ) (orders : List Order) (stitches : List (ℕ × StitchOrder)) (state : State) where
  pub mutates : (p : Text) (x : Mutation) → Fits rules s now orders stitches state (asks.Mutate p x) (Mutate p (given p x))
  mutates p x = record { after = λ word acts. refl; says = λ word acts. sym (refused_line (refusal rules s (Mutated p (given p x)) state) (replies.Mutated (acted p (given p x) state))) }

  pub puts : (name text : Text) → Fits rules s now orders stitches state (asks.ShelfPut name text) (ShelfPut name text)
  puts name text = record { after = λ word acts. refl; says = λ word acts. sym (refused_line (refusal rules s (PutOnShelf name text) state) replies.Changed) }

  pub drops : (name : Text) → Fits rules s now orders stitches state (asks.ShelfDrop name) (ShelfDrop name)
  drops name = record { after = λ word acts. refl; says = λ word acts. sym (refused_line (refusal rules s (DroppedFromShelf name) state) replies.Changed) }

  pub refreshes : (r : Text) → Fits rules s now orders stitches state (asks.Refresh r) (Refresh r)
  refreshes r = record { after = λ word acts. refl; says = λ word acts. sym (refused_line (refusal rules s (Refreshed r) state) replies.Changed) }

  pub forgets : (r : Text) → Fits rules s now orders stitches state (asks.Forget r) (Forget r)
  forgets r = record { after = λ word acts. refl; says = λ word acts. sym (refused_line (refusal rules s (Forgotten r) state) replies.Changed) }

  pub settles : Fits rules s now orders stitches state asks.Settle Settle
  settles = record { after = λ word acts. refl; says = λ word acts. settle_line word acts (try_settle rules s now (limit_of word) state) }

  pub finishes : (token : ℕ) (x : Order) → order_numbered token orders ≡ Some x → Fits rules s now orders stitches state (asks.Finish token) (Finish x)
  finishes token x at = record {
    after = λ word acts. ap (λ o. after_finish rules s o (seen state now orders stitches)) at;
    says = λ word acts. ap (λ o. finish_reply rules s o (seen state now orders stitches)) at ∙ sym (refused_line (refusal rules s (Finished x now) state) (replies.Finished (finished rules x state)));
  }

  pub places : (ticket : ℕ) (x : StitchOrder) → find nat_cmp ticket stitches ≡ Some x → Fits rules s now orders stitches state (asks.Place ticket) (PutStitch x)
  places ticket x at = record {
    after = λ word acts. ap (λ o. after_place rules s o (seen state now orders stitches)) at;
    says = λ word acts. ap (λ o. place_reply rules s o (seen state now orders stitches)) at ∙ sym (refused_line (refusal rules s (StitchPut x) state) (replies.Placed (placed rules x state)));
  }

-- ---- what a session did

module _ (rules : Rules) (rule : OrphanRule) (old new : Ledger) (set : old.settings ≡ program_settings rule) (now now' : ℕ) (still : now' ≡ now) (orders : List Order) (stitches : List (ℕ × StitchOrder)) (m : RuledSession) (is : ruled rule (seen old.state now orders stitches) ≡ m) (text : List ℕ) where
  abbrev s : Settings
  s = program_settings rule

  -- a line that is a deed was carried out
  pub carried : (line line' : Line) (d : Deed) → line' ≡ line → Fits rules (program_settings rule) now orders stitches old.state line d → CarriesDeed rules now d old new text
      → Carries rules line' m (ruled rule (seen new.state now' orders stitches)) text
  carried line line' d same fits h =
      subst (λ v. Carries rules line' v (ruled rule (seen new.state now' orders stitches)) text) is
      (subst (λ l. Carries rules l (ruled rule (seen old.state now orders stitches)) (ruled rule (seen new.state now' orders stitches)) text) (sym same) (
        h.word,
        h.acts,
        (λ i. ruled rule (seen ((h.state ∙ ap (λ s. desk.done rules s now (limit_of h.word) d old.state) set) i) (still i) orders stitches)) ∙ ap (ruled rule) (sym (fits.after h.word h.acts)),
        h.says ∙ (ap (λ s. reply_line (desk.answered rules s now (limit_of h.word) d old.state)) set ∙ sym (fits.says h.word h.acts)),
      ))

  -- a take was carried out
  pub took : (line' : Line) → line' ≡ asks.Take → CarriesDeed rules now Take old new text → (orders' : List Order) → orders' ≡ add_order (order_taken rules now old) orders
      → Carries rules line' m (ruled rule (seen new.state now' orders' stitches)) text
  took line' same h orders' kept =
      subst (λ v. Carries rules line' v (ruled rule (seen new.state now' orders' stitches)) text) is
      (subst (λ l. Carries rules l (ruled rule (seen old.state now orders stitches)) (ruled rule (seen new.state now' orders' stitches)) text) (sym same) (
        h.word,
        h.acts,
        (λ i. ruled rule (seen ((h.state ∙ ap (λ s. desk.done rules s now (limit_of h.word) Take old.state) set) i) (still i) ((kept ∙ ap (λ s. add_order (order_taken rules now (record { settings = s; state = old.state })) orders) set) i) stitches)),
        h.says ∙ (ap (λ s. reply_line (desk.answered rules s now (limit_of h.word) Take old.state)) set ∙ refused_line (refusal rules s (Taken now) old.state) (replies.Taken (taken rules s now old.state))),
      ))

-- a line that is a question was answered
pub asked : (rules : Rules) (old m new : RuledSession) → old ≡ m → (text : List ℕ) (ask : Ask) (line : Line) → line ≡ asks.Ask ask → Carries rules (asks.Ask ask) old new text → Carries rules line m new text
asked rules old m new is text ask line same h =
    subst (λ v. Carries rules line v new text) is (subst (λ l. Carries rules l old new text) (sym same) h)
