-- What the code of a session does with a line.
use Rattle.std.specs.Prelude.{◌≡◌, ⊤, Bool, true, false, List, ℕ}
use Rattle.std.specs.declared.option.Option.{Option}
use Rattle.cat_session_lines.specs.declared.line.Line.{Line}
use Rattle.cat_session_lines.specs.declared.line.Line.TheVariants as asks
use Rattle.cat_core.specs.declared.ledger.Ledger.{Ledger}
use Rattle.cat_desk.specs.Acts.{answered, done}
use Rattle.cat_desk.specs.Deed.{Deed}
use Rattle.cat_desk.specs.Deed.Deed.{Mutate, ShelfPut, ShelfDrop, Refresh, Forget, ForgetNumber, Take, Finish, TakeStitch, PutStitch, Settle}
use Rattle.cat_io.specs.Word.{Word, IsActing, plain}
use Rattle.cat_model.specs.Catalogue.{Rules}
use Rattle.cat_model.specs.Reply.{taken}
use Rattle.cat_model.specs.Step.{refusal}
use Rattle.cat_model.specs.Step.Event.{Take as Taken}
use Rattle.cat_model.specs.declared.types.Order.{Order}
use Rattle.cat_model.specs.declared.types.State.{State}
use Rattle.cat_session.specs.Replies.{reply_line}
use Rattle.cat_session_model.specs.Program.{program_settings}
use Rattle.cat_session_model.specs.declared.state.RuledSession.{RuledSession}
use Rattle.cat_session_model.specs.Session.{after_reading, limit_of, reply_to, unless_refused}

-- a line was carried out under the session's rule, and this is its reply
abbrev pub Carries : Rules → Line → RuledSession → RuledSession → List ℕ → Type 0
Carries rules line old new text =
    (word : Word) × IsActing word × (new ≡ record old { session = after_reading rules (program_settings old.orphans) word line old.session })
    × (text ≡ reply_to rules (program_settings old.orphans) word line old.session)

-- the session after a line that was carried out to its end
abbrev pub after_whole : Rules → Line → RuledSession → RuledSession
after_whole rules line m = record m { session = after_reading rules (program_settings m.orphans) plain line m.session }

-- whether a line may change nothing of a session but what its catalogue holds
abbrev pub acts_on_state : Line → Bool
acts_on_state (asks.Mutate provider mutation) = true
acts_on_state (asks.ShelfPut name text) = true
acts_on_state (asks.ShelfDrop name) = true
acts_on_state (asks.Refresh r) = true
acts_on_state (asks.Forget r) = true
acts_on_state (asks.Clock now) = false
acts_on_state asks.Take = false
acts_on_state (asks.Finish token) = true
acts_on_state (asks.Stitch after) = false
acts_on_state (asks.Place ticket) = true
acts_on_state asks.Settle = true
acts_on_state (asks.Ask ask) = false

-- the session whose catalogue holds this in place of what it held
abbrev pub put_back : RuledSession → State → RuledSession
put_back m held = record m { session = record m.session { state = held } }

-- a deed was done to the catalogue at this moment, or refused, and this is the line of the reply
pub record CarriesDeed (rules : Rules) (now : ℕ) (d : Deed) (old new : Ledger) (text : List ℕ) : Type 0 where
  pub word : Word
  pub acts : IsActing word
  pub state : new.state ≡ done rules old.settings now (limit_of word) d old.state
  pub settings : new.settings ≡ old.settings
  pub says : text ≡ reply_line (answered rules old.settings now (limit_of word) d old.state)

-- the catalogue is as before
pub record Stays (old new : Ledger) : Type 0 where
  pub state : new.state ≡ old.state
  pub settings : new.settings ≡ old.settings

-- the order that a take gives where it isn't refused
abbrev pub order_taken : Rules → ℕ → Ledger → Option Order
order_taken rules now old = unless_refused (refusal rules old.settings (Taken now) old.state) (taken rules old.settings now old.state)

-- the reply to the deed shows no reference
abbrev pub IsShort : Deed → Type 0
IsShort (Mutate provider x) = ⊤
IsShort (ShelfPut name text) = ⊤
IsShort (ShelfDrop name) = ⊤
IsShort (Refresh r) = ⊤
IsShort (Forget r) = ⊤
IsShort (ForgetNumber number) = ⊤
IsShort Take = ⊥
IsShort (Finish order) = ⊤
IsShort (TakeStitch after) = ⊥
IsShort (PutStitch order) = ⊤
IsShort Settle = ⊤
