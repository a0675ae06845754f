-- What a share of a book does.
use Rattle.std.specs.Prelude.{◌≡◌, ◌⊎◌, ℕ, List, []}
use Rattle.std.specs.declared.option.Option.{Option}
use Rattle.std.specs.declared.option.Option.TheVariants.{None, Some}
use Rattle.cat_feed.specs.Written.{changes_data}
use Rattle.cat_core.specs.declared.ledger.Ledger.{Ledger}
use Rattle.cat_desk.specs.Asks.{IsAnswer}
use Rattle.cat_desk.specs.Deed.{Deed}
use Rattle.cat_desk.specs.declared.command.Asked.{Asked}
use Rattle.cat_desk.specs.declared.command.Reply.{Reply}
use Rattle.cat_desk.specs.Told.{Tells}
use Rattle.cat_desk.specs.declared.feed_desk.FeedAnswer.{FeedAnswer}
use Rattle.cat_desk.specs.declared.feed_desk.FeedAnswer.TheVariants.{Written, Gone, Ahead, Spent, NoMemory}
use Rattle.cat_feed.specs.Changes.{Documents, numbered, sets}
use Rattle.cat_feed.specs.declared.change.Since.{Since}
use Rattle.cat_feed.specs.declared.ledger.Ledger.{Ledger as Feed}
use Rattle.cat_model.specs.Catalogue.{Rules}
use Rattle.cat_model.specs.declared.types.Settings.{Settings}
use Rattle.cat_model.specs.declared.types.State.{State}
use Rattle.cat_query.specs.declared.ask.Ask.{Ask}
use Rattle.cat_replies.specs.Asks.{ask_text}
use Rattle.cat_shared.specs.Book.{Does, lacking}
use Rattle.cat_shared.specs.Replay.{replay}
use Rattle.cat_shared.specs.declared.entry.Entry.{Entry}
use Rattle.cat_tree.specs.Text.{text_of}
use Rattle.cat_turns.specs.Law.{GrowsBeside}
use Rattle.cat_turns.specs.Turns.{IsSamePass, Mine}

-- The number of the pass under which an entry stands.
abbrev pub pass_of : Entry → ℕ
pass_of entry = entry.pass

-- The settings and a state of a catalogue.
abbrev pub ledger : Settings → State → Ledger
ledger s m = record { settings = s; state = m }

-- At its turn a pass finds a journal that begins with what it has seen and goes on with entries of others alone, and that leads from the opening
-- state to a state.
pub record Finds (rules : Rules) (s : Settings) (opening : State) (old : Mine Entry) (journal : List Entry) (state : State) : Type 0 where
  pub grown : GrowsBeside pass_of old.number old.seen journal
  pub replayed : replay rules s opening journal ≡ Some state

-- A deed was done, or it or the rest of it wasn't kept, at the state of a journal, at some moment; it is noted so, and the longer journal leads to the
-- state after it; or there was no room for an entry, and the journal is as it was.
abbrev pub IsDone : Rules → Settings → State → ℕ → Deed → State → List Entry → List Entry → Reply → Type 0
IsDone rules s opening pass d state journal longer reply =
    ((now : ℕ) × (after : State) × Does rules pass now d (ledger s state) (ledger s after) journal longer reply × (replay rules s opening longer ≡ Some after))
    ⊎ ((longer ≡ journal) × (reply ≡ lacking d))

-- What a share does with a deed: it is done at the state of the journal that its pass finds, and the pass has then seen the journal with its entry.
pub record SharedActs (rules : Rules) (s : Settings) (opening : State) (d : Deed) (old new : Mine Entry) (reply : Reply) : Type 0 where
  pub same : IsSamePass old new
  pub journal : List Entry
  pub state : State
  pub finds : Finds rules s opening old journal state
  pub done : IsDone rules s opening old.number d state journal new.seen reply

-- What a share answers to a question: the answer at the state of the journal that its pass finds and has then seen, at some moment.
pub record SharedAsks (rules : Rules) (s : Settings) (opening : State) (ask : Ask) (old new : Mine Entry) (asked : Asked) (text : List ℕ) : Type 0 where
  pub same : IsSamePass old new
  pub state : State
  pub finds : Finds rules s opening old new.seen state
  pub now : ℕ
  pub answer : IsAnswer (ask_text ask now state) asked text

-- What is told without a place: a change for each document, unless numbers are spent or memory was wanted.
abbrev pub IsWhole : Documents → FeedAnswer → List ℕ → Type 0
IsWhole ds Written text = (to : Since) × (text ≡ text_of (changes_data (record { from = None; to = to; list = numbered 0 (sets ds) })))
IsWhole ds (Gone place) text = ⊥
IsWhole ds (Ahead place) text = ⊥
IsWhole ds Spent text = text ≡ []
IsWhole ds NoMemory text = text ≡ []

-- What a share tells of changes: what some feed tells of the documents of the journal that its pass finds and has then seen.
pub record SharedTells (rules : Rules) (s : Settings) (opening : State) (since : Option Since) (old new : Mine Entry) (told : FeedAnswer) (text : List ℕ) : Type 0 where
  pub same : IsSamePass old new
  pub state : State
  pub finds : Finds rules s opening old new.seen state
  pub before : Feed
  pub after : Feed
  pub tells : Tells state.documents since before after told text
  pub whole : since ≡ None → IsWhole state.documents told text
