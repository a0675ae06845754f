-- What is told to who asks what changed.
use Rattle.std.specs.Prelude.{◌≡◌, ◌⊎◌, ℕ, List, [], Option, Result, Ok, Err}
use Rattle.cat_tree.specs.Text.{text_of}
use Rattle.cat_feed.specs.Changes.{Documents}
use Rattle.cat_feed.specs.Feed.{asked, taken_in}
use Rattle.cat_feed.specs.declared.change.Changes.{Changes}
use Rattle.cat_feed.specs.declared.change.Since.{Since}
use Rattle.cat_feed.specs.declared.fault.FeedFault.{FeedFault}
use Rattle.cat_feed.specs.declared.fault.FeedFault.TheVariants as fault
use Rattle.cat_feed.specs.declared.ledger.Ledger.{Ledger}
use Rattle.cat_feed.specs.Written.{changes_data}
use Rattle.cat_desk.specs.declared.feed_desk.FeedAnswer.{FeedAnswer}
use Rattle.cat_desk.specs.declared.feed_desk.FeedAnswer.TheVariants.{Written, Gone, Ahead, Spent, NoMemory}

-- the text of changes either is written or lacks memory
abbrev pub written_as : {A E : Type 0} → Result A E → FeedAnswer
written_as (Ok x) = Written
written_as (Err e) = NoMemory

-- a refusal as an answer
abbrev pub refused_as : FeedFault → FeedAnswer
refused_as (fault.Gone s) = Gone s
refused_as (fault.Ahead s) = Ahead s
refused_as fault.Spent = Spent
refused_as fault.NoMemory = NoMemory

-- a feed was asked about documents from a place, and this was answered, with this text: the text of the changes, or a refusal without a
-- text; and where memory was wanted the feed is as before, or the changes lacked room for their text
abbrev pub Tells : Documents → Option Since → Ledger → Ledger → FeedAnswer → List ℕ → Type 0
Tells ds since old new Written text = (c : Changes) × (asked ds since old ≡ Ok c) × (new ≡ taken_in ds old) × (text ≡ text_of (changes_data c))
Tells ds since old new (Gone s) text = (asked ds since old ≡ Err (fault.Gone s)) × (new ≡ taken_in ds old) × (text ≡ [])
Tells ds since old new (Ahead s) text = (asked ds since old ≡ Err (fault.Ahead s)) × (new ≡ taken_in ds old) × (text ≡ [])
Tells ds since old new Spent text = (asked ds since old ≡ Err fault.Spent) × (new ≡ old) × (text ≡ [])
Tells ds since old new NoMemory text = ((new ≡ old) ⊎ ((c : Changes) × (asked ds since old ≡ Ok c) × (new ≡ taken_in ds old))) × (text ≡ [])
