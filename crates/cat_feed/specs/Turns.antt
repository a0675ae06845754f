-- Runs of asks to one feed, of a mirror and of others.
use Rattle.std.specs.Prelude.{◌≡◌, List, [], ◌∷◌, IsTrue, Option, Result, Ok, Err}
use Rattle.std.specs.FinMap.Entries.{is_sorted}
use Rattle.cat_collections.specs.Table.{text_cmp}
use Rattle.cat_feed.specs.Changes.{Documents}
use Rattle.cat_feed.specs.Feed.{asked, feed_after}
use Rattle.cat_feed.specs.declared.change.Changes.{Changes}
use Rattle.cat_feed.specs.declared.change.Since.{Since}
use Rattle.cat_feed.specs.declared.fault.FeedFault.{FeedFault}
use Rattle.cat_feed.specs.declared.ledger.Ledger.{Ledger}
use Rattle.cat_feed.specs.Mirror.{mirrored}
use Rattle.cat_feed.specs.declared.mirror.Mirror.{Mirror}

-- a turn: there are these documents, and the mirror asks from its own place, or somebody asks from some place or none
pub data Turn : Type 0 where
  own : Documents → Turn
  others : Documents → Option Since → Turn

-- the mirror after an answer: a refusal leaves it as it is
abbrev pub mirror_after : Result Changes FeedFault → Mirror → Mirror
mirror_after (Ok c) m = mirrored c m
mirror_after (Err fault) m = m

-- with an answer applied, the mirror has these documents
abbrev pub IsMirrored : Documents → Result Changes FeedFault → Mirror → Type 0
IsMirrored ds (Ok c) m = (mirrored c m).documents ≡ ds
IsMirrored ds (Err fault) m = Unit {0}

-- after each answer to the mirror it has the documents of that turn
abbrev pub AreMirrored : List Turn → Ledger → Mirror → Type 0
AreMirrored [] feed m = Unit {0}
AreMirrored (own ds ∷ turns) feed m = IsMirrored ds (asked ds m.place feed) m × AreMirrored turns (feed_after ds m.place feed) (mirror_after (asked ds m.place feed) m)
AreMirrored (others ds since ∷ turns) feed m = AreMirrored turns (feed_after ds since feed) m

-- the documents of each turn stand in order of reference
abbrev pub AreInOrder : List Turn → Type 0
AreInOrder [] = Unit {0}
AreInOrder (own ds ∷ turns) = IsTrue (is_sorted text_cmp ds) × AreInOrder turns
AreInOrder (others ds since ∷ turns) = IsTrue (is_sorted text_cmp ds) × AreInOrder turns
