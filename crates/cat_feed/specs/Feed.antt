-- What a feed has told, and what it answers.
use Rattle.std.specs.Prelude.{◌≡◌, ℕ, ◌+◌, ◌-◌, ◌^◌, ◌≤◌, Bool, true, false, not, ◌||◌, ◌==◌, nat_lt, List, [], ◌∷◌, ◌++◌, length, Option, None, Some, Result, Ok, Err, if◌then◌else◌}
use Rattle.cat_feed.specs.Changes.{Difference, Documents, above, applied, differences, last, numbered, sets}
use Rattle.cat_feed.specs.declared.change.Change.{Change}
use Rattle.cat_feed.specs.declared.change.Changes.{Changes}
use Rattle.cat_feed.specs.declared.change.Since.{Since}
use Rattle.cat_feed.specs.declared.fault.FeedFault.{FeedFault}
use Rattle.cat_feed.specs.declared.fault.FeedFault.TheVariants.{Gone, Ahead, Spent, NoMemory}
use Rattle.cat_feed.specs.declared.ledger.Ledger.{Ledger}

-- ---- what is told

-- a feed that has told nothing
abbrev pub begun : ℕ → Ledger
begun epoch = record { epoch = epoch; number = 0; copy = []; kept = [] }

-- the feed with these differences as its next changes: of all its changes the last 10,000 are kept
abbrev pub with_changes : List Difference → Ledger → Ledger
with_changes found feed = record {
  epoch = feed.epoch;
  number = feed.number + length found;
  copy = applied (numbered feed.number found) feed.copy;
  kept = last 10000 (feed.kept ++ numbered feed.number found);
}

-- one of them would have a number above 2^59
abbrev pub is_over : List Difference → Ledger → Bool
is_over found feed = nat_lt (2 ^ 59) (feed.number + length found)

-- the feed once it has taken the documents in: what differs from its copy are its next changes, and of all its changes the last
-- 10,000 are kept
abbrev pub taken_in : Documents → Ledger → Ledger
taken_in ds feed = record {
  epoch = feed.epoch;
  number = feed.number + length (differences feed.copy ds);
  copy = ds;
  kept = last 10000 (feed.kept ++ numbered feed.number (differences feed.copy ds));
}

-- it can't take them in, since a change would have a number above 2^59
abbrev pub is_spent : Documents → Ledger → Bool
is_spent ds feed = is_over (differences feed.copy ds) feed

-- ---- what is answered

-- the least number above which all changes are kept
abbrev pub least : Ledger → ℕ
least feed = feed.number - length feed.kept

-- the feed's place
abbrev pub place : Ledger → Since
place feed = record { epoch = feed.epoch; number = feed.number }

-- the first place that is kept
abbrev pub first_place : Ledger → Since
first_place feed = record { epoch = feed.epoch; number = least feed }

-- a place of another epoch, or before the first that is kept
abbrev pub is_gone : Since → Ledger → Bool
is_gone since feed = not (since.epoch == feed.epoch) || nat_lt since.number (least feed)

-- why nothing leads from a place, if nothing does
abbrev pub refused : Since → Ledger → Result (Unit {0}) FeedFault
refused since feed =
    if is_gone since feed then Err (Gone (first_place feed))
    else if nat_lt feed.number since.number then Err (Ahead (place feed))
    else Ok tt

-- the changes that lead from a place to the feed's
abbrev pub changes_since : Since → Ledger → Result (Unit {0}) FeedFault → Result Changes FeedFault
changes_since since feed (Ok u) = Ok (record { from = Some since; to = place feed; list = above since.number feed.kept })
changes_since since feed (Err fault) = Err fault

-- what leads from a place to the feed's: without a place, a change for each document
abbrev pub answer : Option Since → Ledger → Result Changes FeedFault
answer None feed = Ok (record { from = None; to = place feed; list = numbered 0 (sets feed.copy) })
answer (Some since) feed = changes_since since feed (refused since feed)

-- the answer once the documents are taken in, unless numbers are spent
abbrev pub asked : Documents → Option Since → Ledger → Result Changes FeedFault
asked ds since feed = if is_spent ds feed then Err Spent else answer since (taken_in ds feed)

-- with these answers the feed has taken the documents in
abbrev pub is_taken : Result Changes FeedFault → Bool
is_taken (Ok c) = true
is_taken (Err (Gone s)) = true
is_taken (Err (Ahead s)) = true
is_taken (Err Spent) = false
is_taken (Err NoMemory) = false

-- the feed after an ask
abbrev pub feed_after : Documents → Option Since → Ledger → Ledger
feed_after ds since feed = if is_taken (asked ds since feed) then taken_in ds feed else feed

-- ---- who follows

-- these documents follow the feed to a number: it is kept, and the changes above it lead from them to the copy
pub record Follows (ds : Documents) (n : ℕ) (feed : Ledger) : Type 0 where
  pub kept : least feed ≤ n
  pub told : n ≤ feed.number
  pub leads : applied (above n feed.kept) ds ≡ feed.copy

-- ---- what holds of every feed

-- the changes have the numbers after n, one after the other
abbrev pub AreNumbered : ℕ → List Change → Type 0
AreNumbered n [] = Unit {0}
AreNumbered n (c ∷ cs) = (c.number ≡ n + 1) × AreNumbered (n + 1) cs

-- the kept changes are the last ones, at most 10,000, and their numbers end with the feed's, which is at most 2^59
pub record IsKept (feed : Ledger) : Type 0 where
  pub numbers : AreNumbered (least feed) feed.kept
  pub within : length feed.kept ≤ feed.number
  pub most : length feed.kept ≤ 10000
  pub bound : feed.number ≤ 2 ^ 59
