-- What the catalogue answers to its events and questions. The replies are those to events that aren't refused.
use Rattle.std.specs.Prelude.{◌≡◌, ◌≤◌, ℕ, Bool, true, false, cond, ◌&&◌, nat_eq, nat_lt, List, [], ◌∷◌, map, length}
use Rattle.std.specs.declared.cmp.Ordering.{Ordering}
use Rattle.std.specs.declared.option.Option.{Option}
use Rattle.std.specs.declared.option.Option.TheVariants.{None, Some}
use Rattle.std.specs.Option.{option_and_then, option_map}
use Rattle.std.specs.Ordering.{nat_cmp, ordering_then, is_gt}
use Rattle.std.specs.List.{filter, flat_map, list_any}
use Rattle.cat_types.specs.declared.issue.Level.{Level}
use Rattle.cat_types.specs.declared.issue.Level.TheVariants.{Error, Warning}
use Rattle.cat_types.specs.declared.work.Outcome.TheVariants.{Good, Bad}
use Rattle.cat_collections.specs.Table.{Text, text_cmp, same_text, get, keys, tabulate, first}
use Rattle.cat_model.specs.Catalogue.{Ref, Issues, Issue, Outcome, Rules, Row, Record, Orphan, State, row_at, holding, parts, known_refs}
use Rattle.cat_model.specs.Step.{Settings, due_at, Given, Order, StitchOrder, change, source_at, next_taken, is_present, is_present_stitch}
use Rattle.cat_model.specs.Step.Event.{Take}
pub use Rattle.cat_model.specs.Dues.{is_leased, is_live}
use Rattle.cat_model.specs.Settle.{Progress, order, due_refs, is_empty, stitch_order, marks_in_order}
pub use Rattle.cat_model.specs.declared.types.Acted.{Acted}
use Rattle.cat_model.specs.declared.types.Acted.TheVariants.{Now, Again}
pub use Rattle.cat_model.specs.declared.types.Finished.{Finished}
use Rattle.cat_model.specs.declared.types.Finished.TheVariants.{Good as FinishedGood, Bad as FinishedBad, Late as FinishedLate}
pub use Rattle.cat_model.specs.declared.types.Placed.{Placed}
use Rattle.cat_model.specs.declared.types.Placed.TheVariants.{Counted, Late as PlacedLate}
pub use Rattle.cat_model.specs.declared.types.Counts.{Counts}
pub use Rattle.cat_model.specs.declared.types.StateCounts.{StateCounts}

-- ---- replies

-- a mutation acts where its serial is above the provider's last one
abbrev pub acted : Text → Given → State → Acted
acted provider x m = cond (nat_lt (source_at (get m.providers provider)).serial x.serial) Now Again

-- the order of the lease that a take gives
abbrev pub taken : Rules → Settings → ℕ → State → Option Order
taken rules s now m = option_and_then (order rules (change rules s (Take now) m)) (next_taken now m)

-- what a finish that counts answers
abbrev pub finished_as : Outcome → Finished
finished_as (Good output issues) = FinishedGood
finished_as (Bad issues) = FinishedBad

-- the token of the present lease
abbrev pub token_of : Option Record → Option ℕ
token_of x = option_map (λ lease. lease.token) (option_and_then (λ x. x.lease) x)

-- what a finish does, with the record of its reference
abbrev pub finished_with : Rules → Order → State → Option Record → Finished
finished_with rules order m None = FinishedLate None
finished_with rules order m (Some x) = cond (is_present rules m order x) (finished_as (rules.result order.work)) (FinishedLate (token_of (Some x)))

-- a finish counts where its order is that of the present lease, and else is late
abbrev pub finished : Rules → Order → State → Finished
finished rules order m = finished_with rules order m (get m.records order.reference)

-- the put of a stitch counts where its order is that of the present mark and parts, and else is late
abbrev pub placed : Rules → StitchOrder → State → Placed
placed rules order m = cond (is_present_stitch rules m order) Counted (PlacedLate (get m.marks order.reference))

-- what a settle counts
abbrev pub counts : Progress → Counts
counts p = record { rounds = p.rounds; leases = p.leases; stitched = p.stitched }

-- ---- questions

-- whether no record is due and no reference is marked
abbrev pub is_quiet : State → ℕ → Bool
is_quiet m now = is_empty (due_refs now m) && is_empty m.marks

-- the records with a live lease, in order of reference
abbrev pub leased_refs : ℕ → State → List Ref
leased_refs now m = filter (λ r. is_leased now (get m.records r)) (keys m.records)

-- how many records, orphans, due records, live leases and marks there are
abbrev pub state_counts : State → ℕ → StateCounts
state_counts m now =
    record {
      records = length m.records;
      orphans = length m.orphans;
      due = length (due_refs now m);
      leased = length (leased_refs now m);
      marked = length m.marks;
    }

-- the first of these marks with a ticket above
abbrev pub mark_above : ℕ → List (Ref × ℕ) → Option (Ref × ℕ)
mark_above after [] = None
mark_above after (e ∷ es) = cond (nat_lt after e.1) (Some e) (mark_above after es)

-- the mark with the least ticket above
abbrev pub next_mark : State → ℕ → Option (Ref × ℕ)
next_mark m after = mark_above after (marks_in_order m.marks)

-- the order of that mark, with the parts of its reference
abbrev pub next_stitch : Rules → State → ℕ → Option StitchOrder
next_stitch rules m after = option_and_then (λ e. stitch_order rules m e.0 (Some e.1) (parts rules m e.0)) (next_mark m after)

-- a take leases a record that is due no later than x
pub record TakesNoLater (m : State) (now : ℕ) (x : Record) : Type 0 where
  pub reference : Ref
  pub next : next_taken now m ≡ Some reference
  pub no_later : due_at (get m.records reference) ≤ x.due

-- the next mark has a ticket of k at most
pub record StitchesNoLater (m : State) (after k : ℕ) : Type 0 where
  pub mark : Ref × ℕ
  pub next : next_mark m after ≡ Some mark
  pub no_later : mark.1 ≤ k

-- a reference and an arrival
abbrev pub RowPlace : Type 0
RowPlace = Ref × ℕ

-- by reference, and then by arrival
abbrev pub place_cmp : RowPlace → RowPlace → Ordering
place_cmp x y = ordering_then (text_cmp x.0 y.0) (nat_cmp x.1 y.1)

-- whether this is the arrival of the holding row
abbrev pub is_arrival : ℕ → Option ℕ → Bool
is_arrival a None = false
is_arrival a (Some b) = nat_eq a b

-- a row that doesn't hold its reference
abbrev pub waits : State → ℕ → Option Row → Option Row
waits m a None = None
waits m a (Some row) = cond (is_arrival a (get m.holders row.reference)) None (Some row)

-- the rows that don't hold, by reference and arrival
abbrev pub waiting : State → List (RowPlace × Row)
waiting m = tabulate place_cmp (map (λ e. (e.1.reference, e.0)) m.rows) (λ k. waits m k.1 (row_at m.rows k.1))

-- a row that waits with another key than the holder's
pub record Conflict : Type 0 where
  pub holder : Row
  pub waiting : Row

-- the conflict of a waiting row with the holder of its reference, if their keys differ
abbrev pub conflict_with : Row → Option Row → List Conflict
conflict_with row None = []
conflict_with row (Some holder) = cond (same_text row.offered.key holder.offered.key) [] (record { holder = holder; waiting = row } ∷ [])

-- the conflicts, by reference and arrival
abbrev pub conflicts : State → List Conflict
conflicts m = flat_map (λ e. conflict_with e.1 (holding m.rows m.holders e.0.0)) (waiting m)

-- whether a level is that of an error
abbrev pub is_error_level : Level → Bool
is_error_level Error = true
is_error_level Warning = false

-- whether an issue is an error
abbrev pub is_error : Issue → Bool
is_error x = is_error_level x.level

-- a record's issues
abbrev pub issues_at : State → Ref → Option Issues
issues_at m r = option_map (λ x. x.issues) (get m.records r)

-- whether some issue is an error
abbrev pub has_failed : Option Issues → Bool
has_failed None = false
has_failed (Some issues) = list_any is_error issues

-- the records with an issue of level error, in order of reference
abbrev pub failed : State → List Ref
failed m = filter (λ r. has_failed (issues_at m r)) (keys m.records)

-- whether r comes after a reference, if there is one
abbrev pub comes_after : Option Ref → Ref → Bool
comes_after None r = true
comes_after (Some q) r = is_gt (text_cmp r q)

-- the next reference that is a record or an orphan, or the first
abbrev pub next_known : State → Option Ref → Option Ref
next_known m after = first (comes_after after) (known_refs m)

-- whether what is known is an orphan, if anything is
abbrev pub rests : Option Orphan → Option Record → Option Bool
rests None None = None
rests (Some orphan) None = Some true
rests orphan (Some x) = Some false

-- whether what is known under a reference is an orphan
abbrev pub resting : State → Ref → Option Bool
resting m r = rests (get m.orphans r) (get m.records r)
