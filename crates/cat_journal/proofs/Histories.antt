-- One call after the other.
use Rattle.std.proofs.Common.{◌≡◌, inl, inr, ℕ, ◌≤◌, List, [], ◌∷◌, ◌++◌, Option, Some, None, length, refl, sym, ◌∙◌, ap, subst}
use Rattle.std.specs.Prelude.{IsSome}
use Rattle.std.specs.List.{AllByRecursion}
use Rattle.cat_disk.specs.Moments.{Moment}
use Rattle.cat_keeper.specs.Store.{Changes, Rows}
use Rattle.cat_keeper.specs.declared.keeper.Committed.TheVariants.{Kept, Failed, NoMemory}
use Rattle.cat_journal.specs.Parsed.{batch_of}
use Rattle.cat_journal.specs.Left.{Now, Leaves, LeavesOnly, IsLeft, IsJournal}
use Rattle.cat_journal.specs.Loads.{IsWhole}
use Rattle.cat_journal.specs.Records.{Scans}
use Rattle.cat_journal.specs.Writes.{Seen}
use Rattle.cat_journal.specs.Keeps.{JournalState}
use Rattle.cat_journal.specs.Stands.{Stands}
use Rattle.cat_journal.specs.Histories.{disk_of, Makes, Runs, rows_then, more_then, more_during, rows_after_all, more_after_all, IsLeftIn, AreSafe, order_of, orders_of}
use Rattle.cat_journal.specs.declared.call.Order.{Order}
use Rattle.cat_journal.specs.declared.call.Call.{Call}
use Rattle.cat_journal.specs.declared.call.Call.TheVariants.{Load, Commit}
use Rattle.cat_journal.specs.declared.load.Known.TheVariants.{Nothing}
use Rattle.cat_journal.specs.declared.records.Scanned.TheVariants.{Found}
use Rattle.cat_journal.proofs.Steps.{no_moment, then_leaves}

wider : (P Q : List ℕ → Type 0) (old new : List Moment) → ((c : List ℕ) → P c → Q c) → LeavesOnly old new P → LeavesOnly old new Q
wider P Q old new f left = (left.0, left.1, all left.0 left.2)
  where
    all : (ms : List Moment) → AllByRecursion (Leaves P) ms → AllByRecursion (Leaves Q) ms
    all [] good = tt
    all (m ∷ ms) good = (λ c is. f c (good.0 c is), all ms good.1)

-- one call
call_left : (call : Call) (old new : JournalState) (base : Rows) (more : List Changes) → Makes call old new → Stands base more old.known (disk_of old) → LeavesOnly old.moments new.moments (IsLeft base (more_during call more))
call_left (Load result) old new base more makes stands = (makes base more stands).left
call_left (Commit batch result) old new base more makes stands = (makes base more stands).left

call_stands : (call : Call) (old new : JournalState) (base : Rows) (more : List Changes) → Makes call old new → Stands base more old.known (disk_of old) → Stands (rows_then call base) (more_then call more) new.known (disk_of new)
call_stands (Load result) old new base more makes stands = (makes base more stands).stands
call_stands (Commit batch Kept) old new base more makes stands = (makes base more stands).stands
call_stands (Commit batch Failed) old new base more makes stands = (makes base more stands).stands
call_stands (Commit batch NoMemory) old new base more makes stands = (makes base more stands).stands

pub all_left : (calls : List Call) (old new : JournalState) (base : Rows) (more : List Changes) → Stands base more old.known (disk_of old) → Runs calls old new → LeavesOnly old.moments new.moments (IsLeftIn calls base more)
all_left [] old new base more stands runs = no_moment old.moments new.moments (IsLeftIn [] base more) (ap (λ (k : JournalState). k.moments) runs)
all_left (call ∷ calls) old new base more stands runs =
    then_leaves old.moments runs.0.moments new.moments (IsLeftIn (call ∷ calls) base more)
    (wider (IsLeft base (more_during call more)) (IsLeftIn (call ∷ calls) base more) old.moments runs.0.moments (λ c is. inl is) (call_left call old runs.0 base more runs.1 stands))
    (wider (IsLeftIn calls (rows_then call base) (more_then call more)) (IsLeftIn (call ∷ calls) base more) runs.0.moments new.moments (λ c is. inr is)
    (all_left calls runs.0 new (rows_then call base) (more_then call more) (call_stands call old runs.0 base more runs.1 stands) runs.2))

pub all_stand : (calls : List Call) (old new : JournalState) (base : Rows) (more : List Changes) → Stands base more old.known (disk_of old) → Runs calls old new → Stands (rows_after_all calls base) (more_after_all calls more) new.known (disk_of new)
all_stand [] old new base more stands runs = subst (λ (k : JournalState). Stands base more k.known (disk_of k)) (sym runs) stands
all_stand (call ∷ calls) old new base more stands runs =
    all_stand calls runs.0 new (rows_then call base) (more_then call more) (call_stands call old runs.0 base more runs.1 stands) runs.2

-- ---- one call more

pub runs_then : (calls : List Call) (call : Call) (old mid new : JournalState) → Runs calls old mid → Makes call mid new → Runs (calls ++ call ∷ []) old new
runs_then [] call old mid new runs makes = (new, subst (λ (k : JournalState). Makes call k new) runs makes, refl)
runs_then (c ∷ calls) call old mid new runs makes = (runs.0, runs.1, runs_then calls call runs.0 mid new runs.2 makes)

orders_then : (calls : List Call) (call : Call) (rest : List Order) → orders_of (calls ++ call ∷ []) ++ rest ≡ orders_of calls ++ order_of call ∷ rest
orders_then [] call rest = refl
orders_then (c ∷ calls) call rest = ap (λ (l : List Order). order_of c ∷ l) (orders_then calls call rest)

-- an order that was carried out goes from those that are left to those that were made
pub orders_more : (made made1 : List Call) (call : Call) (order : Order) (rest rest1 all : List Order) → made1 ≡ made ++ call ∷ [] → order_of call ≡ order → rest ≡ order ∷ rest1 → orders_of made ++ rest ≡ all → orders_of made1 ++ rest1 ≡ all
orders_more made made1 call order rest rest1 all is done left same =
    ap (λ (l : List Call). orders_of l ++ rest1) is ∙ (orders_then made call rest1 ∙ (ap (λ (o : Order). orders_of made ++ o ∷ rest1) done ∙ (ap (λ (l : List Order). orders_of made ++ l) (sym left) ∙ same)))

pub are_safe : (calls : List Call) (old new : JournalState) → Runs calls old new → AreSafe calls old new
are_safe calls old new runs base more stands = (all_left calls old new base more stands runs, all_stand calls old new base more stands runs)

-- ---- at first

some_of : {A : Type 0} (o : Option A) → IsSome o → (x : A) × (o ≡ Some x)
some_of None is = absurd (cc)
some_of (Some x) is = (x, refl)

abbrev AtFirst : Seen → Type 0
AtFirst s = (base : Rows) × (gate : ℕ) × (more : List Changes) × Scans s.content (Found base gate) × Stands base more Nothing s

first_short : (s : Seen) → Now s.moments s.content IsWhole → length s.content ≤ 9 → AtFirst s
first_short s whole short = ([], 8, [], inl (short, refl, refl), inl (whole, ([], 8, inl (short, refl), inl short, refl)))

pub at_first : (s : Seen) → Now s.moments s.content IsWhole → IsJournal s.content → AtFirst s
at_first s whole (inl short) = first_short s whole short
at_first s whole (inr (rows, gate, inl p, closed)) = first_short s whole p.0
at_first s whole (inr (rows, gate, inr p, inl zero)) = (rows, gate, [], inr p, inl (whole, (p.1, gate, inr (p.0, p.2, p.3), inr (inl zero), sym p.4)))
at_first s whole (inr (rows, gate, inr p, inr next)) =
    let batch = some_of (batch_of next.0) next.1.batch in
    (rows, gate, batch.0 ∷ [], inr p, inl (whole, (p.1, gate, inr (p.0, p.2, p.3), inr (inr (next.0, batch.0, next.1, batch.1, inl refl)), sym p.4)))
