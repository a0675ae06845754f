-- What holds of the catalogue between two events.
use Rattle.std.specs.Prelude.{◌≡◌, ℕ, ◌<◌, true, ◌⊎◌, is_some, ◌≤◌, T, cond, ◌^◌}
use Rattle.std.specs.declared.option.Option.{Option}
use Rattle.std.specs.declared.option.Option.TheVariants.{None, Some}
use Rattle.std.specs.Option.{option_and_then}
use Rattle.std.specs.Ordering.{nat_cmp}
use Rattle.std.specs.FinMap.Entries.{is_sorted}
use Rattle.cat_collections.specs.Table.{get, text_cmp, over}
use Rattle.cat_model.specs.Catalogue.{Ref, Tree, Offered, Outcome, Parts, Work, Rules, Origin, Row, Rows, Holders, Record, State, held, row_at, rooted, work, output_of, parts, Orphan}
use Rattle.cat_types.specs.declared.work.Outcome.TheVariants.{Good, Bad}
use Rattle.cat_model.specs.declared.types.Origin.TheVariants.{Provider, Entity}

-- what an origin offers for r: a provider's item, or an offer of a kept output
abbrev pub offered : State → Origin → Ref → Option Offered
offered m (Provider p) r = option_and_then (λ x. get x.items r) (get m.providers p)
offered m (Entity e) r = option_and_then (λ x. get x.offers r) (output_of m.records e)

-- there is a row of this origin, reference and offer
pub record HasRow (rows : Rows) (o : Origin) (r : Ref) (x : Offered) : Type 0 where
  pub arrival : ℕ
  pub row : row_at rows arrival ≡ Some (record { origin = o; reference = r; offered = x })

-- the rows are the provider items and the offers of the kept outputs
pub record AreOffers (m : State) : Type 0 where
  pub given : (a : ℕ) (row : Row) → row_at m.rows a ≡ Some row → offered m row.origin row.reference ≡ Some row.offered
  pub shown : (o : Origin) (r : Ref) (x : Offered) → offered m o r ≡ Some x → HasRow m.rows o r x
  pub below : (a : ℕ) (row : Row) → row_at m.rows a ≡ Some row → a < m.arrival
  -- an origin has one row of a reference at most
  pub once : (a b : ℕ) (row other : Row) → row_at m.rows a ≡ Some row → row_at m.rows b ≡ Some other → row.origin ≡ other.origin → row.reference ≡ other.reference → a ≡ b

-- the row with this arrival is of r
pub record IsRowOf (rows : Rows) (r : Ref) (a : ℕ) : Type 0 where
  pub row : Row
  pub at : row_at rows a ≡ Some row
  pub names : row.reference ≡ r

-- each holder is a row of its reference and is rooted, and each row's reference is held
pub record AreHolders (rows : Rows) (holders : Holders) : Type 0 where
  pub rows_of : (r : Ref) (a : ℕ) → get holders r ≡ Some a → IsRowOf rows r a
  pub all_rooted : (r : Ref) → held holders r ≡ true → rooted rows holders r ≡ true
  pub all_held : (a : ℕ) (row : Row) → row_at rows a ≡ Some row → held holders row.reference ≡ true

-- a record has this outcome
abbrev pub IsOutcome : Outcome → Record → Type 0
IsOutcome (Good output issues) x = (x.output ≡ Some output) × (x.issues ≡ issues)
IsOutcome (Bad issues) x = x.issues ≡ issues

-- a record is due at once, or has the outcome of its work
abbrev pub IsRight : Rules → Option Work → Record → Type 0
IsRight rules None x = x.due ≡ 0
IsRight rules (Some w) x = (x.due ≡ 0) ⊎ IsOutcome (rules.result w) x

-- a reference with parts has a mark, or its document is that of its parts; one without has neither
abbrev pub IsStitched : Rules → Option Parts → Option ℕ → Option Tree → Type 0
IsStitched rules None mark document = (mark ≡ None) × (document ≡ None)
IsStitched rules (Some p) mark document = (is_some mark ≡ true) ⊎ (document ≡ Some (rules.doc p))

-- the number of a record, or else of an orphan
abbrev pub number_in : Option Record → Option Orphan → Option ℕ
number_in None None = None
number_in None (Some x) = Some x.number
number_in (Some x) orphan = Some x.number

-- the number of a record or an orphan
abbrev pub its_number : State → Ref → Option ℕ
its_number m r = number_in (get m.records r) (get m.orphans r)

-- numbers are at least 1, below the counter, and differ
pub record AreNumbers (m : State) : Type 0 where
  pub begun : 1 ≤ m.number
  pub from_one : (r : Ref) (k : ℕ) → its_number m r ≡ Some k → 1 ≤ k
  pub below : (r : Ref) (k : ℕ) → its_number m r ≡ Some k → k < m.number
  pub differ : (r q : Ref) (k : ℕ) → its_number m r ≡ Some k → its_number m q ≡ Some k → r ≡ q

-- the stale-mark invariant: what holds between any two events
pub record Sound (rules : Rules) (m : State) : Type 0 where
  pub offers : AreOffers m
  pub holders : AreHolders m.rows m.holders
  pub records : (r : Ref) → is_some (get m.records r) ≡ held m.holders r
  pub orphans : (r : Ref) → held m.holders r ≡ true → get m.orphans r ≡ None
  pub right : (r : Ref) (x : Record) → get m.records r ≡ Some x → IsRight rules (work rules m r) x
  pub stitched : (r : Ref) → IsStitched rules (parts rules m r) (get m.marks r) (get m.documents r)
  pub numbers : AreNumbers m
  pub in_order : T (is_sorted text_cmp m.records)
  pub rows_in_order : T (is_sorted nat_cmp m.rows)
  pub holders_in_order : T (is_sorted text_cmp m.holders)

-- the tables of orphans, marks and documents are in order of reference
pub record AreOrdered (m : State) : Type 0 where
  pub orphans : T (is_sorted text_cmp m.orphans)
  pub marks : T (is_sorted text_cmp m.marks)
  pub documents : T (is_sorted text_cmp m.documents)

-- each orphan of n is one of m, unchanged
abbrev pub MakesNoOrphan : State → State → Type 0
MakesNoOrphan m n = (r : Ref) (x : Orphan) → get n.orphans r ≡ Some x → get m.orphans r ≡ Some x

-- the counters are at most 2 ^ 59, so what is drawn is below
pub record AreSmall (m : State) : Type 0 where
  pub arrival : m.arrival ≤ 2 ^ 59
  pub number : m.number ≤ 2 ^ 59
  pub token : m.token ≤ 2 ^ 59
  pub ticket : m.ticket ≤ 2 ^ 59

-- the counters are at least 1
pub record AreBegun (m : State) : Type 0 where
  pub arrival : 1 ≤ m.arrival
  pub number : 1 ≤ m.number
  pub token : 1 ≤ m.token
  pub ticket : 1 ≤ m.ticket

-- no record is due at the moment now, and no reference is marked
pub record Quiet (m : State) (now : ℕ) : Type 0 where
  pub none_due : (r : Ref) (x : Record) → get m.records r ≡ Some x → now < x.due
  pub none_marked : (r : Ref) → get m.marks r ≡ None

-- a holder's row, where it is still there, is of its reference
abbrev pub AreNamed : Rows → Holders → Type 0
AreNamed rows holders = (r : Ref) (a : ℕ) (row : Row) → get holders r ≡ Some a → row_at rows a ≡ Some row → row.reference ≡ r

-- the holders whose rows are there and that are rooted
abbrev pub rooted_holders : Rows → Holders → Holders
rooted_holders rows holders = over text_cmp holders (λ r a. cond (rooted rows holders r) (Some a) None)
