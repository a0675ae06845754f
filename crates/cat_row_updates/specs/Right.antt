-- What is asked of a state before a store with its rows must open.
use Rattle.std.specs.Prelude.{◌≡◌, ◌⊎◌, ℕ, ◌<◌, ◌≤◌, ◌^◌, true, List, [], Ok, IsTrue}
use Rattle.std.specs.declared.option.Option.TheVariants.{Some}
use Rattle.cat_tree.specs.Ask.{depth_of}
use Rattle.cat_tree.specs.Proper.{IsProper}
use Rattle.cat_types.specs.Names.{is_shelf_name}
use Rattle.cat_types.specs.Reference.{described}
use Rattle.cat_schema.specs.Rules.{breaches}
use Rattle.cat_kinds.specs.Kinds.{kind_faults}
use Rattle.cat_collections.specs.Table.{Text, get, over, text_cmp}
use Rattle.cat_types.specs.declared.work.Output.{Output}
use Rattle.cat_keeper.specs.Store.{Rows}
use Rattle.cat_model.specs.Catalogue.{Ref, Rules, Tree, due_now, row_at}
use Rattle.cat_model.specs.Sound.{AreBegun, AreSmall, Sound}
use Rattle.cat_model.specs.declared.types.Orphan.{Orphan}
use Rattle.cat_model.specs.declared.types.OrphanRule.{OrphanRule}
use Rattle.cat_model.specs.declared.types.ProviderInputs.{ProviderInputs}
use Rattle.cat_model.specs.declared.types.Record.{Record}
use Rattle.cat_model.specs.declared.types.Row.{Row}
use Rattle.cat_model.specs.declared.types.State.{State}
use Rattle.cat_stored_rows.specs.First.{first}
use Rattle.cat_stored_rows.specs.Stored.{tables, texts_of}
use Rattle.cat_stored_rows.specs.Told.{IsTold}
use Rattle.cat_row_format.specs.declared.row.StoredRow.{StoredRow}
use Rattle.cat_row_reader.specs.Forms.{has_namespace}
use Rattle.cat_row_reader.specs.Read.{AreTextsOf}
use Rattle.cat_row_reader.specs.Standing.{state_of}
use Rattle.cat_row_updates.specs.Told.{IsPlaced}

-- the state as a store has it: every record is due and free, nothing is marked and no document is there
abbrev pub rested : State → State
rested m = record m { records = over text_cmp m.records (λ r x. Some (due_now x)); marks = []; documents = []; token = 1; ticket = 1 }

-- a tree may be given under a reference: the reference is its own, it is at most 100 levels deep, and the keys of each of its maps rise
pub record IsGivable (t : Tree) (r : Ref) : Type 0 where
  pub named : described t ≡ Ok r
  pub shallow : depth_of t ≤ 100
  pub proper : IsProper t

-- a tree is a processed entity of a reference: the reference is its own, it is at most so many levels deep, the keys of each of its maps rise, it states
-- its namespace, and breaks no rule of the descriptor format and no reference field
pub record IsEntity (levels : ℕ) (t : Tree) (r : Ref) : Type 0 where
  pub named : described t ≡ Ok r
  pub shallow : depth_of t ≤ levels
  pub proper : IsProper t
  pub namespace : has_namespace t ≡ true
  pub schema : breaches t ≡ []
  pub references : kind_faults t ≡ []

-- all that is kept has its form: serials of providers that have items are from 1 to 2 ^ 53 - 1, arrival numbers are at least 1, what is offered may stand
-- under its reference, and kept outputs and orphans are processed entities of their references, so deep that the values of their rows are at most 127
-- levels deep
pub record HaveForms (m : State) : Type 0 where
  pub serials : (p : Text) (x : ProviderInputs) → get m.providers p ≡ Some x → (x.items ≡ []) ⊎ ((1 ≤ x.serial) × (x.serial < 2 ^ 53))
  pub shelf : (name body : Text) → get m.shelf name ≡ Some body → IsTrue (is_shelf_name name)
  pub arrivals : (a : ℕ) (row : Row) → row_at m.rows a ≡ Some row → 1 ≤ a
  pub offers : (a : ℕ) (row : Row) → row_at m.rows a ≡ Some row → IsGivable row.offered.tree row.reference
  pub outputs : (r : Ref) (x : Record) (output : Output) → get m.records r ≡ Some x → x.output ≡ Some output → IsEntity 125 output.entity r
  pub orphans : (r : Ref) (x : Orphan) → get m.orphans r ≡ Some x → IsEntity 126 x.entity r

-- a store with the rows of this state opens: the state is sound and in order, its counters are in their bounds, all that it keeps has its form, and its
-- inputs are within the limit
pub record MayOpen (rules : Rules) (limit : ℕ) (m : State) : Type 0 where
  pub sound : Sound rules m
  pub told : IsTold m
  pub placed : IsPlaced m
  pub begun : AreBegun m
  pub small : AreSmall m
  pub formed : HaveForms m
  pub within : rules.bytes m.providers m.shelf ≤ limit

-- these are the rows of a state, in either version
abbrev pub AreRowsOf : State → Rows → Type 0
AreRowsOf m rows = ((rule : OrphanRule) × (rows ≡ tables rule m)) ⊎ (rows ≡ texts_of (first m))

-- these are the rows of no state that opens
abbrev pub AreOfNone : Rules → ℕ → Rows → Type 0
AreOfNone rules limit rows = (m : State) → MayOpen rules limit m → AreRowsOf m rows → ⊥

-- these are the texts of rows that can be stored, and these stand for the state as it is stored
pub record AreReadTo (texts : Rows) (m : State) : Type 0 where
  pub rows : List StoredRow
  pub spelled : AreTextsOf texts rows
  pub state : state_of rows ≡ rested m
