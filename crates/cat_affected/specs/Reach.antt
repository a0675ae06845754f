-- How far an event reaches: which references it can change in what a store keeps of a state.
use Rattle.std.specs.Prelude.{◌≡◌, ℕ, Bool, true, false, cond, List, ◌∷◌, ◌++◌, length, is_none}
use Rattle.std.specs.declared.option.Option.{Option}
use Rattle.std.specs.declared.option.Option.TheVariants.{None, Some}
use Rattle.std.specs.Option.{option_map}
use Rattle.std.specs.List.{filter, filter_map, flat_map, list_any}
use Rattle.cat_collections.specs.Table.{Text, same_text, get, keys}
use Rattle.cat_model.specs.Catalogue.{Ref, Rows, row_at, due_now}
use Rattle.cat_model.specs.Rows.{given}
use Rattle.cat_model.specs.Step.{Event, source_at}
use Rattle.cat_model.specs.Step.Event.{Mutate, ShelfPut, ShelfDrop}
use Rattle.cat_model.specs.declared.types.Given.{Given}
use Rattle.cat_model.specs.declared.types.Origin.{Origin}
use Rattle.cat_model.specs.declared.types.Origin.TheVariants.{Entity}
use Rattle.cat_model.specs.declared.types.Row.{Row}
use Rattle.cat_model.specs.declared.types.State.{State}
use Rattle.cat_model.specs.Mend.{below, gone}

-- ---- what a store keeps

-- whether a reference is one of these
abbrev pub has : Ref → List Ref → Bool
has r refs = list_any (same_text r) refs

-- outside of these references two states have the same rows, holders, records and orphans; due moments and leases, which no store
-- keeps, don't count
pub record AreSameBeyond (refs : List Ref) (m n : State) : Type 0 where
  pub rows : (a : ℕ) (row : Row) → row_at m.rows a ≡ Some row → has row.reference refs ≡ false → row_at n.rows a ≡ Some row
  pub none_new : (a : ℕ) (row : Row) → row_at n.rows a ≡ Some row → has row.reference refs ≡ false → row_at m.rows a ≡ Some row
  pub holders : (r : Ref) → has r refs ≡ false → get n.holders r ≡ get m.holders r
  pub records : (r : Ref) → has r refs ≡ false → option_map due_now (get n.records r) ≡ option_map due_now (get m.records r)
  pub orphans : (r : Ref) → has r refs ≡ false → get n.orphans r ≡ get m.orphans r

-- all inputs are the same
pub record AreSameInputs (m n : State) : Type 0 where
  pub providers : n.providers ≡ m.providers
  pub shelf : n.shelf ≡ m.shelf

-- all inputs are the same but what this provider gave
pub record AreSameProvidersBut (p : Text) (m n : State) : Type 0 where
  pub providers : (q : Text) → same_text q p ≡ false → get n.providers q ≡ get m.providers q
  pub shelf : n.shelf ≡ m.shelf

-- all inputs are the same but the shelf's text of this name
pub record AreSameTextsBut (name : Text) (m n : State) : Type 0 where
  pub providers : n.providers ≡ m.providers
  pub shelf : (t : Text) → same_text t name ≡ false → get n.shelf t ≡ get m.shelf t

-- whether an event gives an input
abbrev pub gives_input : Event → Bool
gives_input (Mutate p x) = true
gives_input (ShelfPut name text) = true
gives_input (ShelfDrop name) = true
gives_input e = false

-- ---- what an event is about

-- the references of the rows of an origin
abbrev pub refs_given : Rows → Origin → List Ref
refs_given rows o = filter_map (λ a. option_map (λ row. row.reference) (row_at rows a)) (given rows o)

-- the references that a mutation names: those of its items and of what it takes away
abbrev pub given_refs : Text → Given → State → List Ref
given_refs p x m = keys x.items ++ cond x.full (keys (source_at (get m.providers p)).items) x.removed

-- a reference, and those of the rows that it gives before and after
abbrev pub own_refs : Ref → State → State → List Ref
own_refs r m n = r ∷ (refs_given m.rows (Entity r) ++ refs_given n.rows (Entity r))

-- ---- what it reaches from there

-- whether there was a row and is none
abbrev pub is_lost : Rows → Option ℕ → Bool
is_lost rows None = false
is_lost rows (Some a) = is_none (row_at rows a)

-- whether the row that held r in m is gone in n
abbrev pub has_lost : State → State → Ref → Bool
has_lost m n r = is_lost n.rows (get m.holders r)

-- those of the seeds that have lost the row that held them, and all that hung below them
abbrev pub cut : State → State → List Ref → List Ref
cut m n seeds = below (length m.holders) m.rows m.holders (filter (has_lost m n) seeds)

-- the seeds, what is cut off, and what those of them gave that aren't held again
abbrev pub reached : List Ref → State → State → List Ref
reached seeds m n = seeds ++ (cut m n seeds ++ flat_map (λ e. refs_given m.rows (Entity e)) (gone (cut m n seeds) n.holders))
