-- What holds of each tree, name and serial that the catalogue keeps.
use Rattle.std.specs.Prelude.{◌≡◌, ⊤, ℕ, ◌≤◌, ◌<◌, ◌^◌, Bool, true, T, List, [], ◌∷◌}
use Rattle.std.specs.declared.option.Option.TheVariants.{Some}
use Rattle.std.specs.FinMap.Entries.{is_sorted}
use Rattle.cat_types.specs.declared.work.Outcome.TheVariants.{Good}
use Rattle.cat_collections.specs.Table.{Text, text_cmp, get}
use Rattle.cat_model.specs.Catalogue.{Ref, Tree, Issues, Shelf, Offered, Output, Rules, Row, ProviderInputs, Record, Orphan, Parts, State, Work, row_at, work_of, work_with}
use Rattle.cat_model.specs.Step.{Given, Event}
use Rattle.cat_model.specs.Step.Event.{Mutate, ShelfPut}

-- what the lower layers say of single offers, entities and names
pub record FormRules (rules : Rules) : Type 0 where
  -- whether an offer may stand under a reference: its tree is of the reference and not too deep, and its key has a key's form
  pub is_item : Offered → Ref → Bool
  -- whether a tree is a processed entity of a reference
  pub is_entity : Tree → Ref → Bool
  pub is_provider : Text → Bool
  pub is_shelf_name : Text → Bool
  -- a good result of an offer has an entity of its reference, and offers that may stand under theirs
  pub gives_entity : (shelf : Shelf) (x : Offered) (r : Ref) (output : Output) (issues : Issues) → is_item x r ≡ true → rules.result (work_with rules.contents shelf x.tree) ≡ Good output issues → is_entity output.entity r ≡ true
  pub gives_items : (shelf : Shelf) (x : Offered) (r : Ref) (output : Output) (issues : Issues) → is_item x r ≡ true → rules.result (work_with rules.contents shelf x.tree) ≡ Good output issues
      → (q : Ref) (y : Offered) → get output.offers q ≡ Some y → is_item y q ≡ true

-- a provider has a provider's name, a serial of 1 to 2 ^ 53 - 1, and items that may stand under their references
pub record IsSource {rules : Rules} (form : FormRules rules) (p : Text) (x : ProviderInputs) : Type 0 where
  pub name : form.is_provider p ≡ true
  pub begun : 1 ≤ x.serial
  pub small : x.serial < 2 ^ 53
  pub items : (r : Ref) (y : Offered) → get x.items r ≡ Some y → form.is_item y r ≡ true
  pub in_order : T (is_sorted text_cmp x.items)

-- a kept output has an entity of its reference, and offers that may stand under theirs
pub record IsKept {rules : Rules} (form : FormRules rules) (r : Ref) (output : Output) : Type 0 where
  pub entity : form.is_entity output.entity r ≡ true
  pub offers : (q : Ref) (y : Offered) → get output.offers q ≡ Some y → form.is_item y q ≡ true

-- all that is kept has its form, arrivals are at least 1, and the tables are in order
pub record Formed {rules : Rules} (form : FormRules rules) (m : State) : Type 0 where
  pub begun : 1 ≤ m.arrival
  pub arrivals : (a : ℕ) (row : Row) → row_at m.rows a ≡ Some row → 1 ≤ a
  pub providers : (p : Text) (x : ProviderInputs) → get m.providers p ≡ Some x → IsSource form p x
  pub shelf : (name text : Text) → get m.shelf name ≡ Some text → form.is_shelf_name name ≡ true
  pub outputs : (r : Ref) (x : Record) (output : Output) → get m.records r ≡ Some x → x.output ≡ Some output → IsKept form r output
  pub orphans : (r : Ref) (x : Orphan) → get m.orphans r ≡ Some x → form.is_entity x.entity r ≡ true
  pub providers_in_order : T (is_sorted text_cmp m.providers)
  pub shelf_in_order : T (is_sorted text_cmp m.shelf)
  pub orphans_in_order : T (is_sorted text_cmp m.orphans)
  pub marks_in_order : T (is_sorted text_cmp m.marks)
  pub documents_in_order : T (is_sorted text_cmp m.documents)

-- a mutation of a provider has a provider's name, a serial of 1 to 2 ^ 53 - 1, and items that may stand under their references
pub record IsFormedGiven {rules : Rules} (form : FormRules rules) (p : Text) (x : Given) : Type 0 where
  pub name : form.is_provider p ≡ true
  pub begun : 1 ≤ x.serial
  pub small : x.serial < 2 ^ 53
  pub items : (r : Ref) (y : Offered) → get x.items r ≡ Some y → form.is_item y r ≡ true

-- an event gives what has its form
abbrev pub IsFormedEvent : {rules : Rules} → FormRules rules → Event → Type 0
IsFormedEvent form (Mutate p x) = IsFormedGiven form p x
IsFormedEvent form (ShelfPut name text) = form.is_shelf_name name ≡ true
IsFormedEvent form e = ⊤

-- each of these events gives what has its form
abbrev pub AreFormedEvents : {rules : Rules} → FormRules rules → List Event → Type 0
AreFormedEvents form [] = ⊤
AreFormedEvents form (e ∷ es) = IsFormedEvent form e × AreFormedEvents form es

-- a work is that of an offer that may stand under r
pub record IsWorkOf {rules : Rules} (form : FormRules rules) (m : State) (r : Ref) (w : Work) : Type 0 where
  pub offer : Offered
  pub is : form.is_item offer r ≡ true
  pub work : w ≡ work_of rules m.shelf offer.tree

-- the parts of r have a processed entity of r, and a number below 2 ^ 59
pub record IsPartsOf {rules : Rules} (form : FormRules rules) (r : Ref) (p : Parts) : Type 0 where
  pub entity : form.is_entity p.entity r ≡ true
  pub number : p.number < 2 ^ 59
