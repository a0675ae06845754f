-- What is asked of states whose rows tell them, and what their rows tell.
use Rattle.std.specs.Prelude.{◌≡◌, ◌≤◌, ◌^◌, IsTrue}
use Rattle.std.specs.declared.option.Option.TheVariants.{None, Some}
use Rattle.std.specs.List.{IsDistinct}
use Rattle.cat_types.specs.Names.{is_name}
use Rattle.cat_collections.specs.Table.{Text, get, keys, same_text}
use Rattle.cat_types.specs.declared.work.Output.{Output}
use Rattle.cat_keeper.specs.Store.{Rows}
use Rattle.cat_model.specs.Catalogue.{Ref, Rules}
use Rattle.cat_model.specs.Step.{reopened}
use Rattle.cat_model.specs.declared.types.OrphanRule.{OrphanRule}
use Rattle.cat_model.specs.declared.types.ProviderInputs.{ProviderInputs}
use Rattle.cat_model.specs.declared.types.Record.{Record}
use Rattle.cat_model.specs.declared.types.State.{State}
use Rattle.cat_stored_rows.specs.First.{first}
use Rattle.cat_stored_rows.specs.Stored.{stored, tables, texts_of}
use Rattle.cat_stored_rows.specs.Told.{IsTold}

-- Each row has a place of its own: providers have names, arrival numbers have 64 bits, and no kept output offers a reference twice.
pub record IsPlaced (m : State) : Type 0 where
  pub names : (p : Text) (x : ProviderInputs) → get m.providers p ≡ Some x → IsTrue (is_name p)
  pub small : m.arrival ≤ 2 ^ 64
  pub once : (r : Ref) (x : Record) (output : Output) → get m.records r ≡ Some x → x.output ≡ Some output → IsDistinct same_text (keys output.offers)

-- the rows of two states, each under its rule for orphans, have the same texts
abbrev pub HaveSameTexts : OrphanRule → State → OrphanRule → State → Type 0
HaveSameTexts rule m other n = texts_of (stored rule m) ≡ texts_of (stored other n)

-- the rows of two states in the first version have the same texts
abbrev pub HaveSameFirstTexts : State → State → Type 0
HaveSameFirstTexts m n = texts_of (first m) ≡ texts_of (first n)

-- opened again, a state stays as it is
abbrev pub IsReopened : Rules → State → Type 0
IsReopened rules m = reopened rules m ≡ m

-- each record is due at once and free
abbrev pub AreDue : State → Type 0
AreDue m = (r : Ref) (x : Record) → get m.records r ≡ Some x → (x.due ≡ 0) × (x.lease ≡ None)

-- A store with these rows opens as this state: where they are the rows of a state that they tell, in either version, it is what that state opens again as.
abbrev pub OpensAs : Rules → Rows → State → Type 0
OpensAs rules rows n = (m : State) → IsTold m → IsPlaced m → ((rule : OrphanRule) → rows ≡ tables rule m → n ≡ reopened rules m) × (rows ≡ texts_of (first m) → n ≡ reopened rules m)
