-- What a line of a session is about, and what it reached of what is stored.
use Rattle.std.specs.Prelude.{◌≡◌, List, []}
use Rattle.std.specs.declared.option.Option.{Option}
use Rattle.std.specs.declared.option.Option.TheVariants.{None, Some}
use Rattle.std.specs.Option.{option_map}
use Rattle.cat_session_lines.specs.declared.line.Line.{Line}
use Rattle.cat_session_lines.specs.declared.line.Line.TheVariants as asks
use Rattle.cat_model.specs.Catalogue.{Ref}
use Rattle.cat_model.specs.Given.{given}
use Rattle.cat_model.specs.declared.types.State.{State}
use Rattle.cat_affected.specs.Reach.{given_refs, own_refs, reached}
use Rattle.cat_row_updates.specs.declared.reached.Reached.{Reached}
use Rattle.cat_collections.specs.Table.{Text}
use Rattle.cat_session_model.specs.Session.{order_numbered}
use Rattle.cat_session_model.specs.declared.state.SessionState.{SessionState}
use Rattle.cat_stored_session.specs.declared.about.About.{About}
use Rattle.cat_stored_session.specs.declared.about.About.TheVariants.{Inputs, Shelf, Entity, Nothing, Settle}

-- ---- what a line is about

-- the inputs of a provider are meant, and these references that a mutation of it names
abbrev pub IsInputs : Text → List Ref → About → Type 0
IsInputs p refs (Inputs provider seeds) = (provider ≡ p) × (seeds.items ≡ refs)
IsInputs p refs _ = ⊥

-- the entity of this reference is meant, if there is one
abbrev pub entity_about : Option Ref → About
entity_about (Some r) = Entity r
entity_about None = Nothing

-- this is what a line of a session is about, of what it may change of what is stored
abbrev pub IsAbout : Line → SessionState → About → Type 0
IsAbout (asks.Mutate provider mutation) m x = IsInputs provider (given_refs provider (given provider mutation) m.state) x
IsAbout (asks.ShelfPut name text) m x = x ≡ Shelf name
IsAbout (asks.ShelfDrop name) m x = x ≡ Shelf name
IsAbout (asks.Forget r) m x = x ≡ entity_about (Some r)
IsAbout (asks.Finish token) m x = x ≡ entity_about (option_map (λ order. order.reference) (order_numbered token m.orders))
IsAbout asks.Settle m x = x ≡ Settle
IsAbout _ m x = x ≡ Nothing

-- ---- what was reached

-- the references reached between two states from what a line is about, where they may not be all; those that a settle reached are given, or none are
abbrev pub refs_about : About → Option (List Ref) → State → State → Option (List Ref)
refs_about (Inputs provider seeds) settled m n = Some (reached seeds.items m n)
refs_about (Entity r) settled m n = Some (reached (own_refs r m n) m n)
refs_about Settle settled m n = settled
refs_about _ settled m n = Some []

-- the provider whose inputs a line is about
abbrev pub provider_about : About → Option Text
provider_about (Inputs provider seeds) = Some provider
provider_about _ = None

-- the name on the shelf that a line is about
abbrev pub name_about : About → Option Text
name_about (Shelf name) = Some name
name_about _ = None

-- this is what was reached between two states from what a line is about, given what a settle reached
pub record IsReachedFrom (about : About) (settled : Option (List Ref)) (m n : State) (x : Reached) : Type 0 where
  pub references : refs_about about settled m n ≡ Some x.references.items
  pub provider : x.provider ≡ provider_about about
  pub name : x.name ≡ name_about about

-- what was found is what was reached, and nothing is found only where all may have been reached
abbrev pub IsFound : About → Option (List Ref) → State → State → Option Reached → Type 0
IsFound about settled m n None = refs_about about settled m n ≡ None
IsFound about settled m n (Some x) = IsReachedFrom about settled m n x
