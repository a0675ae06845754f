-- What a deed reached of what is stored.
use Rattle.std.specs.Prelude.{◌≡◌, List, []}
use Rattle.std.specs.declared.option.Option.{Option}
use Rattle.std.specs.declared.option.Option.TheVariants.{None, Some}
use Rattle.cat_desk.specs.Deed.{Deed}
use Rattle.cat_desk.specs.Deed.Deed.{Mutate, ShelfPut, ShelfDrop, Forget, ForgetNumber, Finish, Settle}
use Rattle.cat_model.specs.Catalogue.{Ref}
use Rattle.cat_model.specs.Step.{ref_at}
use Rattle.cat_model.specs.declared.types.State.{State}
use Rattle.cat_affected.specs.Reach.{given_refs, own_refs, reached}
use Rattle.cat_row_updates.specs.declared.reached.Reached.{Reached}
use Rattle.cat_collections.specs.Table.{Text}

-- what was reached from a reference, if there is one
abbrev pub refs_from : Option Ref → State → State → List Ref
refs_from None m n = []
refs_from (Some r) m n = reached (own_refs r m n) m n

-- the references that a deed reached between two states; those of a settle are the ones that were gathered as it went on, and it may have reached all
-- where none were
abbrev pub refs_reached : Deed → Option (List Ref) → State → State → Option (List Ref)
refs_reached (Mutate provider x) settled m n = Some (reached (given_refs provider x m) m n)
refs_reached (Forget r) settled m n = Some (refs_from (Some r) m n)
refs_reached (ForgetNumber number) settled m n = Some (refs_from (ref_at m number) m n)
refs_reached (Finish order) settled m n = Some (refs_from (Some order.reference) m n)
refs_reached Settle settled m n = settled
refs_reached d settled m n = Some []

-- the provider whose inputs a deed may change
abbrev pub provider_reached : Deed → Option Text
provider_reached (Mutate provider x) = Some provider
provider_reached d = None

-- the text of the shelf that a deed may change
abbrev pub text_reached : Deed → Option Text
text_reached (ShelfPut name text) = Some name
text_reached (ShelfDrop name) = Some name
text_reached d = None

-- this is what a deed reached, where these references of a settle were gathered
pub record IsReached (d : Deed) (settled : Option (List Ref)) (m n : State) (x : Reached) : Type 0 where
  pub references : refs_reached d settled m n ≡ Some x.references.items
  pub provider : x.provider ≡ provider_reached d
  pub name : x.name ≡ text_reached d

-- what was found is what a deed reached, and nothing is found only of a settle of which no references were gathered
abbrev pub IsFound : Deed → Option (List Ref) → State → State → Option Reached → Type 0
IsFound d settled m n None = refs_reached d settled m n ≡ None
IsFound d settled m n (Some x) = IsReached d settled m n x
