-- What a good result gives has its form.
use Rattle.std.proofs.Common.{◌≡◌, ◌==◌, Bool, true, false, List, [], ◌∷◌, map, length, if◌then◌else◌, Some, refl, subst}
use Rattle.std.specs.List.{AllByRecursion}
use Rattle.cat_tree.specs.Data.{Data}
use Rattle.cat_collections.specs.Table.{Text, Map, get}
use Rattle.cat_types.specs.declared.input.Offered.{Offered}
use Rattle.cat_types.specs.declared.issue.Issue.{Issue}
use Rattle.cat_types.specs.declared.work.Output.{Output}
use Rattle.cat_types.specs.declared.work.Outcome.{Outcome}
use Rattle.cat_types.specs.declared.work.Outcome.TheVariants.{Good, Bad}
use Rattle.cat_types.specs.declared.work.Work.{Work}
use Rattle.cat_schema.specs.Rules.{breaches}
use Rattle.cat_kinds.specs.Kinds.{kind_faults}
use Rattle.cat_process.specs.Offers.{all_offers}
use Rattle.cat_process.specs.Process.{contents_of, work_on, schema_issue, schema_issues, reference_issue, reference_issues, target_issues, bad_or, good, from_contents, entity_of, result_of}
use Rattle.cat_process.proofs.Cases.{result_is_good, offers_are}
use Rattle.cat_layers.specs.Forms.{IsOffer, IsProcessed, is_item, is_entity}
use Rattle.cat_layers.proofs.Entities.{entity_is_processed}
use Rattle.cat_layers.proofs.Forms.{none_is, offer_is, offer_holds, entity_holds}
use Rattle.cat_layers.proofs.Offers.{MayStand, all_stand, firsts_stand, found_stands}

-- no issue came before a good result
record IsClear (issues : List Issue) (next : Outcome) (output : Output) (warnings : List Issue) : Type 0 where
  none : issues ≡ []
  rest : next ≡ Good output warnings

clear : (issues : List Issue) (next : Outcome) (output : Output) (warnings : List Issue) → bad_or issues next ≡ Good output warnings → IsClear issues next output warnings
clear issues next output warnings h = pick (length issues == 0) refl h
  where
    pick : (b : Bool) → (length issues == 0) ≡ b → (if b then next else Bad issues) ≡ Good output warnings → IsClear issues next output warnings
    pick true e k = record { none = none_is issues e; rest = k }
    pick false e k = cc

none_mapped : {A B : Type 0} (f : A → B) (xs : List A) → map f xs ≡ [] → xs ≡ []
none_mapped f [] e = refl
none_mapped f (x ∷ xs) e = cc

-- an entity with a good result breaks neither rules nor reference fields
record IsFaultless (d : Data) : Type 0 where
  schema : breaches d ≡ []
  references : kind_faults d ≡ []

faultless : (w : Work) (output : Output) (warnings : List Issue) → result_of w ≡ Good output warnings → IsFaultless w.tree
unfolding result_of schema_issues reference_issues
faultless w output warnings h =
    let first = clear (schema_issues w.tree) (bad_or (reference_issues w.tree) (bad_or (target_issues w.tree) (from_contents w.tree w.contents))) output warnings h in
    let second = clear (reference_issues w.tree) (bad_or (target_issues w.tree) (from_contents w.tree w.contents)) output warnings first.rest in
    record { schema = none_mapped schema_issue (breaches w.tree) first.none; references = none_mapped reference_issue (kind_faults w.tree) second.none }

entity_was : (w : Work) (output : Output) (warnings : List Issue) → result_of w ≡ Good output warnings → entity_of w.tree ≡ output.entity
entity_was w output warnings h =
    let e : good w.tree (all_offers w.tree w.contents) ≡ Good output warnings = result_is_good w output warnings h in
    cc

pub gives_processed : (shelf : Map Text) (x : Offered) (r : Text) (output : Output) (warnings : List Issue) → IsOffer x r → result_of (work_on x.tree shelf) ≡ Good output warnings → IsProcessed output.entity r
gives_processed shelf x r output warnings h g =
    let none = faultless (work_on x.tree shelf) output warnings g in
    subst (λ t. IsProcessed t r) (entity_was (work_on x.tree shelf) output warnings g) (entity_is_processed x.tree r h.named h.within none.schema none.references)

pub gives_offers : (shelf : Map Text) (tree : Data) (output : Output) (warnings : List Issue) → result_of (work_on tree shelf) ≡ Good output warnings → (q : Text) (y : Offered) → get output.offers q ≡ Some y → IsOffer y q
gives_offers shelf tree output warnings g q y e =
    found_stands output.offers
    (subst (λ es. AllByRecursion MayStand es) (offers_are (work_on tree shelf) output warnings g) (firsts_stand [] (all_offers tree (contents_of tree shelf)) (all_stand tree shelf))) q y e

-- ---- the same of the tests

pub item_gives_entity : (shelf : Map Text) (x : Offered) (r : Text) (output : Output) (warnings : List Issue) → is_item x r ≡ true → result_of (work_on x.tree shelf) ≡ Good output warnings → is_entity output.entity r ≡ true
item_gives_entity shelf x r output warnings h g =
    entity_holds output.entity r (gives_processed shelf x r output warnings (offer_is x r h) g)

pub item_gives_items : (shelf : Map Text) (x : Offered) (r : Text) (output : Output) (warnings : List Issue) → is_item x r ≡ true → result_of (work_on x.tree shelf) ≡ Good output warnings → (q : Text) (y : Offered) → get output.offers q ≡ Some y → is_item y q ≡ true
item_gives_items shelf x r output warnings h g q y e = offer_holds y q (gives_offers shelf x.tree output warnings g q y e)
