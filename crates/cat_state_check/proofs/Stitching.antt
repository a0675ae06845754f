-- The documents that links give are those of the catalogue's parts.
use Rattle.std.proofs.Common.{◌≡◌, List, ◌∙◌}
use Rattle.std.specs.Option.{option_map}
use Rattle.cat_collections.specs.Table.{Map, tabulate, text_cmp}
use Rattle.cat_links.specs.Links.{Emitted}
use Rattle.cat_model.specs.Catalogue.{Ref, Rules, Tree, known_refs, parts}
use Rattle.cat_model.specs.declared.types.State.{State}
use Rattle.cat_plan.specs.Linked.{AreLinked, AreRecorded, linked_parts}
use Rattle.cat_plan.proofs.Partly.{parts_are}

pub documents_are : (rules : Rules) (links : Emitted) (m : State) → AreLinked rules links m → AreRecorded m → (all : List Ref) → all ≡ known_refs m → (documents : Map Tree)
    → documents ≡ tabulate text_cmp all (λ r. option_map rules.doc (linked_parts rules links m r)) → documents ≡ tabulate text_cmp (known_refs m) (λ r. option_map rules.doc (parts rules m r))
documents_are rules links m linked recorded all ea documents e = e ∙ (λ i. tabulate text_cmp (ea i) (λ r. option_map rules.doc (parts_are rules links m linked recorded r i)))
