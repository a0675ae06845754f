use Rattle.std.proofs.Common.{◌≡◌, true, false, map, ap, sym, ◌∙◌}
use Rattle.cat_tree.specs.Data.{items_of}
use Rattle.cat_tree.specs.View.{data_of}
use Rattle.cat_yaml.specs.Narrow.{are_narrow}
use Rattle.cat_yaml.proofs.Narrowness.{items_narrow, items_wide}
use Rattle.cat_yaml.proofs.Proper.{documents_proper}
use Rattle.cat_yaml.proofs.read.read_yaml.Goals as goal

pub returns-then-are_narrow-clause-narrow : goal.returns-then-are_narrow-clause-narrow
returns-then-are_narrow-clause-narrow c =
    let ds = items_of (map data_of c.in-Ok.found.items) in
    let e : are_narrow ds ≡ true = ap (λ ts. are_narrow (items_of (map data_of ts))) (sym c.as_slice.ensures.value) ∙ (sym c.are_narrow.ensures ∙ c.if-are_narrow.true) in
    items_narrow ds e

pub returns-else-are_narrow-clause-fraction : goal.returns-else-are_narrow-clause-fraction
returns-else-are_narrow-clause-fraction c =
    let ds = map data_of c.in-Ok.found.items in
    let e : are_narrow (items_of ds) ≡ false = ap (λ ts. are_narrow (items_of (map data_of ts))) (sym c.as_slice.ensures.value) ∙ (sym c.are_narrow.ensures ∙ c.if-are_narrow.false) in
    λ _. (ds, c.in-Ok.ensures.ok, items_wide (items_of ds) e)

pub returns-then-are_narrow-clause-rising : goal.returns-then-are_narrow-clause-rising
returns-then-are_narrow-clause-rising c =
    documents_proper c.args.bytes.now (map data_of c.in-Ok.found.items) c.in-Ok.ensures.ok
