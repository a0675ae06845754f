use Rattle.std.proofs.Common.{map, option_map, arith}
use Rattle.std.proofs.lemmas.List.{length-map}
use Rattle.cat_target.specs.Base.{as_base}
use Rattle.cat_target.specs.Resolve.{name_of}
use Rattle.cat_target.proofs.Laws.{targets-shelf, targets-distinct, targets-length}
use Rattle.cat_target.proofs.target.targets_by_type.Goals as goal

pub returns-clause-on_shelf : goal.returns-clause-on_shelf
returns-clause-on_shelf c =
    targets-shelf c.is_optional.result (option_map as_base c.base_of-base.result) c.args.kind.now (map (λ t. t.now) c.args.texts.now) c.in_ok-names.names.items c.in_ok-found.found.items c.in_ok-names.ensures.ok c.in_ok-found.ensures

pub returns-clause-distinct : goal.returns-clause-distinct
returns-clause-distinct c = targets-distinct c.is_optional.result c.in_ok-names.names.items _ c.in_ok-found.ensures

pub returns-clause-few : goal.returns-clause-few
returns-clause-few c =
    let within = targets-length c.is_optional.result (name_of (option_map as_base c.base_of-base.result) c.args.kind.now) (map (λ t. t.now) c.args.texts.now) c.in_ok-names.names.items c.in_ok-found.found.items c.in_ok-names.ensures.ok c.in_ok-found.ensures in
    omega (arith, within, length-map c.args.texts.now (λ t. t.now))
