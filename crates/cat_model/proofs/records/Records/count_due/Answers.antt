use Rattle.std.proofs.Common.{ap, ◌∙◌, length}
use Rattle.std.specs.declared.option.Option.TheVariants.{Some}
use Rattle.std.specs.List.{filter}
use Rattle.cat_collections.specs.Table.{Map}
use Rattle.cat_model.specs.Dues.{is_due}
use Rattle.cat_model.specs.declared.types.Record.{Record}
use Rattle.cat_model.proofs.Counted.{count_is}
use Rattle.cat_model.proofs.records.Records.count_due.Goals as goal

pub returns : goal.returns
returns c =
    c.count_until.ensures
    ∙ (count_is c.args.now c.self.inside.entries c.self.inside.dues c.in_order.ensures c.in_order-2.ensures c.self.invariant.0
    ∙ ap (λ (m : Map Record). length (filter (λ e. is_due c.args.now (Some e.1)) m)) c.self.view_is)
