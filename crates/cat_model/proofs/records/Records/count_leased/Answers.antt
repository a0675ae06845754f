use Rattle.std.proofs.Common.{◌≤◌, ◌-◌, ap, sym, subst, ◌∙◌, length}
use Rattle.std.specs.declared.option.Option.TheVariants.{Some}
use Rattle.std.specs.List.{filter}
use Rattle.cat_collections.specs.Table.{Map}
use Rattle.cat_model.specs.Dues.{is_leased, refs_until}
use Rattle.cat_model.specs.declared.types.Record.{Record}
use Rattle.cat_model.proofs.Counted.{lapsed_most, leased_is}
use Rattle.cat_model.proofs.records.Records.count_leased.Goals as goal

pub overflow_sub-result : goal.overflow_sub-result
overflow_sub-result c =
    let most = lapsed_most c.args.now c.self.inside.entries c.self.inside.lapses c.in_order.ensures c.in_order-2.ensures c.self.invariant.1 in
    subst (λ n. n ≤ c.len.result) (sym c.count_until-lapsed.ensures) (subst (λ n. length (refs_until c.args.now c.self.inside.lapses) ≤ n) (sym c.len.ensures.entries) most)

pub returns : goal.returns
returns c =
    (λ i. c.len.ensures.entries i - c.count_until-lapsed.ensures i)
    ∙ (leased_is c.args.now c.self.inside.entries c.self.inside.lapses c.in_order.ensures c.in_order-2.ensures c.self.invariant.1
    ∙ ap (λ (m : Map Record). length (filter (λ e. is_leased c.args.now (Some e.1)) m)) c.self.view_is)
