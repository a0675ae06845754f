use Rattle.std.proofs.Common.{ap, subst, sym, ◌∙◌, ◌++◌}
use Rattle.std.specs.List.Sorted.{IsStrictlySortedBy}
use Rattle.std.proofs.lemmas.Result.{IfOk-weaker}
use Rattle.cat_collections.specs.Order.{in_order}
use Rattle.cat_collections.specs.Table.{tabulate}
use Rattle.cat_collections.proofs.Orders.{in_order-rises}
use Rattle.cat_plan.proofs.Rising.{tabulate-in_order}
use Rattle.cat_plan.proofs.build.out_of_turn.Goals as goal

pub in_turn-requires : goal.in_turn-requires
in_turn-requires g c =
    subst (IsStrictlySortedBy g.K.Key.order) (sym (c.as_slice.ensures.value ∙ (c.in_order-sorted.ensures ∙ ap (in_order g.K.Key.order) (c.in_ok-append.ensures ∙ ap (λ l. l ++ c.args.keys.now) c.new-copies.ensures.items)))) (in_order-rises g.met.K.Key.total g.met.K.Key.apart c.args.keys.now)

pub returns : goal.returns
returns g c =
    let f = g.F.Gives.gives c.args.f.now in
    IfOk-weaker c.in_turn.result _ _
    (λ t e. e ∙ (ap (λ ks. tabulate g.K.Key.order ks f) (c.as_slice.ensures.value ∙ (c.in_order-sorted.ensures ∙ ap (in_order g.K.Key.order) (c.in_ok-append.ensures ∙ ap (λ l. l ++ c.args.keys.now) c.new-copies.ensures.items))) ∙ tabulate-in_order g.met.K.Key.total g.met.K.Key.apart c.args.keys.now f))
    c.in_turn.ensures
