use Rattle.std.proofs.Common.{not, sym, ap, subst, ◌∙◌}
use Rattle.std.specs.List.{filter}
use Rattle.std.specs.List.Sorted.{IsStrictlySortedBy}
use Rattle.std.proofs.lemmas.List.Elements.{filter_agree}
use Rattle.cat_types.specs.Relation.{relation_cmp}
use Rattle.cat_collections.specs.Order.{in_order}
use Rattle.cat_links.specs.Links.{has}
use Rattle.cat_collections.proofs.Orders.{has-in_order, in_order-rises}
use Rattle.cat_types.specs.Relations.{relation_total, relation_antisymmetric}
use Rattle.cat_links.proofs.moved.difference.Goals as goal

pub not_among-requires : goal.not_among-requires
not_among-requires c = subst (IsStrictlySortedBy relation_cmp) (sym (c.as_slice-2.ensures.value ∙ c.in_ok-before.ensures)) (in_order-rises relation_total relation_antisymmetric c.args.before.now)

pub not_among-requires-2 : goal.not_among-requires-2
not_among-requires-2 c = subst (IsStrictlySortedBy relation_cmp) (sym (c.as_slice-4.ensures.value ∙ c.in_ok-after.ensures)) (in_order-rises relation_total relation_antisymmetric c.args.after.now)

pub returns-clause-come : goal.returns-clause-come
returns-clause-come c =
    let xs = c.args.after.now in
    let ys = c.args.before.now in
    c.in_ok-come.ensures
    ∙ ((λ i. filter (λ x. not (has x ((c.as_slice-2.ensures.value ∙ c.in_ok-before.ensures) i))) ((c.as_slice.ensures.value ∙ c.in_ok-after.ensures) i))
    ∙ filter_agree (λ x. not (has x (in_order relation_cmp ys))) (λ x. not (has x ys)) (λ x. ap not (has-in_order relation_total relation_antisymmetric x ys)) (in_order relation_cmp xs))

pub returns-clause-gone : goal.returns-clause-gone
returns-clause-gone c =
    let xs = c.args.before.now in
    let ys = c.args.after.now in
    c.in_ok-gone.ensures
    ∙ ((λ i. filter (λ x. not (has x ((c.as_slice-4.ensures.value ∙ c.in_ok-after.ensures) i))) ((c.as_slice-3.ensures.value ∙ c.in_ok-before.ensures) i))
    ∙ filter_agree (λ x. not (has x (in_order relation_cmp ys))) (λ x. not (has x ys)) (λ x. ap not (has-in_order relation_total relation_antisymmetric x ys)) (in_order relation_cmp xs))
