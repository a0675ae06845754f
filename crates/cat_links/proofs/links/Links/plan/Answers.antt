use Rattle.std.proofs.Common.{◌≡◌, List, sym, subst, ◌∙◌}
use Rattle.std.specs.List.{filter}
use Rattle.cat_collections.specs.Table.{Text, text_cmp}
use Rattle.cat_collections.specs.Order.{in_order}
use Rattle.cat_collections.proofs.Placed.{to_T}
use Rattle.cat_links.specs.Links.{Emitted, comes_or_goes, sources}
use Rattle.cat_links.specs.Changes.{AreChanged, touched, with_changes}
use Rattle.cat_links.proofs.Changed.{are_changed}
use Rattle.cat_links.proofs.links.Links.plan.Goals as goal

pub returns-clause-changed : goal.returns-clause-changed
returns-clause-changed c =
    let m : Emitted = c.args.self.now in
    let cs = c.args.changes.now in
    let after : c.in_ok-after.after ≡ with_changes m cs = c.in_ok-after.ensures.links in
    let is : c.in_ok-changed.changed ≡ in_order text_cmp (sources (filter (comes_or_goes m (with_changes m cs)) (touched m cs))) =
    c.in_ok-changed.ensures ∙ (λ i. in_order text_cmp (sources (filter (comes_or_goes m (after i)) ((c.as_slice.ensures.value ∙ c.in_ok-after.ensures.relations) i)))) in
    subst (λ (p : List Text). AreChanged m c.in_ok-after.after p) (sym is)
    (subst (λ (n : Emitted). AreChanged m n (in_order text_cmp (sources (filter (comes_or_goes m (with_changes m cs)) (touched m cs))))) (sym after) (are_changed m cs (to_T _ c.in_order.ensures)))
