use Rattle.std.proofs.Common.{◌∙◌}
use Rattle.cat_links.specs.Changes.{with_changes}
use Rattle.cat_state_check.proofs.Linking.{linked_from_nothing}
use Rattle.cat_state_check.proofs.links.links_of.Goals as goal

pub returns : goal.returns
returns g c =
    linked_from_nothing g.L.Layers.rules c.args.m.now c.apply.new.self c.in_ok-changes.changes.items
    (c.apply.ensures ∙ (c.in_ok-plan.ensures.after ∙ (λ i. with_changes (c.empty-links.ensures i) (c.as_slice.ensures.value i))))
    c.in_ok-changes.ensures
