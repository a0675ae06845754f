use Rattle.std.proofs.Common.{[], ap, unwrap_or, ◌∙◌}
use Rattle.cat_collections.specs.Table.{get}
use Rattle.cat_state_parts.specs.Rows.{folded}
use Rattle.cat_search.proofs.Finds.{given}
use Rattle.cat_search.proofs.index.at_key.Goals as goal

pub returns : goal.returns
returns c =
    given c.at_lower.result _ _ (ap (λ k. unwrap_or (get c.args.keyed.now k) []) (c.in_ok-key.ensures ∙ ap folded c.as_str.ensures)) c.at_lower.ensures
