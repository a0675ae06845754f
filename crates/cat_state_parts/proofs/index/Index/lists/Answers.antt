use Rattle.std.proofs.Common.{sym, subst, ◌∙◌}
use Rattle.cat_state_parts.specs.Index.{AreLists}
use Rattle.cat_state_parts.proofs.Waiting.{all_listed}
use Rattle.cat_state_parts.proofs.index.Index.lists.Goals as goal

pub returns-then-is_empty : goal.returns-then-is_empty
returns-then-is_empty c =
    let self = c.self.inside in
    subst (λ m. AreLists m self.lists) c.self.view_is
    (all_listed self.pending self.documents self.listed self.lists c.self.invariant.0 c.self.invariant.1 (sym c.is_empty.ensures ∙ c.if-is_empty.true))
