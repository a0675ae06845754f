use Rattle.std.proofs.Common.{◌≡◌, ◌∷◌, ◌++◌, ◌+◌, ◌-◌, ◌∙◌, [], ap, subst, sym, drop, length, arith}
use Rattle.std.specs.Arc.{arc_value}
use Rattle.cat_collections.specs.Left.{step_left}
use Rattle.cat_collections.proofs.Steps.{opened_is, size_is, step_before, step_here, step_after, step_none}
use Rattle.cat_collections.proofs.tree.Tree.+step.Goals as goal

pub returns-then-place-before-clause-items : goal.returns-then-place-before-clause-items
returns-then-place-before-clause-items g t c =
    let d = c.deref-fork.result.now in
    let all = opened_is c.self.view_is c.in-Fork.is c.deref-fork.ensures in
    subst (λ l. step_left l c.step.result ≡ drop c.args.place l) (sym all)
    (step_before d.left (arc_value d.item) d.right c.args.place c.step.result (omega (arith, c.if-place-before.true, c.len-before.ensures.items)) c.step.ensures.items c.step.ensures.behind)

pub returns-then-place-before-2-clause-items : goal.returns-then-place-before-2-clause-items
returns-then-place-before-2-clause-items g t c =
    let d = c.deref-fork.result.now in
    let all = opened_is c.self.view_is c.in-Fork.is c.deref-fork.ensures in
    let size = size_is c.self.view_is c.in-Fork.is c.deref-fork.ensures c.self.invariant in
    ap (λ x. x ∷ (drop d.size c.args.self.now ++ drop (c.len-before.result + 1) c.args.self.now)) c.deref.ensures
    ∙ (ap (λ k. arc_value d.item ∷ (drop d.size c.args.self.now ++ drop (k + 1) c.args.self.now)) (sym c.if-place-before-2.true)
    ∙ subst (λ l. arc_value d.item ∷ (drop d.size l ++ drop (c.args.place + 1) l) ≡ drop c.args.place l) (sym all)
    (step_here d.left (arc_value d.item) d.right c.args.place d.size (c.if-place-before-2.true ∙ c.len-before.ensures.items) (omega (arith, size, ap length all))))

pub returns-in-None-clause-items : goal.returns-in-None-clause-items
returns-in-None-clause-items g t c =
    let d = c.deref-fork.result.now in
    let all = opened_is c.self.view_is c.in-Fork.is c.deref-fork.ensures in
    let left = subst (λ k. [] ≡ drop (c.args.place - k - 1) d.right) c.len-before.ensures.items (sym (ap (step_left d.right) c.in-None.is) ∙ c.step-in-Fork.ensures.items) in
    subst (λ l. [] ≡ drop c.args.place l) (sym all)
    (step_none d.left (arc_value d.item) d.right c.args.place (omega (arith, c.if-place-before.false, c.if-place-before-2.false, c.len-before.ensures.items)) left)

pub returns-in-Some-clause-items : goal.returns-in-Some-clause-items
returns-in-Some-clause-items g t c =
    let d = c.deref-fork.result.now in
    let s = c.in-Some.step in
    let all = opened_is c.self.view_is c.in-Fork.is c.deref-fork.ensures in
    let left = subst (λ k. s.item.now ∷ (drop s.place s.part.now ++ drop s.behind d.right) ≡ drop (c.args.place - k - 1) d.right) c.len-before.ensures.items
    (sym (ap (step_left d.right) c.in-Some.is) ∙ c.step-in-Fork.ensures.items) in
    subst (λ l. s.item.now ∷ (drop s.place s.part.now ++ drop (c.len-before.result + 1 + s.behind) l) ≡ drop c.args.place l) (sym all)
    (step_after d.left (arc_value d.item) d.right c.args.place s.behind (c.len-before.result + 1 + s.behind) s.item.now (drop s.place s.part.now)
    (omega (arith, c.if-place-before.false, c.if-place-before-2.false, c.len-before.ensures.items)) (omega (arith, c.len-before.ensures.items)) left)
