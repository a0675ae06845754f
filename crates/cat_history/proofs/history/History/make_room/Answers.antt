use Rattle.std.proofs.Common.{◌≡◌, ◌+◌, ◌<◌, ◌≤◌, ℕ, List, length, map, sum, ap, sym, ◌∙◌, arith}
use Rattle.std.proofs.lemmas.List.{length-map}
use Rattle.cat_history.specs.Kept.{leaving}
use Rattle.cat_history.proofs.Kept.{leaving-none, leaving-one}
use Rattle.cat_history.proofs.history.History.make_room.Goals as goal

pub returns-clause-gone : goal.returns-clause-gone
returns-clause-gone g c =
    let h = c.loop-self.invariant in let now = c.loop-self.self in
    let ws : List ℕ = map (λ k. k.weight) now.kept.items in
    let few : length ws < c.args.self.now.limits.entries = rw (length-map now.kept.items (λ k. k.weight), ← h.limits) (omega (arith, c.len.ensures, now.kept.ok)) in
    let light : sum ws + c.args.weight ≤ c.args.self.now.limits.weight = rw (← now.weighed, ← h.limits) (omega (arith, now.light, c.if-self-weight.false)) in
    let none : leaving c.args.self.now.limits.entries c.args.self.now.limits.weight c.args.weight ws ≡ 0 = leaving-none _ _ _ ws few light in
    omega (arith, h.gone, none)
