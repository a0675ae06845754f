use Rattle.std.proofs.Common.{◌≡◌, ◌+◌, ◌-◌, ◌<◌, arith, length, ap, ◌∙◌, rules, get_or, Less}
use Rattle.cat_plan.proofs.Rising.{rise_at, rise_last}
use Rattle.cat_plan.proofs.build.rise.Goals as goal

pub loop-place-preserved : goal.loop-place-preserved
loop-place-preserved g c =
    let i = c.loop-place.invariant.0 in
    let keys = c.args.keys.now in
    let x = c.index-keys-place.result in
    let y = c.index-keys-place-in-loop-place.result in
    let at : c.loop-place.place ≡ i + 1 = c.loop-place.invariant.1 in
    let within : i + 1 < length keys = omega arith in
    let before : c.loop-place.place - 1 ≡ i = omega arith in
    let first : x ≡ get_or keys i x = c.index-keys-place.is ∙ ap (λ n. get_or keys n x) before in
    let second : y ≡ get_or keys (i + 1) y = c.index-keys-place-in-loop-place.is ∙ ap (λ n. get_or keys n y) at in
    let less : g.K.Key.order x y ≡ Less = search rules in
    (i + 1, ap (λ n. n + 1) at, λ rest. c.loop-place.invariant.2 (rise_at g.met.K.Key.total keys i x y within first second less rest))

pub returns : goal.returns
returns g c =
    let at : c.loop-place.place ≡ c.loop-place.invariant.0 + 1 = c.loop-place.invariant.1 in
    λ _. c.loop-place.invariant.2 (rise_last g.K.Key.order c.args.keys.now c.loop-place.invariant.0 (omega arith))
