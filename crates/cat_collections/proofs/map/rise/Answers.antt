use Rattle.std.proofs.Common.{◌≡◌, ◌+◌, ◌-◌, ◌<◌, arith, length, sym, ap, ◌∙◌, rules, ◌&&◌, get_or, true, false, drop}
use Rattle.std.specs.FinMap.Entries.{is_sorted}
use Rattle.std.specs.Ordering.{is_lt}
use Rattle.cat_collections.proofs.Rising.{rises_at, rises_last}
use Rattle.cat_collections.proofs.map.rise.Goals as goal

pub loop-place-preserved : goal.loop-place-preserved
loop-place-preserved g c =
    let i = c.loop-place.invariant.0 in
    let rows = c.args.entries.now in
    let x = c.index-entries-place.result in
    let y = c.index-entries-place-in-loop-place.result in
    let at : c.loop-place.place ≡ i + 1 = c.loop-place.invariant.1 in
    let within : i + 1 < length rows = omega arith in
    let before : c.loop-place.place - 1 ≡ i = omega arith in
    let first : x ≡ get_or rows i x = c.index-entries-place.is ∙ ap (λ n. get_or rows n x) before in
    let second : y ≡ get_or rows (i + 1) y = c.index-entries-place-in-loop-place.is ∙ ap (λ n. get_or rows n y) at in
    let less : is_lt (g.K.Key.order x.0 y.0) ≡ true = search rules in
    (i + 1, ap (λ n. n + 1) at, c.loop-place.invariant.2 ∙ (rises_at g.met.K.Key.total rows i x y within first second ∙ ap (λ b. b && is_sorted g.K.Key.order (drop (i + 1) rows)) less))

pub returns : goal.returns
returns g c =
    let at : c.loop-place.place ≡ c.loop-place.invariant.0 + 1 = c.loop-place.invariant.1 in
    sym (c.loop-place.invariant.2 ∙ rises_last g.met.K.Key.total c.args.entries.now c.loop-place.invariant.0 (omega arith))

pub returns-then-ne : goal.returns-then-ne
returns-then-ne g c =
    let i = c.loop-place.invariant.0 in
    let rows = c.args.entries.now in
    let x = c.index-entries-place.result in
    let y = c.index-entries-place-in-loop-place.result in
    let at : c.loop-place.place ≡ i + 1 = c.loop-place.invariant.1 in
    let within : i + 1 < length rows = omega arith in
    let before : c.loop-place.place - 1 ≡ i = omega arith in
    let first : x ≡ get_or rows i x = c.index-entries-place.is ∙ ap (λ n. get_or rows n x) before in
    let second : y ≡ get_or rows (i + 1) y = c.index-entries-place-in-loop-place.is ∙ ap (λ n. get_or rows n y) at in
    let less : is_lt (g.K.Key.order x.0 y.0) ≡ false = search rules in
    sym (c.loop-place.invariant.2 ∙ (rises_at g.met.K.Key.total rows i x y within first second ∙ ap (λ b. b && is_sorted g.K.Key.order (drop (i + 1) rows)) less))
