use Rattle.std.proofs.Common.{◌≡◌, ap, ◌∙◌, is_some, arith}
use Rattle.std.proofs.lemmas.Grind.{common_steps}
use Rattle.cat_collections.specs.Table.{find, put}
use Rattle.cat_row_faults.proofs.Noting.{noted_more}
use Rattle.cat_row_faults.proofs.noted.noted.Goals as goal

pub loop-key-preserved : goal.loop-key-preserved
loop-key-preserved g c =
    let R = g.K.Key.order in
    let made = c.loop-key.made in
    let key = c.key-item.result in
    let again = c.is_some-again.result in
    let was : again ≡ is_some (find R key made) = grind (arith, common_steps) in
    λ k. ap (find R k) (c.in_ok-put.ensures ∙ ap (λ x. put R x again made) c.in_ok-duplicate.ensures)
    ∙ noted_more g.met.K.Key.total g.met.K.Key.apart c.args.keys.now c.loop-key.key-index key again made c.loop-key-test.true c.key-item.is was c.loop-key.invariant k
