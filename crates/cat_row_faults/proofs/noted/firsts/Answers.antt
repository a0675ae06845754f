use Rattle.std.proofs.Common.{◌≡◌, false, ap, sym, ◌∙◌, is_some, arith}
use Rattle.std.proofs.lemmas.Grind.{common_steps}
use Rattle.std.specs.Option.{option_or}
use Rattle.std.specs.Vec.Iter.{into_iter_items}
use Rattle.cat_collections.specs.Table.{find}
use Rattle.cat_row_faults.proofs.Noting.{first_new, none_is}
use Rattle.cat_row_faults.proofs.noted.firsts.Goals as goal

pub loop-key-preserved-in-Continue-1 : goal.loop-key-preserved-in-Continue-1
loop-key-preserved-in-Continue-1 g c =
    let R = g.K.Key.order in
    let made = c.loop-key.made in
    let rest = into_iter_items c.next.new.self in
    let absent : is_some (find R c.in-Some.key made) ≡ false = grind (arith, common_steps) in (
      tt,
      tt,
      (λ k. ap (λ m. option_or (find R k m) (find R k rest)) c.in_ok-put.ensures
          ∙ (first_new g.met.K.Key.total g.met.K.Key.apart c.in-Some.key c.in-Some.value made rest (none_is _ absent) k
          ∙ (ap (λ l. option_or (find R k made) (find R k l)) (sym c.in-Some.ensures.steps.0) ∙ c.loop-key.invariant.2 k))),
    )
