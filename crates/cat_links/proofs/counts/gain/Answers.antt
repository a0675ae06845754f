use Rattle.std.proofs.Common.{◌≡◌, ◌+◌, ◌≤◌, arith, suc, ◌∷◌, length, drop, sym, ap, ◌∙◌}
use Rattle.std.specs.Ordering.{eq_by_cmp}
use Rattle.std.proofs.lemmas.List.{drop_more}
use Rattle.cat_types.specs.Relation.{relation_cmp}
use Rattle.cat_links.specs.Counts.{count_at, gained, one_if, one_more}
use Rattle.cat_links.proofs.Counted.{count-one_more, one_if-le}
use Rattle.cat_links.proofs.counts.gain.Goals as goal

pub loop-relation-preserved : goal.loop-relation-preserved
loop-relation-preserved c =
    let xs = c.args.relations.now in
    let i = c.loop-relation.relation-index in
    let x = c.relation-item.result in
    let counts = c.loop-relation.counts in
    let now = c.count_one_more.new.counts in
    let step : now ≡ one_more x counts = c.in_ok-count_one_more.ensures in
    let split : drop i xs ≡ x ∷ drop (i + 1) xs = drop_more xs i x c.loop-relation-test.true ∙ ap (λ z. z ∷ drop (i + 1) xs) (sym c.relation-item.is) in
    record {
      whole = ap (gained (drop (i + 1) xs)) step ∙ (sym (ap (λ l. gained l counts) split) ∙ c.loop-relation.invariant.whole);
      room = λ y.
          let a : count_at now y ≡ one_if (eq_by_cmp relation_cmp y x) + count_at counts y = ap (λ l. count_at l y) step ∙ count-one_more x y counts in
          let b : length (drop i xs) ≡ suc (length (drop (i + 1) xs)) = ap length split in
          let r = c.loop-relation.invariant.room y in
          let z : one_if (eq_by_cmp relation_cmp y x) ≤ 1 = one_if-le (eq_by_cmp relation_cmp y x) in
          omega arith;
    }

pub count_one_more-requires : goal.count_one_more-requires
count_one_more-requires c =
    let xs = c.args.relations.now in
    let i = c.loop-relation.relation-index in
    let x = c.relation-item.result in
    let split : drop i xs ≡ x ∷ drop (i + 1) xs = drop_more xs i x c.loop-relation-test.true ∙ ap (λ z. z ∷ drop (i + 1) xs) (sym c.relation-item.is) in
    let b : length (drop i xs) ≡ suc (length (drop (i + 1) xs)) = ap length split in
    let r = c.loop-relation.invariant.room x in
    omega arith
