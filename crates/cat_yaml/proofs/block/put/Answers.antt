use Rattle.std.proofs.Common.{◌≡◌, string_bytes, Ok, ap, sym, ◌∙◌, inl}
use Rattle.cat_tree.specs.View.{data_of}
use Rattle.cat_yaml.specs.Block.{with_pair}
use Rattle.cat_yaml.specs.SeenPair.{seen_pairs}
use Rattle.cat_yaml.proofs.Pairs.{put_new, put_old}
use Rattle.cat_yaml.proofs.block.put.Goals as goal
use Rattle.cat_yaml.proofs.block.put.Goals.{in-Some, in-None}

pub returns-clause-ok : goal.returns-clause-ok
returns-clause-ok c =
    let es = c.args.pairs.now.entries in
    let key : c.args.key.now ≡ string_bytes c.in_ok-key.key = sym (c.in_ok-key.ensures.ok ∙ c.as_str.ensures) in
    elim c.match-branch-3.branch [
      | in-Some w ↦ rw w.result-is tt
      | in-None w ↦ rw w.result-is (ap (λ s. with_pair (seen_pairs es) s (data_of c.args.tree)) key
          ∙ (put_new es c.in_ok-key.key c.args.tree (sym c.in_ok-insert.ensures.old ∙ w.in-None.is)
          ∙ ap (λ fs. Ok (seen_pairs fs)) (sym c.in_ok-insert.ensures.entries)))
    ]

pub returns-clause-err : goal.returns-clause-err
returns-clause-err c =
    let es = c.args.pairs.now.entries in
    let key : c.args.key.now ≡ string_bytes c.in_ok-key.key = sym (c.in_ok-key.ensures.ok ∙ c.as_str.ensures) in
    elim c.match-branch-3.branch [
      | in-Some w ↦ rw w.result-is (inl (ap (λ s. with_pair (seen_pairs es) s (data_of c.args.tree)) key
          ∙ put_old es c.in_ok-key.key c.args.tree _ (sym c.in_ok-insert.ensures.old ∙ w.in-Some.is)))
      | in-None w ↦ rw w.result-is tt
    ]
