use Rattle.std.proofs.Common.{◌≡◌, ◌++◌, map, ap, sym, subst, ◌∙◌}
use Rattle.std.proofs.lemmas.List.{append-nil}
use Rattle.cat_tree.specs.Data.{dict, members_of, IsRising}
use Rattle.cat_tree.specs.View.{entry_of}
use Rattle.cat_yaml.specs.SeenPair.{seen_pair}
use Rattle.cat_yaml.proofs.Pairs.{rising_pairs}
use Rattle.cat_yaml.proofs.block.map_of.Goals as goal

pub from_vec-requires : goal.from_vec-requires
from_vec-requires c =
    let all : map entry_of c.loop-key.entries.items ≡ map seen_pair c.args.pairs.entries =
    sym (append-nil (map entry_of c.loop-key.entries.items)) ∙ (ap (λ ps. map entry_of c.loop-key.entries.items ++ map seen_pair ps) (sym c.in-None.ensures.steps.0) ∙ c.loop-key.invariant) in
    subst IsRising (sym all) (rising_pairs c.args.pairs.entries c.len.ensures.ordered)

pub returns-clause-ok : goal.returns-clause-ok
returns-clause-ok c =
    let all : map entry_of c.loop-key.entries.items ≡ map seen_pair c.args.pairs.entries =
    sym (append-nil (map entry_of c.loop-key.entries.items)) ∙ (ap (λ ps. map entry_of c.loop-key.entries.items ++ map seen_pair ps) (sym c.in-None.ensures.steps.0) ∙ c.loop-key.invariant) in
    ap (λ ps. dict (members_of ps)) (c.from_vec.ensures ∙ all)
