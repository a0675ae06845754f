use Rattle.std.proofs.Common.{◌≡◌, Bool, true, false, cond, map, List, ℕ, is_ok, nat_cmp, ap, sym, subst, ◌∙◌}
use Rattle.std.specs.Cmp.Lexicographic.{slice_cmp}
use Rattle.std.specs.FinMap.Entries.{put}
use Rattle.cat_tree.specs.declared.tree.Tree.{Tree}
use Rattle.cat_tree.specs.Data.{Data, IsRising}
use Rattle.cat_tree.specs.View.{data_of, entry_of}
use Rattle.cat_tree.proofs.Edits.{map-put, rising-put}
use Rattle.cat_tree.proofs.tree.Pairs.insert.Goals as goal

after : (b : Bool) (k : List ℕ) (t : Tree) (es fs : List (List ℕ × Tree)) → fs ≡ cond b (put (slice_cmp nat_cmp) k t es) es → map entry_of fs ≡ cond b (put (slice_cmp nat_cmp) k (data_of t) (map entry_of es)) (map entry_of es)
after true k t es fs e = ap (map entry_of) e ∙ map-put k t es
after false k t es fs e = ap (map entry_of) e

rising : (b : Bool) (k : List ℕ) (d : Data) (es fs : List (List ℕ × Data)) → fs ≡ cond b (put (slice_cmp nat_cmp) k d es) es → IsRising es → IsRising fs
rising true k d es fs e h = subst IsRising (sym e) (rising-put k d es h)
rising false k d es fs e h = subst IsRising (sym e) h

pub invariant_of-self : goal.invariant_of-self
invariant_of-self c = rising (is_ok c.put_in.result) c.args.key (data_of c.args.tree) _ _ (after (is_ok c.put_in.result) c.args.key c.args.tree c.self.inside.items.items _ c.put_in.ensures) c.self.invariant

pub returns : goal.returns
returns c =
    after (is_ok c.put_in.result) c.args.key c.args.tree c.self.inside.items.items _ c.put_in.ensures
    ∙ ap (λ es. cond (is_ok c.put_in.result) (put (slice_cmp nat_cmp) c.args.key (data_of c.args.tree) es) es) c.self.view_is
