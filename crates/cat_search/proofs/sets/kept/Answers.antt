use Rattle.std.proofs.Common.{◌≤◌, length, ap, sym, subst, ◌∙◌}
use Rattle.cat_collections.specs.Table.{text_cmp}
use Rattle.std.specs.FinMap.Entries.{is_sorted}
use Rattle.cat_search.specs.Index.{Set, in_all}
use Rattle.cat_search.proofs.Finds.{kept_most, kept_rises}
use Rattle.cat_search.proofs.sets.kept.Goals as goal

pub from_vec-requires-clause-rising : goal.from_vec-requires-clause-rising
from_vec-requires-clause-rising c =
    ap (is_sorted text_cmp) c.in_ok-entries.ensures ∙ kept_rises (in_all c.args.sets.now) c.args.set.now c.in_order.ensures

pub from_vec-requires-clause-room : goal.from_vec-requires-clause-room
from_vec-requires-clause-room c =
    subst (λ (s : Set). length s ≤ 4611686018427387903) (sym c.in_ok-entries.ensures) (kept_most (in_all c.args.sets.now) c.args.set.now 4611686018427387903
    (subst (λ n. n ≤ 4611686018427387903) c.len-most.ensures.entries c.len-most.ensures.most))
