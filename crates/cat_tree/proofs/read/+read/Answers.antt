use Rattle.std.proofs.Common.{◌≡◌, [], ◌∷◌, ◌++◌, ◌||◌, string_bytes, map, ap, sym, ◌∙◌, subst, append_assoc, arith}
use Rattle.std.proofs.lemmas.Grind.{common_steps}
use Rattle.std.proofs.lemmas.List.{map-append}
use Rattle.serde_json.specs.View.{view, members_view}
use Rattle.serde_json.specs.Written.{members_have_float}
use Rattle.serde_json.proofs.Views.{Entry, view-Array, view-Object}
use Rattle.cat_tree.specs.Data.{list, dict, items_of, members_of, IsRising}
use Rattle.cat_tree.specs.Read.{tree_of}
use Rattle.cat_tree.specs.Seen.{seen_entry}
use Rattle.cat_tree.specs.View.{data_of, entry_of}
use Rattle.cat_tree.proofs.Narrow.{items_grown, members_grown}
use Rattle.cat_tree.proofs.Reading.{items_of-seen, members_of-seen, rising_at_end}
use Rattle.cat_tree.proofs.read.+read.Goals as goal

pub trees_from-loop-value-preserved : goal.trees_from-loop-value-preserved
trees_from-loop-value-preserved t c = (
  grind (arith, common_steps),
  grind (arith, common_steps),
  items_grown c.loop-value.found.items _ c.in_ok-tree_from.field-0 c.loop-value.invariant.2 c.in_ok-tree_from.ensures.narrow c.in_ok-push.ensures.items,
)

pub pairs_from-loop-key-preserved : goal.pairs_from-loop-key-preserved
pairs_from-loop-key-preserved t c =
    let l = c.loop-key in
    let done = l.invariant.0 in
    let e : Entry = (c.in-Some.key.now, c.in-Some.member.now) in
    let left = c.next.new.self in
    let all : c.args.members.now.entries ≡ done ++ e ∷ left = l.invariant.1 ∙ ap (λ es. done ++ es) c.in-Some.ensures.steps in
    let named : c.in_ok-name.name ≡ string_bytes e.0 = c.in_ok-name.ensures ∙ c.as_str.ensures.value in
    let seen : data_of c.in_ok-tree.tree ≡ tree_of (view e.1) = c.in_ok-tree.ensures.ok in
    let made : entry_of (c.in_ok-name.name, c.in_ok-tree.tree) ≡ seen_entry e = λ i. (named i, seen i) in
    let floats : members_have_float (members_view left) ≡ members_have_float (members_view c.args.members.now.entries) =
    sym (ap (λ b. b || members_have_float (members_view left)) c.in_ok-tree.ensures.no_float) ∙ (sym (ap (λ es. members_have_float (members_view es)) c.in-Some.ensures.steps) ∙ l.invariant.3) in (
      done ++ e ∷ [],
      all ∙ sym (append_assoc done (e ∷ []) left),
      ap (map entry_of) c.in_ok-push.ensures.items
          ∙ (map-append entry_of l.found.items ((c.in_ok-name.name, c.in_ok-tree.tree) ∷ [])
          ∙ ((λ i. l.invariant.2 i ++ made i ∷ []) ∙ sym (map-append seen_entry done (e ∷ [])))),
      floats,
      members_grown l.found.items _ (c.in_ok-name.name, c.in_ok-tree.tree) l.invariant.4 c.in_ok-tree.ensures.narrow c.in_ok-push.ensures.items,
    )

pub pairs_from-returns-clause-rising : goal.pairs_from-returns-clause-rising
pairs_from-returns-clause-rising t c =
    let l = c.loop-key in
    subst IsRising (sym l.invariant.2) (rising_at_end c.args.members.now.entries l.invariant.0 l.key-iterator l.invariant.1 c.in-None.ensures.steps.0 c.iter-key-items.ensures.ordered)

pub tree_from-returns-in_ok-trees_from-in-Array-clause-ok :
    goal.tree_from-returns-in_ok-trees_from-in-Array-clause-ok
tree_from-returns-in_ok-trees_from-in-Array-clause-ok t c =
    ap (λ ds. list (items_of ds)) (c.from_vec.ensures ∙ c.in_ok-trees_from-in-Array.ensures.ok)
    ∙ (ap list (items_of-seen c.in-Array.values.items)
    ∙ sym (ap (λ v. tree_of (view v)) c.in-Array.is ∙ ap tree_of (view-Array c.in-Array.values)))

pub tree_from-returns-in_ok-pairs_from-in-Object-clause-ok :
    goal.tree_from-returns-in_ok-pairs_from-in-Object-clause-ok
tree_from-returns-in_ok-pairs_from-in-Object-clause-ok t c =
    ap (λ ms. dict (members_of ms)) (c.from_vec-in-Object.ensures ∙ c.in_ok-pairs_from-in-Object.ensures.ok)
    ∙ (ap dict (members_of-seen c.in-Object.members.entries)
    ∙ sym (ap (λ v. tree_of (view v)) c.in-Object.is ∙ ap tree_of (view-Object c.in-Object.members)))
