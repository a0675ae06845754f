use Rattle.std.proofs.Common.{◌≡◌, ◌≤◌, true, length, drop, is_some}
use Rattle.std.specs.List.{list_any}
use Rattle.cat_collections.specs.Table.{Text, get, keys, same_text}
use Rattle.cat_row_reader.specs.Forms.{differ}
use Rattle.cat_row_reader.proofs.forms.differ.Given as goal

-- the references from here on differ, and these were seen
abbrev pub invariant-loop-left : goal.invariant-loop-left
invariant-loop-left l =
    (l.left ≤ length l.offers)
    × (differ (keys (drop l.left l.offers)) ≡ true)
    × ((r : Text) → is_some (get l.seen r) ≡ list_any (same_text r) (keys (drop l.left l.offers)))

abbrev pub decreases-loop-left : goal.decreases-loop-left
decreases-loop-left l = l.left
