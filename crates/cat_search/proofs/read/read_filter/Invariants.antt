use Rattle.std.proofs.Common.{◌≡◌, ◌+◌, ◌≤◌, length}
use denote.Text.{Utf8}
use denote.Shadow.{shadow}
use Rattle.cat_search.specs.Filter.{pieces, filter_of, conditions_from, after_these}
use Rattle.cat_search.proofs.read.read_filter.Given as goal

-- the conditions so far and those of the pieces that are left are those of the text
abbrev pub invariant-loop-conditions : goal.invariant-loop-conditions
invariant-loop-conditions l =
    shadow (Utf8 l.rest)
    × (l.place + length l.rest ≤ length l.fn.text)
    × (filter_of l.fn.text ≡ after_these l.conditions.items (conditions_from l.place (pieces 44 l.rest)))

abbrev pub decreases-loop-conditions : goal.decreases-loop-conditions
decreases-loop-conditions l = length l.rest
