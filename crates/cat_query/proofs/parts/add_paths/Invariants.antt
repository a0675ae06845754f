use Rattle.std.proofs.Common.{◌≡◌, ◌++◌, length, map}
use denote.Text.{Utf8}
use denote.Shadow.{shadow}
use Rattle.cat_search.specs.Filter.{pieces}
use Rattle.cat_query.proofs.parts.add_paths.Given as goal

-- the paths so far and those that are left are all
abbrev pub invariant-loop-after : goal.invariant-loop-after
invariant-loop-after l = shadow (Utf8 l.rest) × (l.paths.items ++ map (pieces 46) (pieces 44 l.rest) ≡ l.fn.paths.items ++ map (pieces 46) (pieces 44 l.fn.text))

abbrev pub decreases-loop-after : goal.decreases-loop-after
decreases-loop-after l = length l.rest
