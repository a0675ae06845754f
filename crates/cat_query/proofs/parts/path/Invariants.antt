use Rattle.std.proofs.Common.{◌≡◌, ◌++◌, length}
use denote.Text.{Utf8}
use denote.Shadow.{shadow}
use Rattle.cat_search.specs.Filter.{pieces}
use Rattle.cat_query.proofs.parts.path.Given as goal

-- the keys so far and those that are left are all
abbrev pub invariant-loop-keys : goal.invariant-loop-keys
invariant-loop-keys l = shadow (Utf8 l.rest) × (l.keys.items ++ pieces 46 l.rest ≡ pieces 46 l.fn.text)

abbrev pub decreases-loop-keys : goal.decreases-loop-keys
decreases-loop-keys l = length l.rest
