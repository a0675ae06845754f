use Rattle.std.proofs.Common.{◌≡◌, length}
use Rattle.std.specs.Prelude.{reverse}
use denote.Text.{Utf8}
use denote.Shadow.{shadow}
use Rattle.cat_search.specs.Filter.{unspaced}
use Rattle.cat_search.proofs.pieces.without_spaces_after.Given as goal

-- only spaces went
abbrev pub invariant-loop-rest : goal.invariant-loop-rest
invariant-loop-rest l = shadow (Utf8 l.left) × (unspaced (reverse l.left) ≡ unspaced (reverse l.fn.text))

abbrev pub decreases-loop-rest : goal.decreases-loop-rest
decreases-loop-rest l = length l.left
