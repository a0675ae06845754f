use Rattle.std.proofs.Common.{◌≡◌, ◌-◌, ◌≤◌, ◌++◌, map}
use Rattle.cat_replies.specs.Piece.{piece_text}
use Rattle.cat_sample.specs.Summary.{owned_texts}
use Rattle.cat_sample.proofs.summary.push_owned.Given as goal

-- with the Groups that are left it is the whole
abbrev pub invariant-loop-number : goal.invariant-loop-number
invariant-loop-number l =
    (l.number ≤ 10)
    × (map piece_text l.pieces.items ++ owned_texts l.documents l.number (10 - l.number) ≡ map piece_text l.initial.pieces.items ++ owned_texts l.documents 0 10)

abbrev pub decreases-loop-number : goal.decreases-loop-number
decreases-loop-number l = 10 - l.number
