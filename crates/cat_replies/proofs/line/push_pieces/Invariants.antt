use Rattle.std.proofs.Common.{drop, length, map}
use Rattle.cat_replies.specs.Line.{ended}
use Rattle.cat_replies.specs.Piece.{most, piece_text}
use Rattle.cat_replies.proofs.Pieces.{Written}
use Rattle.cat_replies.proofs.line.push_pieces.Given as goal

-- what was written, with what is left, is the whole; what stood before is kept, and so is the room
abbrev pub invariant-loop-piece : goal.invariant-loop-piece
invariant-loop-piece l =
    Written l.initial.out l.out (ended l.end (map piece_text l.pieces)) (ended l.end (map piece_text (drop l.piece-index l.pieces)))
    (most (length l.end) l.pieces) (most (length l.end) (drop l.piece-index l.pieces))
