-- The pieces of a line or text.
use Rattle.std.specs.Prelude.{ℕ, ◌+◌, List, [], ◌∷◌, length}
use Rattle.std.specs.Fmt.{decimal}
use Rattle.cat_replies.specs.declared.line.Piece.{Piece}
use Rattle.cat_replies.specs.declared.line.Piece.TheVariants.{Text, Number}

-- a piece is a text, or a number in decimal
abbrev pub piece_text : Piece → List ℕ
piece_text (Text text) = text.now
piece_text (Number number) = decimal number

-- the most bytes that a piece takes
abbrev pub piece_most : Piece → ℕ
piece_most (Text text) = length text.now
piece_most (Number number) = 20

-- the most bytes that pieces and an end of this length take
abbrev pub most : ℕ → List Piece → ℕ
most end [] = end
most end (piece ∷ pieces) = piece_most piece + most end pieces
