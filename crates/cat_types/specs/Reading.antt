-- What a reference text is: `[kind:][namespace/]name`.
use Rattle.std.specs.Prelude.{◌≡◌, ℕ, List, [], ◌∷◌, ◌++◌, Bool, true, Option, Some, None, ◌&&◌, ◌==◌, not, nat_le, length, if◌then◌else◌, IsTrue}
use Rattle.std.specs.List.{list_all}

-- the pieces of a reference text, of which two may be left out
pub record Pieces : Type 0 where
  pub kind : Option (List ℕ)
  pub namespace : Option (List ℕ)
  pub name : List ℕ

-- neither `:` nor `/`
abbrev pub is_piece_byte : ℕ → Bool
is_piece_byte b = not (b == 58) && not (b == 47)

-- at least one byte, and no `:` or `/`
abbrev pub is_piece : List ℕ → Bool
is_piece s = nat_le 1 (length s) && list_all is_piece_byte s

-- left out, or a piece
abbrev pub may_be_piece : Option (List ℕ) → Bool
may_be_piece None = true
may_be_piece (Some s) = is_piece s

-- the piece and the byte that ends it, or nothing
abbrev pub ended_by : ℕ → Option (List ℕ) → List ℕ
ended_by c None = []
ended_by c (Some s) = s ++ c ∷ []

-- `[kind:][namespace/]name`
abbrev pub spelled : Pieces → List ℕ
spelled p = ended_by 58 p.kind ++ (ended_by 47 p.namespace ++ p.name)

-- the text is spelled by these pieces
pub record ReadsAs (text : List ℕ) (p : Pieces) : Type 0 where
  pub text_is : text ≡ spelled p
  pub kind : IsTrue (may_be_piece p.kind)
  pub namespace : IsTrue (may_be_piece p.namespace)
  pub name : IsTrue (is_piece p.name)

-- ---- the one reading, computed

-- one more byte in front of a cut
abbrev pub onto_cut : ℕ → Option (List ℕ) × List ℕ → Option (List ℕ) × List ℕ
onto_cut b (None, rest) = (None, b ∷ rest)
onto_cut b (Some s, rest) = (Some (b ∷ s), rest)

-- what stands before the first `c`, if there is one, and what stands after it
abbrev pub cut : ℕ → List ℕ → Option (List ℕ) × List ℕ
cut c [] = (None, [])
cut c (b ∷ bs) = if b == c then (Some [], bs) else onto_cut b (cut c bs)

-- the pieces by the first `:` and the first `/` behind it
abbrev pub pieces_at : List ℕ → Pieces
pieces_at s =
    let first : Option (List ℕ) × List ℕ = cut 58 s in
    let second : Option (List ℕ) × List ℕ = cut 47 first.1 in
    record { kind = first.0; namespace = second.0; name = second.1 }

-- each of them is a piece, or left out
abbrev pub are_pieces : Pieces → Bool
are_pieces p = may_be_piece p.kind && (may_be_piece p.namespace && is_piece p.name)

-- the pieces of the text, if it is a reference text
unfoldable pub reading : List ℕ → Option Pieces
reading s = if are_pieces (pieces_at s) then Some (pieces_at s) else None
