-- The lines of a list of bytes.
use Rattle.std.specs.Prelude.{ℕ, List, [], ◌∷◌, ◌++◌, ◌==◌, ◌≢◌, All, if◌then◌else◌}
use Rattle.std.specs.Str.Lines.{strip_carriage_return}

-- the lines that an LF ends, less one CR before it, where `begun` has come of the first
abbrev pub whole_from : List ℕ → List ℕ → List (List ℕ)
whole_from begun [] = []
whole_from begun (b ∷ bs) = if b == 10 then strip_carriage_return begun ∷ whole_from [] bs else whole_from (begun ++ b ∷ []) bs

-- what comes after the last LF, where `begun` has come of the first line
abbrev pub rest_from : List ℕ → List ℕ → List ℕ
rest_from begun [] = begun
rest_from begun (b ∷ bs) = if b == 10 then rest_from [] bs else rest_from (begun ++ b ∷ []) bs

-- a last line without LF, if it isn't empty
abbrev pub last_line : List ℕ → List (List ℕ)
last_line [] = []
last_line (b ∷ bs) = (b ∷ bs) ∷ []

-- the lines of the bytes that an LF ends
abbrev pub whole_lines : List ℕ → List (List ℕ)
whole_lines bytes = whole_from [] bytes

-- the lines of the bytes: those that an LF ends, and a last one without LF, if it isn't empty
abbrev pub lines : List ℕ → List (List ℕ)
lines bytes = whole_lines bytes ++ last_line (rest_from [] bytes)

-- none of the bytes is an LF
abbrev pub HasNoLf : List ℕ → Type 0
HasNoLf bytes = All (λ b. b ≢ 10) bytes

-- the most bytes that a line may have, its LF and one CR before it not counted
abbrev pub longest_line : ℕ
longest_line = 8388608
