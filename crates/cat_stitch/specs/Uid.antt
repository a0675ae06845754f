-- The unique ids of numbers.
use Rattle.std.specs.Prelude.{ℕ, zero, suc, ◌/◌, ◌%◌, ◌^◌, ◌*◌, List, [], ◌∷◌, ◌++◌, false, codes}
use Rattle.std.specs.Fmt.{digit_glyph}

-- the hexadecimal digit at a place of a number, counted from the last one, in lower case
abbrev pub digit_at : ℕ → ℕ → ℕ
digit_at place number = digit_glyph false (number / 2 ^ (4 * place) % 16)

-- the last hexadecimal digits of a number, this many
abbrev pub last_digits : ℕ → ℕ → List ℕ
last_digits zero number = []
last_digits (suc place) number = digit_at place number ∷ last_digits place number

-- the number's last fifteen hexadecimal digits behind the fixed part, three of them in the fourth group
unfoldable pub uid : ℕ → List ℕ
uid number = codes "00000000-0000-8000-8" ++ (last_digits 3 (number / 2 ^ 48) ++ 45 ∷ last_digits 12 number)
