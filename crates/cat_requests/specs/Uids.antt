-- The number that a unique id stands for.
use Rattle.std.specs.Prelude.{ℕ, ◌+◌, ◌-◌, ◌*◌, ◌^◌, Bool, ◌&&◌, ◌||◌, ◌==◌, nat_le, nat_lt, List, [], ◌∷◌, length, take, drop, slice_index, Option, None, Some, bytes_eq, codes, if◌then◌else◌}
use Rattle.std.specs.Char.{is_ascii_digit}
use Rattle.std.specs.List.{list_all}

-- a hexadecimal digit in lower case
abbrev pub is_hex : ℕ → Bool
is_hex b = is_ascii_digit b || (nat_le 97 b && nat_le b 102)

-- its value
abbrev pub hex_digit : ℕ → ℕ
hex_digit b = if nat_lt b 58 then b - 48 else b - 87

-- the number whose digits follow those of n
abbrev pub hex_after : ℕ → List ℕ → ℕ
hex_after n [] = n
hex_after n (b ∷ bs) = hex_after (n * 16 + hex_digit b) bs

-- the number that the digits write
abbrev pub hex_value : List ℕ → ℕ
hex_value digits = hex_after 0 digits

-- `00000000-0000-8000-8`, three digits, `-` and twelve digits
abbrev pub is_uid : List ℕ → Bool
is_uid s =
    (((length s == 36 && bytes_eq (take 20 s) (codes "00000000-0000-8000-8")) && list_all is_hex (take 3 (drop 20 s)))
    && slice_index s 23 == 45) && list_all is_hex (take 12 (drop 24 s))

-- the number that a text is the unique id of, if it is one
unfoldable pub number_of_uid : List ℕ → Option ℕ
number_of_uid s = if is_uid s then Some (hex_value (take 3 (drop 20 s)) * 2 ^ 48 + hex_value (take 12 (drop 24 s))) else None
