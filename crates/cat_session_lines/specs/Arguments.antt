-- The arguments of session lines.
use Rattle.std.specs.Prelude.{ℕ, ◌^◌, List, Bool, Option, None, Some, ◌&&◌, nat_le, nat_lt, length, if◌then◌else◌}
use Rattle.std.specs.Char.{is_ascii_digit}
use Rattle.std.specs.List.{list_all}
use Rattle.std.specs.Str.{is_utf8}
use Rattle.std.specs.Str.Parse.{digits_value}
use Rattle.cat_types.specs.Reading.{cut}

-- what stands before the first space, or all, and what stands after it, if there is one
abbrev pub parted_by : Option (List ℕ) × List ℕ → List ℕ × Option (List ℕ)
parted_by (None, s) = (s, None)
parted_by (Some word, rest) = (word, Some rest)

-- what stands before the first space of a line, or all of it, and what stands after that
abbrev pub parted : List ℕ → List ℕ × Option (List ℕ)
parted s = parted_by (cut 32 s)

-- what stands before the first space and after it, if there is one
abbrev pub two_by : Option (List ℕ) × List ℕ → Option (List ℕ × List ℕ)
two_by (None, s) = None
two_by (Some first, rest) = Some (first, rest)

-- the two parts of a text that its first space parts
abbrev pub two : List ℕ → Option (List ℕ × List ℕ)
two s = two_by (cut 32 s)

-- the text that the bytes are, if they are UTF-8
abbrev pub utf8_in : List ℕ → Option (List ℕ)
utf8_in s = if is_utf8 s then Some s else None

-- 1 to 20 decimal digits
abbrev pub is_number : List ℕ → Bool
is_number s = (nat_lt 0 (length s) && nat_le (length s) 20) && list_all is_ascii_digit s

-- a number below 2^64
abbrev pub number : List ℕ → Option ℕ
number s = if is_number s && nat_lt (digits_value 10 s) (2 ^ 64) then Some (digits_value 10 s) else None

-- a number as a moment in milliseconds, where it is below 2^53
abbrev pub as_moment : Option ℕ → Option ℕ
as_moment None = None
as_moment (Some n) = if nat_lt n (2 ^ 53) then Some n else None

-- a number below 2^53
abbrev pub moment : List ℕ → Option ℕ
moment s = as_moment (number s)
