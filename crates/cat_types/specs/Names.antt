-- The forms of names. Letters and digits are ASCII.
use Rattle.std.specs.Prelude.{ℕ, List, Bool, ◌-◌, ◌&&◌, ◌||◌, false, ◌==◌, nat_le, not, length, slice_get}
use Rattle.std.specs.Char.{is_ascii_digit, is_ascii_lowercase, is_ascii_alphabetic, is_ascii_alphanumeric}
use Rattle.std.specs.List.{list_all, slice_split, before_first, after_first}
use Rattle.std.specs.Option.{option_map_or}

-- from 1 to 63 bytes
abbrev pub is_short : List ℕ → Bool
is_short s = nat_le 1 (length s) && nat_le (length s) 63

-- there is a first byte, and it passes
abbrev pub begins : (ℕ → Bool) → List ℕ → Bool
begins p s = option_map_or p (slice_get s 0) false

-- there is a last byte, and it passes
abbrev pub ends : (ℕ → Bool) → List ℕ → Bool
ends p s = option_map_or p (slice_get s (length s - 1)) false

-- the first and the last byte are a letter or a digit
abbrev pub has_plain_ends : List ℕ → Bool
has_plain_ends s = begins is_ascii_alphanumeric s && ends is_ascii_alphanumeric s

-- a letter, a digit or `-`
abbrev pub is_dash_or_plain : ℕ → Bool
is_dash_or_plain b = b == 45 || is_ascii_alphanumeric b

-- a letter, a digit, `-` or `_`
abbrev pub is_type_byte : ℕ → Bool
is_type_byte b = b == 95 || is_dash_or_plain b

-- a letter, a digit, `-`, `_` or `.`
abbrev pub is_name_byte : ℕ → Bool
is_name_byte b = b == 46 || is_type_byte b

-- `a` to `z`, `0` to `9`, `:`, `+` or `#`
abbrev pub is_tag_byte : ℕ → Bool
is_tag_byte b = (b == 58 || (b == 43 || b == 35)) || (is_ascii_lowercase b || is_ascii_digit b)

-- neither a control byte nor a space
abbrev pub is_shown_byte : ℕ → Bool
is_shown_byte b = nat_le 33 b && not (b == 127)

-- 1 to 63 letters and digits, the first a letter
unfoldable pub is_kind : List ℕ → Bool
is_kind s = is_short s && (begins is_ascii_alphabetic s && list_all is_ascii_alphanumeric s)

-- 1 to 63 letters, digits, `-`, `_`, `.`, the first and the last a letter or digit
unfoldable pub is_name : List ℕ → Bool
is_name s = is_short s && (has_plain_ends s && list_all is_name_byte s)

-- 1 to 63 letters, digits, `-`, the first and the last a letter or digit
unfoldable pub is_namespace : List ℕ → Bool
is_namespace s = is_short s && (has_plain_ends s && list_all is_dash_or_plain s)

-- at most 253 bytes: pieces joined by `.`, each of the form of a namespace
unfoldable pub is_subdomain : List ℕ → Bool
is_subdomain s = nat_le (length s) 253 && list_all is_namespace (slice_split (λ b. b == 46) s)

-- a name, or a subdomain, `/` and a name
unfoldable pub is_key : List ℕ → Bool
is_key s = is_name s || (is_subdomain (before_first (λ b. b == 47) s) && is_name (after_first (λ b. b == 47) s))

-- one or more bytes of a tag
abbrev pub is_tag_piece : List ℕ → Bool
is_tag_piece s = nat_le 1 (length s) && list_all is_tag_byte s

-- 1 to 63 bytes: pieces joined by single `-`
unfoldable pub is_tag : List ℕ → Bool
is_tag s = is_short s && list_all is_tag_piece (slice_split (λ b. b == 45) s)

-- 1 to 63 letters, digits, `-`, `_`
unfoldable pub is_location_type : List ℕ → Bool
is_location_type s = is_short s && list_all is_type_byte s

-- 3 to 2,048 shown bytes: a location type, `:` and at least one byte
unfoldable pub is_shelf_name : List ℕ → Bool
is_shelf_name s =
    (nat_le 3 (length s) && (nat_le (length s) 2048 && list_all is_shown_byte s))
    && (is_location_type (before_first (λ b. b == 58) s) && nat_le 1 (length (after_first (λ b. b == 58) s)))
