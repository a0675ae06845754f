-- Plain values: which bytes are one, and what it stands for.
use Rattle.std.specs.Prelude.{ℕ, zero, suc, ℤ, pos, negsuc, ◌+◌, ◌-◌, ◌*◌, ◌^◌, min, List, [], ◌∷◌, Bool, true, false, ◌==◌, ◌&&◌, ◌||◌, not, length, drop, is_some, Result, Ok, Err, bytes_eq, codes, if◌then◌else◌}
use Rattle.std.specs.Char.{is_ascii_digit}
use Rattle.std.specs.List.{list_any}
use Rattle.std.specs.Str.{is_utf8}
use Rattle.cat_tree.specs.Data.{Data, null, flag, whole, words}
use Rattle.cat_yaml.specs.declared.fault.Refusal.{Refusal}
use Rattle.cat_yaml.specs.declared.fault.Refusal.TheVariants.{NoReading}
use Rattle.cat_yaml.specs.Scan.{begins_with, ends_word, colon_from}

-- no plain text begins with one of these
abbrev pub is_indicator : ℕ → Bool
is_indicator b = list_any (λ c. c == b) (codes ",[]{}#&*!|>'\"%@`")

-- a hyphen, a question mark or a colon
abbrev pub is_mark : ℕ → Bool
is_mark b = list_any (λ c. c == b) (codes "-?:")

-- a plain text begins with none of the indicators, and with a mark only where another byte follows it
abbrev pub begins_plain : List ℕ → Bool
begins_plain [] = false
begins_plain (b ∷ s) = not (is_indicator b) && not (is_mark b && ends_word s)

-- a plain text begins as such, and no colon in it has a space behind it or stands at the end
abbrev pub is_plain : List ℕ → Bool
is_plain s = begins_plain s && not (is_some (colon_from 0 s))

-- ---- numbers

-- the bytes after the digits in front
abbrev pub after_digits : List ℕ → List ℕ
after_digits [] = []
after_digits (b ∷ s) = if is_ascii_digit b then after_digits s else b ∷ s

-- a digit stands in front
abbrev pub begins_digit : List ℕ → Bool
begins_digit [] = false
begins_digit (b ∷ s) = is_ascii_digit b

-- one or more digits, and nothing else
abbrev pub is_digits : List ℕ → Bool
is_digits s = begins_digit s && length (after_digits s) == 0

-- the bytes without a sign in front
abbrev pub unsigned : List ℕ → List ℕ
unsigned [] = []
unsigned (b ∷ s) = if b == 43 then s else if b == 45 then s else b ∷ s

-- `e` or `E`, a sign or none, and digits
abbrev pub is_exponent : List ℕ → Bool
is_exponent [] = false
is_exponent (b ∷ s) = (b == 101 || b == 69) && is_digits (unsigned s)

-- an exponent or nothing
abbrev pub ends_number : List ℕ → Bool
ends_number [] = true
ends_number (b ∷ s) = is_exponent (b ∷ s)

-- digits with one point before, among or after them, or with an exponent, or with both
abbrev pub is_fraction : List ℕ → Bool
is_fraction s =
    let rest = after_digits s in
    if begins_with 46 rest
    then (begins_digit s || begins_digit (drop 1 rest)) && ends_number (after_digits (drop 1 rest))
    else begins_digit s && is_exponent rest

-- the value of more digits after n; one of 2^64 or more counts as 2^64
abbrev pub digits_value : ℕ → List ℕ → ℕ
digits_value n [] = n
digits_value n (b ∷ s) = digits_value (min (n * 10 + (b - 48)) (2 ^ 64)) s

-- the number below zero
abbrev pub negative : ℕ → ℤ
negative zero = pos zero
negative (suc n) = negsuc n

-- the value of a sign or none and digits
abbrev pub signed_value : List ℕ → ℤ
signed_value s =
    if begins_with 45 s then negative (digits_value 0 (unsigned s)) else pos (digits_value 0 (unsigned s))

-- ---- what a plain value stands for

-- the words for null
abbrev pub is_null : List ℕ → Bool
is_null s = bytes_eq s (codes "~") || bytes_eq s (codes "null") || bytes_eq s (codes "Null") || bytes_eq s (codes "NULL")

-- the words for true
abbrev pub is_true : List ℕ → Bool
is_true s = bytes_eq s (codes "true") || bytes_eq s (codes "True") || bytes_eq s (codes "TRUE")

-- the words for false
abbrev pub is_false : List ℕ → Bool
is_false s = bytes_eq s (codes "false") || bytes_eq s (codes "False") || bytes_eq s (codes "FALSE")

-- the text that the bytes are
abbrev pub text_of : List ℕ → Result (List ℕ) Refusal
text_of s = if is_utf8 s then Ok s else Err NoReading

-- the text as a tree
abbrev pub as_words : Result (List ℕ) Refusal → Result Data Refusal
as_words (Ok t) = Ok (words t)
as_words (Err e) = Err e

-- null, a flag, a number or a text; a number that is no integer of 64 bits stands as one of 65 bits, a fraction as 2^64
abbrev pub typed : List ℕ → Result Data Refusal
typed s =
    if is_null s then Ok null else if is_true s then Ok (flag true) else if is_false s then Ok (flag false)
    else if is_digits (unsigned s) then Ok (whole (signed_value s))
    else if is_fraction (unsigned s) then Ok (whole (pos (2 ^ 64)))
    else as_words (text_of s)

-- what a plain value stands for
abbrev pub plain_value : List ℕ → Result Data Refusal
plain_value s = if is_plain s then typed s else Err NoReading
