-- Places of feeds as texts.
use Rattle.std.specs.Prelude.{ℕ, List, ◌∷◌, ◌++◌, Option, None, Some, bytes_eq, if◌then◌else◌}
use Rattle.std.specs.Fmt.{decimal}
use Rattle.cat_session_lines.specs.Arguments.{number}
use Rattle.cat_feed.specs.declared.change.Since.{Since}
use Rattle.cat_types.specs.Reading.{cut}

-- the epoch and the number in decimal, with a point between them
abbrev pub since_text : Since → List ℕ
since_text since = decimal since.epoch ++ 46 ∷ decimal since.number

-- a number, where the text is just its decimal text
abbrev pub plain : List ℕ → Option ℕ → Option ℕ
plain s None = None
plain s (Some n) = if bytes_eq (decimal n) s then Some n else None

-- the number below 2^64 whose decimal text this is
abbrev pub plain_number : List ℕ → Option ℕ
plain_number s = plain s (number s)

-- a place of an epoch and a number
abbrev pub since_with : Option ℕ → Option ℕ → Option Since
since_with None n = None
since_with (Some e) None = None
since_with (Some e) (Some n) = Some (record { epoch = e; number = n })

-- what stands before the first point is the epoch, and what stands after it the number
abbrev pub since_by : Option (List ℕ) × List ℕ → Option Since
since_by (None, s) = None
since_by (Some epoch, s) = since_with (plain_number epoch) (plain_number s)

-- the place that a text is
abbrev pub since_of : List ℕ → Option Since
since_of s = since_by (cut 46 s)
