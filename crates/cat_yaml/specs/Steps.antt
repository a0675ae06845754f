-- Steps that may have no reading.
use Rattle.std.specs.Prelude.{Result, Ok, Err}

-- the next step on what the first one gives
abbrev pub and_then : {A B E : Type 0} → Result A E → (A → Result B E) → Result B E
and_then (Ok x) next = next x
and_then (Err e) next = Err e
