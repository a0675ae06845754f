-- Lines of a session's output, and texts.
use Rattle.std.specs.Prelude.{◌≡◌, ℕ, ◌+◌, ◌≤◌, List, [], ◌∷◌, ◌++◌, length, Result, OnOk, OnErr, IsOk, Vec, vec_len, vec_capacity}
use Rattle.std.specs.declared.alloc.AllocError.{AllocError}
use Rattle.std.specs.declared.alloc.Global.{Global}

-- texts one after the other, and an end
abbrev pub ended : List ℕ → List (List ℕ) → List ℕ
ended end [] = end
ended end (text ∷ texts) = text ++ ended end texts

-- texts one after the other
abbrev pub joined : List (List ℕ) → List ℕ
joined texts = ended [] texts

-- texts one after the other, and LF
abbrev pub line : List (List ℕ) → List ℕ
line texts = ended (10 ∷ []) texts

-- a call appends the text or, for want of memory, nothing; and with room for the text it doesn't want memory
pub record Appends (old new : Vec ℕ Global) (result : Result (Unit {0}) AllocError) (text : List ℕ) : Type 0 where
  pub ok : OnOk result (new.items ≡ old.items ++ text)
  pub err : OnErr result (new.items ≡ old.items)
  pub room : vec_len old + length text ≤ vec_capacity old → IsOk result
