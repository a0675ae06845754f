-- What is kept of a history.
use Rattle.std.specs.Prelude.{ℕ, ◌+◌, cond, ◌&&◌, nat_lt, nat_le, List, [], ◌∷◌, length, sum}

-- How many of the oldest entries go, so that one more of a weight may be kept: as few as leave fewer entries than the most, which weigh with it no more
-- than the limit.
abbrev pub leaving : ℕ → ℕ → ℕ → List ℕ → ℕ
leaving most limit weight [] = 0
leaving most limit weight (w ∷ ws) = cond (nat_lt (length (w ∷ ws)) most && nat_le (sum (w ∷ ws) + weight) limit) 0 (1 + leaving most limit weight ws)
