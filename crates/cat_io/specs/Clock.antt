-- What a reading of a clock does.
use Rattle.std.specs.Prelude.{◌≡◌, ℕ, ◌+◌, ◌-◌, ◌^◌, min}

-- the moment, and how many readings were counted
pub record ClockState : Type 0 where
  pub moment : ℕ
  pub readings : ℕ

-- A reading was counted. At the last value of a u64 the count stays.
abbrev pub CountsReading : ℕ → ℕ → Type 0
CountsReading before now = now ≡ min (before + 1) (2 ^ 64 - 1)
