-- How the turns ended.
use Rattle.std.specs.Prelude.{ℕ}
use Rattle.cat_turns.specs.declared.turns.Closing.{Closing}
use Rattle.cat_turns.specs.declared.turns.Closing.TheVariants.{Value, Others}
use Rattle.cat_turns.specs.Turns.{Mine, Place}

module _ {V E : Type 0} where
  -- a fact of the value, if it was given back
  abbrev pub IfValue : Closing V E → (V → Type 0) → Type 0
  IfValue (Value v) P = P v
  IfValue (Others t p n) P = Unit {0}

  -- a fact of the turns, the pass and the number of passes that were handed back
  abbrev pub IfOthers : Closing V E → (Place → Mine E → ℕ → Type 0) → Type 0
  IfOthers (Value v) P = Unit {0}
  IfOthers (Others t p n) P = P t p n
