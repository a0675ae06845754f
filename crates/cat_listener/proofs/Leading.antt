-- Servers that were led on.
use Rattle.std.proofs.Common.{◌++◌, ◌∷◌, [], refl}
use Rattle.std.proofs.lemmas.Fn.{FoldsTo-push}
use Rattle.cat_listener.specs.Helpers.{IsLed}
use Rattle.cat_listener.specs.Turn.{Answers, IsTurn, Turn}
use Rattle.cat_listener.proofs.Turns.{folds_then}

module _ {A : Type 0} (answers : Answers A) where
  -- by one turn more
  pub led_on : (a b c : A) → IsLed answers a b → (t : Turn) × IsTurn answers b t c → IsLed answers a c
  led_on a b c led one = (led.0 ++ one.0 ∷ [], FoldsTo-push (IsTurn answers) a led.0 b one.0 c led.1 one.1)

  -- by none
  pub led_nowhere : (a : A) → IsLed answers a a
  led_nowhere a = ([], refl)

  -- by some turns more
  pub led_then : (a b c : A) → IsLed answers a b → IsLed answers b c → IsLed answers a c
  led_then a b c first second = (first.0 ++ second.0, folds_then (IsTurn answers) a first.0 b second.0 c first.1 second.1)
