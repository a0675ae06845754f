-- The text that bytes are.
use Rattle.std.proofs.Common.{◌≡◌, ℕ, List, Bool, true, false, Ok, Err, IsUtf8, refl, ap, if◌then◌else◌}
use Rattle.std.proofs.lemmas.Str.{IsUtf8-from_is_utf8, is_utf8-from_IsUtf8}
use Rattle.std.specs.Str.{is_utf8}
use Rattle.cat_yaml.specs.Reading.{text_reading, reading}
use Rattle.cat_yaml.specs.Scalar.{text_of}
use Rattle.cat_yaml.specs.declared.fault.Refusal.TheVariants.{NoReading}

pub text_of-utf8 : (s : List ℕ) → IsUtf8 s → text_of s ≡ Ok s
text_of-utf8 s h = ap (λ b. if b then Ok s else Err NoReading) (is_utf8-from_IsUtf8 s h)

refused : (s : List ℕ) (b : Bool) → is_utf8 s ≡ b → ¬ (IsUtf8 s) → (if b then Ok s else Err NoReading) ≡ Err NoReading
refused s true e h = absurd (h (IsUtf8-from_is_utf8 s e))
refused s false e h = refl

pub text_of-other : (s : List ℕ) → ¬ (IsUtf8 s) → text_of s ≡ Err NoReading
text_of-other s h = refused s (is_utf8 s) refl h

pub reading-utf8 : (s : List ℕ) → IsUtf8 s → reading s ≡ text_reading s
unfolding reading
reading-utf8 s h = ap (λ b. if b then text_reading s else Err NoReading) (is_utf8-from_IsUtf8 s h)

unread : (s : List ℕ) (b : Bool) → is_utf8 s ≡ b → ¬ (IsUtf8 s) → (if b then text_reading s else Err NoReading) ≡ Err NoReading
unread s true e h = absurd (h (IsUtf8-from_is_utf8 s e))
unread s false e h = refl

pub reading-other : (s : List ℕ) → ¬ (IsUtf8 s) → reading s ≡ Err NoReading
unfolding reading
reading-other s h = unread s (is_utf8 s) refl h
