-- A cut at the first place of a byte.
use Rattle.std.proofs.Common.{◌≡◌, ◌≢◌, ℕ, ◌+◌, ◌<◌, true, List, ◌∷◌, ◌++◌, Some, None, length, get_or, take, drop, sym, ap, ◌∙◌, arith, take-append-drop}
use Rattle.std.proofs.lemmas.List.{drop_more, get_or-take, length-take-le}
use Rattle.cat_types.specs.Reading.{cut}
use Rattle.cat_types.proofs.Readings.{lacks, lacks_from_places, cut_free, cut_at}

-- a list is its front, the byte at i and the rest
split_around : (s : List ℕ) (i c : ℕ) → i < length s → get_or s i 0 ≡ c → s ≡ take i s ++ c ∷ drop (i + 1) s
split_around s i c inside here = sym (take-append-drop i s) ∙ ap (λ l. take i s ++ l) (drop_more s i 0 inside ∙ ap (λ b. b ∷ drop (i + 1) s) here)

lacks-take : (c : ℕ) (s : List ℕ) (i : ℕ) → i < length s → ((k : ℕ) → k < i → get_or s k 0 ≢ c) → lacks c (take i s) ≡ true
lacks-take c s i inside before =
    lacks_from_places c (take i s) (λ k short e. let below : k < i = omega (arith, length-take-le i s (omega arith)) in before k below (sym (get_or-take i s k 0 below) ∙ e))

pub cut_first : (c : ℕ) (s : List ℕ) (i : ℕ) → i < length s → get_or s i 0 ≡ c → ((k : ℕ) → k < i → get_or s k 0 ≢ c) → cut c s ≡ (Some (take i s), drop (i + 1) s)
cut_first c s i inside here before =
    ap (cut c) (split_around s i c inside here) ∙ cut_at c (take i s) (drop (i + 1) s) (lacks-take c s i inside before)

pub cut_none : (c : ℕ) (s : List ℕ) → ((k : ℕ) → k < length s → get_or s k 0 ≢ c) → cut c s ≡ (None, s)
cut_none c s before = cut_free c s (lacks_from_places c s before)
