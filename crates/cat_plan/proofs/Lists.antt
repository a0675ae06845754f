-- What is made of each key of a list and one more, in one list.
use Rattle.std.proofs.Common.{◌≡◌, ℕ, ◌+◌, ◌<◌, List, [], ◌∷◌, ◌++◌, length, take, ap, ◌∙◌, append-nil}
use Rattle.std.proofs.Math.ListN.{get_or}
use Rattle.std.proofs.lemmas.List.{take_more, map-append}
use Rattle.std.proofs.lemmas.Grind.{flat_map-append}
use Rattle.std.specs.List.{flat_map}
use Rattle.cat_collections.specs.Table.{keys}

module _ {K X Y : Type 0} where
  pub flat_keys_more : (h : K → List Y) (es : List (K × X)) (i : ℕ) (e : K × X) → i < length es → flat_map h (keys (take (i + 1) es)) ≡ flat_map h (keys (take i es)) ++ h (get_or es i e).0
  flat_keys_more h es i e l =
      ap (λ t. flat_map h (keys t)) (take_more es i e l) ∙ (ap (flat_map h) (map-append (λ (f : K × X). f.0) (take i es) (get_or es i e ∷ [])) ∙ (flat_map-append h (keys (take i es)) ((get_or es i e).0 ∷ []) ∙ ap (λ t. flat_map h (keys (take i es)) ++ t) (append-nil (h (get_or es i e).0))))
