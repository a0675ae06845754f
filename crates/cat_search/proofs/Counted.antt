-- How many entries a map has.
use Rattle.std.proofs.Common.{◌≡◌, suc, [], ◌∷◌, length, refl, ap}
use Rattle.cat_collections.specs.Table.{Map, keys}

pub length_keys : {X : Type 0} (m : Map X) → length (keys m) ≡ length m
length_keys [] = refl
length_keys (e ∷ es) = ap suc (length_keys es)
