-- Places that are put in parts.
use Rattle.std.proofs.Common.{◌≡◌, List, [], ◌∷◌, ◌++◌, refl}
use Rattle.cat_row_updates.specs.Places.{Placed, put_places}
use Rattle.cat_row_updates.specs.declared.place.Place.{Place}

pub places_parts : (xs ys : List Place) (made : Placed) → put_places (xs ++ ys) made ≡ put_places ys (put_places xs made)
places_parts [] ys made = refl
places_parts (x ∷ xs) ys made = places_parts xs ys (put_places (x ∷ []) made)
