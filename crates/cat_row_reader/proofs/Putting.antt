-- Entries that are put, and rows that are added, in parts.
use Rattle.std.proofs.Common.{◌≡◌, List, [], ◌∷◌, ◌++◌, refl, ◌∙◌, Ordering, Result, Ok, Err}
use Rattle.std.specs.Prelude.{OnOk, if◌then◌else◌, is_ok}
use Rattle.cat_collections.specs.Table.{put, puts}
use Rattle.cat_model.specs.Catalogue.{Rows}
use Rattle.cat_row_reader.specs.Standing.{with_row, with_rows}

pub puts_parts : {K V : Type 0} (R : K → K → Ordering) (xs ys m : List (K × V)) → puts R (xs ++ ys) m ≡ puts R ys (puts R xs m)
puts_parts R [] ys m = refl
puts_parts R (x ∷ xs) ys m = puts_parts R xs ys (put R x.0 x.1 m)

pub with_parts : (xs ys m : Rows) → with_rows (xs ++ ys) m ≡ with_rows ys (with_rows xs m)
with_parts [] ys m = refl
with_parts (x ∷ xs) ys m = with_parts xs ys (with_row x m)

-- what was put where that went well
pub put_well : {A B X : Type 0} (r : Result A B) (new x old y : X) → new ≡ (if is_ok r then x else old) → x ≡ y → OnOk r (new ≡ y)
put_well (Ok v) new x old y e f = e ∙ f
put_well (Err v) new x old y e f = tt
