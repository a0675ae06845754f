-- Entries that are put in parts.
use Rattle.std.proofs.Common.{◌≡◌, List, [], ◌∷◌, ◌++◌, refl, sym, ap, ◌∙◌, Ordering}
use Rattle.cat_collections.specs.Table.{put, puts}
use Rattle.cat_row_format.specs.declared.row.StoredRow.{StoredRow}
use Rattle.cat_stored_rows.specs.Stored.{Stored, put_rows}

pub puts_parts : {K V : Type 0} (R : K → K → Ordering) (xs ys m : List (K × V)) → puts R (xs ++ ys) m ≡ puts R ys (puts R xs m)
puts_parts R [] ys m = refl
puts_parts R (x ∷ xs) ys m = puts_parts R xs ys (put R x.0 x.1 m)

pub put_parts : (xs ys : List StoredRow) (made : Stored) → put_rows (xs ++ ys) made ≡ put_rows ys (put_rows xs made)
put_parts [] ys made = refl
put_parts (x ∷ xs) ys made = put_parts xs ys (put_rows (x ∷ []) made)

-- five parts, one after the other
pub put_five : (a b c d e : List StoredRow) (m m1 m2 m3 m4 m5 : Stored)
    → m1 ≡ put_rows a m → m2 ≡ put_rows b m1 → m3 ≡ put_rows c m2 → m4 ≡ put_rows d m3 → m5 ≡ put_rows e m4
    → m5 ≡ put_rows (a ++ (b ++ (c ++ (d ++ e)))) m
put_five a b c d e m m1 m2 m3 m4 m5 e1 e2 e3 e4 e5 =
    let all : put_rows (a ++ (b ++ (c ++ (d ++ e)))) m ≡ put_rows e (put_rows d (put_rows c (put_rows b (put_rows a m)))) =
    put_parts a (b ++ (c ++ (d ++ e))) m
    ∙ (put_parts b (c ++ (d ++ e)) (put_rows a m)
    ∙ (put_parts c (d ++ e) (put_rows b (put_rows a m))
    ∙ put_parts d e (put_rows c (put_rows b (put_rows a m))))) in
    e5
    ∙ (ap (put_rows e) e4
    ∙ (ap (λ n. put_rows e (put_rows d n)) e3
    ∙ (ap (λ n. put_rows e (put_rows d (put_rows c n))) e2
    ∙ (ap (λ n. put_rows e (put_rows d (put_rows c (put_rows b n)))) e1
    ∙ sym all))))
