-- Rows put at their places.
use Rattle.std.proofs.Common.{◌≡◌, ℕ, suc, ◌<◌, if◌then◌else◌, List, [], ◌∷◌, map, get_or, length, drop, refl, sym, ap, ◌∙◌}
use Rattle.std.specs.Borrow.{Bor}
use Rattle.std.specs.Prelude.{Result, Ok, Err, Option, OnOk, is_ok}
use Rattle.std.specs.FinMap.Entries.{by_order}
use Rattle.std.specs.declared.cmp.Ordering.TheVariants.{Less, Equal, Greater}
use Rattle.std.proofs.Math.Seq.{drop-cons}
use Rattle.cat_collections.specs.Table.{put, put_some, tabulate}
use Rattle.cat_model.specs.declared.types.Row.{Row}
use Rattle.cat_model.specs.Reply.{RowPlace, place_cmp}
use Rattle.cat_replies.specs.declared.conflicts.Place.{Place}
use Rattle.cat_replies.specs.Places.{place_of, place_order}
use Rattle.cat_replies.specs.Shown as seen

-- what the code puts is put at the place
pub waiting-put : (k : Place) (row : Bor Row) (es : List (Place × Bor Row))
    → map seen.waiting (put place_order k row es) ≡ put place_cmp (place_of k) row.now (map seen.waiting es)
waiting-put k row [] = refl
waiting-put k row (e ∷ es) =
    elim (place_order k e.0) as (λ o. map seen.waiting (by_order o ((k, row) ∷ e ∷ es) ((e.0, row) ∷ es) (e ∷ put place_order k row es)) ≡ by_order o ((place_of k, row.now) ∷ seen.waiting e ∷ map seen.waiting es) ((place_of e.0, row.now) ∷ map seen.waiting es) (seen.waiting e ∷ put place_cmp (place_of k) row.now (map seen.waiting es))) [
      | Less ↦ refl
      | Equal ↦ refl
      | Greater ↦ ap (λ xs. seen.waiting e ∷ xs) (waiting-put k row es)
    ]

pub on_ok_if : {T E A : Type 0} (r : Result T E) (x a b : A) → x ≡ (if is_ok r then a else b) → OnOk r (x ≡ a)
on_ok_if (Ok t) x a b e = e
on_ok_if (Err t) x a b e = tt

-- the place of a row
abbrev pub key_of : ℕ × Row → RowPlace
key_of e = (e.1.reference, e.0)

-- a row more is in the table
pub table_step : (f : RowPlace → Option Row) (rows : List (ℕ × Row)) (place above : ℕ) (e : ℕ × Row) → above ≡ suc place → place < length rows → e ≡ get_or rows place e
    → put_some place_cmp (key_of e) (f (key_of e)) (tabulate place_cmp (map key_of (drop above rows)) f) ≡ tabulate place_cmp (map key_of (drop place rows)) f
table_step f rows place above e up h is =
    let here : drop place rows ≡ e ∷ drop above rows = drop-cons rows place e h ∙ (λ i. sym is i ∷ drop (sym up i) rows) in
    sym (ap (λ rs. tabulate place_cmp (map key_of rs) f) here)
