-- The references whose holder may change, and what of them does.
use Rattle.std.specs.Prelude.{◌≡◌, Bool, true, false, cond, not, ◌&&◌, List}
use Rattle.std.specs.declared.cmp.Ordering.{Ordering}
use Rattle.std.specs.declared.option.Option.TheVariants.{None, Some}
use Rattle.std.specs.List.{list_any}
use Rattle.std.specs.Ordering.{eq_by_cmp}
use Rattle.cat_collections.specs.Table.{get, over, same_text}
use Rattle.cat_model.specs.Catalogue.{Holders, Ref, held}
use Rattle.cat_claims.specs.Claimed.{are_others}

-- these are all among those
abbrev pub HasAll : List Ref → List Ref → Type 0
HasAll these those = (r : Ref) → list_any (same_text r) these ≡ true → list_any (same_text r) those ≡ true

-- all references but these are held as before
abbrev pub AreKeptBut : List Ref → Holders → Holders → Type 0
AreKeptBut refs before after = (r : Ref) → list_any (same_text r) refs ≡ false → get after r ≡ get before r

-- whether a reference isn't held before and is after
abbrev pub is_fresh : Holders → Holders → Ref → Bool
is_fresh before after r = held after r && not (held before r)

-- whether a reference is held before and isn't after
abbrev pub is_leaving : Holders → Holders → Ref → Bool
is_leaving before after r = held before r && not (held after r)

-- whether a reference is held before and after, by another row
abbrev pub is_moved : Holders → Holders → Ref → Bool
is_moved before after r = are_others (get before r) (get after r)

-- the entries with other keys than these
abbrev pub outside : {K X : Type 0} → (K → K → Ordering) → List K → List (K × X) → List (K × X)
outside R ks m = over R m (λ k x. cond (list_any (eq_by_cmp R k) ks) None (Some x))
