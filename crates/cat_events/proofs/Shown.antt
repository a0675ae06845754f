-- A row of an origin and reference, by its arrival.
use Rattle.std.proofs.Common.{◌≡◌, ℕ, Bool, true, false, ◌||◌, List, [], ◌∷◌, refl, sym, ap, ◌∙◌, true≢false, nat_cmp}
use Rattle.std.specs.declared.option.Option.{Option}
use Rattle.std.specs.declared.option.Option.TheVariants.{None, Some}
use Rattle.std.specs.Ordering.{eq_by_cmp}
use Rattle.std.specs.List.{list_any}
use Rattle.std.specs.Cmp.{nat_cmp_total}
use Rattle.std.specs.FinMap.{nat_cmp-IsAntisymmetric}
use Rattle.cat_collections.specs.Table.{keys}
use Rattle.cat_collections.proofs.Tables.{found_key, or_true, same_is}
use Rattle.cat_model.specs.Catalogue.{Ref, Rows, row_at}
use Rattle.cat_model.specs.declared.types.Origin.{Origin}
use Rattle.cat_model.specs.declared.types.Row.{Row}
use Rattle.cat_model.specs.Step.{has_row, is_offer}

any_at : (p : ℕ → Bool) (ks : List ℕ) (b : ℕ) → list_any (eq_by_cmp nat_cmp b) ks ≡ true → p b ≡ true → list_any p ks ≡ true
any_at p [] b h e = h
any_at p (k ∷ ks) b h e = go (eq_by_cmp nat_cmp b k) refl h (λ h. any_at p ks b h e)
  where
    go : (c : Bool) → eq_by_cmp nat_cmp b k ≡ c → (c || list_any (eq_by_cmp nat_cmp b) ks) ≡ true → (list_any (eq_by_cmp nat_cmp b) ks ≡ true → list_any p ks ≡ true) → (p k || list_any p ks) ≡ true
    go true is h ih = ap (λ c. c || list_any p ks) (ap p (sym (same_is nat_cmp_total nat_cmp-IsAntisymmetric b k is)) ∙ e)
    go false is h ih = or_true (p k) _ (ih h)

-- a row of this origin and reference shows that there is one
pub row_shows : (rows : Rows) (o : Origin) (r : Ref) (a : ℕ) → is_offer o r (row_at rows a) ≡ true → has_row rows o r ≡ true
row_shows rows o r a h = go (row_at rows a) refl h
  where
    go : (v : Option Row) → row_at rows a ≡ v → is_offer o r v ≡ true → has_row rows o r ≡ true
    go None e h = absurd (true≢false (sym h))
    go (Some row) e h = any_at (λ b. is_offer o r (row_at rows b)) (keys rows) a (found_key nat_cmp_total nat_cmp-IsAntisymmetric a rows row e) (ap (is_offer o r) e ∙ h)
