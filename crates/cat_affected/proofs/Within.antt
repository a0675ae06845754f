-- What is among lists of references, and what hangs below them.
use Rattle.std.proofs.Common.{◌≡◌, ℕ, zero, suc, Bool, true, false, ◌⊎◌, inl, inr, List, [], ◌++◌, length, refl, sym, ap, ◌∙◌, true≢false}
use Rattle.std.specs.declared.option.Option.TheVariants.{Some}
use Rattle.std.specs.Option.{option_map}
use Rattle.std.specs.List.{flat_map}
use Rattle.std.specs.Cmp.{nat_cmp_total}
use Rattle.std.specs.FinMap.{nat_cmp-IsAntisymmetric}
use Rattle.cat_collections.specs.Table.{same_text}
use Rattle.cat_collections.proofs.Tables.{text_total, text_antisymmetric}
use Rattle.cat_model.specs.Catalogue.{Ref, Rows, Holders, row_at}
use Rattle.cat_model.specs.Rows.{given}
use Rattle.cat_model.specs.declared.types.Origin.{Origin}
use Rattle.cat_model.specs.declared.types.Origin.TheVariants.{Entity}
use Rattle.cat_model.specs.declared.types.Row.{Row}
use Rattle.cat_model.specs.declared.types.State.{State}
use Rattle.cat_model.specs.Mend.{children, below, gone}
use Rattle.cat_model.proofs.Members.{any_left, any_right, any_either, flat_map_in, flat_map_from, filter_map_in}
use Rattle.cat_model.proofs.CutOff.{is_given}
use Rattle.cat_affected.specs.Reach.{has, refs_given, reached}

-- what would make true of what is false is false
pub still_false : (a b : Bool) → (a ≡ true → b ≡ true) → b ≡ false → a ≡ false
still_false true b f e = absurd (true≢false (sym (f refl) ∙ e))
still_false false b f e = refl

pub out_left : (r : Ref) (refs others : List Ref) → has r (refs ++ others) ≡ false → has r refs ≡ false
out_left r refs others = still_false (has r refs) (has r (refs ++ others)) (any_left (same_text r) refs others)

pub out_right : (r : Ref) (refs others : List Ref) → has r (refs ++ others) ≡ false → has r others ≡ false
out_right r refs others = still_false (has r others) (has r (refs ++ others)) (any_right (same_text r) refs others)

-- the reference of a row is one that its origin gave
pub row_given : (rows : Rows) (o : Origin) (a : ℕ) (row : Row) → row_at rows a ≡ Some row → row.origin ≡ o → has row.reference (refs_given rows o) ≡ true
row_given rows o a row e is = filter_map_in nat_cmp_total nat_cmp-IsAntisymmetric text_total text_antisymmetric (λ a. option_map (λ (x : Row). x.reference) (row_at rows a)) (given rows o) a row.reference
    (is_given rows o a row e is) (ap (option_map (λ (x : Row). x.reference)) e)

-- each of the first references is one of the second
abbrev pub AreAmong : List Ref → List Ref → Type 0
AreAmong refs others = (r : Ref) → has r refs ≡ true → has r others ≡ true

-- where each reference had all that it has, all that hangs below hung below before
module _ (rows before : Rows) (holders : Holders) (had : (e : Ref) → AreAmong (children rows holders e) (children before holders e)) where
  beneath_among : (refs others : List Ref) → AreAmong refs others → AreAmong (flat_map (children rows holders) refs) (flat_map (children before holders) others)
  beneath_among refs others among r h =
      let w = flat_map_from text_total text_antisymmetric text_total text_antisymmetric (children rows holders) refs r h in
      flat_map_in text_total text_antisymmetric text_total text_antisymmetric (children before holders) others w.0 r (among w.0 w.1) (had w.0 r w.2)

  pub below_among : (n : ℕ) (refs others : List Ref) → AreAmong refs others → AreAmong (below n rows holders refs) (below n before holders others)
  below_among zero refs others among r h = absurd (true≢false (sym h))
  below_among (suc n) refs others among r h =
      go (any_either (same_text r) refs (below n rows holders (flat_map (children rows holders) refs)) h)
      (below_among n (flat_map (children rows holders) refs) (flat_map (children before holders) others) (beneath_among refs others among) r)
    where
      go : (has r refs ≡ true) ⊎ (has r (below n rows holders (flat_map (children rows holders) refs)) ≡ true)
          → (has r (below n rows holders (flat_map (children rows holders) refs)) ≡ true → has r (below n before holders (flat_map (children before holders) others)) ≡ true)
          → has r (others ++ below n before holders (flat_map (children before holders) others)) ≡ true
      go (inl i) ih = any_left (same_text r) others (below n before holders (flat_map (children before holders) others)) (among r i)
      go (inr i) ih = any_right (same_text r) others (below n before holders (flat_map (children before holders) others)) (ih i)

none_below : (n : ℕ) (rows : Rows) (holders : Holders) → below n rows holders [] ≡ []
none_below zero rows holders = refl
none_below (suc n) rows holders = none_below n rows holders

-- from nothing nothing is reached
pub nothing_reached : (m n : State) → reached [] m n ≡ []
nothing_reached m n = ap (λ refs. refs ++ flat_map (λ e. refs_given m.rows (Entity e)) (gone refs n.holders)) (none_below (length m.holders) m.rows m.holders)
