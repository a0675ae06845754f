-- The entry that a number is of, from the entries alone.
use Rattle.std.specs.Prelude.{◌≡◌, Bool, true, cond, T, List, [], ◌∷◌, is_some}
use Rattle.std.specs.declared.option.Option.{Option}
use Rattle.std.specs.declared.option.Option.TheVariants.{None, Some}
use Rattle.std.specs.FinMap.Entries.{is_sorted}
use Rattle.cat_collections.specs.Table.{get, text_cmp}
use Rattle.cat_model.specs.Catalogue.{Ref}
use Rattle.cat_model.specs.Sound.{AreNumbers}
use Rattle.cat_model.specs.declared.types.State.{State}

-- the key of the first entry whose value passes
abbrev pub key_where : {K X : Type 0} → (X → Bool) → List (K × X) → Option K
key_where p [] = None
key_where p (e ∷ es) = cond (p e.1) (Some e.0) (key_where p es)

-- records and orphans are in order of reference, no reference is both, and each has a number of its own
pub record AreApart (m : State) : Type 0 where
  pub records : T (is_sorted text_cmp m.records)
  pub orphans : T (is_sorted text_cmp m.orphans)
  pub apart : (r : Ref) → is_some (get m.records r) ≡ true → get m.orphans r ≡ None
  pub numbers : AreNumbers m
