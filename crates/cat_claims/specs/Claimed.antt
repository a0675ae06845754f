-- What changes for references from one table of holders to another.
use Rattle.std.specs.Prelude.{◌≡◌, ℕ, Bool, false, not, nat_eq, ◌&&◌, List}
use Rattle.std.specs.declared.option.Option.{Option}
use Rattle.std.specs.declared.option.Option.TheVariants.{None, Some}
use Rattle.std.specs.List.{filter, list_any}
use Rattle.std.specs.List.Sorted.{IsStrictlySortedBy}
use Rattle.cat_collections.specs.Table.{get, keys, same_text, text_cmp}
use Rattle.cat_model.specs.declared.types.Numbered.{Numbered}
use Rattle.cat_model.specs.Catalogue.{Ref, Holders, held, rehold, standing}
use Rattle.cat_claims.specs.declared.types.Claimed.{Claimed}

-- the references that aren't held before and are after, in order
abbrev pub newly_held : Holders → Holders → List Ref
newly_held before after = filter (λ r. not (held before r)) (keys after)

-- whether two rows hold, and they aren't one
abbrev pub are_others : Option ℕ → Option ℕ → Bool
are_others None b = false
are_others (Some a) None = false
are_others (Some a) (Some b) = not (nat_eq a b)

-- the references that are held before and after, by another row, in order
abbrev pub held_by_another : Holders → Holders → List Ref
held_by_another before after = filter (λ r. are_others (get before r) (get after r)) (keys after)

-- the references that are held before and aren't after, in order
abbrev pub no_longer_held : Holders → Holders → List Ref
no_longer_held before after = filter (λ r. not (held after r)) (keys before)

-- these are the rows and the holders that holding makes of numbered rows, with the references that are newly held, no longer held, and held by another row
pub record IsClaimed (x : Claimed) (before : Holders) (numbered : Numbered) : Type 0 where
  pub rows : x.rows ≡ standing numbered.rows (rehold numbered.rows before)
  pub holders : x.holders ≡ rehold numbered.rows before
  pub arrival : x.arrival ≡ numbered.next
  pub fresh : (r : Ref) → list_any (same_text r) x.fresh ≡ (held x.holders r && not (held before r))
  pub leaving : (r : Ref) → list_any (same_text r) x.leaving ≡ (held before r && not (held x.holders r))
  pub leaving_rise : IsStrictlySortedBy text_cmp x.leaving
  pub moved : (r : Ref) → list_any (same_text r) x.moved ≡ are_others (get before r) (get x.holders r)
