-- Who holds what once rows were replaced.
use Rattle.std.specs.Prelude.{◌≡◌, not, ◌&&◌}
use Rattle.std.specs.List.{list_any}
use Rattle.std.specs.List.Sorted.{IsStrictlySortedBy}
use Rattle.cat_collections.specs.Table.{get, same_text, text_cmp}
use Rattle.cat_model.specs.Catalogue.{Ref, Holders, Rows, held, rehold}
use Rattle.cat_claims.specs.Claimed.{are_others}
use Rattle.cat_claims.specs.declared.claims.Reheld.{Reheld}

-- these are the holders that holding makes of rows, with the references that are newly held, no longer held, and held by another row
pub record IsReheld (x : Reheld) (before : Holders) (rows : Rows) : Type 0 where
  pub holders : x.holders ≡ rehold rows before
  pub fresh : (r : Ref) → list_any (same_text r) x.changed.fresh ≡ (held x.holders r && not (held before r))
  pub leaving : (r : Ref) → list_any (same_text r) x.changed.leaving ≡ (held before r && not (held x.holders r))
  pub leaving_rise : IsStrictlySortedBy text_cmp x.changed.leaving
  pub moved : (r : Ref) → list_any (same_text r) x.changed.moved ≡ are_others (get before r) (get x.holders r)
