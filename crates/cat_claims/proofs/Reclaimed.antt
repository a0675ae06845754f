-- What the rules of holding make of rows that were replaced.
use Rattle.std.proofs.Common.{◌≡◌, true, List, refl, sym, ap, subst, ◌∙◌}
use Rattle.std.specs.List.{filter, list_any}
use Rattle.std.specs.List.Sorted.{IsStrictlySortedBy}
use Rattle.std.specs.FinMap.Entries.{is_sorted}
use Rattle.cat_collections.specs.Table.{Map, keys, same_text, text_cmp}
use Rattle.cat_model.specs.Catalogue.{Ref, Holders, rehold, standing}
use Rattle.cat_model.specs.Mend.{left_by}
use Rattle.cat_claims.specs.Change.{IsMendable}
use Rattle.cat_claims.specs.Claimed.{IsClaimed}
use Rattle.cat_claims.specs.Reheld.{IsReheld}
use Rattle.cat_claims.specs.Touched.{AreKeptBut, is_fresh, is_leaving, is_moved}
use Rattle.cat_claims.specs.declared.claims.Reheld.{Reheld}
use Rattle.cat_claims.specs.declared.types.Replaced.{Replaced}
use Rattle.cat_claims.specs.declared.types.Claimed.{Claimed}
use Rattle.cat_claims.proofs.Left.{standing_left}
use Rattle.cat_claims.proofs.Touched.{fresh-is, leaving-is, moved-is, filter_rises}

-- what is mended and sorted out is who holds what
pub reheld : (z : Reheld) (x : Replaced) (holders shared : Holders) (touched : Map (Unit {0})) → shared ≡ holders → z.holders ≡ rehold x.numbered.rows shared
    → AreKeptBut (keys touched) shared z.holders → is_sorted text_cmp touched ≡ true → z.changed.fresh ≡ filter (is_fresh holders z.holders) (keys touched) → z.changed.leaving ≡ filter (is_leaving holders z.holders) (keys touched)
    → z.changed.moved ≡ filter (is_moved holders z.holders) (keys touched) → IsReheld z holders x.numbered.rows
reheld z x holders shared touched s after kept rising fresh leaving moved =
    let only : AreKeptBut (keys touched) holders z.holders = subst (λ m. AreKeptBut (keys touched) m z.holders) s kept in
    record {
      holders = after ∙ ap (rehold x.numbered.rows) s;
      fresh = λ r. ap (list_any (same_text r)) fresh ∙ fresh-is holders z.holders (keys touched) only r;
      leaving = λ r. ap (list_any (same_text r)) leaving ∙ leaving-is holders z.holders (keys touched) only r;
      leaving_rise = subst (IsStrictlySortedBy text_cmp) (sym leaving) (filter_rises (is_leaving holders z.holders) touched rising);
      moved = λ r. ap (list_any (same_text r)) moved ∙ moved-is holders z.holders (keys touched) only r;
    }

-- with the rows of what isn't held any more dropped, that is what the rules give
pub claimed : (z : Claimed) (y : Reheld) (x : Replaced) (holders : Holders) (dropped : List Ref) → IsMendable x holders → IsReheld y holders x.numbered.rows → dropped ≡ y.changed.leaving
    → z ≡ record { rows = left_by dropped x.numbered.rows; holders = y.holders; arrival = x.numbered.next; fresh = y.changed.fresh; leaving = y.changed.leaving; moved = y.changed.moved } → IsClaimed z holders x.numbered
claimed z y x holders dropped change is d made = subst (λ v. IsClaimed v holders x.numbered) (sym made) (record {
  rows = ap (λ refs. left_by refs x.numbered.rows) d ∙ (sym (standing_left x.numbered.rows holders y.holders y.changed.leaving change.opens is.leaving) ∙ ap (standing x.numbered.rows) is.holders);
  holders = is.holders;
  arrival = refl;
  fresh = is.fresh;
  leaving = is.leaving;
  leaving_rise = is.leaving_rise;
  moved = is.moved;
})
