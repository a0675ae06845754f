-- The holders, records and orphans of a tested candidate.
use Rattle.std.proofs.Common.{◌≡◌, ℕ, true, false, ◌&&◌, length, refl, sym, ◌∙◌, is_some, true≢false}
use Rattle.std.specs.declared.option.Option.{Option}
use Rattle.std.specs.declared.option.Option.TheVariants.{None, Some}
use Rattle.std.specs.Cmp.{both_ways}
use Rattle.std.specs.List.{list_all}
use Rattle.cat_collections.specs.Table.{get}
use Rattle.cat_collections.proofs.Tables.{and_first, and_second, same_is, some_or_none, text_antisymmetric, text_total}
use Rattle.cat_model.specs.Catalogue.{Ref, Rows, held, row_at}
use Rattle.cat_model.specs.Sound.{AreHolders, IsRowOf}
use Rattle.cat_model.specs.declared.types.Orphan.{Orphan}
use Rattle.cat_model.specs.declared.types.Row.{Row}
use Rattle.cat_model.specs.declared.types.State.{State}
use Rattle.cat_state_check.specs.Above.{climbs_from}
use Rattle.cat_state_check.specs.Candidate.{is_right_holder, is_row_of}
use Rattle.cat_state_check.proofs.Climbing.{climbs_is}
use Rattle.cat_state_check.proofs.Found.{found_passes}

row_of_is : (rows : Rows) (r : Ref) (a : ℕ) (v : Option Row) → row_at rows a ≡ v → is_row_of r v ≡ true → IsRowOf rows r a
row_of_is rows r a None e h = absurd (true≢false (sym h))
row_of_is rows r a (Some row) e h = record { row = row; at = e; names = same_is text_total text_antisymmetric row.reference r h }

module _ (m : State) (holders : list_all (is_right_holder m) m.holders ≡ true) where
  -- what was tested of a holder
  record IsHolding (r : Ref) (a : ℕ) : Type 0 where
    row : IsRowOf m.rows r a
    climbs : climbs_from m.rows m.holders (length m.holders) a ≡ true
    recorded : is_some (get m.records r) ≡ true

  holding : (r : Ref) (a : ℕ) → get m.holders r ≡ Some a → IsHolding r a
  holding r a e =
      let h = found_passes text_total text_antisymmetric (is_right_holder m) m.holders holders r a e in
      record {
        row = row_of_is m.rows r a (row_at m.rows a) refl (and_first _ _ (and_first _ _ h));
        climbs = and_second (is_row_of r (row_at m.rows a)) _ (and_first _ _ h);
        recorded = and_second (is_row_of r (row_at m.rows a) && climbs_from m.rows m.holders (length m.holders) a) _ h;
      }

  -- each holder is a row of its reference and rooted, and each row's reference is held
  pub are_holders : ((a : ℕ) (row : Row) → row_at m.rows a ≡ Some row → held m.holders row.reference ≡ true) → AreHolders m.rows m.holders
  are_holders all = record {
    rows_of = λ r a e. (holding r a e).row;
    all_rooted = λ r h. let a = some_or_none (get m.holders r) h in climbs_is m.rows m.holders (length m.holders) r a.0 a.1 ∙ (holding r a.0 a.1).climbs;
    all_held = all;
  }

  -- exactly the held references have records
  pub are_recorded : ((r : Ref) → is_some (get m.records r) ≡ true → held m.holders r ≡ true) → (r : Ref) → is_some (get m.records r) ≡ held m.holders r
  are_recorded back r = both_ways _ _ (back r) (λ h. let a = some_or_none (get m.holders r) h in (holding r a.0 a.1).recorded)

-- no held reference is an orphan, where no orphan is held
pub no_orphan : (m : State) → ((r : Ref) (x : Orphan) → get m.orphans r ≡ Some x → held m.holders r ≡ false) → (r : Ref) → held m.holders r ≡ true → get m.orphans r ≡ None
no_orphan m free r h = go (get m.orphans r) refl
  where
    go : (v : Option Orphan) → get m.orphans r ≡ v → v ≡ None
    go None e = refl
    go (Some x) e = absurd (true≢false (sym h ∙ free r x e))
