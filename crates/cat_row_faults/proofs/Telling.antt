-- What is gathered in maps is what the rows tell.
use Rattle.std.proofs.Common.{◌≡◌, ℕ, not, ◌||◌, ◌==◌, List, flat_map, length, map, is_some}
use Rattle.std.specs.Prelude.{slice_get}
use Rattle.std.specs.Ordering.{nat_cmp}
use Rattle.cat_row_format.specs.declared.row.StoredRow.{StoredRow}
use Rattle.cat_collections.specs.Table.{Text, find, text_cmp}
use Rattle.cat_row_faults.specs.Readings.{Readings, read_rows}
use Rattle.cat_row_faults.specs.Told.{answers, arrival_in, asked, drawn_in, given_in, holder_in, is_first, is_once, number_in, orphan_in, rule_in, serial_in, tree_in}
use Rattle.cat_row_faults.specs.declared.told.Told.{Told}

-- each answer is that of the rows
pub record IsTold (t : Told) (n : ℕ) (rows : List StoredRow) : Type 0 where
  pub rows_is : t.rows ≡ n
  pub arrival : t.arrival ≡ slice_get (flat_map arrival_in rows) 0
  pub number : t.number ≡ slice_get (flat_map number_in rows) 0
  pub is_second : t.is_second ≡ (not (length (flat_map rule_in rows) == 0) || not (length (flat_map tree_in rows) == 0))
  pub has_rule : t.has_rule ≡ not (length (flat_map rule_in rows) == 0)
  pub serial : (name : Text) → find text_cmp name t.serials ≡ find text_cmp name (flat_map serial_in rows)
  pub given : (k : ℕ) → find nat_cmp k t.given ≡ find nat_cmp k (flat_map given_in rows)
  pub arrives_once : (k : ℕ) → is_first (find nat_cmp k t.arrivals) ≡ is_once nat_cmp (map (λ e. e.0) (flat_map given_in rows)) k
  pub drawn_once : (k : ℕ) → is_first (find nat_cmp k t.numbers) ≡ is_once nat_cmp (flat_map drawn_in rows) k
  pub holder : (r : Text) → find text_cmp r t.holders ≡ find text_cmp r (flat_map holder_in rows)
  pub records : t.records ≡ length (flat_map holder_in rows)
  pub orphan : (r : Text) → find text_cmp r t.orphans ≡ find text_cmp r (flat_map orphan_in rows)
  pub tree : (k : ℕ) → find nat_cmp k t.trees ≡ find nat_cmp k (flat_map tree_in rows)

pub told_is : (t : Told) (rs : Readings) → IsTold t (length rs) (read_rows rs) → asked t ≡ answers rs
told_is t rs h =
    λ i. record {
      rows = h.rows_is i;
      arrival = h.arrival i;
      number = h.number i;
      is_second = h.is_second i;
      has_rule = h.has_rule i;
      serial = λ name. h.serial name i;
      given = λ k. h.given k i;
      arrives_once = λ k. h.arrives_once k i;
      drawn_once = λ k. h.drawn_once k i;
      holder = λ r. h.holder r i;
      records = h.records i;
      is_orphan = λ r. is_some (h.orphan r i);
      tree = λ k. h.tree k i;
    }
