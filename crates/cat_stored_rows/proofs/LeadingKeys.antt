-- How far changes lead while keys are left to be looked at.
use Rattle.std.proofs.Common.{T, ◌≡◌, ◌||◌, Bool, true, false, cond, List, [], ◌∷◌, refl, sym, ap, subst, ◌∙◌}
use Rattle.std.specs.Prelude.{IsTrue}
use Rattle.std.specs.declared.option.Option.{Option}
use Rattle.std.specs.declared.option.Option.TheVariants.{None, Some}
use Rattle.std.specs.FinMap.Entries.{find-put, is_sorted, same_entries}
use Rattle.std.specs.Option.{option_map}
use Rattle.std.specs.Ordering.{eq_by_cmp}
use Rattle.cat_collections.specs.Table.{find, put, put_some}
use Rattle.cat_keeper.specs.Store.{Changes, RowKey, applied, row_cmp}
use Rattle.cat_keeper.specs.declared.rows.Change.{Change}
use Rattle.cat_stored_rows.specs.Stored.{Stored, text_in, texts_of}
use Rattle.cat_stored_rows.proofs.In.{found_map, none_some, same_some}
use Rattle.cat_stored_rows.proofs.Leading.{row_antisymmetric, row_total, told_sorted}
use Rattle.cat_stored_rows.proofs.Needing.{one_needed}
use Rattle.cat_stored_rows.specs.Differing.{AreNeeded, AreSameBut, IsTurn, IsTurnedAt, is_among, text_after}
use Rattle.cat_stored_rows.proofs.Finding.{after, find-applied, same_key, sorted-applied}

-- Each change leaves what the new rows have at its key, and is needed. Where there is none and the key isn't among those that are left, the rows are the same.
pub record Leads (old new : Stored) (left : List RowKey) (changes : Changes) : Type 0 where
  pub leaves : (k : RowKey) (c : Change) → find row_cmp k changes ≡ Some c → text_after c ≡ option_map text_in (find row_cmp k new)
  pub stays : (k : RowKey) → find row_cmp k changes ≡ None → is_among k left ≡ false → find row_cmp k new ≡ find row_cmp k old
  pub needed : AreNeeded old new changes

pub begins : (keys : List RowKey) (old new : Stored) → AreSameBut keys old new → Leads old new keys []
begins keys old new same = record { leaves = λ k c e. absurd (none_some e); stays = λ k e apart. same k apart; needed = λ k e. refl }

module _ (key : RowKey) (left : List RowKey) (old new : Stored) (b : Changes) (h : Leads old new (key ∷ left) b) where
  apart_from : (k : RowKey) → eq_by_cmp row_cmp k key ≡ false → is_among k left ≡ false → is_among k (key ∷ left) ≡ false
  apart_from k e apart = ap (λ t. t || is_among k left) e ∙ apart

  -- the row at the key stays
  kept : find row_cmp key new ≡ find row_cmp key old → Leads old new left b
  kept same = record { leaves = h.leaves; stays = λ k none apart. at k none apart (eq_by_cmp row_cmp k key) refl; needed = h.needed }
    where
      at : (k : RowKey) → find row_cmp k b ≡ None → is_among k left ≡ false → (t : Bool) → eq_by_cmp row_cmp k key ≡ t → find row_cmp k new ≡ find row_cmp k old
      at k none apart true e = subst (λ (j : RowKey). find row_cmp j new ≡ find row_cmp j old) (sym (same_key k key e)) same
      at k none apart false e = h.stays k none (apart_from k e apart)

  -- a change was put at the key
  turned : (c : Change) → (find row_cmp key new ≡ find row_cmp key old → ⊥) → text_after c ≡ option_map text_in (find row_cmp key new) → Leads old new left (put row_cmp key c b)
  turned c differ turn = record {
    needed = one_needed old new b key c h.needed differ;
    leaves = λ k d e. leaves k d (eq_by_cmp row_cmp k key) refl (sym (find-put row_cmp row_total k key c b) ∙ e);
    stays = λ k none apart. stays k apart (eq_by_cmp row_cmp k key) refl (sym (find-put row_cmp row_total k key c b) ∙ none);
  }
    where
      leaves : (k : RowKey) (d : Change) (t : Bool) → eq_by_cmp row_cmp k key ≡ t → cond t (Some c) (find row_cmp k b) ≡ Some d → text_after d ≡ option_map text_in (find row_cmp k new)
      leaves k d true e is = ap text_after (sym (same_some is)) ∙ (turn ∙ ap (λ j. option_map text_in (find row_cmp j new)) (sym (same_key k key e)))
      leaves k d false e is = h.leaves k d is

      stays : (k : RowKey) → is_among k left ≡ false → (t : Bool) → eq_by_cmp row_cmp k key ≡ t → cond t (Some c) (find row_cmp k b) ≡ None → find row_cmp k new ≡ find row_cmp k old
      stays k apart true e none = absurd (none_some (sym none))
      stays k apart false e none = h.stays k none (apart_from k e apart)

  one_more : (change : Option Change) → IsTurn (find row_cmp key old) (find row_cmp key new) change → Leads old new left (put_some row_cmp key change b)
  one_more None same = kept same
  one_more (Some c) turn = turned c turn.0 turn.1

  -- the key was looked at
  pub goes_on : (after : Changes) → IsTurnedAt key old new b after → Leads old new left after
  goes_on after e = subst (λ (d : Changes). Leads old new left d) (sym e.2) (one_more e.0 e.1)

from_true : (b : Bool) → IsTrue b → T b
from_true b h = subst T (sym h) tt

-- no key is left
pub arrives : (old new : Stored) (b : Changes) → IsTrue (is_sorted row_cmp old) → IsTrue (is_sorted row_cmp new) → IsTrue (is_sorted row_cmp b) → Leads old new [] b
    → applied b (texts_of old) ≡ texts_of new
arrives old new b g h s led =
    same_entries row_cmp row_total row_antisymmetric (applied b (texts_of old)) (texts_of new)
    (sorted-applied b (texts_of old) (from_true (is_sorted row_cmp (texts_of old)) (told_sorted text_in old ∙ g)))
    (from_true (is_sorted row_cmp (texts_of new)) (told_sorted text_in new ∙ h))
    (λ q. find-applied b (texts_of old) q s
    ∙ (ap (after (find row_cmp q b)) (found_map row_total row_antisymmetric text_in old q)
    ∙ (at q (find row_cmp q b) refl
    ∙ sym (found_map row_total row_antisymmetric text_in new q))))
  where
    at : (q : RowKey) (v : Option Change) → find row_cmp q b ≡ v → after v (option_map text_in (find row_cmp q old)) ≡ option_map text_in (find row_cmp q new)
    at q None e = ap (option_map text_in) (sym (led.stays q e refl))
    at q (Some c) e = led.leaves q c e
