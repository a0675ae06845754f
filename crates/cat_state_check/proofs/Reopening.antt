-- A candidate that passes is a state of a catalogue once it has its documents.
use Rattle.std.proofs.Common.{T, ◌≡◌, ◌≤◌, ◌^◌, Bool, true, false, not, ◌&&◌, nat_eq, nat_le, [], inr, length, refl, sym, ap, subst, ◌∙◌, is_none, is_some, true≢false, arith, eqb-true, leb-true}
use Rattle.std.specs.declared.option.Option.{Option}
use Rattle.std.specs.declared.option.Option.TheVariants.{None, Some}
use Rattle.std.specs.FinMap.Entries.{is_sorted}
use Rattle.std.specs.List.{list_all}
use Rattle.std.specs.Option.{option_map}
use Rattle.std.specs.Ordering.{nat_cmp}
use Rattle.cat_collections.specs.Table.{Map, get, over, tabulate, text_cmp}
use Rattle.cat_collections.proofs.Tables.{and_first, and_second, find-tabulate_all, is_sorted-tabulate, not_true, text_antisymmetric, text_total}
use Rattle.cat_types.specs.declared.parts.Parts.{Parts}
use Rattle.cat_model.specs.Catalogue.{Ref, Rules, Tree, due_now, held, known_refs, parts, work}
use Rattle.cat_model.specs.Sound.{AreBegun, AreOffers, AreOrdered, AreNumbers, AreSmall, IsStitched, Sound}
use Rattle.cat_model.specs.Step.{reopened}
use Rattle.cat_model.specs.declared.types.Lease.{Lease}
use Rattle.cat_model.specs.declared.types.Orphan.{Orphan}
use Rattle.cat_model.specs.declared.types.Record.{Record}
use Rattle.cat_model.specs.declared.types.State.{State}
use Rattle.cat_model.proofs.Frame.{right_at_once, unknown}
use Rattle.cat_state_check.specs.declared.offers.RowIndex.{RowIndex}
use Rattle.cat_state_check.specs.Candidate.{are_counters_right, are_items_shown, are_offers_shown, are_tables_sorted, is_all_right, is_bare, is_candidate, is_right_holder, is_right_number, is_right_orphan, is_right_record, is_right_row, names_of}
use Rattle.cat_state_check.specs.Indexed.{Names, row_index}
use Rattle.cat_state_check.proofs.Found.{T-true, found_passes, no_items, over_same}
use Rattle.cat_state_check.proofs.Held.{are_holders, are_recorded, no_orphan}
use Rattle.cat_state_check.proofs.Numbering.{are_numbers}
use Rattle.cat_state_check.proofs.Offering.{are_offers, tested}

-- what a candidate that passes has passed
pub record IsPassed (m : State) (index : RowIndex) (names : Names) : Type 0 where
  pub bare : is_bare m ≡ true
  pub counters : are_counters_right m ≡ true
  pub sorted : are_tables_sorted m ≡ true
  pub rows : list_all (is_right_row m index) m.rows ≡ true
  pub holders : list_all (is_right_holder m) m.holders ≡ true
  pub records : list_all (is_right_record m index names) m.records ≡ true
  pub orphans : list_all (is_right_orphan m names) m.orphans ≡ true
  pub providers : list_all (are_items_shown m.rows index) m.providers ≡ true

all_passed : (m : State) (index : RowIndex) (names : Names) → is_bare m ≡ true → are_counters_right m ≡ true → are_tables_sorted m ≡ true → is_all_right m index names ≡ true → IsPassed m index names
all_passed m index names b c s h = record {
  bare = b;
  counters = c;
  sorted = s;
  rows = and_first _ _ (and_first _ _ (and_first _ _ (and_first _ _ h)));
  holders = and_second r _ (and_first _ _ (and_first _ _ (and_first _ _ h)));
  records = and_second (r && list_all (is_right_holder m) m.holders) _ (and_first _ _ (and_first _ _ h));
  orphans = and_second (r && list_all (is_right_holder m) m.holders && list_all (is_right_record m index names) m.records) _ (and_first _ _ h);
  providers = and_second (r && list_all (is_right_holder m) m.holders && list_all (is_right_record m index names) m.records && list_all (is_right_orphan m names) m.orphans) _ h;
}
  where
    r : Bool
    r = list_all (is_right_row m index) m.rows

pub passed : (m : State) → is_candidate m ≡ true → IsPassed m (row_index m.rows) (names_of m)
unfolding is_candidate
passed m h =
    all_passed m (row_index m.rows) (names_of m) (and_first _ _ (and_first _ _ (and_first _ _ h)))
    (and_second (is_bare m) _ (and_first _ _ (and_first _ _ h)))
    (and_second (is_bare m && are_counters_right m) _ (and_first _ _ h))
    (and_second (is_bare m && are_counters_right m && are_tables_sorted m) _ h)

free : (v : Option Lease) → is_none v ≡ true → v ≡ None
free None h = refl
free (Some x) h = absurd (true≢false (sym h))

module _ (m : State) (index : RowIndex) (names : Names) (p : IsPassed m index names) where
  -- what was tested of a record
  record IsTested (r : Ref) (x : Record) : Type 0 where
    due : x.due ≡ 0
    lease : x.lease ≡ None
    is_held : held m.holders r ≡ true
    number : is_right_number m.number names x.number r ≡ true
    shown : are_offers_shown m.rows index r x.output ≡ true

  record_tested : (r : Ref) (x : Record) → get m.records r ≡ Some x → IsTested r x
  record_tested r x e =
      let five = found_passes text_total text_antisymmetric (is_right_record m index names) m.records p.records r x e in
      let four = and_first _ _ five in
      let three = and_first _ _ four in
      let two = and_first _ _ three in
      record {
        due = eqb-true x.due 0 (and_first _ _ two);
        lease = free x.lease (and_second (nat_eq x.due 0) _ two);
        is_held = and_second (nat_eq x.due 0 && is_none x.lease) _ three;
        number = and_second (nat_eq x.due 0 && is_none x.lease && held m.holders r) _ four;
        shown = and_second (nat_eq x.due 0 && is_none x.lease && held m.holders r && is_right_number m.number names x.number r) _ five;
      }

  orphan_tested : (r : Ref) (x : Orphan) → get m.orphans r ≡ Some x → (held m.holders r ≡ false) × (is_right_number m.number names x.number r ≡ true)
  orphan_tested r x e =
      let h = found_passes text_total text_antisymmetric (is_right_orphan m names) m.orphans p.orphans r x e in
      (not_true _ (and_first _ _ h), and_second (not (held m.holders r)) _ h)

  pub recorded : (r : Ref) → is_some (get m.records r) ≡ held m.holders r
  recorded = are_recorded m p.holders (λ r h. back r (get m.records r) refl h)
    where
      back : (r : Ref) (v : Option Record) → get m.records r ≡ v → is_some v ≡ true → held m.holders r ≡ true
      back r None e h = absurd (true≢false (sym h))
      back r (Some x) e h = (record_tested r x e).is_held

  -- ---- counters, order, and what isn't there yet

  no_marks : m.marks ≡ []
  no_marks = no_items m.marks (and_first _ _ (and_first _ _ (and_first _ _ p.bare)))

  token : m.token ≡ 1
  token = eqb-true m.token 1 (and_second (nat_eq (length m.marks) 0 && nat_eq (length m.documents) 0) _ (and_first _ _ p.bare))

  ticket : m.ticket ≡ 1
  ticket = eqb-true m.ticket 1 (and_second (nat_eq (length m.marks) 0 && nat_eq (length m.documents) 0 && nat_eq m.token 1) _ p.bare)

  arrival_begun : 1 ≤ m.arrival
  arrival_begun = leb-true 1 m.arrival (and_first _ _ (and_first _ _ (and_first _ _ p.counters)))

  arrival_small : m.arrival ≤ 2 ^ 59
  arrival_small = leb-true m.arrival (2 ^ 59) (and_second (nat_le 1 m.arrival) _ (and_first _ _ (and_first _ _ p.counters)))

  number_begun : 1 ≤ m.number
  number_begun = leb-true 1 m.number (and_second (nat_le 1 m.arrival && nat_le m.arrival (2 ^ 59)) _ (and_first _ _ p.counters))

  number_small : m.number ≤ 2 ^ 59
  number_small = leb-true m.number (2 ^ 59) (and_second (nat_le 1 m.arrival && nat_le m.arrival (2 ^ 59) && nat_le 1 m.number) _ p.counters)

  rows_rise : T (is_sorted nat_cmp m.rows)
  rows_rise = T-true _ (and_first _ _ (and_first _ _ (and_first _ _ p.sorted)))

  holders_rise : T (is_sorted text_cmp m.holders)
  holders_rise = T-true _ (and_second (is_sorted nat_cmp m.rows) _ (and_first _ _ (and_first _ _ p.sorted)))

  records_rise : T (is_sorted text_cmp m.records)
  records_rise = T-true _ (and_second (is_sorted nat_cmp m.rows && is_sorted text_cmp m.holders) _ (and_first _ _ p.sorted))

  orphans_rise : T (is_sorted text_cmp m.orphans)
  orphans_rise = T-true _ (and_second (is_sorted nat_cmp m.rows && is_sorted text_cmp m.holders && is_sorted text_cmp m.records) _ p.sorted)

  -- ---- with its documents

  offers_are : AreOffers m
  offers_are = are_offers m index p.rows p.providers (λ e x is. (record_tested e x is).shown)

  numbers_are : AreNumbers m
  numbers_are = are_numbers m names (λ r x e. (record_tested r x e).number) (λ r x e. (orphan_tested r x e).1) number_begun

  module _ (rules : Rules) (documents : Map Tree) (made : documents ≡ tabulate text_cmp (known_refs m) (λ r. option_map rules.doc (parts rules m r))) where
    abbrev pub n : State
    n = record m { documents = documents }

    document_at : (r : Ref) → get documents r ≡ option_map rules.doc (parts rules m r)
    document_at r =
        ap (λ t. get t r) made
        ∙ find-tabulate_all text_total text_antisymmetric r (known_refs m) (λ r. option_map rules.doc (parts rules m r)) (λ e. ap (option_map rules.doc) (unknown rules m r e))

    placed : (v : Option Parts) → IsStitched rules v None (option_map rules.doc v)
    placed None = (refl, refl)
    placed (Some q) = inr refl

    stitched : (r : Ref) → IsStitched rules (parts rules m r) (get m.marks r) (get documents r)
    stitched r =
        subst (λ v. IsStitched rules (parts rules m r) v (get documents r)) (sym (ap (λ t. get t r) no_marks))
        (subst (IsStitched rules (parts rules m r) None) (sym (document_at r)) (placed (parts rules m r)))

    pub sound : Sound rules n
    sound = record {
      offers = record { given = offers_are.given; shown = offers_are.shown; below = offers_are.below; once = offers_are.once };
      holders = are_holders m p.holders (λ a row e. (tested m index p.rows a row e).is_held);
      records = recorded;
      orphans = no_orphan m (λ r x e. (orphan_tested r x e).0);
      right = λ r x e. right_at_once rules (work rules m r) x (record_tested r x e).due;
      stitched = stitched;
      numbers = record { begun = numbers_are.begun; from_one = numbers_are.from_one; below = numbers_are.below; differ = numbers_are.differ };
      in_order = records_rise;
      rows_in_order = rows_rise;
      holders_in_order = holders_rise;
    }

    pub small : AreSmall n
    small = record { arrival = arrival_small; number = number_small; token = omega (arith, token); ticket = omega (arith, ticket) }

    pub begun : AreBegun n
    begun = record { arrival = arrival_begun; number = number_begun; token = omega (arith, token); ticket = omega (arith, ticket) }

    pub ordered : AreOrdered n
    ordered = record {
      orphans = orphans_rise;
      marks = subst (λ t. T (is_sorted text_cmp t)) (sym no_marks) tt;
      documents = subst (λ t. T (is_sorted text_cmp t)) (sym made) (is_sorted-tabulate text_total text_antisymmetric (known_refs m) (λ r. option_map rules.doc (parts rules m r)));
    }

    still : (r : Ref) (x : Record) → get m.records r ≡ Some x → Some (due_now x) ≡ Some x
    still r x e =
        let t = record_tested r x e in
        λ i. Some (record x { due = sym t.due i; lease = sym t.lease i })

    records_stay : over text_cmp m.records (λ r x. Some (due_now x)) ≡ m.records
    records_stay = over_same text_total text_antisymmetric m.records (λ r x. Some (due_now x)) records_rise still

    -- it is the candidate as it is read back from its store
    pub is_reopened : n ≡ reopened rules m
    is_reopened = λ i. record m { records = sym records_stay i; marks = no_marks i; documents = made i; token = token i; ticket = ticket i }
