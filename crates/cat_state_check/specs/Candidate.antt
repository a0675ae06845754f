-- What is asked of a candidate before it counts as a state.
use Rattle.std.specs.Prelude.{ℕ, ◌^◌, Bool, true, false, not, ◌&&◌, nat_eq, nat_le, nat_lt, [], is_none, is_some, length}
use Rattle.std.specs.declared.option.Option.{Option}
use Rattle.std.specs.declared.option.Option.TheVariants.{None, Some}
use Rattle.std.specs.Option.{option_and_then}
use Rattle.std.specs.Ordering.{nat_cmp}
use Rattle.std.specs.List.{list_all}
use Rattle.std.specs.FinMap.Entries.{is_sorted}
use Rattle.cat_tree.specs.Same.{is_same}
use Rattle.cat_collections.specs.Table.{find, get, same_text, text_cmp}
use Rattle.cat_types.specs.declared.input.Offered.{Offered}
use Rattle.cat_types.specs.declared.work.Output.{Output}
use Rattle.cat_model.specs.Catalogue.{Ref, Rows, held, row_at}
use Rattle.cat_model.specs.Sound.{offered}
use Rattle.cat_model.specs.Step.{is_offer}
use Rattle.cat_model.specs.declared.types.Orphan.{Orphan}
use Rattle.cat_model.specs.declared.types.Origin.{Origin}
use Rattle.cat_model.specs.declared.types.Origin.TheVariants.{Provider, Entity}
use Rattle.cat_model.specs.declared.types.ProviderInputs.{ProviderInputs}
use Rattle.cat_model.specs.declared.types.Record.{Record}
use Rattle.cat_model.specs.declared.types.Row.{Row}
use Rattle.cat_model.specs.declared.types.State.{State}
use Rattle.cat_state_check.specs.declared.offers.RowIndex.{RowIndex}
use Rattle.cat_state_check.specs.Above.{climbs_from}
use Rattle.cat_state_check.specs.Indexed.{Names, arrival_in, row_index, with_names}

-- ---- rows and offers

-- whether what is offered has this key and tree
abbrev pub is_offered : Offered → Option Offered → Bool
is_offered x None = false
is_offered x (Some y) = same_text y.key x.key && is_same y.tree x.tree

-- whether an arrival is the one that was found
abbrev pub is_arrival : ℕ → Option ℕ → Bool
is_arrival a None = false
is_arrival a (Some b) = nat_eq b a

-- whether a row is offered by its origin, alone under its origin and reference, arrived, and has its reference held
abbrev pub is_right_row : State → RowIndex → ℕ × Row → Bool
is_right_row m index e =
    is_offered e.1.offered (offered m e.1.origin e.1.reference) && is_arrival e.0 (arrival_in index e.1.origin e.1.reference) && nat_lt e.0 m.arrival && held m.holders e.1.reference

-- whether the row that is kept for an origin and a reference is of both
abbrev pub is_shown : Rows → RowIndex → Origin → Ref → Bool
is_shown rows index o r = is_offer o r (option_and_then (row_at rows) (arrival_in index o r))

-- whether each item of a provider has its row
abbrev pub are_items_shown : Rows → RowIndex → Ref × ProviderInputs → Bool
are_items_shown rows index e = list_all (λ x. is_shown rows index (Provider e.0) x.0) e.1.items

-- whether each offer of a kept output has its row
abbrev pub are_offers_shown : Rows → RowIndex → Ref → Option Output → Bool
are_offers_shown rows index e None = true
are_offers_shown rows index e (Some output) = list_all (λ x. is_shown rows index (Entity e) x.0) output.offers

-- ---- holders, records and orphans

-- whether a row is of a reference
abbrev pub is_row_of : Ref → Option Row → Bool
is_row_of r None = false
is_row_of r (Some row) = same_text row.reference r

-- whether a holder is a row of its reference, reaches a provider up the origins, and has a record
abbrev pub is_right_holder : State → Ref × ℕ → Bool
is_right_holder m e = is_row_of e.0 (row_at m.rows e.1) && climbs_from m.rows m.holders (length m.holders) e.1 && is_some (get m.records e.0)

-- whether a reference is the one that was found
abbrev pub is_name : Ref → Option Ref → Bool
is_name r None = false
is_name r (Some q) = same_text q r

-- whether a number is at least 1, below the counter, and that of this reference alone
abbrev pub is_right_number : ℕ → Names → ℕ → Ref → Bool
is_right_number next names number r = nat_le 1 number && nat_lt number next && is_name r (find nat_cmp number names)

-- whether a record is due at once, free, and held, has a number of its own, and has a row for each offer of its output
abbrev pub is_right_record : State → RowIndex → Names → Ref × Record → Bool
is_right_record m index names e =
    nat_eq e.1.due 0 && is_none e.1.lease && held m.holders e.0 && is_right_number m.number names e.1.number e.0 && are_offers_shown m.rows index e.0 e.1.output

-- whether an orphan isn't held, and has a number of its own
abbrev pub is_right_orphan : State → Names → Ref × Orphan → Bool
is_right_orphan m names e = not (held m.holders e.0) && is_right_number m.number names e.1.number e.0

-- ---- the whole

-- whether rows, holders, records and orphans are in order of their keys
abbrev pub are_tables_sorted : State → Bool
are_tables_sorted m = is_sorted nat_cmp m.rows && is_sorted text_cmp m.holders && is_sorted text_cmp m.records && is_sorted text_cmp m.orphans

-- whether there are no marks, no documents, no tokens and no tickets yet
abbrev pub is_bare : State → Bool
is_bare m = nat_eq (length m.marks) 0 && nat_eq (length m.documents) 0 && nat_eq m.token 1 && nat_eq m.ticket 1

-- whether the next arrival and the next number are at least 1 and at most 2 ^ 59
abbrev pub are_counters_right : State → Bool
are_counters_right m = nat_le 1 m.arrival && nat_le m.arrival (2 ^ 59) && nat_le 1 m.number && nat_le m.number (2 ^ 59)

-- the references of a state by number
abbrev pub names_of : State → Names
names_of m = with_names (λ x. x.number) m.orphans (with_names (λ x. x.number) m.records [])

-- whether each row, holder, record, orphan and provider passes
abbrev pub is_all_right : State → RowIndex → Names → Bool
is_all_right m index names =
    list_all (is_right_row m index) m.rows
    && list_all (is_right_holder m) m.holders
    && list_all (is_right_record m index names) m.records
    && list_all (is_right_orphan m names) m.orphans
    && list_all (are_items_shown m.rows index) m.providers

-- whether a candidate is a state without leases, marks and documents, in which all is due
unfoldable pub is_candidate : State → Bool
is_candidate m = is_bare m && are_counters_right m && are_tables_sorted m && is_all_right m (row_index m.rows) (names_of m)
