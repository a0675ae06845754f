-- What follows from an event's own change, asked of the references that it reaches.
use Rattle.std.specs.Prelude.{◌≡◌, ℕ, Bool, true, false, cond, not, ◌&&◌, List, [], ◌∷◌, ◌++◌, map, is_some, is_none}
use Rattle.std.specs.declared.option.Option.{Option}
use Rattle.std.specs.declared.option.Option.TheVariants.{None, Some}
use Rattle.std.specs.Option.{option_and_then, option_map}
use Rattle.std.specs.List.{list_any}
use Rattle.std.specs.List.Sorted.{IsStrictlySortedBy}
use Rattle.cat_collections.specs.Table.{Map, get, same_text, text_cmp}
use Rattle.cat_types.specs.declared.parts.Parts.{Parts}
use Rattle.cat_links.specs.Links.{Emitted}
use Rattle.cat_links.specs.declared.links.EmitChange.{EmitChange}
use Rattle.cat_plan.specs.Parts.{has_parts}
use Rattle.cat_model.specs.declared.types.Leaving.{Leaving}
use Rattle.cat_model.specs.declared.types.Orphan.{Orphan}
use Rattle.cat_model.specs.declared.types.Record.{Record}
use Rattle.cat_model.specs.declared.types.State.{State}
use Rattle.cat_model.specs.Catalogue.{Holders, Ref, Rows, Rules, Shelf, due_now, emits, held, new_record, orphan_after, orphan_from_record, reheld, same_option, work}
use Rattle.cat_plan.specs.Linked.{is_own, linked_from, linked_parts}
use Rattle.cat_plan.specs.declared.change.Own.{Own}

-- ---- an event's own change

-- the reference that an event is about
abbrev pub own_reference : Option Own → Option Ref
own_reference own = option_map (λ x. x.reference) own

-- that reference, if there is one, as a list
abbrev pub own_refs : Option Own → List Ref
own_refs None = []
own_refs (Some x) = x.reference ∷ []

-- a reference's record once an event's own change is made
abbrev pub record_then : Option Own → Map Record → Ref → Option Record
record_then None records r = get records r
record_then (Some x) records r = cond (same_text x.reference r) x.kept (get records r)

-- a reference's orphan once an event's own change is made: the event's own reference is none
abbrev pub orphan_then : Option Own → Map Orphan → Ref → Option Orphan
orphan_then None orphans r = get orphans r
orphan_then (Some x) orphans r = cond (same_text x.reference r) None (get orphans r)

-- a state with another shelf, other rows and other holders
abbrev pub held_state : Shelf → Rows → Holders → State → State
held_state shelf rows holders m = record m { shelf = shelf; rows = rows; holders = holders }

-- n is m with an event's own change of its record, its orphan, the shelf and the rows, and holding makes these rows and holders of it
pub record IsOwnChange (own : Option Own) (shelf : Shelf) (rows : Rows) (holders : Holders) (m n : State) : Type 0 where
  pub records : (r : Ref) → get n.records r ≡ record_then own m.records r
  pub orphans : (r : Ref) → get n.orphans r ≡ orphan_then own m.orphans r
  pub marks : n.marks ≡ m.marks
  pub documents : n.documents ≡ m.documents
  pub number : n.number ≡ m.number
  pub ticket : n.ticket ≡ m.ticket
  pub same_shelf : n.shelf ≡ shelf
  pub same_rows : (reheld n).rows ≡ rows
  pub same_holders : (reheld n).holders ≡ holders

-- these are the references that are newly held in h, those that are no longer held, and among others all that are held before and after with other work; what is no longer held stands in order
pub record IsReach (rules : Rules) (m h : State) (fresh leaving touched : List Ref) : Type 0 where
  pub come : (r : Ref) → list_any (same_text r) fresh ≡ (held h.holders r && not (held m.holders r))
  pub left : (r : Ref) → list_any (same_text r) leaving ≡ (held m.holders r && not (held h.holders r))
  pub left_rise : IsStrictlySortedBy text_cmp leaving
  pub others : (r : Ref) → list_any (same_text r) touched ≡ false → held m.holders r ≡ true → held h.holders r ≡ true → work rules m r ≡ work rules h r

-- ---- records

-- whether a reference draws a number: it is held, and has neither record nor orphan
abbrev pub draws : Option Own → State → Holders → Ref → Bool
draws own m holders r = held holders r && (is_none (record_then own m.records r) && is_none (orphan_then own m.orphans r))

-- a new record's number: its orphan's, or else the one drawn
abbrev pub given_number : Option Orphan → Option ℕ → Option ℕ
given_number None drawn = drawn
given_number (Some x) drawn = Some x.number

-- the record to put in place of one that stays: as it is, where an event's own change made it, and due at once where its work changed
abbrev pub kept_put : Bool → Bool → Record → Option Record
kept_put own same x = cond same (cond own (Some x) None) (Some (due_now x))

-- the record to put for a held reference: a new one where it has none
abbrev pub renewed : Bool → Option ℕ → Bool → Option Record → Option Record
renewed own number same None = option_map new_record number
renewed own number same (Some x) = kept_put own same x

-- the record to put for a reference, h being the state with its holders, and numbers those that are drawn
abbrev pub record_put : Rules → Option Own → Map ℕ → State → State → Ref → Option Record
record_put rules own numbers m h r =
    cond (held h.holders r)
    (renewed (is_own (own_reference own) r) (given_number (orphan_then own m.orphans r) (get numbers r)) (same_option rules.same_work (work rules m r) (work rules h r)) (record_then own m.records r))
    None

-- whether a reference has a record that goes
abbrev pub record_goes : State → Holders → Ref → Bool
record_goes m holders r = not (held holders r) && is_some (get m.records r)

-- ---- orphans

-- a reference's orphan after an event
abbrev pub orphan_now : Leaving → Option Own → State → Holders → Ref → Option Orphan
orphan_now how own m holders r = orphan_after how (held holders r) (record_then own m.records r) (orphan_then own m.orphans r)

-- the orphan to put for a reference that left
abbrev pub orphan_put : Leaving → Option Own → State → Holders → Ref → Option Orphan
orphan_put how own m holders r = cond (held holders r) None (option_and_then (orphan_from_record how) (record_then own m.records r))

-- whether a reference has an orphan that goes
abbrev pub orphan_goes : Leaving → Option Own → State → Holders → Ref → Bool
orphan_goes how own m holders r = is_some (get m.orphans r) && is_none (orphan_now how own m holders r)

-- ---- links

-- a held reference's record after an event, but for its due moment and lease; none where it is new
abbrev pub kept_now : Option Own → State → Holders → Ref → Option Record
kept_now own m holders r = cond (held holders r) (record_then own m.records r) None

-- what the reference that an event is about emits after it
abbrev pub own_emits : Rules → Option Own → State → Holders → List EmitChange
own_emits rules None m holders = []
own_emits rules (Some x) m holders = record { emitter = x.reference; relations = emits rules x.reference (option_and_then (λ y. y.output) (kept_now (Some x) m holders x.reference)) } ∷ []

-- what leaves emits nothing, and the reference that an event is about what its record emits then
abbrev pub link_changes : Rules → Option Own → State → Holders → List Ref → List EmitChange
link_changes rules own m holders leaving = map (λ r. record { emitter = r; relations = [] }) leaving ++ own_emits rules own m holders

-- ---- marks and documents

-- the parts of a reference's document after an event, links being those after it
abbrev pub parts_now : Rules → Emitted → Leaving → Option Own → State → Holders → Ref → Option Parts
parts_now rules links how own m holders r = linked_from rules links r (orphan_now how own m holders r) (kept_now own m holders r)

-- whether a reference has parts after an event
abbrev pub has_parts_now : Leaving → Option Own → State → Holders → Ref → Bool
has_parts_now how own m holders r = has_parts (orphan_now how own m holders r) (kept_now own m holders r)

-- whether a reference has parts after an event that aren't those before it, links' being those after it
abbrev pub parts_moved : Rules → Emitted → Emitted → Leaving → Option Own → State → Holders → Ref → Bool
parts_moved rules links links' how own m holders r =
    is_some (parts_now rules links' how own m holders r) && not (same_option rules.same_parts (linked_parts rules links m r) (parts_now rules links' how own m holders r))

-- whether a reference has a mark that goes
abbrev pub mark_goes : Leaving → Option Own → State → Holders → Ref → Bool
mark_goes how own m holders r = is_some (get m.marks r) && not (has_parts_now how own m holders r)

-- whether a reference has a document that goes
abbrev pub document_goes : Leaving → Option Own → State → Holders → Ref → Bool
document_goes how own m holders r = is_some (get m.documents r) && not (has_parts_now how own m holders r)
