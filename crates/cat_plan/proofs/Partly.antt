-- The parts that links give are those of the catalogue, and what an event leaves as it was.
use Rattle.std.proofs.Common.{◌≡◌, ℕ, ◌+◌, Bool, true, false, cond, not, ◌&&◌, List, [], ◌++◌, refl, sym, ap, subst, ◌∙◌, is_some, unwrap_or, true≢false}
use Rattle.std.specs.declared.option.Option.{Option}
use Rattle.std.specs.declared.option.Option.TheVariants.{None, Some}
use Rattle.std.specs.List.{filter, list_any}
use Rattle.std.specs.FinMap.Entries.{is_some-find}
use Rattle.cat_collections.specs.Table.{Text, get, keys, place, same_text, text_cmp}
use Rattle.cat_types.specs.declared.work.Output.{Output}
use Rattle.cat_collections.proofs.Tables.{text_total, text_antisymmetric, find-tabulate}
use Rattle.cat_links.specs.Changes.{AreChanged, with_changes}
use Rattle.cat_links.specs.Links.{Emitted}
use Rattle.cat_links.specs.declared.links.EmitChange.{EmitChange}
use Rattle.cat_model.specs.declared.types.Leaving.{Leaving}
use Rattle.cat_model.specs.declared.types.Orphan.{Orphan}
use Rattle.cat_model.specs.declared.types.Record.{Record}
use Rattle.cat_model.specs.declared.types.State.{State}
use Rattle.cat_model.specs.Catalogue.{Ref, Rules, changed_refs, frame, fresh_refs, held, known_refs, orphan_after, parts, parts_from, parts_of_orphan, parts_of_record, record_after, records_emit, reheld, remarked, rerecorded, same_option, work}
use Rattle.cat_plan.specs.Linked.{AreLinked, AreRecorded, LeavesOthers, TouchesOnly, emit_changes, is_candidate, linked_from, linked_orphan, linked_parts, linked_record, moved}
use Rattle.cat_plan.proofs.Linking.{changed_are, changes_are, orphan_relations_are, relations_are}

-- ---- the parts that links give

-- the parts with the relations of the links are the parts with what all records emit
pub parts_are : (rules : Rules) (links : Emitted) (m : State) → AreLinked rules links m → AreRecorded m → (r : Ref) → linked_parts rules links m r ≡ parts rules m r
parts_are rules links m linked recorded r = go (get m.records r)
  where
    orphan_is : (v : Option Orphan) → linked_orphan rules links r v ≡ parts_of_orphan rules (records_emit rules m) r v
    orphan_is None = refl
    orphan_is (Some x) =
        λ i. Some (record { entity = x.entity; number = x.number; orphan = true; relations = orphan_relations_are rules links m linked recorded r (rules.relations x.entity r) i; issues = [] })

    record_is : (x : Record) (v : Option Output) → linked_record links r x v ≡ parts_of_record (records_emit rules m) r x v
    record_is x None = refl
    record_is x (Some o) = λ i. Some (record { entity = o.entity; number = x.number; orphan = false; relations = relations_are rules links m linked recorded r i; issues = x.issues })

    go : (v : Option Record) → linked_from rules links r (get m.orphans r) v ≡ parts_from rules (records_emit rules m) r (get m.orphans r) v
    go None = orphan_is (get m.orphans r)
    go (Some x) = record_is x x.output

-- ---- what an event leaves as it was

module _ (rules : Rules) (how : Leaving) (m n : State) where
  abbrev h : State
  h = reheld n

  abbrev f : State
  f = rerecorded rules how m n h

  abbrev drawn : Ref → ℕ
  drawn r = n.number + place text_cmp r (fresh_refs n h.holders)

  abbrev has_same : Ref → Bool
  has_same r = same_option rules.same_work (work rules m r) (work rules h r)

  abbrev new : Ref → Record
  new r = record_after (drawn r) (get n.orphans r) (has_same r) (get n.records r)

  -- a reference's record, where it is held
  pub record_at : (r : Ref) → get f.records r ≡ cond (held h.holders r) (Some (new r)) None
  record_at r = find-tabulate text_total text_antisymmetric r (keys h.holders) (λ r. Some (new r)) ∙ ap (λ b. cond b (Some (new r)) None) (sym (is_some-find text_cmp r h.holders))

  -- exactly the references that are held after an event have records
  pub rerecorded_recorded : AreRecorded f
  rerecorded_recorded r = ap is_some (record_at r) ∙ go (held h.holders r)
    where
      go : (b : Bool) → is_some (cond b (Some (new r)) None) ≡ b
      go true = refl
      go false = refl

  -- the record that there is, is the new one
  is_new : (r : Ref) (y : Record) → get f.records r ≡ Some y → new r ≡ y
  is_new r y e = go (held h.holders r) (sym (record_at r) ∙ e)
    where
      go : (b : Bool) → cond b (Some (new r)) None ≡ Some y → new r ≡ y
      go true e = ap (λ v. unwrap_or v (new r)) e
      go false e = absurd (true≢false (sym (ap is_some e)))

  -- a record that was there keeps its output, issues and number
  record_keeps : (k : ℕ) (orphan : Option Orphan) (same : Bool) (x : Record)
      → (x.output ≡ (record_after k orphan same (Some x)).output) × (x.issues ≡ (record_after k orphan same (Some x)).issues) × (x.number ≡ (record_after k orphan same (Some x)).number)
  record_keeps k orphan true x = (refl, refl, refl)
  record_keeps k orphan false x = (refl, refl, refl)

  orphan_at : (r : Ref) (y : Orphan) → get f.orphans r ≡ Some y → orphan_after how (held h.holders r) (get n.records r) (get n.orphans r) ≡ Some y
  orphan_at r y e =
      go (list_any (same_text r) (keys n.orphans ++ keys n.records))
      (sym (find-tabulate text_total text_antisymmetric r (keys n.orphans ++ keys n.records) (λ r. orphan_after how (held h.holders r) (get n.records r) (get n.orphans r))) ∙ e)
    where
      go : (b : Bool) → cond b (orphan_after how (held h.holders r) (get n.records r) (get n.orphans r)) None ≡ Some y → orphan_after how (held h.holders r) (get n.records r) (get n.orphans r) ≡ Some y
      go true e = e
      go false e = absurd (true≢false (sym (ap is_some e)))

  -- an orphan that is one still is the one that it was
  orphan_keeps : (b : Bool) (x y : Orphan) → orphan_after how b None (Some x) ≡ Some y → x ≡ y
  orphan_keeps true x y e = absurd (true≢false (sym (ap is_some e)))
  orphan_keeps false x y e = ap (λ v. unwrap_or v x) e

  -- an event about a reference leaves the others as they were
  pub others_left : (own : Option Ref) → TouchesOnly own m n → LeavesOthers own m f
  others_left own touches = record {
    records = λ r x y o before after.
        let was : get n.records r ≡ Some x = touches.records r o ∙ before in
        let now : record_after (drawn r) (get n.orphans r) (has_same r) (Some x) ≡ y = ap (record_after (drawn r) (get n.orphans r) (has_same r)) (sym was) ∙ is_new r y after in
        let keeps = record_keeps (drawn r) (get n.orphans r) (has_same r) x in
        (keeps.0 ∙ ap (λ (z : Record). z.output) now, keeps.1 ∙ ap (λ (z : Record). z.issues) now, keeps.2 ∙ ap (λ (z : Record). z.number) now);
    come = λ r y o before after.
        let was : get n.records r ≡ None = touches.records r o ∙ before in
        sym (ap (λ (z : Record). z.output) (ap (record_after (drawn r) (get n.orphans r) (has_same r)) (sym was) ∙ is_new r y after));
    orphans = λ r x y o before after e e'.
        orphan_keeps (held h.holders r) x y (sym (λ i. orphan_after how (held h.holders r) ((touches.records r o ∙ before) i) ((touches.orphans r o ∙ e) i)) ∙ orphan_at r y e');
  }

-- ---- marks count for none of this

pub remarked_linked : (rules : Rules) (links : Emitted) (m x : State) → AreLinked rules links x → AreLinked rules links (remarked rules m x)
remarked_linked rules links m x linked = record { in_order = linked.in_order; each = linked.each }

-- the links with what is emitted otherwise are those of the new state
pub relinked_are : (rules : Rules) (links after : Emitted) (own : Option Ref) (m n : State) (changes : List EmitChange) → changes ≡ emit_changes rules own m n → after ≡ with_changes links changes
    → AreLinked rules links m → LeavesOthers own m n → AreLinked rules after n
relinked_are rules links after own m n changes ec ea linked leaves = subst (λ l. AreLinked rules l n) (sym (ea ∙ ap (with_changes links) ec)) (changes_are rules links own m n linked leaves)
