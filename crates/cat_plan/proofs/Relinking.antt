-- Links, marks, documents and tickets, asked of what a change reaches, are those of the catalogue.
use Rattle.std.proofs.Common.{◌≡◌, ℕ, ◌+◌, Bool, true, false, cond, not, ◌&&◌, ◌||◌, List, [], ◌∷◌, ◌++◌, length, map, refl, sym, ap, subst, ◌∙◌, is_some, is_none, true≢false}
use Rattle.std.specs.declared.option.Option.{Option}
use Rattle.std.specs.declared.option.Option.TheVariants.{None, Some}
use Rattle.std.specs.Bool.{beq}
use Rattle.std.specs.Option.{option_and_then}
use Rattle.std.specs.List.{filter, list_any}
use Rattle.std.specs.List.Sorted.{IsStrictlySortedBy}
use Rattle.std.specs.FinMap.Entries.{is_some-find}
use Rattle.std.proofs.lemmas.List.Kept.{IsStrictlySortedBy-filter}
use Rattle.cat_collections.specs.Order.{in_order}
use Rattle.cat_collections.specs.Table.{Map, Text, get, keys, place, same_text, text_cmp}
use Rattle.cat_types.specs.declared.parts.Parts.{Parts}
use Rattle.cat_types.specs.declared.work.Output.{Output}
use Rattle.cat_collections.proofs.Orders.{has-filter, in_order-rises, in_order_is, keys_rise}
use Rattle.cat_collections.proofs.Tables.{text_total, text_antisymmetric, find-over, find-tabulate_all, is_sorted-tabulate}
use Rattle.cat_links.specs.Changes.{AreChanged, with_changes}
use Rattle.cat_links.specs.Links.{Emitted}
use Rattle.cat_links.specs.declared.links.EmitChange.{EmitChange}
use Rattle.cat_plan.specs.Parts.{has_parts}
use Rattle.cat_model.specs.declared.types.Leaving.{Leaving}
use Rattle.cat_model.specs.declared.types.Orphan.{Orphan}
use Rattle.cat_model.specs.declared.types.Record.{Record}
use Rattle.cat_model.specs.declared.types.State.{State}
use Rattle.cat_model.specs.Catalogue.{Holders, Ref, Rows, Rules, Shelf, Tree, changed_refs, document_after, emits, fresh_refs, held, known_refs, mark_after, output_of, parts, record_after, reheld, remarked, rerecorded, same_option, tickets, work, orphan_after}
use Rattle.cat_model.specs.Sound.{AreOrdered, IsStitched, Sound}
use Rattle.cat_model.proofs.Frame.{unknown}
use Rattle.cat_plan.specs.Amended.{amended}
use Rattle.cat_plan.specs.Linked.{AreLinked, AreRecorded, LeavesOthers, TouchesOnly, is_candidate, left_changes, linked_from, linked_parts, linked_record, own_changes}
use Rattle.cat_plan.specs.Following.{IsOwnChange, IsReach, document_goes, has_parts_now, held_state, kept_now, link_changes, mark_goes, orphan_now, orphan_then, own_emits, own_reference, own_refs, parts_moved, parts_now, record_then}
use Rattle.cat_plan.specs.declared.change.Own.{Own}
use Rattle.cat_plan.proofs.Amending.{amended_is, drawn_are_put, value_after}
use Rattle.cat_plan.proofs.Linking.{changed_among, parts_stay}
use Rattle.cat_plan.proofs.Partly.{others_left, parts_are, record_at, relinked_are, rerecorded_recorded}
use Rattle.cat_plan.proofs.Recording.{held_as_before, held_is, orphan_is, orphan_outside, outside, record_then_other, orphan_then_other}

-- what a record that is renewed keeps
output_kept : (k : ℕ) (orphan : Option Orphan) (same : Bool) (v : Option Record) → option_and_then (λ (x : Record). x.output) (Some (record_after k orphan same v)) ≡ option_and_then (λ (x : Record). x.output) v
output_kept k orphan same None = refl
output_kept k orphan true (Some x) = refl
output_kept k orphan false (Some x) = refl

linked_kept : (rules : Rules) (links : Emitted) (r : Ref) (o : Option Orphan) (k : ℕ) (orphan : Option Orphan) (same : Bool) (x : Record)
    → linked_from rules links r o (Some x) ≡ linked_from rules links r o (Some (record_after k orphan same (Some x)))
linked_kept rules links r o k orphan true x = refl
linked_kept rules links r o k orphan false x = go x.output
  where
    go : (v : Option Output) → linked_record links r x v ≡ linked_record links r (record x { due = 0; lease = None }) v
    go None = refl
    go (Some y) = refl

linked_has : (rules : Rules) (links : Emitted) (r : Ref) (o : Option Orphan) (v : Option Record) → is_some (linked_from rules links r o v) ≡ has_parts o v
linked_has rules links r None None = refl
linked_has rules links r (Some x) None = refl
linked_has rules links r o (Some y) = go y.output
  where
    go : (v : Option Output) → is_some (linked_record links r y v) ≡ is_some v
    go None = refl
    go (Some z) = refl

module _ (rules : Rules) (how : Leaving) (own : Option Own) (shelf : Shelf) (rows : Rows) (holders : Holders) (fresh leaving touched : List Ref) (m n : State)
    (sound : Sound rules m) (reach : IsReach rules m (held_state shelf rows holders m) fresh leaving touched) (change : IsOwnChange own shelf rows holders m n) where
  abbrev h : State
  h = reheld n

  abbrev f : State
  f = rerecorded rules how m n h

  touches : TouchesOnly (own_reference own) m n
  touches = record { records = λ r e. change.records r ∙ record_then_other own m.records r e; orphans = λ r e. change.orphans r ∙ orphan_then_other own m.orphans r e }

  leaves : LeavesOthers (own_reference own) m f
  leaves = others_left rules how m n (own_reference own) touches

  abbrev drawn : Ref → ℕ
  drawn q = n.number + place text_cmp q (fresh_refs n h.holders)

  abbrev has_same : Ref → Bool
  has_same q = same_option rules.same_work (work rules m q) (work rules h q)

  is_held : (q : Ref) → held h.holders q ≡ held holders q
  is_held = held_is rules how own shelf rows holders fresh leaving touched m n sound reach change

  -- a reference's record after the change
  record_is : (q : Ref) → get f.records q ≡ cond (held holders q) (Some (record_after (drawn q) (get n.orphans q) (has_same q) (record_then own m.records q))) None
  record_is q = record_at rules how m n q ∙ (λ i. cond (is_held q i) (Some (record_after (drawn q) (get n.orphans q) (has_same q) (change.records q i))) None)

  recorded : AreRecorded f
  recorded = rerecorded_recorded rules how m n

  is_recorded : (q : Ref) → is_some (get f.records q) ≡ held holders q
  is_recorded q = recorded q ∙ is_held q

  -- ---- links

  abbrev gone : List Ref
  gone = filter (λ e. is_none (get f.records e)) (keys m.records)

  leaving_are : leaving ≡ gone
  leaving_are =
      in_order_is text_total text_antisymmetric gone leaving reach.left_rise
      (λ q. reach.left q ∙ (same q ∙ sym (has-filter text_total text_antisymmetric (λ e. is_none (get f.records e)) q (keys m.records))))
      ∙ sym (in_order_is text_total text_antisymmetric gone gone (IsStrictlySortedBy-filter text_cmp (λ e. is_none (get f.records e)) (keys m.records) (keys_rise text_total text_antisymmetric m.records sound.in_order)) (λ q. refl))
    where
      none : (v : Option Record) (b : Bool) → is_some v ≡ b → not b ≡ is_none v
      none None b e = ap not (sym e)
      none (Some x) b e = ap not (sym e)

      swap : (a b : Bool) → (a && b) ≡ (b && a)
      swap true true = refl
      swap true false = refl
      swap false true = refl
      swap false false = refl

      same : (q : Ref) → (held m.holders q && not (held holders q)) ≡ (is_none (get f.records q) && list_any (same_text q) (keys m.records))
      same q = swap (held m.holders q) (not (held holders q))
          ∙ (λ i. none (get f.records q) (held holders q) (is_recorded q) i && (sym (sound.records q) ∙ is_some-find text_cmp q m.records) i)

  output_is : (q : Ref) → option_and_then (λ (y : Record). y.output) (kept_now own m holders q) ≡ output_of f.records q
  output_is q = go (held holders q) ∙ sym (ap (option_and_then (λ (y : Record). y.output)) (record_is q))
    where
      go : (b : Bool) → option_and_then (λ (y : Record). y.output) (cond b (record_then own m.records q) None)
          ≡ option_and_then (λ (y : Record). y.output) (cond b (Some (record_after (drawn q) (get n.orphans q) (has_same q) (record_then own m.records q))) None)
      go true = sym (output_kept (drawn q) (get n.orphans q) (has_same q) (record_then own m.records q))
      go false = refl

  -- the links after the planned changes are those of the records after the change
  pub linked_are : (links after : Emitted) (changes : List EmitChange) → AreLinked rules links m → changes ≡ link_changes rules own m holders leaving → after ≡ with_changes links changes → AreLinked rules after f
  linked_are links after changes linked ec ea =
      relinked_are rules links after (own_reference own) m f changes (ec ∙ (λ i. left_is i ++ own_is i)) ea linked leaves
    where
      left_is : map (λ r. record { emitter = r; relations = [] }) leaving ≡ left_changes m f
      left_is = ap (map (λ r. record { emitter = r; relations = [] })) leaving_are

      emits_is : (v : Option Own) → own ≡ v → own_emits rules v m holders ≡ own_changes rules (own_reference v) f
      emits_is None e = refl
      emits_is (Some x) e =
          let o : option_and_then (λ (y : Record). y.output) (kept_now (Some x) m holders x.reference) ≡ output_of f.records x.reference =
          ap (λ v. option_and_then (λ (y : Record). y.output) (kept_now v m holders x.reference)) (sym e) ∙ output_is x.reference in
          λ i. record { emitter = x.reference; relations = emits rules x.reference (o i) } ∷ []

      own_is : own_emits rules own m holders ≡ own_changes rules (own_reference own) f
      own_is = emits_is own refl

  -- ---- parts

  orphan_at : (q : Ref) → get f.orphans q ≡ orphan_now how own m holders q
  orphan_at = orphan_is rules how own shelf rows holders fresh leaving touched m n sound reach change

  parts_now_are : (links : Emitted) (q : Ref) → parts_now rules links how own m holders q ≡ linked_parts rules links f q
  parts_now_are links q =
      go (held holders q) (record_then own m.records q) (orphan_then own m.orphans q)
      ∙ (λ i. linked_from rules links q (sym (orphan_at q) i) (sym (record_is q) i))
    where
      go : (b : Bool) (v : Option Record) (o : Option Orphan)
          → linked_from rules links q (orphan_after how b v o) (cond b v None)
          ≡ linked_from rules links q (orphan_after how b v o) (cond b (Some (record_after (drawn q) (get n.orphans q) (has_same q) v)) None)
      go false v o = refl
      go true None o = refl
      go true (Some x) o = linked_kept rules links q None (drawn q) (get n.orphans q) (has_same q) x

  module _ (ordered : AreOrdered m) (links links' : Emitted) (changed : List Text) (linked : AreLinked rules links m) (linked' : AreLinked rules links' f) (are : AreChanged links links' changed) where
    abbrev asked : List Ref
    asked = in_order text_cmp (((own_refs own ++ fresh) ++ leaving) ++ changed)

    abbrev g : State
    g = remarked rules m f

    now_is : (q : Ref) → parts_now rules links' how own m holders q ≡ parts rules f q
    now_is q = parts_now_are links' q ∙ parts_are rules links' f linked' recorded q

    then_is : (q : Ref) → linked_parts rules links m q ≡ parts rules m q
    then_is = parts_are rules links m linked sound.records

    has_is : (q : Ref) → has_parts_now how own m holders q ≡ is_some (parts rules f q)
    has_is q = sym (linked_has rules links' q (orphan_now how own m holders q) (kept_now own m holders q)) ∙ ap is_some (now_is q)

    abbrev same_parts_at : Ref → Bool
    same_parts_at q = same_option rules.same_parts (parts rules m q) (parts rules f q)

    abbrev is_changed : Ref → Bool
    is_changed q = is_some (parts rules f q) && not (same_parts_at q)

    moved_is : (q : Ref) → parts_moved rules links links' how own m holders q ≡ is_changed q
    moved_is q = λ i. is_some (now_is q i) && not (same_option rules.same_parts (then_is q i) (now_is q i))

    -- what isn't asked is no candidate
    not_candidate : (q : Ref) → list_any (same_text q) asked ≡ false → is_candidate changed (own_reference own) m f q ≡ false
    not_candidate q e =
        let o = outside own fresh leaving changed q e in
        let as_before = held_as_before (held m.holders q) (held holders q) (sym (reach.come q) ∙ o.fresh_not) (sym (reach.left q) ∙ o.leaving_not) in
        let same_record : is_some (get f.records q) ≡ is_some (get m.records q) = is_recorded q ∙ (as_before ∙ sym (sound.records q)) in
        let same_orphan : get f.orphans q ≡ get m.orphans q = orphan_at q ∙ orphan_outside rules how own shelf rows holders fresh leaving touched m n sound reach change changed q o in
        (λ i. (o.more_not i || o.own_not i) || not (beq (is_some (get m.records q)) (same_record i) && beq (is_some (get m.orphans q)) (is_some (same_orphan i))))
        ∙ go (is_some (get m.records q)) (is_some (get m.orphans q))
      where
        go : (a b : Bool) → ((false || false) || not (beq a a && beq b b)) ≡ false
        go true true = refl
        go true false = refl
        go false true = refl
        go false false = refl

    abbrev moved : List Ref
    moved = filter (parts_moved rules links links' how own m holders) asked

    rises : IsStrictlySortedBy text_cmp asked
    rises = in_order-rises text_total text_antisymmetric (((own_refs own ++ fresh) ++ leaving) ++ changed)

    pub moved_are : moved ≡ changed_refs rules m f
    moved_are = (λ i. filter (λ q. moved_is q i) asked)
        ∙ changed_among rules links links' changed (own_reference own) m f linked linked' are leaves sound.records recorded asked rises not_candidate

    pub ticket_is : (ticket : ℕ) → ticket ≡ m.ticket + length moved → ticket ≡ g.ticket
    ticket_is ticket e = e ∙ (λ i. sym change.ticket i + length (moved_are i))

    -- a reference is among those that changed just where it did
    changed_there : (q : Ref) → list_any (same_text q) moved ≡ is_changed q
    changed_there q = ap (list_any (same_text q)) moved_are ∙ (has-filter text_total text_antisymmetric is_changed q (known_refs f) ∙ go (list_any (same_text q) (known_refs f)) refl)
      where
        and_true : (b : Bool) → (b && true) ≡ b
        and_true true = refl
        and_true false = refl

        and_false : (b : Bool) → (b && false) ≡ false
        and_false true = refl
        and_false false = refl

        go : (b : Bool) → list_any (same_text q) (known_refs f) ≡ b → (is_changed q && b) ≡ is_changed q
        go true e = and_true (is_changed q)
        go false e = and_false (is_changed q) ∙ sym (ap (λ p. is_some p && not (same_option rules.same_parts (parts rules m q) p)) (unknown rules f q e))

    -- a reference that isn't asked keeps its parts
    stays : (q : Ref) → list_any (same_text q) asked ≡ false → parts rules m q ≡ parts rules f q
    stays q e = parts_stay rules links links' changed (own_reference own) m f linked linked' are leaves sound.records recorded q (not_candidate q e)

    -- ---- marks

    mark_at : (q : Ref) → get g.marks q ≡ mark_after (m.ticket + place text_cmp q moved) (parts rules f q) (same_parts_at q) (get m.marks q)
    mark_at q =
        find-tabulate_all text_total text_antisymmetric q (known_refs f) (λ r. mark_after (f.ticket + place text_cmp r (changed_refs rules m f)) (parts rules f r) (same_parts_at r) (get f.marks r))
        (λ e. ap (λ p. mark_after (f.ticket + place text_cmp q (changed_refs rules m f)) p (same_parts_at q) (get f.marks q)) (unknown rules f q e))
        ∙ (λ i. mark_after (change.ticket i + place text_cmp q (sym moved_are i)) (parts rules f q) (same_parts_at q) (get (change.marks i) q))

    mark_value : (drawn : ℕ) (p : Option Parts) (same : Bool) (mark : Option ℕ)
        → value_after (cond (is_some p && not same) (Some drawn) None) (is_some mark && not (is_some p)) mark ≡ mark_after drawn p same mark
    mark_value drawn None same None = refl
    mark_value drawn None same (Some k) = refl
    mark_value drawn (Some p) false mark = refl
    mark_value drawn (Some p) true None = refl
    mark_value drawn (Some p) true (Some k) = refl

    abbrev ticket_of : Ref → Option ℕ
    ticket_of q = cond (list_any (same_text q) moved) (Some (m.ticket + place text_cmp q moved)) None

    marks_values : (q : Ref) → value_after (ticket_of q) (mark_goes how own m holders q) (get m.marks q) ≡ get g.marks q
    marks_values q =
        (λ i. value_after (cond (changed_there q i) (Some (m.ticket + place text_cmp q moved)) None) (is_some (get m.marks q) && not (has_is q i)) (get m.marks q))
        ∙ (mark_value (m.ticket + place text_cmp q moved) (parts rules f q) (same_parts_at q) (get m.marks q) ∙ sym (mark_at q))

    -- what isn't asked and has no parts has neither mark nor document
    none_kept : (q : Ref) → list_any (same_text q) asked ≡ false → IsStitched rules (parts rules f q) (get m.marks q) (get m.documents q)
    none_kept q e = subst (λ p. IsStitched rules p (get m.marks q) (get m.documents q)) (stays q e) (sound.stitched q)

    stitched_none : {X : Type 0} (v : Option X) (b : Bool) → (b ≡ false → v ≡ None) → (is_some v && not b) ≡ false
    stitched_none None b none = refl
    stitched_none (Some x) true none = refl
    stitched_none (Some x) false none = ap is_some (none refl)

    parts_none : (p : Option Parts) (mark : Option ℕ) (document : Option Tree) → IsStitched rules p mark document → is_some p ≡ false → (mark ≡ None) × (document ≡ None)
    parts_none None mark document s e = s
    parts_none (Some x) mark document s e = absurd (true≢false e)

    no_mark_goes : (q : Ref) → list_any (same_text q) asked ≡ false → mark_goes how own m holders q ≡ false
    no_mark_goes q e = ap (λ b. is_some (get m.marks q) && not b) (has_is q)
        ∙ stitched_none (get m.marks q) (is_some (parts rules f q)) (λ w. (parts_none (parts rules f q) (get m.marks q) (get m.documents q) (none_kept q e) w).0)

    no_document_goes : (q : Ref) → list_any (same_text q) asked ≡ false → document_goes how own m holders q ≡ false
    no_document_goes q e = ap (λ b. is_some (get m.documents q) && not b) (has_is q)
        ∙ stitched_none (get m.documents q) (is_some (parts rules f q)) (λ w. (parts_none (parts rules f q) (get m.marks q) (get m.documents q) (none_kept q e) w).1)

    pub marks_are : amended (tickets m.ticket moved) (filter (mark_goes how own m holders) asked) m.marks ≡ g.marks
    marks_are =
        amended_is ticket_of (mark_goes how own m holders) (tickets m.ticket moved) asked m.marks g.marks ordered.marks
        (is_sorted-tabulate text_total text_antisymmetric (known_refs f) (λ r. mark_after (f.ticket + place text_cmp r (changed_refs rules m f)) (parts rules f r) (same_parts_at r) (get f.marks r)))
        (drawn_are_put m.ticket moved (IsStrictlySortedBy-filter text_cmp (parts_moved rules links links' how own m holders) asked rises)) no_mark_goes marks_values

    document_value : (p : Option Parts) (v : Option Tree) → value_after None (is_some v && not (is_some p)) v ≡ option_and_then (document_after p) v
    document_value None None = refl
    document_value None (Some x) = refl
    document_value (Some p) None = refl
    document_value (Some p) (Some x) = refl

    documents_values : (q : Ref) → value_after None (document_goes how own m holders q) (get m.documents q) ≡ get g.documents q
    documents_values q =
        ap (λ b. value_after None (is_some (get m.documents q) && not b) (get m.documents q)) (has_is q)
        ∙ (document_value (parts rules f q) (get m.documents q)
        ∙ ((λ i. option_and_then (document_after (parts rules f q)) (get (sym change.documents i) q))
        ∙ sym (find-over text_total text_antisymmetric q f.documents (λ r document. document_after (parts rules f r) document))))

    pub documents_are : amended [] (filter (document_goes how own m holders) asked) m.documents ≡ g.documents
    documents_are =
        amended_is (λ q. None) (document_goes how own m holders) [] asked m.documents g.documents ordered.documents
        (is_sorted-tabulate text_total text_antisymmetric (keys f.documents) (λ r. option_and_then (document_after (parts rules f r)) (get f.documents r)))
        (λ t q. refl) no_document_goes documents_values

    -- ---- as they are planned

    pub planned_marks : (given found taken again : List Ref) (put : Map ℕ) (leave : List Ref) → given ≡ asked → found ≡ filter (parts_moved rules links links' how own m holders) given → taken ≡ found
        → put ≡ tickets m.ticket taken → again ≡ asked → leave ≡ filter (mark_goes how own m holders) again → amended put leave m.marks ≡ g.marks
    planned_marks given found taken again put leave eg ef et ep ea eo =
        let same : taken ≡ moved = et ∙ (ef ∙ ap (filter (parts_moved rules links links' how own m holders)) eg) in
        (λ i. amended ((ep ∙ ap (tickets m.ticket) same) i) ((eo ∙ ap (filter (mark_goes how own m holders)) ea) i) m.marks) ∙ marks_are

    pub planned_documents : (given leave : List Ref) → given ≡ asked → leave ≡ filter (document_goes how own m holders) given → amended [] leave m.documents ≡ g.documents
    planned_documents given leave eg eo = (λ i. amended [] ((eo ∙ ap (filter (document_goes how own m holders)) eg) i) m.documents) ∙ documents_are

    pub planned_ticket : (given found taken : List Ref) (count : ℕ) → given ≡ asked → found ≡ filter (parts_moved rules links links' how own m holders) given → taken ≡ found → count ≡ length taken
        → m.ticket + count ≡ g.ticket
    planned_ticket given found taken count eg ef et ec =
        ticket_is (m.ticket + count) (ap (λ k. m.ticket + k) (ec ∙ ap length (et ∙ (ef ∙ ap (filter (parts_moved rules links links' how own m holders)) eg))))
