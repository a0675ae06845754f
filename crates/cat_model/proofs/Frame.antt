-- The frame keeps what holds between two events.
use Rattle.std.proofs.Common.{◌≡◌, ℕ, ◌+◌, Bool, true, false, cond, ◌⊎◌, inl, inr, ◌++◌, refl, sym, ap, subst, ◌∙◌, is_some, unwrap_or, true≢false, ◌<◌, ◌≤◌, arith, length, is_none, ◌&&◌, List}
use Rattle.std.specs.declared.option.Option.{Option}
use Rattle.std.specs.declared.option.Option.TheVariants.{None, Some}
use Rattle.std.specs.Option.{option_and_then}
use Rattle.std.specs.List.{list_any}
use Rattle.std.specs.FinMap.Entries.{is_some-find}
use Rattle.std.specs.Cmp.{nat_cmp_total}
use Rattle.std.specs.FinMap.{nat_cmp-IsAntisymmetric}
use Rattle.cat_collections.specs.Table.{text_cmp, same_text, get, keys, tabulate, place}
use Rattle.cat_model.specs.Catalogue.{Ref, Rules, held, may_offer, work, output_of, parts, parts_from, records_emit, parts_of_orphan, same_option, due_now, record_after, orphan_after, fresh_refs, reheld, rerecorded, known_refs, changed_refs, mark_after, document_after, remarked, frame, orphan_from_output, orphan_from_record, with_origin_held, row_at}
use Rattle.cat_types.specs.declared.input.Offered.{Offered}
use Rattle.cat_types.specs.declared.work.Output.{Output}
use Rattle.cat_types.specs.declared.parts.Parts.{Parts}
use Rattle.cat_types.specs.declared.work.Work.{Work}
use Rattle.cat_model.specs.declared.types.Origin.{Origin}
use Rattle.cat_model.specs.declared.types.Record.{Record}
use Rattle.cat_model.specs.declared.types.Orphan.{Orphan}
use Rattle.cat_model.specs.declared.types.State.{State}
use Rattle.cat_model.specs.declared.types.Leaving.{Leaving}
use Rattle.cat_model.specs.declared.types.Leaving.TheVariants.{Deleted, Orphaned}
use Rattle.cat_model.specs.declared.types.Origin.TheVariants.{Provider, Entity}
use Rattle.cat_model.specs.Sound.{offered, AreOffers, Sound, IsRight, IsStitched, number_in, its_number, AreNumbers}
use Rattle.cat_collections.proofs.Tables.{text_total, text_antisymmetric, found_key, no_key, find-over, find-tabulate, find-tabulate_all, cond_none, list_any-append, any_filter, place-lt, place_apart, is_sorted-tabulate}
use Rattle.cat_model.proofs.Holding.{reheld_holders, stands, stood, rehold_in_order}

pub same_option-is : {A : Type 0} (same : A → A → Bool) → ((x y : A) → same x y ≡ true → x ≡ y) → (v w : Option A) → same_option same v w ≡ true → v ≡ w
same_option-is same is None None h = refl
same_option-is same is None (Some y) h = absurd (true≢false (sym h))
same_option-is same is (Some x) None h = absurd (true≢false (sym h))
same_option-is same is (Some x) (Some y) h = ap Some (is x y h)

pub same_option-self : {A : Type 0} (same : A → A → Bool) → ((x : A) → same x x ≡ true) → (v : Option A) → same_option same v v ≡ true
same_option-self same self None = refl
same_option-self same self (Some x) = self x

pub right_at_once : (rules : Rules) (w : Option Work) (x : Record) → x.due ≡ 0 → IsRight rules w x
right_at_once rules None x e = e
right_at_once rules (Some w) x e = inl e

none_after : {A B : Type 0} (v : Option A) → option_and_then {U = B} (λ x. None) v ≡ None
none_after None = refl
none_after (Some x) = refl

some_after : {A : Type 0} (v : Option A) → option_and_then (λ x. Some x) v ≡ v
some_after None = refl
some_after (Some x) = refl

-- a reference that isn't known has no parts
no_parts : (rules : Rules) (n : State) (r : Ref) → get n.records r ≡ None → get n.orphans r ≡ None → parts rules n r ≡ None
no_parts rules n r e o = ap (parts_from rules (records_emit rules n) r (get n.orphans r)) e ∙ ap (parts_of_orphan rules (records_emit rules n) r) o

pub unknown : (rules : Rules) (n : State) (r : Ref) → list_any (same_text r) (known_refs n) ≡ false → parts rules n r ≡ None
unknown rules n r h = no_parts rules n r (go (get n.records r) refl) (og (get n.orphans r) refl)
  where
    marked : get (tabulate text_cmp (keys n.records ++ keys n.orphans) (λ r. Some (tt {0}))) r ≡ None
    marked = no_key text_total text_antisymmetric r (tabulate text_cmp (keys n.records ++ keys n.orphans) (λ r. Some (tt {0}))) h

    out : list_any (same_text r) (keys n.records) ≡ true ⊎ list_any (same_text r) (keys n.orphans) ≡ true → ⊥
    out e = true≢false (ap (λ b. is_some (cond b (Some (tt {0})) None)) (sym (list_any-append (same_text r) (keys n.records) (keys n.orphans) e))
        ∙ ap is_some (sym (find-tabulate text_total text_antisymmetric r (keys n.records ++ keys n.orphans) (λ r. Some (tt {0})))) ∙ ap is_some marked)

    go : (v : Option Record) → get n.records r ≡ v → v ≡ None
    go None e = refl
    go (Some x) e = absurd (out (inl (found_key text_total text_antisymmetric r n.records x e)))

    og : (v : Option Orphan) → get n.orphans r ≡ v → v ≡ None
    og None e = refl
    og (Some x) e = absurd (out (inr (found_key text_total text_antisymmetric r n.orphans x e)))

-- what an event's own change n of the state m has to keep
pub record IsChange (rules : Rules) (m n : State) : Type 0 where
  pub offers : AreOffers n
  pub right : (r : Ref) (x : Record) → get n.records r ≡ Some x → IsRight rules (work rules m r) x
  pub stitched : (r : Ref) → IsStitched rules (parts rules m r) (get n.marks r) (get n.documents r)
  pub numbers : AreNumbers n

module _ (rules : Rules) (how : Leaving) (m n : State) (c : IsChange rules m n) where
  abbrev h : State
  h = reheld n

  abbrev f : State
  f = rerecorded rules how m n h

  abbrev new : Ref → Record
  new r = record_after (n.number + place text_cmp r (fresh_refs n h.holders)) (get n.orphans r) (same_option rules.same_work (work rules m r) (work rules h r)) (get n.records r)

  -- a reference's record, where it is held
  record_at : (r : Ref) → get f.records r ≡ cond (held h.holders r) (Some (new r)) None
  record_at r = find-tabulate text_total text_antisymmetric r (keys h.holders) (λ r. Some (new r)) ∙ ap (λ b. cond b (Some (new r)) None) (sym (is_some-find text_cmp r h.holders))

  output_after : (drawn : ℕ) (orphan : Option Orphan) (same : Bool) (v : Option Record) → (record_after drawn orphan same v).output ≡ option_and_then (λ (x : Record). x.output) v
  output_after drawn orphan same None = refl
  output_after drawn orphan true (Some x) = refl
  output_after drawn orphan false (Some x) = refl

  output_kept : (e : Ref) → held h.holders e ≡ true → output_of f.records e ≡ output_of n.records e
  output_kept e is = ap (option_and_then (λ (x : Record). x.output)) (record_at e ∙ ap (λ b. cond b (Some (new e)) None) is)
      ∙ output_after _ (get n.orphans e) (same_option rules.same_work (work rules m e) (work rules h e)) (get n.records e)

  no_output : (e : Ref) → held h.holders e ≡ false → output_of f.records e ≡ None
  no_output e is = ap (option_and_then (λ (x : Record). x.output)) (record_at e ∙ ap (λ b. cond b (Some (new e)) None) is)

  offered_kept : (o : Origin) (r : Ref) → may_offer h.holders o ≡ true → offered f o r ≡ offered n o r
  offered_kept (Provider p) r is = refl
  offered_kept (Entity e) r is = ap (option_and_then (λ (x : Output). get x.offers r)) (output_kept e is)

  offered_may : (o : Origin) (r : Ref) (x : Offered) → offered f o r ≡ Some x → may_offer h.holders o ≡ true
  offered_may (Provider p) r x e = refl
  offered_may (Entity q) r x e = go (held h.holders q) refl
    where
      go : (b : Bool) → held h.holders q ≡ b → b ≡ true
      go true is = refl
      go false is = absurd (true≢false (sym (ap is_some (sym (ap (option_and_then (λ (x : Output). get x.offers r)) (no_output q is)) ∙ e))))

  offers_kept : AreOffers f
  offers_kept = record {
    given = λ a row e. let w = stood n.rows n.holders a row e in offered_kept row.origin row.reference w.1 ∙ c.offers.given a row w.0;
    shown = λ o r x e. let may = offered_may o r x e in let w = c.offers.shown o r x (sym (offered_kept o r may) ∙ e) in
        record { arrival = w.arrival; row = stands n.rows n.holders w.arrival _ w.row may };
    below = λ a row e. c.offers.below a row (stood n.rows n.holders a row e).0;
    once = λ a b row other e f o r. c.offers.once a b row other (stood n.rows n.holders a row e).0 (stood n.rows n.holders b other f).0 o r;
  }

  records_held : (r : Ref) → is_some (get f.records r) ≡ held h.holders r
  records_held r = ap is_some (record_at r) ∙ go (held h.holders r)
    where
      go : (b : Bool) → is_some (cond b (Some (new r)) None) ≡ b
      go true = refl
      go false = refl

  held_no_orphan : (r : Ref) → held h.holders r ≡ true → get f.orphans r ≡ None
  held_no_orphan r is = find-tabulate text_total text_antisymmetric r (keys n.orphans ++ keys n.records) (λ r. orphan_after how (held h.holders r) (get n.records r) (get n.orphans r))
      ∙ ap (λ b. cond (list_any (same_text r) (keys n.orphans ++ keys n.records)) (orphan_after how b (get n.records r) (get n.orphans r)) None) is ∙ cond_none _

  right_new : (r : Ref) → IsRight rules (work rules h r) (new r)
  right_new r = go (get n.records r) refl (same_option rules.same_work (work rules m r) (work rules h r)) refl
    where
      go : (v : Option Record) → get n.records r ≡ v → (b : Bool) → same_option rules.same_work (work rules m r) (work rules h r) ≡ b
          → IsRight rules (work rules h r) (record_after (n.number + place text_cmp r (fresh_refs n h.holders)) (get n.orphans r) b v)
      go None e b is = right_at_once rules (work rules h r) (record_after (n.number + place text_cmp r (fresh_refs n h.holders)) (get n.orphans r) b None) refl
      go (Some x) e true is = subst (λ w. IsRight rules w x) (same_option-is rules.same_work rules.same_work-is (work rules m r) (work rules h r) is) (c.right r x e)
      go (Some x) e false is = right_at_once rules (work rules h r) (due_now x) refl

  right_kept : (r : Ref) (x : Record) → get f.records r ≡ Some x → IsRight rules (work rules h r) x
  right_kept r x e = go (held h.holders r) (sym (record_at r) ∙ e)
    where
      go : (b : Bool) → cond b (Some (new r)) None ≡ Some x → IsRight rules (work rules h r) x
      go true e = subst (λ y. IsRight rules (work rules h r) y) (ap (λ v. unwrap_or v (new r)) e) (right_new r)
      go false e = absurd (true≢false (sym (ap is_some e)))

  abbrev g : State
  g = remarked rules m f

  abbrev mark : Ref → Option ℕ
  mark r = mark_after (n.ticket + place text_cmp r (changed_refs rules m f)) (parts rules f r) (same_option rules.same_parts (parts rules m r) (parts rules f r)) (get n.marks r)

  mark_at : (r : Ref) → get g.marks r ≡ mark r
  mark_at r = find-tabulate_all text_total text_antisymmetric r (known_refs f) mark
      (λ e. ap (λ p. mark_after (n.ticket + place text_cmp r (changed_refs rules m f)) p (same_option rules.same_parts (parts rules m r) (parts rules f r)) (get n.marks r)) (unknown rules f r e))

  document_at : (r : Ref) → get g.documents r ≡ option_and_then (document_after (parts rules f r)) (get n.documents r)
  document_at r = find-over text_total text_antisymmetric r n.documents (λ r document. document_after (parts rules f r) document)

  stitched_kept : (r : Ref) → IsStitched rules (parts rules f r) (get g.marks r) (get g.documents r)
  stitched_kept r =
      subst (λ v. IsStitched rules (parts rules f r) v (get g.documents r)) (sym (mark_at r))
      (subst (λ v. IsStitched rules (parts rules f r) (mark r) v) (sym (document_at r))
      (go (parts rules f r) refl (same_option rules.same_parts (parts rules m r) (parts rules f r)) refl))
    where
      as_before : (p : Parts) → parts rules m r ≡ Some p → IsStitched rules (Some p) (get n.marks r) (option_and_then (λ x. Some x) (get n.documents r))
      as_before p e = subst (λ v. IsStitched rules (Some p) (get n.marks r) v) (sym (some_after (get n.documents r))) (subst (λ v. IsStitched rules v (get n.marks r) (get n.documents r)) e (c.stitched r))

      go : (p : Option Parts) → parts rules f r ≡ p → (b : Bool) → same_option rules.same_parts (parts rules m r) (parts rules f r) ≡ b
          → IsStitched rules p (mark_after (n.ticket + place text_cmp r (changed_refs rules m f)) p b (get n.marks r)) (option_and_then (document_after p) (get n.documents r))
      go None e b is = (refl, none_after (get n.documents r))
      go (Some p) e true is = as_before p (same_option-is rules.same_parts rules.same_parts-is (parts rules m r) (parts rules f r) is ∙ e)
      go (Some p) e false is = inl refl

  abbrev fresh : List Ref
  fresh = fresh_refs n h.holders

  -- a reference's number after the frame: the one before, or a new one
  record IsNew (r : Ref) (k : ℕ) : Type 0 where
    among : list_any (same_text r) fresh ≡ true
    place_is : k ≡ n.number + place text_cmp r fresh

  number_of_new : (r : Ref) (k : ℕ) → held h.holders r ≡ true → Some (new r).number ≡ Some k → (its_number n r ≡ Some k) ⊎ IsNew r k
  number_of_new r k is e = go (get n.records r) refl (get n.orphans r) refl (same_option rules.same_work (work rules m r) (work rules h r)) e
    where
      go : (v : Option Record) → get n.records r ≡ v → (o : Option Orphan) → get n.orphans r ≡ o → (b : Bool) → Some (record_after (n.number + place text_cmp r fresh) o b v).number ≡ Some k → (number_in v o ≡ Some k) ⊎ IsNew r k
      go None e' None o' b e = inr (record {
        among = any_filter text_total text_antisymmetric (λ r. is_none (get n.records r) && is_none (get n.orphans r)) (keys h.holders) r (sym (is_some-find text_cmp r h.holders) ∙ is)
            (ap (λ v. is_none v && is_none (get n.orphans r)) e' ∙ ap is_none o');
        place_is = ap (λ v. unwrap_or v k) (sym e);
      })
      go None e' (Some x) o' b e = inl e
      go (Some x) e' o o' true e = inl e
      go (Some x) e' o o' false e = inl e

  number_of_orphan : (r : Ref) (x : Orphan) → get f.orphans r ≡ Some x → its_number n r ≡ Some x.number
  number_of_orphan r x e = inside (list_any (same_text r) (keys n.orphans ++ keys n.records))
      (sym (find-tabulate text_total text_antisymmetric r (keys n.orphans ++ keys n.records) (λ r. orphan_after how (held h.holders r) (get n.records r) (get n.orphans r))) ∙ e)
    where
      of_output : (y : Record) (o : Option Output) → orphan_from_output y.number o ≡ Some x → y.number ≡ x.number
      of_output y None e = absurd (true≢false (sym (ap is_some e)))
      of_output y (Some o) e = ap (λ v. (unwrap_or v x).number) e

      of_record : (how : Leaving) (y : Record) → orphan_from_record how y ≡ Some x → y.number ≡ x.number
      of_record Deleted y e = absurd (true≢false (sym (ap is_some e)))
      of_record Orphaned y e = of_output y y.output e

      go : (b : Bool) (v : Option Record) (o : Option Orphan) → orphan_after how b v o ≡ Some x → number_in v o ≡ Some x.number
      go true v o e = absurd (true≢false (sym (ap is_some e)))
      go false None o e = ap (number_in None) e
      go false (Some y) o e = ap Some (of_record how y e)

      inside : (b : Bool) → cond b (orphan_after how (held h.holders r) (get n.records r) (get n.orphans r)) None ≡ Some x → its_number n r ≡ Some x.number
      inside true e = go (held h.holders r) (get n.records r) (get n.orphans r) e
      inside false e = absurd (true≢false (sym (ap is_some e)))

  old_or_new : (r : Ref) (k : ℕ) → its_number f r ≡ Some k → (its_number n r ≡ Some k) ⊎ IsNew r k
  old_or_new r k e = go (held h.holders r) refl (sym (ap (λ v. number_in v (get f.orphans r)) (record_at r)) ∙ e)
    where
      by_orphan : (o : Option Orphan) → get f.orphans r ≡ o → number_in None o ≡ Some k → its_number n r ≡ Some k
      by_orphan None e h' = absurd (true≢false (sym (ap is_some h')))
      by_orphan (Some x) e h' = number_of_orphan r x e ∙ h'

      go : (b : Bool) → held h.holders r ≡ b → number_in (cond b (Some (new r)) None) (get f.orphans r) ≡ Some k → (its_number n r ≡ Some k) ⊎ IsNew r k
      go true is e = number_of_new r k is e
      go false is e = inl (by_orphan (get f.orphans r) refl e)

  numbers_kept : AreNumbers f
  numbers_kept = record {
    begun = let b = c.numbers.begun in omega arith;
    from_one = λ r k e. one r k (old_or_new r k e);
    below = λ r k e. less r k (old_or_new r k e);
    differ = λ r q k e e'. apart r q k (old_or_new r k e) (old_or_new q k e');
  }
    where
      one : (r : Ref) (k : ℕ) → (its_number n r ≡ Some k) ⊎ IsNew r k → 1 ≤ k
      one r k (inl e) = c.numbers.from_one r k e
      one r k (inr w) = let b = c.numbers.begun in let p = w.place_is in omega arith

      less : (r : Ref) (k : ℕ) → (its_number n r ≡ Some k) ⊎ IsNew r k → k < n.number + length fresh
      less r k (inl e) = let l = c.numbers.below r k e in omega arith
      less r k (inr w) = let l = place-lt text_total text_antisymmetric r fresh w.among in let p = w.place_is in omega arith

      apart : (r q : Ref) (k : ℕ) → (its_number n r ≡ Some k) ⊎ IsNew r k → (its_number n q ≡ Some k) ⊎ IsNew q k → r ≡ q
      apart r q k (inl e) (inl e') = c.numbers.differ r q k e e'
      apart r q k (inl e) (inr w) = let l = c.numbers.below r k e in let p = w.place_is in absurd (omega arith)
      apart r q k (inr w) (inl e') = let l = c.numbers.below q k e' in let p = w.place_is in absurd (omega arith)
      apart r q k (inr w) (inr w') = let a = w.place_is in let b = w'.place_is in place_apart text_total text_antisymmetric r q fresh w.among w'.among (omega arith)

  -- a record stays as it is where its reference is held and its work is the same
  pub record_stays : (r : Ref) (x : Record) → get n.records r ≡ Some x → held h.holders r ≡ true → work rules m r ≡ work rules h r → get g.records r ≡ Some x
  record_stays r x e is same = record_at r ∙ ap (λ b. cond b (Some (new r)) None) is
      ∙ ap (λ b. Some (record_after (n.number + place text_cmp r (fresh_refs n h.holders)) (get n.orphans r) b (get n.records r)))
      (ap (same_option rules.same_work (work rules m r)) (sym same) ∙ same_option-self rules.same_work rules.same_work-self (work rules m r))
      ∙ ap (λ v. Some (record_after (n.number + place text_cmp r (fresh_refs n h.holders)) (get n.orphans r) true v)) e

  pub framed : Sound rules (frame rules how m n)
  framed = record {
    offers = record { given = offers_kept.given; shown = offers_kept.shown; below = offers_kept.below; once = offers_kept.once };
    holders = reheld_holders n.rows n.holders;
    records = records_held;
    orphans = held_no_orphan;
    right = right_kept;
    stitched = stitched_kept;
    numbers = record { begun = numbers_kept.begun; from_one = numbers_kept.from_one; below = numbers_kept.below; differ = numbers_kept.differ };
    in_order = is_sorted-tabulate text_total text_antisymmetric (keys h.holders) (λ r. Some (new r));
    rows_in_order = is_sorted-tabulate nat_cmp_total nat_cmp-IsAntisymmetric (keys n.rows) (λ a. option_and_then (λ row. with_origin_held h.holders row) (row_at n.rows a));
    holders_in_order = rehold_in_order n.rows n.holders;
  }
