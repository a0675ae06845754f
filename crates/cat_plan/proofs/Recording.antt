-- Records, orphans and numbers, asked of what a change reaches, are those of the catalogue.
use Rattle.std.proofs.Common.{T, ◌≡◌, ℕ, ◌+◌, Bool, true, false, cond, not, ◌&&◌, ◌||◌, List, ◌++◌, length, refl, sym, ap, ◌∙◌, is_some, is_none, true≢false}
use Rattle.std.specs.declared.option.Option.{Option}
use Rattle.std.specs.declared.option.Option.TheVariants.{None, Some}
use Rattle.std.specs.Option.{option_and_then, option_map}
use Rattle.std.specs.List.{filter, list_any}
use Rattle.std.specs.FinMap.Entries.{is_some-find, is_sorted}
use Rattle.std.proofs.lemmas.List.Folds.{list_any-append}
use Rattle.std.proofs.lemmas.List.Kept.{IsStrictlySortedBy-filter}
use Rattle.cat_collections.specs.Order.{in_order}
use Rattle.cat_collections.specs.Table.{Map, get, keys, place, same_text, text_cmp}
use Rattle.cat_collections.proofs.Orders.{has-filter, has-in_order, in_order-rises, in_order_is, keys_rise}
use Rattle.cat_collections.proofs.Tables.{text_total, text_antisymmetric, find-tabulate_all, is_sorted-tabulate, no_key, or_false_first, or_false_second}
use Rattle.cat_model.specs.declared.types.Leaving.{Leaving}
use Rattle.cat_model.specs.declared.types.Orphan.{Orphan}
use Rattle.cat_model.specs.declared.types.Record.{Record}
use Rattle.cat_model.specs.declared.types.State.{State}
use Rattle.cat_model.specs.Catalogue.{Holders, Ref, Rows, Rules, Shelf, due_now, fresh_refs, held, holding, new_record, orphan_after, orphan_from_record, record_after, reheld, rerecorded, same_option, tickets, work, work_of}
use Rattle.cat_model.specs.Sound.{Sound}
use Rattle.cat_model.proofs.Frame.{same_option-self}
use Rattle.cat_model.proofs.Holding.{rehold_in_order}
use Rattle.cat_plan.specs.Amended.{amended, entries_of}
use Rattle.cat_plan.specs.Linked.{is_own}
use Rattle.cat_plan.specs.Following.{IsOwnChange, IsReach, draws, given_number, held_state, kept_put, orphan_goes, orphan_now, orphan_put, orphan_then, own_reference, own_refs, record_goes, record_put, record_then, renewed}
use Rattle.cat_plan.specs.declared.change.Own.{Own}
use Rattle.cat_plan.proofs.Amending.{amended_is, entries_are_put, get-drawn, same_sym, value_after}
use Rattle.cat_plan.proofs.Partly.{record_at}

-- ---- an event's own change

-- a reference that an event isn't about has the record that it had
pub record_then_other : (own : Option Own) (records : Map Record) (q : Ref) → is_own (own_reference own) q ≡ false → record_then own records q ≡ get records q
record_then_other None records q e = refl
record_then_other (Some x) records q e = ap (λ b. cond b x.kept (get records q)) e

-- and the orphan
pub orphan_then_other : (own : Option Own) (orphans : Map Orphan) (q : Ref) → is_own (own_reference own) q ≡ false → orphan_then own orphans q ≡ get orphans q
orphan_then_other None orphans q e = refl
orphan_then_other (Some x) orphans q e = ap (λ b. cond b None (get orphans q)) e

-- an orphan that there is then was there before
orphan_then_some : (own : Option Own) (orphans : Map Orphan) (q : Ref) (y : Orphan) → orphan_then own orphans q ≡ Some y → get orphans q ≡ Some y
orphan_then_some None orphans q y e = e
orphan_then_some (Some x) orphans q y e = go (same_text x.reference q) e
  where
    go : (b : Bool) → cond b None (get orphans q) ≡ Some y → get orphans q ≡ Some y
    go true e = absurd (true≢false (sym (ap is_some e)))
    go false e = e

-- the own reference is among the own references
own_among : (own : Option Own) (q : Ref) → list_any (same_text q) (own_refs own) ≡ is_own (own_reference own) q
own_among None q = refl
own_among (Some x) q = or_none (same_text q x.reference) ∙ same_sym q x.reference
  where
    or_none : (b : Bool) → (b || false) ≡ b
    or_none true = refl
    or_none false = refl

-- ---- what is reached

-- a reference that the event isn't about, and that is neither newly held, nor no longer held, nor among these others
pub record IsOutside (own : Option Own) (fresh leaving more : List Ref) (q : Ref) : Type 0 where
  pub own_not : is_own (own_reference own) q ≡ false
  pub fresh_not : list_any (same_text q) fresh ≡ false
  pub leaving_not : list_any (same_text q) leaving ≡ false
  pub more_not : list_any (same_text q) more ≡ false

pub outside : (own : Option Own) (fresh leaving more : List Ref) (q : Ref) → list_any (same_text q) (in_order text_cmp (((own_refs own ++ fresh) ++ leaving) ++ more)) ≡ false
    → IsOutside own fresh leaving more q
outside own fresh leaving more q e =
    let p = same_text q in
    let all = sym (has-in_order text_total text_antisymmetric q (((own_refs own ++ fresh) ++ leaving) ++ more)) ∙ e in
    let split = sym (list_any-append p ((own_refs own ++ fresh) ++ leaving) more) ∙ all in
    let front = sym (list_any-append p (own_refs own ++ fresh) leaving) ∙ or_false_first (list_any p ((own_refs own ++ fresh) ++ leaving)) (list_any p more) split in
    let first = sym (list_any-append p (own_refs own) fresh) ∙ or_false_first (list_any p (own_refs own ++ fresh)) (list_any p leaving) front in
    record {
      own_not = sym (own_among own q) ∙ or_false_first (list_any p (own_refs own)) (list_any p fresh) first;
      fresh_not = or_false_second (list_any p (own_refs own)) (list_any p fresh) first;
      leaving_not = or_false_second (list_any p (own_refs own ++ fresh)) (list_any p leaving) front;
      more_not = or_false_second (list_any p ((own_refs own ++ fresh) ++ leaving)) (list_any p more) split;
    }

-- what neither came nor left is held as before
pub held_as_before : (before after : Bool) → (after && not before) ≡ false → (before && not after) ≡ false → after ≡ before
held_as_before true true f l = refl
held_as_before true false f l = sym l
held_as_before false true f l = f
held_as_before false false f l = refl

-- ---- the records of a change

module _ (rules : Rules) (how : Leaving) (own : Option Own) (shelf : Shelf) (rows : Rows) (holders : Holders) (fresh leaving touched : List Ref) (m n : State)
    (sound : Sound rules m) (reach : IsReach rules m (held_state shelf rows holders m) fresh leaving touched) (change : IsOwnChange own shelf rows holders m n) where
  abbrev h : State
  h = reheld n

  abbrev g : State
  g = held_state shelf rows holders m

  abbrev f : State
  f = rerecorded rules how m n h

  abbrev all : List Ref
  all = in_order text_cmp (((own_refs own ++ fresh) ++ leaving) ++ touched)

  abbrev drawn : List Ref
  drawn = filter (draws own m holders) all

  pub held_is : (q : Ref) → held h.holders q ≡ held holders q
  held_is q = ap (λ t. held t q) change.same_holders

  work_is : (q : Ref) → work rules h q ≡ work rules g q
  work_is q = λ i. option_map (λ row. work_of rules (change.same_shelf i) row.offered.tree) (holding (change.same_rows i) (change.same_holders i) q)

  stays_held : (more : List Ref) (q : Ref) → IsOutside own fresh leaving more q → held holders q ≡ held m.holders q
  stays_held more q o = held_as_before (held m.holders q) (held holders q) (sym (reach.come q) ∙ o.fresh_not) (sym (reach.left q) ∙ o.leaving_not)

  -- a reference outside has a record then just where it is held
  recorded_outside : (more : List Ref) (q : Ref) → IsOutside own fresh leaving more q → is_some (record_then own m.records q) ≡ held holders q
  recorded_outside more q o = ap is_some (record_then_other own m.records q o.own_not) ∙ (sound.records q ∙ sym (stays_held more q o))

  -- ---- numbers

  drawn_within : (q : Ref) → (draws own m holders q && list_any (same_text q) all) ≡ draws own m holders q
  drawn_within q = go (list_any (same_text q) all) refl
    where
      none : (b : Bool) (v : Option Record) (c : Bool) → is_some v ≡ b → (b && (is_none v && c)) ≡ false
      none true None c e = absurd (true≢false (sym e))
      none true (Some x) c e = refl
      none false v c e = refl

      and_true : (b : Bool) → (b && true) ≡ b
      and_true true = refl
      and_true false = refl

      and_false : (b : Bool) → (b && false) ≡ false
      and_false true = refl
      and_false false = refl

      go : (b : Bool) → list_any (same_text q) all ≡ b → (draws own m holders q && b) ≡ draws own m holders q
      go true e = and_true (draws own m holders q)
      go false e = and_false (draws own m holders q) ∙ sym (none (held holders q) (record_then own m.records q) (is_none (orphan_then own m.orphans q)) (recorded_outside touched q (outside own fresh leaving touched q e)))

  -- the references that draw a number are those that get a new one
  pub drawn_are : drawn ≡ fresh_refs n h.holders
  drawn_are =
      in_order_is text_total text_antisymmetric (fresh_refs n h.holders) drawn (IsStrictlySortedBy-filter text_cmp (draws own m holders) all (in_order-rises text_total text_antisymmetric (((own_refs own ++ fresh) ++ leaving) ++ touched)))
      (λ q. has-filter text_total text_antisymmetric (draws own m holders) q all ∙ (drawn_within q ∙ (same q ∙ sym (has-filter text_total text_antisymmetric is_new q (keys h.holders)))))
      ∙ sym (in_order_is text_total text_antisymmetric (fresh_refs n h.holders) (fresh_refs n h.holders)
      (IsStrictlySortedBy-filter text_cmp is_new (keys h.holders) (keys_rise text_total text_antisymmetric h.holders (rehold_in_order n.rows n.holders))) (λ q. refl))
    where
      is_new : Ref → Bool
      is_new r = is_none (get n.records r) && is_none (get n.orphans r)

      swap : (a b : Bool) → (a && b) ≡ (b && a)
      swap true true = refl
      swap true false = refl
      swap false true = refl
      swap false false = refl

      same : (q : Ref) → draws own m holders q ≡ (is_new q && list_any (same_text q) (keys h.holders))
      same q = (λ i. sym (held_is q) i && (is_none (sym (change.records q) i) && is_none (sym (change.orphans q) i))) ∙ (swap (held h.holders q) (is_new q) ∙ ap (λ b. is_new q && b) (is_some-find text_cmp q h.holders))

  pub number_is : (number : ℕ) → number ≡ m.number + length drawn → number ≡ f.number
  number_is number e = e ∙ (λ i. sym change.number i + length (drawn_are i))

  -- ---- records

  abbrev numbers : Map ℕ
  numbers = tickets m.number drawn

  abbrev same_work_at : Ref → Bool
  same_work_at q = same_option rules.same_work (work rules m q) (work rules g q)

  -- the record of a held reference after the change
  abbrev new : Ref → Record
  new q = record_after (n.number + place text_cmp q (fresh_refs n h.holders)) (get n.orphans q) (same_option rules.same_work (work rules m q) (work rules h q)) (get n.records q)

  new_is : (q : Ref) → new q ≡ record_after (m.number + place text_cmp q drawn) (orphan_then own m.orphans q) (same_work_at q) (record_then own m.records q)
  new_is q = λ i. record_after (change.number i + place text_cmp q (sym drawn_are i)) (change.orphans q i) (same_option rules.same_work (work rules m q) (work_is q i)) (change.records q i)

  -- a reference that draws is among those that do
  draws_there : (q : Ref) → draws own m holders q ≡ true → list_any (same_text q) drawn ≡ true
  draws_there q e = has-filter text_total text_antisymmetric (draws own m holders) q all ∙ (drawn_within q ∙ e)

  record_value : (q : Ref) (b : Bool) → held holders q ≡ b → (v : Option Record) → record_then own m.records q ≡ v → (o : Option Orphan) → orphan_then own m.orphans q ≡ o
      → value_after (cond b (renewed (is_own (own_reference own) q) (given_number o (get numbers q)) (same_work_at q) v) None) (not b && is_some (get m.records q)) (get m.records q)
      ≡ cond b (Some (record_after (m.number + place text_cmp q drawn) o (same_work_at q) v)) None
  record_value q false eb v ev o eo = go (get m.records q)
    where
      go : (w : Option Record) → cond (is_some w) None w ≡ None
      go None = refl
      go (Some x) = refl
  record_value q true eb None ev (Some x) eo = refl
  record_value q true eb None ev None eo =
      let there = draws_there q (λ i. eb i && (is_none (ev i) && is_none (eo i))) in
      let number : get numbers q ≡ Some (m.number + place text_cmp q drawn) = get-drawn m.number drawn q ∙ ap (λ b. cond b (Some (m.number + place text_cmp q drawn)) None) there in
      ap (λ k. value_after (option_map new_record k) false (get m.records q)) number
  record_value q true eb (Some x) ev o eo = go (is_own (own_reference own) q) refl (same_work_at q)
    where
      go : (w : Bool) → is_own (own_reference own) q ≡ w → (same : Bool) → value_after (kept_put w same x) false (get m.records q) ≡ Some (cond same x (due_now x))
      go w ew false = refl
      go true ew true = refl
      go false ew true = sym (record_then_other own m.records q ew) ∙ ev

  records_values : (q : Ref) → value_after (record_put rules own numbers m g q) (record_goes m holders q) (get m.records q) ≡ get f.records q
  records_values q =
      record_value q (held holders q) refl (record_then own m.records q) refl (orphan_then own m.orphans q) refl
      ∙ ((λ i. cond (sym (held_is q) i) (Some (sym (new_is q) i)) None) ∙ sym (record_at rules how m n q))

  none_put : (q : Ref) (b : Bool) → held holders q ≡ b → held m.holders q ≡ b → (v : Option Record) → is_some v ≡ b → is_own (own_reference own) q ≡ false → list_any (same_text q) touched ≡ false
      → cond b (renewed (is_own (own_reference own) q) (given_number (orphan_then own m.orphans q) (get numbers q)) (same_work_at q) v) None ≡ None
  none_put q false eh em v ev o t = refl
  none_put q true eh em None ev o t = absurd (true≢false (sym ev))
  none_put q true eh em (Some x) ev o t =
      let same : same_work_at q ≡ true = ap (same_option rules.same_work (work rules m q)) (sym (reach.others q t em eh)) ∙ same_option-self rules.same_work rules.same_work-self (work rules m q) in
      λ i. kept_put (o i) (same i) x

  -- nothing is put outside of what is reached
  none_put_outside : (q : Ref) → list_any (same_text q) all ≡ false → record_put rules own numbers m g q ≡ None
  none_put_outside q e =
      let o = outside own fresh leaving touched q e in
      none_put q (held holders q) refl (sym (stays_held touched q o)) (record_then own m.records q) (recorded_outside touched q o) o.own_not o.more_not

  -- and nothing goes
  none_goes_outside : (q : Ref) → list_any (same_text q) all ≡ false → record_goes m holders q ≡ false
  none_goes_outside q e =
      let o = outside own fresh leaving touched q e in
      ap (λ b. not (held holders q) && b) (sound.records q ∙ sym (stays_held touched q o)) ∙ go (held holders q)
    where
      go : (b : Bool) → (not b && b) ≡ false
      go true = refl
      go false = refl

  pub records_are : amended (entries_of (record_put rules own numbers m g) all) (filter (record_goes m holders) all) m.records ≡ f.records
  records_are =
      amended_is (record_put rules own numbers m g) (record_goes m holders) (entries_of (record_put rules own numbers m g) all) all m.records f.records sound.in_order
      (is_sorted-tabulate text_total text_antisymmetric (keys h.holders) (λ q. Some (new q)))
      (entries_are_put (record_put rules own numbers m g) all none_put_outside) none_goes_outside records_values

  -- ---- orphans

  -- a reference's orphan after the change
  pub orphan_is : (q : Ref) → get f.orphans q ≡ orphan_now how own m holders q
  orphan_is q =
      find-tabulate_all text_total text_antisymmetric q (keys n.orphans ++ keys n.records) (λ r. orphan_after how (held h.holders r) (get n.records r) (get n.orphans r)) unknown
      ∙ (λ i. orphan_after how (held_is q i) (change.records q i) (change.orphans q i))
    where
      none : (b : Bool) → orphan_after how b None None ≡ None
      none true = refl
      none false = refl

      unknown : list_any (same_text q) (keys n.orphans ++ keys n.records) ≡ false → orphan_after how (held h.holders q) (get n.records q) (get n.orphans q) ≡ None
      unknown e =
          let split = sym (list_any-append (same_text q) (keys n.orphans) (keys n.records)) ∙ e in
          let orphan = no_key text_total text_antisymmetric q n.orphans (or_false_first (list_any (same_text q) (keys n.orphans)) _ split) in
          let kept = no_key text_total text_antisymmetric q n.records (or_false_second (list_any (same_text q) (keys n.orphans)) _ split) in
          (λ i. orphan_after how (held h.holders q) (kept i) (orphan i)) ∙ none (held h.holders q)

  orphan_value : (q : Ref) (b : Bool) (v : Option Record) (o : Option Orphan) → orphan_then own m.orphans q ≡ o
      → value_after (cond b None (option_and_then (orphan_from_record how) v)) (is_some (get m.orphans q) && is_none (orphan_after how b v o)) (get m.orphans q) ≡ orphan_after how b v o
  orphan_value q true v o eo = go (get m.orphans q)
    where
      go : (w : Option Orphan) → cond (is_some w && true) None w ≡ None
      go None = refl
      go (Some x) = refl
  orphan_value q false (Some x) o eo = go (orphan_from_record how x) (get m.orphans q)
    where
      go : (w before : Option Orphan) → value_after w (is_some before && is_none w) before ≡ w
      go (Some y) before = refl
      go None None = refl
      go None (Some z) = refl
  orphan_value q false None None eo = go (get m.orphans q)
    where
      go : (w : Option Orphan) → cond (is_some w && true) None w ≡ None
      go None = refl
      go (Some x) = refl
  orphan_value q false None (Some y) eo = go (get m.orphans q) ∙ orphan_then_some own m.orphans q y eo
    where
      go : (w : Option Orphan) → cond (is_some w && false) None w ≡ w
      go None = refl
      go (Some x) = refl

  orphans_values : (q : Ref) → value_after (orphan_put how own m holders q) (orphan_goes how own m holders q) (get m.orphans q) ≡ get f.orphans q
  orphans_values q = orphan_value q (held holders q) (record_then own m.records q) (orphan_then own m.orphans q) refl ∙ sym (orphan_is q)

  no_orphan_put : (q : Ref) → list_any (same_text q) all ≡ false → orphan_put how own m holders q ≡ None
  no_orphan_put q e = go (held holders q) (record_then own m.records q) (recorded_outside touched q (outside own fresh leaving touched q e))
    where
      go : (b : Bool) (v : Option Record) → is_some v ≡ b → cond b None (option_and_then (orphan_from_record how) v) ≡ None
      go true v ev = refl
      go false None ev = refl
      go false (Some x) ev = absurd (true≢false ev)

  -- a reference that isn't reached is an orphan as before
  pub orphan_outside : (more : List Ref) (q : Ref) → IsOutside own fresh leaving more q → orphan_now how own m holders q ≡ get m.orphans q
  orphan_outside more q o =
      ap (orphan_after how (held holders q) (record_then own m.records q)) (orphan_then_other own m.orphans q o.own_not)
      ∙ go (held holders q) (sym (stays_held more q o)) (record_then own m.records q) (recorded_outside more q o)
    where
      go : (b : Bool) → held m.holders q ≡ b → (v : Option Record) → is_some v ≡ b → orphan_after how b v (get m.orphans q) ≡ get m.orphans q
      go true em v ev = sym (sound.orphans q em)
      go false em None ev = refl
      go false em (Some x) ev = absurd (true≢false ev)

  no_orphan_goes : (q : Ref) → list_any (same_text q) all ≡ false → orphan_goes how own m holders q ≡ false
  no_orphan_goes q e =
      ap (λ v. is_some (get m.orphans q) && is_none v) (orphan_outside touched q (outside own fresh leaving touched q e)) ∙ go (get m.orphans q)
    where
      go : (w : Option Orphan) → (is_some w && is_none w) ≡ false
      go None = refl
      go (Some x) = refl

  pub orphans_are : T (is_sorted text_cmp m.orphans) → amended (entries_of (orphan_put how own m holders) all) (filter (orphan_goes how own m holders) all) m.orphans ≡ f.orphans
  orphans_are in_order =
      amended_is (orphan_put how own m holders) (orphan_goes how own m holders) (entries_of (orphan_put how own m holders) all) all m.orphans f.orphans in_order
      (is_sorted-tabulate text_total text_antisymmetric (keys n.orphans ++ keys n.records) (λ r. orphan_after how (held h.holders r) (get n.records r) (get n.orphans r)))
      (entries_are_put (orphan_put how own m holders) all no_orphan_put) no_orphan_goes orphans_values

  -- ---- as they are planned

  drawn_is : (given drew taken : List Ref) → given ≡ all → drew ≡ filter (draws own m holders) given → taken ≡ drew → taken ≡ drawn
  drawn_is given drew taken eg ed et = et ∙ (ed ∙ ap (filter (draws own m holders)) eg)

  pub planned_records : (asked given drew taken : List Ref) (counted : Map ℕ) (put : Map Record) (gone : List Ref) → asked ≡ all → given ≡ all → drew ≡ filter (draws own m holders) given → taken ≡ drew
      → counted ≡ tickets m.number taken → put ≡ entries_of (record_put rules own counted m g) asked → gone ≡ filter (record_goes m holders) asked → amended put gone m.records ≡ f.records
  planned_records asked given drew taken counted put gone ea eg ed et ec ep eo =
      let same : counted ≡ numbers = ec ∙ ap (tickets m.number) (drawn_is given drew taken eg ed et) in
      (λ i. amended (ep i) (eo i) m.records) ∙ ((λ i. amended (entries_of (record_put rules own (same i) m g) (ea i)) (filter (record_goes m holders) (ea i)) m.records) ∙ records_are)

  pub planned_orphans : (asked : List Ref) (put : Map Orphan) (gone : List Ref) → asked ≡ all → put ≡ entries_of (orphan_put how own m holders) asked → gone ≡ filter (orphan_goes how own m holders) asked
      → T (is_sorted text_cmp m.orphans) → amended put gone m.orphans ≡ f.orphans
  planned_orphans asked put gone ea ep eo in_order =
      (λ i. amended (ep i) (eo i) m.orphans) ∙ ((λ i. amended (entries_of (orphan_put how own m holders) (ea i)) (filter (orphan_goes how own m holders) (ea i)) m.orphans) ∙ orphans_are in_order)

  pub planned_number : (given drew taken : List Ref) (count : ℕ) → given ≡ all → drew ≡ filter (draws own m holders) given → taken ≡ drew → count ≡ length taken → m.number + count ≡ f.number
  planned_number given drew taken count eg ed et ec = number_is (m.number + count) (ap (λ k. m.number + k) (ec ∙ ap length (drawn_is given drew taken eg ed et)))
