-- Kept links give the relations of every source, follow each event, and tell the references whose parts changed.
use Rattle.std.proofs.Common.{T, ◌≡◌, Bool, true, false, cond, not, ◌&&◌, ◌||◌, List, [], ◌∷◌, ◌++◌, map, refl, sym, ap, ◌∙◌, is_some, is_none, unwrap_or, true≢false, Ordering, Less, Equal, Greater}
use Rattle.std.specs.declared.option.Option.{Option}
use Rattle.std.specs.declared.option.Option.TheVariants.{None, Some}
use Rattle.std.specs.Bool.{beq}
use Rattle.std.specs.Cmp.{both_ways}
use Rattle.std.specs.Ordering.{eq_by_cmp, is_eq, is_lt}
use Rattle.std.specs.Option.{option_and_then}
use Rattle.std.specs.List.{filter, flat_map, list_any}
use Rattle.std.specs.List.Sorted.{IsStrictlySortedBy}
use Rattle.std.specs.FinMap.Entries.{below_all, is_some-find, is_sorted}
use Rattle.std.proofs.lemmas.List.Folds.{list_any-append}
use Rattle.std.proofs.lemmas.List.Kept.{IsStrictlySortedBy-filter}
use Rattle.cat_collections.specs.Table.{Text, find, get, keys, same_text, text_cmp}
use Rattle.cat_types.specs.Relation.{relation_cmp}
use Rattle.cat_types.specs.declared.relation.Relation.{Relation}
use Rattle.cat_types.specs.declared.work.Output.{Output}
use Rattle.cat_collections.proofs.Tables.{text_total, text_antisymmetric, and_first, and_second, or_false_first, or_false_second, or_true, same_is, same_self}
use Rattle.cat_links.specs.Links.{Emitted, all_emitted, emitted_by, has, relations_of}
use Rattle.cat_links.specs.Changes.{AreChanged, with_changes, with_emitter}
use Rattle.cat_links.proofs.Counted.{emitted-with_emitter, sorted-with_emitter}
use Rattle.cat_links.specs.declared.links.EmitChange.{EmitChange}
use Rattle.cat_collections.proofs.Orders.{has-filter, has-in_order, has_from_contains, in_order-rises, in_order_is, same_in_order}
use Rattle.cat_types.specs.Relations.{relation_total, relation_antisymmetric}
use Rattle.cat_model.specs.declared.types.Orphan.{Orphan}
use Rattle.cat_model.specs.declared.types.Record.{Record}
use Rattle.cat_model.specs.declared.types.State.{State}
use Rattle.cat_model.specs.Catalogue.{Ref, Rules, changed_refs, emits, from_source, held, known_refs, output_of, parts, parts_from, parts_of_orphan, parts_of_record, records_emit, same_option}
use Rattle.cat_model.specs.Step.{start}
use Rattle.cat_model.proofs.Frame.{same_option-self, unknown}
use Rattle.cat_plan.specs.Linked.{AreLinked, LeavesOthers, emit_changes, is_candidate, is_own, left_changes, own_changes, same_sort}

-- ---- what stands in joined lists

-- what joined lists have is what one of them has
any_flat_map : {A B : Type 0} (p : B → Bool) (f : A → List B) (xs : List A) → list_any p (flat_map f xs) ≡ list_any (λ x. list_any p (f x)) xs
any_flat_map p f [] = refl
any_flat_map p f (x ∷ xs) = list_any-append p (f x) (flat_map f xs) ∙ ap (λ b. list_any p (f x) || b) (any_flat_map p f xs)

-- a text of the list that passes
record IsPassing (q : Text → Bool) (ks : List Text) : Type 0 where
  key : Text
  among : list_any (same_text key) ks ≡ true
  passes : q key ≡ true

passing : (q : Text → Bool) (ks : List Text) → list_any q ks ≡ true → IsPassing q ks
passing q [] h = absurd (true≢false (sym h))
passing q (k ∷ ks) h = go (q k) refl h (passing q ks)
  where
    go : (b : Bool) → q k ≡ b → (b || list_any q ks) ≡ true → (list_any q ks ≡ true → IsPassing q ks) → IsPassing q (k ∷ ks)
    go true e h ih = record { key = k; among = ap (λ b. b || list_any (same_text k) ks) (same_self text_total text_antisymmetric k); passes = e }
    go false e h ih = let w = ih h in record { key = w.key; among = or_true (same_text w.key k) _ w.among; passes = w.passes }

any_from : (q : Text → Bool) (ks : List Text) (k : Text) → list_any (same_text k) ks ≡ true → q k ≡ true → list_any q ks ≡ true
any_from q [] k h e = h
any_from q (j ∷ js) k h e = go (same_text k j) refl h (λ h. any_from q js k h e)
  where
    go : (b : Bool) → same_text k j ≡ b → (b || list_any (same_text k) js) ≡ true → (list_any (same_text k) js ≡ true → list_any q js ≡ true) → (q j || list_any q js) ≡ true
    go true is h ih = ap (λ b. b || list_any q js) (ap q (sym (same_is text_total text_antisymmetric k j is)) ∙ e)
    go false is h ih = or_true (q j) _ (ih h)

-- where both lists have each text that passes, one passes in both or in none
same_any : (q : Text → Bool) (ks js : List Text) → ((k : Text) → q k ≡ true → list_any (same_text k) ks ≡ true) → ((k : Text) → q k ≡ true → list_any (same_text k) js ≡ true) → list_any q ks ≡ list_any q js
same_any q ks js inks injs =
    both_ways _ _
    (λ h. let w = passing q ks h in any_from q js w.key (injs w.key w.passes) w.passes)
    (λ h. let w = passing q js h in any_from q ks w.key (inks w.key w.passes) w.passes)

-- ---- what is emitted

less_is : (o : Ordering) → T (is_lt o) → is_eq o ≡ false
less_is Less h = refl
less_is Equal h = absurd h
less_is Greater h = refl

first_T : (a b : Bool) → T (a && b) → T a
first_T true b h = tt
first_T false b h = h

second_T : (a b : Bool) → T (a && b) → T b
second_T true b h = h
second_T false b h = absurd h

-- a key that is below all has no entry
none_below : (k : Text) (m : Emitted) → T (below_all text_cmp k m) → find text_cmp k m ≡ None
none_below k [] h = refl
none_below k (e ∷ es) h = ap (λ b. cond b (Some e.1) (find text_cmp k es)) (less_is (text_cmp k e.0) (first_T _ _ h)) ∙ none_below k es (second_T _ _ h)

-- an emitter and what it emits, which passes
record IsEmitting (p : List Relation → Bool) (m : Emitted) : Type 0 where
  emitter : Text
  relations : List Relation
  found : get m emitter ≡ Some relations
  passes : p relations ≡ true

emitting : (p : List Relation → Bool) (m : Emitted) → T (is_sorted text_cmp m) → list_any (λ e. p e.1) m ≡ true → IsEmitting p m
emitting p [] s h = absurd (true≢false (sym h))
emitting p (e ∷ es) s h = go (p e.1) refl h (emitting p es (second_T _ _ s))
  where
    later : (w : IsEmitting p es) (b : Bool) → same_text w.emitter e.0 ≡ b → IsEmitting p (e ∷ es)
    later w true is =
        let k : find text_cmp w.emitter es ≡ None = ap (λ q. find text_cmp q es) (same_is text_total text_antisymmetric w.emitter e.0 is) ∙ none_below e.0 es (first_T _ _ s) in
        absurd (true≢false (ap is_some (sym w.found ∙ k)))
    later w false is = record { emitter = w.emitter; relations = w.relations; found = ap (λ b. cond b (Some e.1) (find text_cmp w.emitter es)) is ∙ w.found; passes = w.passes }

    go : (b : Bool) → p e.1 ≡ b → (b || list_any (λ e. p e.1) es) ≡ true → (list_any (λ e. p e.1) es ≡ true → IsEmitting p es) → IsEmitting p (e ∷ es)
    go true px h ih = record { emitter = e.0; relations = e.1; found = ap (λ b. cond b (Some e.1) (find text_cmp e.0 es)) (same_self text_total text_antisymmetric e.0); passes = px }
    go false px h ih = let w = ih h in later w (same_text w.emitter e.0) refl

-- what an emitter emits is emitted
emits_in : (m : Emitted) (x : Relation) (k : Text) → has x (emitted_by m k) ≡ true → has x (all_emitted m) ≡ true
emits_in [] x k h = h
emits_in (e ∷ es) x k h = list_any-append (eq_by_cmp relation_cmp x) e.1 (all_emitted es) ∙ go (same_text k e.0) h (emits_in es x k)
  where
    go : (b : Bool) → has x (unwrap_or (cond b (Some e.1) (find text_cmp k es)) []) ≡ true → (has x (emitted_by es k) ≡ true → has x (all_emitted es) ≡ true) → (has x e.1 || has x (all_emitted es)) ≡ true
    go true h ih = ap (λ b. b || has x (all_emitted es)) h
    go false h ih = or_true (has x e.1) _ (ih h)

emitted_has : (m : Emitted) → T (is_sorted text_cmp m) → (x : Relation) → has x (all_emitted m) ≡ list_any (λ k. has x (emitted_by m k)) (keys m)
emitted_has m s x =
    both_ways _ _
    (λ h. let w = emitting (has x) m s (sym (any_flat_map (eq_by_cmp relation_cmp x) (λ e. e.1) m) ∙ h) in
    any_from (λ k. has x (emitted_by m k)) (keys m) w.emitter (sym (is_some-find text_cmp w.emitter m) ∙ ap is_some w.found) (ap (λ v. has x (unwrap_or v [])) w.found ∙ w.passes))
    (λ h. let w = passing (λ k. has x (emitted_by m k)) (keys m) h in emits_in m x w.key w.passes)

-- an emitter that emits something is in the table
emits_known : (m : Emitted) (x : Relation) (k : Text) → has x (emitted_by m k) ≡ true → list_any (same_text k) (keys m) ≡ true
emits_known m x k h = sym (is_some-find text_cmp k m) ∙ go (get m k) h
  where
    go : (v : Option (List Relation)) → has x (unwrap_or v []) ≡ true → is_some v ≡ true
    go None h = absurd (true≢false (sym h))
    go (Some l) h = refl

output_known : (rules : Rules) (x : Relation) (r : Ref) (kept : Option Record) → has x (emits rules r (option_and_then (λ (y : Record). y.output) kept)) ≡ true → is_some kept ≡ true
output_known rules x r None h = absurd (true≢false (sym h))
output_known rules x r (Some y) h = refl

-- lists that have the same relations have the same of each source
same_from_source : (r : Ref) (xs ys : List Relation) → ((x : Relation) → has x xs ≡ has x ys) → from_source r xs ≡ from_source r ys
same_from_source r xs ys alike =
    let p : Relation → Bool = λ x. same_text r x.source in
    same_in_order relation_total relation_antisymmetric (filter p xs) (filter p ys)
    (λ x. has-filter relation_total relation_antisymmetric p x xs ∙ (ap (λ b. p x && b) (alike x) ∙ sym (has-filter relation_total relation_antisymmetric p x ys)))

has_linked : (rules : Rules) (links : Emitted) (m : State) → AreLinked rules links m → ((r : Ref) → is_some (get m.records r) ≡ held m.holders r)
    → (x : Relation) → has x (all_emitted links) ≡ has x (records_emit rules m)
has_linked rules links m linked records x =
    let q : Ref → Bool = λ e. has x (emits rules e (output_of m.records e)) in
    emitted_has links linked.in_order x
    ∙ ((λ i. list_any (λ e. has x (linked.each e i)) (keys links))
    ∙ (same_any q (keys links) (keys m.holders) (λ e h. emits_known links x e (ap (has x) (linked.each e) ∙ h))
    (λ e h. sym (is_some-find text_cmp e m.holders) ∙ (sym (records e) ∙ output_known rules x e (get m.records e) h))
    ∙ sym (any_flat_map (eq_by_cmp relation_cmp x) (λ e. emits rules e (output_of m.records e)) (keys m.holders))))

-- the relations of a source are those among what all records emit
pub relations_are : (rules : Rules) (links : Emitted) (m : State) → AreLinked rules links m → ((r : Ref) → is_some (get m.records r) ≡ held m.holders r)
    → (r : Ref) → relations_of links r ≡ from_source r (records_emit rules m)
relations_are rules links m linked records r = same_from_source r (all_emitted links) (records_emit rules m) (has_linked rules links m linked records)

-- taking what has a source first, before more is joined, leaves the same with that source
source_again : (r : Ref) (all own : List Relation) → from_source r (from_source r all ++ own) ≡ from_source r (all ++ own)
source_again r all own =
    let p : Relation → Bool = λ x. same_text r x.source in
    let found : (x : Relation) → has x (from_source r all) ≡ (p x && has x all) =
    λ x. has-in_order relation_total relation_antisymmetric x (filter p all) ∙ has-filter relation_total relation_antisymmetric p x all in
    same_in_order relation_total relation_antisymmetric (filter p (from_source r all ++ own)) (filter p (all ++ own))
    (λ x. has-filter relation_total relation_antisymmetric p x (from_source r all ++ own)
    ∙ (ap (λ b. p x && b) (list_any-append (eq_by_cmp relation_cmp x) (from_source r all) own ∙ ap (λ b. b || has x own) (found x))
    ∙ (once (p x) (has x all) (has x own)
    ∙ (ap (λ b. p x && b) (sym (list_any-append (eq_by_cmp relation_cmp x) all own)) ∙ sym (has-filter relation_total relation_antisymmetric p x (all ++ own))))))
  where
    once : (a b c : Bool) → (a && ((a && b) || c)) ≡ (a && (b || c))
    once true b c = refl
    once false b c = refl

-- the relations of an orphan are those of its source with what it emits itself
pub orphan_relations_are : (rules : Rules) (links : Emitted) (m : State) → AreLinked rules links m → ((r : Ref) → is_some (get m.records r) ≡ held m.holders r)
    → (r : Ref) (own : List Relation) → from_source r (relations_of links r ++ own) ≡ from_source r (records_emit rules m ++ own)
orphan_relations_are rules links m linked records r own = ap (λ l. from_source r (l ++ own)) (relations_are rules links m linked records r) ∙ source_again r (records_emit rules m) own

-- a catalogue without anything has no links
pub none_linked : (rules : Rules) → AreLinked rules [] start
none_linked rules = record { in_order = tt; each = λ e. refl }

-- ---- the links after an event

sorted-with_changes : (m : Emitted) (cs : List EmitChange) → T (is_sorted text_cmp m) → T (is_sorted text_cmp (with_changes m cs))
sorted-with_changes m [] s = s
sorted-with_changes m (c ∷ cs) s = sorted-with_changes (with_emitter c.emitter c.relations m) cs (sorted-with_emitter c.emitter c.relations m s)

with_changes-append : (m : Emitted) (cs ds : List EmitChange) → with_changes m (cs ++ ds) ≡ with_changes (with_changes m cs) ds
with_changes-append m [] ds = refl
with_changes-append m (c ∷ cs) ds = with_changes-append (with_emitter c.emitter c.relations m) cs ds

abbrev silent : Text → EmitChange
silent e = record { emitter = e; relations = [] }

-- what an emitter emits once these emit nothing
emitted-silent : (m : Emitted) (ks : List Text) (e : Text) → emitted_by (with_changes m (map silent ks)) e ≡ cond (list_any (same_text e) ks) [] (emitted_by m e)
emitted-silent m [] e = refl
emitted-silent m (k ∷ ks) e =
    emitted-silent (with_emitter k [] m) ks e ∙ (ap (λ l. cond (list_any (same_text e) ks) [] l) (emitted-with_emitter k e [] m) ∙ go (same_text e k) (list_any (same_text e) ks))
  where
    go : (a b : Bool) → cond b [] (cond a [] (emitted_by m e)) ≡ cond (a || b) [] (emitted_by m e)
    go true true = refl
    go true false = refl
    go false true = refl
    go false false = refl

other_own : (q r : Ref) → same_text r q ≡ false → same_text q r ≡ false
other_own q r h = go (same_text q r) refl
  where
    go : (b : Bool) → same_text q r ≡ b → b ≡ false
    go true e = sym (same_self text_total text_antisymmetric q) ∙ (ap (λ t. same_text t q) (same_is text_total text_antisymmetric q r e) ∙ h)
    go false e = refl

module _ (rules : Rules) (links : Emitted) (own : Option Ref) (m n : State) (linked : AreLinked rules links m) (leaves : LeavesOthers own m n) where
  abbrev gone : List Ref
  gone = filter (λ e. is_none (get n.records e)) (keys m.records)

  is_gone : (e : Ref) → list_any (same_text e) gone ≡ (is_none (get n.records e) && is_some (get m.records e))
  is_gone e =
      has-filter text_total text_antisymmetric (λ e. is_none (get n.records e)) e (keys m.records) ∙ ap (λ b. is_none (get n.records e) && b) (sym (is_some-find text_cmp e m.records))

  -- what the others emit, given the records of both states
  other_emits : (e : Ref) (v w : Option Record) → is_own own e ≡ false → get m.records e ≡ v → get n.records e ≡ w
      → cond (is_none w && is_some v) [] (emits rules e (option_and_then (λ (y : Record). y.output) v)) ≡ emits rules e (option_and_then (λ (y : Record). y.output) w)
  other_emits e None None o f g = refl
  other_emits e None (Some y) o f g = ap (emits rules e) (sym (leaves.come e y o f g))
  other_emits e (Some x) None o f g = refl
  other_emits e (Some x) (Some y) o f g = ap (emits rules e) (leaves.records e x y o f g).0

  others : (e : Ref) → is_own own e ≡ false → emitted_by (with_changes links (left_changes m n)) e ≡ emits rules e (output_of n.records e)
  others e o =
      emitted-silent links gone e
      ∙ ((λ i. cond (is_gone e i) [] (linked.each e i)) ∙ other_emits e (get m.records e) (get n.records e) o refl refl)

each_changed : (rules : Rules) (links : Emitted) (own : Option Ref) (m n : State) → AreLinked rules links m → LeavesOthers own m n
    → (e : Ref) → emitted_by (with_changes (with_changes links (left_changes m n)) (own_changes rules own n)) e ≡ emits rules e (output_of n.records e)
each_changed rules links None m n linked leaves e = others rules links None m n linked leaves e refl
each_changed rules links (Some r) m n linked leaves e =
    emitted-with_emitter r e (emits rules r (output_of n.records r)) (with_changes links (left_changes m n)) ∙ go (same_text e r) refl
  where
    go : (b : Bool) → same_text e r ≡ b → cond b (emits rules r (output_of n.records r)) (emitted_by (with_changes links (left_changes m n)) e) ≡ emits rules e (output_of n.records e)
    go true is = ap (λ q. emits rules q (output_of n.records q)) (sym (same_is text_total text_antisymmetric e r is))
    go false is = others rules links (Some r) m n linked leaves e (other_own r e is)

-- the links after the changes are those of the new state
pub changes_are : (rules : Rules) (links : Emitted) (own : Option Ref) (m n : State) → AreLinked rules links m → LeavesOthers own m n
    → AreLinked rules (with_changes links (emit_changes rules own m n)) n
changes_are rules links own m n linked leaves = record {
  in_order = sorted-with_changes links (emit_changes rules own m n) linked.in_order;
  each = λ e. ap (λ l. emitted_by l e) (with_changes-append links (left_changes m n) (own_changes rules own n)) ∙ each_changed rules links own m n linked leaves e;
}

-- ---- the references whose parts changed

beq_is : (a b : Bool) → beq a b ≡ true → a ≡ b
beq_is true true h = refl
beq_is true false h = sym h
beq_is false true h = h
beq_is false false h = refl

not_false : (b : Bool) → not b ≡ false → b ≡ true
not_false true h = refl
not_false false h = absurd (true≢false h)

orphan_parts_are : (rules : Rules) (before after : List Relation) (r : Ref) (v w : Option Orphan) → from_source r before ≡ from_source r after
    → is_some v ≡ is_some w → ((x y : Orphan) → v ≡ Some x → w ≡ Some y → x ≡ y) → parts_of_orphan rules before r v ≡ parts_of_orphan rules after r w
orphan_parts_are rules before after r None None alike sort stay = refl
orphan_parts_are rules before after r None (Some y) alike sort stay = absurd (true≢false (sym sort))
orphan_parts_are rules before after r (Some x) None alike sort stay = absurd (true≢false sort)
orphan_parts_are rules before after r (Some x) (Some y) alike sort stay =
    let same : x ≡ y = stay x y refl refl in
    let own = rules.relations x.entity r in
    let joined : from_source r (before ++ own) ≡ from_source r (after ++ own) = sym (source_again r before own) ∙ (ap (λ l. from_source r (l ++ own)) alike ∙ source_again r after own) in
    (λ i. Some (record { entity = x.entity; number = x.number; orphan = true; relations = joined i; issues = [] })) ∙ ap (λ z. parts_of_orphan rules after r (Some z)) same

record_parts_are : (before after : List Relation) (r : Ref) (x y : Record) → from_source r before ≡ from_source r after
    → (x.output ≡ y.output) × (x.issues ≡ y.issues) × (x.number ≡ y.number) → parts_of_record before r x x.output ≡ parts_of_record after r y y.output
record_parts_are before after r x y alike same = go x.output ∙ ap (parts_of_record after r y) same.0
  where
    go : (v : Option Output) → parts_of_record before r x v ≡ parts_of_record after r y v
    go None = refl
    go (Some o) = λ i. Some (record { entity = o.entity; number = same.2 i; orphan = false; relations = alike i; issues = same.1 i })

module _ (rules : Rules) (links links' : Emitted) (changed : List Text) (own : Option Ref) (m n : State) (linked : AreLinked rules links m) (linked' : AreLinked rules links' n) (are : AreChanged links links' changed)
    (leaves : LeavesOthers own m n) (held_m : (r : Ref) → is_some (get m.records r) ≡ held m.holders r) (held_n : (r : Ref) → is_some (get n.records r) ≡ held n.holders r) where
  abbrev before : List Relation
  before = records_emit rules m

  abbrev after : List Relation
  after = records_emit rules n

  -- a source that isn't among those whose relations changed has the relations that it had
  source_stays : (r : Ref) → list_any (same_text r) changed ≡ false → from_source r before ≡ from_source r after
  source_stays r h =
      sym (relations_are rules links m linked held_m r)
      ∙ (sym (are.others r (λ c. true≢false (sym (has_from_contains text_total text_antisymmetric changed r c) ∙ h))) ∙ relations_are rules links' n linked' held_n r)

  parts_at : (r : Ref) (v w : Option Record) → get m.records r ≡ v → get n.records r ≡ w → is_own own r ≡ false → is_some v ≡ is_some w → is_some (get m.orphans r) ≡ is_some (get n.orphans r)
      → from_source r before ≡ from_source r after → parts_from rules before r (get m.orphans r) v ≡ parts_from rules after r (get n.orphans r) w
  parts_at r None None f g o sort orphans alike =
      orphan_parts_are rules before after r (get m.orphans r) (get n.orphans r) alike orphans (λ x y a b. leaves.orphans r x y o f g a b)
  parts_at r None (Some y) f g o sort orphans alike = absurd (true≢false (sym sort))
  parts_at r (Some x) None f g o sort orphans alike = absurd (true≢false sort)
  parts_at r (Some x) (Some y) f g o sort orphans alike = record_parts_are before after r x y alike (leaves.records r x y o f g)

  -- a reference that is no candidate keeps its parts
  pub parts_stay : (r : Ref) → is_candidate changed own m n r ≡ false → parts rules m r ≡ parts rules n r
  parts_stay r h =
      let front : (list_any (same_text r) changed || is_own own r) ≡ false = or_false_first (list_any (same_text r) changed || is_own own r) _ h in
      let sort : same_sort m n r ≡ true = not_false _ (or_false_second (list_any (same_text r) changed || is_own own r) _ h) in
      parts_at r (get m.records r) (get n.records r) refl refl (or_false_second (list_any (same_text r) changed) _ front)
      (beq_is _ _ (and_first (beq (is_some (get m.records r)) (is_some (get n.records r))) _ sort))
      (beq_is _ _ (and_second (beq (is_some (get m.records r)) (is_some (get n.records r))) _ sort))
      (source_stays r (or_false_first (list_any (same_text r) changed) _ front))

  -- whether the parts of a reference changed
  abbrev moved : Ref → Bool
  moved r = is_some (parts rules n r) && not (same_option rules.same_parts (parts rules m r) (parts rules n r))

  none_moved : (r : Ref) → is_candidate changed own m n r ≡ false → moved r ≡ false
  none_moved r h =
      ap (λ v. is_some (parts rules n r) && not (same_option rules.same_parts v (parts rules n r))) (parts_stay r h)
      ∙ (ap (λ b. is_some (parts rules n r) && not b) (same_option-self rules.same_parts rules.same_parts-self (parts rules n r)) ∙ go (is_some (parts rules n r)))
    where
      go : (b : Bool) → (b && false) ≡ false
      go true = refl
      go false = refl

  candidate_moved : (r : Ref) → (is_candidate changed own m n r && moved r) ≡ moved r
  candidate_moved r = go (is_candidate changed own m n r) refl
    where
      go : (b : Bool) → is_candidate changed own m n r ≡ b → (b && moved r) ≡ moved r
      go true e = refl
      go false e = sym (none_moved r e)

-- the references whose parts changed are those among the candidates
pub changed_are : (rules : Rules) (links links' : Emitted) (changed : List Text) (own : Option Ref) (m n : State) → AreLinked rules links m → AreLinked rules links' n → AreChanged links links' changed
    → LeavesOthers own m n → ((r : Ref) → is_some (get m.records r) ≡ held m.holders r) → ((r : Ref) → is_some (get n.records r) ≡ held n.holders r)
    → filter (λ r. is_candidate changed own m n r && (is_some (parts rules n r) && not (same_option rules.same_parts (parts rules m r) (parts rules n r)))) (known_refs n) ≡ changed_refs rules m n
changed_are rules links links' changed own m n linked linked' are leaves held_m held_n =
    λ i. filter (λ r. candidate_moved rules links links' changed own m n linked linked' are leaves held_m held_n r i) (known_refs n)

-- lists in order of which those that pass are in both or in none have the same that pass
same_passing : (p : Text → Bool) (xs ys : List Text) → IsStrictlySortedBy text_cmp xs → IsStrictlySortedBy text_cmp ys
    → ((q : Text) → p q ≡ true → list_any (same_text q) xs ≡ list_any (same_text q) ys) → filter p xs ≡ filter p ys
same_passing p xs ys rises rises' alike =
    in_order_is text_total text_antisymmetric (filter p ys) (filter p xs) (IsStrictlySortedBy-filter text_cmp p xs rises)
    (λ q. has-filter text_total text_antisymmetric p q xs ∙ (go q (p q) refl ∙ sym (has-filter text_total text_antisymmetric p q ys)))
    ∙ sym (in_order_is text_total text_antisymmetric (filter p ys) (filter p ys) (IsStrictlySortedBy-filter text_cmp p ys rises') (λ q. refl))
  where
    go : (q : Text) (b : Bool) → p q ≡ b → (b && list_any (same_text q) xs) ≡ (b && list_any (same_text q) ys)
    go q true e = alike q e
    go q false e = refl

-- it is enough to ask references in order among which each candidate is
pub changed_among : (rules : Rules) (links links' : Emitted) (changed : List Text) (own : Option Ref) (m n : State) → AreLinked rules links m → AreLinked rules links' n → AreChanged links links' changed
    → LeavesOthers own m n → ((q : Ref) → is_some (get m.records q) ≡ held m.holders q) → ((q : Ref) → is_some (get n.records q) ≡ held n.holders q)
    → (asked : List Text) → IsStrictlySortedBy text_cmp asked → ((q : Ref) → list_any (same_text q) asked ≡ false → is_candidate changed own m n q ≡ false)
    → filter (λ q. is_some (parts rules n q) && not (same_option rules.same_parts (parts rules m q) (parts rules n q))) asked ≡ changed_refs rules m n
changed_among rules links links' changed own m n linked linked' are leaves held_m held_n asked rises outside =
    same_passing changes asked (known_refs n) rises (in_order-rises text_total text_antisymmetric (keys n.records ++ keys n.orphans)) (λ q h. is_asked q h ∙ sym (is_known q h))
  where
    changes : Ref → Bool
    changes q = is_some (parts rules n q) && not (same_option rules.same_parts (parts rules m q) (parts rules n q))

    is_known : (q : Ref) → changes q ≡ true → list_any (same_text q) (known_refs n) ≡ true
    is_known q h = go (list_any (same_text q) (known_refs n)) refl
      where
        go : (b : Bool) → list_any (same_text q) (known_refs n) ≡ b → b ≡ true
        go true e = refl
        go false e = sym (ap is_some (unknown rules n q e)) ∙ and_first (is_some (parts rules n q)) _ h

    is_asked : (q : Ref) → changes q ≡ true → list_any (same_text q) asked ≡ true
    is_asked q h = go (list_any (same_text q) asked) refl
      where
        go : (b : Bool) → list_any (same_text q) asked ≡ b → b ≡ true
        go true e = refl
        go false e = sym (none_moved rules links links' changed own m n linked linked' are leaves held_m held_n q (outside q e)) ∙ h

-- where nothing comes or leaves, it is enough to ask the reference itself and the changed sources, in order
pub changed_alone : (rules : Rules) (links links' : Emitted) (changed : List Text) (m n : State) (r : Ref) → AreLinked rules links m → AreLinked rules links' n → AreChanged links links' changed
    → LeavesOthers (Some r) m n → ((q : Ref) → is_some (get m.records q) ≡ held m.holders q) → ((q : Ref) → is_some (get n.records q) ≡ held n.holders q)
    → ((q : Ref) → same_sort m n q ≡ true)
    → (candidates : List Text) → IsStrictlySortedBy text_cmp candidates → ((q : Ref) → list_any (same_text q) candidates ≡ (list_any (same_text q) changed || same_text r q))
    → filter (λ q. is_some (parts rules n q) && not (same_option rules.same_parts (parts rules m q) (parts rules n q))) candidates ≡ changed_refs rules m n
changed_alone rules links links' changed m n r linked linked' are leaves held_m held_n sort candidates rises are_candidates =
    changed_among rules links links' changed (Some r) m n linked linked' are leaves held_m held_n candidates rises
    (λ q e. (λ i. (list_any (same_text q) changed || same_text r q) || not (sort q i)) ∙ (ap (λ b. b || false) (sym (are_candidates q) ∙ e)))
