-- Where one record alone changes, the frame is that record and the marks.
use Rattle.std.proofs.Common.{T, ◌≡◌, ℕ, zero, suc, ◌+◌, Bool, true, false, cond, not, ◌&&◌, ◌||◌, inl, List, [], ◌∷◌, ◌++◌, length, refl, sym, ap, subst, ◌∙◌, is_some, is_none, unwrap_or, arith, true≢false, nat_cmp}
use Rattle.std.specs.Prelude.{⊤}
use Rattle.std.specs.declared.option.Option.{Option}
use Rattle.std.specs.declared.option.Option.TheVariants.{None, Some}
use Rattle.std.specs.Option.{option_and_then}
use Rattle.std.specs.List.{list_any, filter}
use Rattle.std.specs.Cmp.{nat_cmp_total}
use Rattle.std.specs.FinMap.{nat_cmp-IsAntisymmetric}
use Rattle.std.specs.FinMap.Entries.{is_some-find, is_sorted, is_sorted-put, same_entries, below_all}
use Rattle.cat_collections.specs.Table.{Map, text_cmp, same_text, first, get, keys, over, place, put, puts, tabulate}
use Rattle.cat_collections.proofs.Tables.{text_total, text_antisymmetric, and_first, any_filter, cond_none, find-over, find-put_other, find-put_same, find-tabulate, find-tabulate_all, found_key, is_sorted-tabulate, list_any-append, or_false_first, or_false_second, or_true, same_is, same_self}
use Rattle.cat_types.specs.declared.parts.Parts.{Parts}
use Rattle.cat_types.specs.declared.relation.Relation.{Relation}
use Rattle.cat_types.specs.declared.work.Output.{Output}
use Rattle.cat_model.specs.declared.types.Leaving.{Leaving}
use Rattle.cat_model.specs.declared.types.Orphan.{Orphan}
use Rattle.cat_model.specs.declared.types.Origin.{Origin}
use Rattle.cat_model.specs.declared.types.Origin.TheVariants.{Provider, Entity}
use Rattle.cat_model.specs.declared.types.Record.{Record}
use Rattle.cat_model.specs.declared.types.Row.{Row}
use Rattle.cat_model.specs.declared.types.State.{State}
use Rattle.cat_model.specs.Catalogue.{Holders, Ref, Rows, Rules, Tree, changed_refs, claim, claims, document_after, frame, fresh_refs, held, hold, known_refs, mark_after, may_offer, orphan_after, parts, parts_from, parts_of_record, record_after, records_emit, rehold, reheld, remarked, rerecorded, rooted, row_at, same_option, standing, tickets, with_origin_held, work}
use Rattle.cat_model.specs.Sound.{AreHolders, AreOrdered, IsStitched, Sound, offered}
use Rattle.cat_model.specs.Step.{with_record}
use Rattle.cat_model.proofs.Frame.{same_option-self, unknown}
use Rattle.cat_model.proofs.Holding.{begun}
use Rattle.cat_model.proofs.Kept.{first_step, not_below}

-- ---- holding

-- none is first where none passes
none_first : (p : ℕ → Bool) (ks : List ℕ) → ((k : ℕ) → p k ≡ false) → first p ks ≡ None
none_first p [] h = refl
none_first p (k ∷ ks) h = ap (λ b. cond b (Some k) (first p ks)) (h k) ∙ none_first p ks h

-- no row claims where the references of all rows are held
none_claims : (rows : Rows) (holders : Holders) → ((a : ℕ) (row : Row) → row_at rows a ≡ Some row → held holders row.reference ≡ true) → (arrivals : List ℕ) (n : ℕ) → claim n rows arrivals holders ≡ holders
none_claims rows holders all arrivals zero = refl
none_claims rows holders all arrivals (suc n) = go (first (λ a. claims holders (row_at rows a)) arrivals) (none_first (λ a. claims holders (row_at rows a)) arrivals (λ a. no a (row_at rows a) refl))
  where
    no : (a : ℕ) (v : Option Row) → row_at rows a ≡ v → claims holders v ≡ false
    no a None e = refl
    no a (Some row) e = ap (λ b. not b && may_offer holders row.origin) (all a row e)

    go : (v : Option ℕ) → v ≡ None → elim v as (λ _. Holders) [ None ↦ holders | Some a ↦ claim n rows arrivals (hold a (row_at rows a) holders) ] ≡ holders
    go None e = refl
    go (Some a) e = absurd (true≢false (ap is_some e))

-- holders that are rows of their references and rooted hold again
pub holders_stay : (rows : Rows) (holders : Holders) → AreHolders rows holders → T (is_sorted text_cmp holders) → rehold rows holders ≡ holders
holders_stay rows holders are in_order = ap (claim (length rows) rows (keys rows)) first_stays ∙ none_claims rows holders are.all_held (keys rows) (length rows)
  where
    names : (r : Ref) (a : ℕ) (row : Row) → get holders r ≡ Some a → row_at rows a ≡ Some row → row.reference ≡ r
    names r a row e at =
        let w = are.rows_of r a e in
        let same : row ≡ w.row = ap (λ v. unwrap_or v row) (sym at ∙ w.at) in
        ap (λ (z : Row). z.reference) same ∙ w.names

    stays : (r : Ref) (v : Option ℕ) → get holders r ≡ v → option_and_then (λ a. cond (rooted rows holders r) (Some a) None) v ≡ v
    stays r None e = refl
    stays r (Some a) e = ap (λ b. cond b (Some a) None) (are.all_rooted r (ap is_some e))

    first_stays : begun rows holders ≡ holders
    first_stays = first_step rows holders names
        ∙ same_entries text_cmp text_total text_antisymmetric (over text_cmp holders (λ r a. cond (rooted rows holders r) (Some a) None)) holders
        (is_sorted-tabulate text_total text_antisymmetric (keys holders) (λ r. option_and_then (λ a. cond (rooted rows holders r) (Some a) None) (get holders r))) in_order
        (λ r. find-over text_total text_antisymmetric r holders (λ r a. cond (rooted rows holders r) (Some a) None) ∙ stays r (get holders r) refl)

-- rows whose origins are providers or held stand
pub rows_stay : (rows : Rows) (holders : Holders) → T (is_sorted nat_cmp rows) → ((a : ℕ) (row : Row) → row_at rows a ≡ Some row → may_offer holders row.origin ≡ true) → standing rows holders ≡ rows
rows_stay rows holders in_order may =
    same_entries nat_cmp nat_cmp_total nat_cmp-IsAntisymmetric (standing rows holders) rows
    (is_sorted-tabulate nat_cmp_total nat_cmp-IsAntisymmetric (keys rows) (λ a. option_and_then (with_origin_held holders) (row_at rows a))) in_order
    (λ a. find-over nat_cmp_total nat_cmp-IsAntisymmetric a rows (λ a row. with_origin_held holders row) ∙ stays a (row_at rows a) refl)
  where
    stays : (a : ℕ) (v : Option Row) → row_at rows a ≡ v → option_and_then (with_origin_held holders) v ≡ v
    stays a None e = refl
    stays a (Some row) e = ap (λ b. cond b (Some row) None) (may a row e)

-- the origin of each row is a provider or held
origins_held : (rules : Rules) (m : State) → Sound rules m → (a : ℕ) (row : Row) → row_at m.rows a ≡ Some row → may_offer m.holders row.origin ≡ true
origins_held rules m sound a row e = go row.origin (ap is_some (sound.offers.given a row e))
  where
    has_record : (v : Option Record) → is_some (option_and_then (λ (z : Output). get z.offers row.reference) (option_and_then (λ (z : Record). z.output) v)) ≡ true → is_some v ≡ true
    has_record None h = h
    has_record (Some z) h = refl

    go : (o : Origin) → is_some (offered m o row.reference) ≡ true → may_offer m.holders o ≡ true
    go (Provider p) h = refl
    go (Entity f) h = sym (sound.records f) ∙ has_record (get m.records f) h

-- holding is as it stands where rows and holders are
reheld_as : (n : State) → rehold n.rows n.holders ≡ n.holders → standing n.rows n.holders ≡ n.rows → reheld n ≡ n
reheld_as n h s =
    let t : standing n.rows (rehold n.rows n.holders) ≡ n.rows = ap (standing n.rows) h ∙ s in
    λ i. record n { rows = t i; holders = h i }

module _ (rules : Rules) (m : State) (sound : Sound rules m) where
  holders_are : rehold m.rows m.holders ≡ m.holders
  holders_are = holders_stay m.rows m.holders sound.holders sound.holders_in_order

  rows_are : standing m.rows m.holders ≡ m.rows
  rows_are = rows_stay m.rows m.holders sound.rows_in_order (origins_held rules m sound)

  -- in a sound state, holding is as it stands
  pub reheld_stays : reheld m ≡ m
  reheld_stays = reheld_as m holders_are rows_are

-- ---- references and tickets

-- no reference stands twice
abbrev AreApart : List Ref → Type 0
AreApart [] = ⊤
AreApart (r ∷ rs) = (list_any (same_text r) rs ≡ false) × AreApart rs

first_of : (a b : Bool) → T (a && b) → T a
first_of true b h = tt
first_of false b h = h

second_of : (a b : Bool) → T (a && b) → T b
second_of true b h = h
second_of false b h = absurd h

-- no key of a table in order stands twice
keys_apart : {X : Type 0} (es : Map X) → T (is_sorted text_cmp es) → AreApart (keys es)
keys_apart [] h = tt
keys_apart (e ∷ es) h = (not_below e.0 es (first_of (below_all text_cmp e.0 es) _ h), keys_apart es (second_of (below_all text_cmp e.0 es) _ h))

-- none passes among the filtered where none passes among all
none_filtered : (p q : Ref → Bool) (rs : List Ref) → list_any q rs ≡ false → list_any q (filter p rs) ≡ false
none_filtered p q [] h = refl
none_filtered p q (r ∷ rs) h = go (p r) (none_filtered p q rs (or_false_second (q r) _ h))
  where
    go : (b : Bool) → list_any q (filter p rs) ≡ false → list_any q (cond b (r ∷ filter p rs) (filter p rs)) ≡ false
    go true ih = ap (λ c. c || list_any q (filter p rs)) (or_false_first (q r) _ h) ∙ ih
    go false ih = ih

filter_apart : (p : Ref → Bool) (rs : List Ref) → AreApart rs → AreApart (filter p rs)
filter_apart p [] h = tt
filter_apart p (r ∷ rs) h = go (p r) (none_filtered p (same_text r) rs h.0) (filter_apart p rs h.1)
  where
    go : (b : Bool) → list_any (same_text r) (filter p rs) ≡ false → AreApart (filter p rs) → AreApart (cond b (r ∷ filter p rs) (filter p rs))
    go true out ih = (out, ih)
    go false out ih = ih

-- what doesn't pass isn't among the filtered
not_passing : (p : Ref → Bool) (rs : List Ref) (q : Ref) → p q ≡ false → list_any (same_text q) (filter p rs) ≡ false
not_passing p [] q e = refl
not_passing p (r ∷ rs) q e = go (p r) refl (not_passing p rs q e)
  where
    at : p r ≡ true → (c : Bool) → same_text q r ≡ c → list_any (same_text q) (filter p rs) ≡ false → (c || list_any (same_text q) (filter p rs)) ≡ false
    at pr true is ih = absurd (true≢false (sym pr ∙ sym (ap p (same_is text_total text_antisymmetric q r is)) ∙ e))
    at pr false is ih = ih

    go : (b : Bool) → p r ≡ b → list_any (same_text q) (filter p rs) ≡ false → list_any (same_text q) (cond b (r ∷ filter p rs) (filter p rs)) ≡ false
    go true pr ih = at pr (same_text q r) refl ih
    go false pr ih = ih

-- a reference is among the filtered where it passes, as long as what passes is among all
filtered_is : (p : Ref → Bool) (rs : List Ref) (q : Ref) → (p q ≡ true → list_any (same_text q) rs ≡ true) → list_any (same_text q) (filter p rs) ≡ p q
filtered_is p rs q within = go (p q) refl
  where
    go : (b : Bool) → p q ≡ b → list_any (same_text q) (filter p rs) ≡ b
    go true e = any_filter text_total text_antisymmetric p rs q (within e) e
    go false e = not_passing p rs q e

-- nothing is filtered where none of the references passes
none_passing : (p : Ref → Bool) (rs : List Ref) → ((q : Ref) → list_any (same_text q) rs ≡ true → p q ≡ false) → filter p rs ≡ []
none_passing p [] h = refl
none_passing p (r ∷ rs) h =
    ap (λ b. cond b (r ∷ filter p rs) (filter p rs)) (h r (ap (λ b. b || list_any (same_text r) rs) (same_self text_total text_antisymmetric r)))
    ∙ none_passing p rs (λ q i. h q (or_true (same_text q r) _ i))

-- what is found where references with tickets are put in
get-tickets : (rs : List Ref) (t : ℕ) (marks : Map ℕ) (q : Ref) → AreApart rs → get (puts text_cmp (tickets t rs) marks) q ≡ cond (list_any (same_text q) rs) (Some (t + place text_cmp q rs)) (get marks q)
get-tickets [] t marks q h = refl
get-tickets (r ∷ rs) t marks q h = get-tickets rs (t + 1) (put text_cmp r t marks) q h.1 ∙ go (same_text q r) refl
  where
    go : (b : Bool) → same_text q r ≡ b
        → cond (list_any (same_text q) rs) (Some (t + 1 + place text_cmp q rs)) (get (put text_cmp r t marks) q) ≡ cond (b || list_any (same_text q) rs) (Some (t + cond b 0 (suc (place text_cmp q rs)))) (get marks q)
    go true is =
        let same : q ≡ r = same_is text_total text_antisymmetric q r is in
        let out : list_any (same_text q) rs ≡ false = ap (λ k. list_any (same_text k) rs) same ∙ h.0 in
        let at : get (put text_cmp r t marks) q ≡ Some t = ap (get (put text_cmp r t marks)) same ∙ find-put_same text_total text_antisymmetric r t marks in
        let sum : t ≡ t + 0 = omega arith in
        ap (λ b. cond b (Some (t + 1 + place text_cmp q rs)) (get (put text_cmp r t marks) q)) out ∙ at ∙ ap Some sum
    go false is =
        let sum : t + 1 + place text_cmp q rs ≡ t + suc (place text_cmp q rs) = omega arith in
        ap (cond (list_any (same_text q) rs) (Some (t + 1 + place text_cmp q rs))) (find-put_other text_total text_antisymmetric q r t marks is)
        ∙ ap (λ k. cond (list_any (same_text q) rs) (Some k) (get marks q)) sum

-- a table in order stays so
puts_sorted : {X : Type 0} (es marks : Map X) → T (is_sorted text_cmp marks) → T (is_sorted text_cmp (puts text_cmp es marks))
puts_sorted [] marks h = h
puts_sorted (e ∷ es) marks h = puts_sorted es (put text_cmp e.0 e.1 marks) (is_sorted-put text_cmp text_total e.0 e.1 marks h)

-- ---- parts

-- whether an orphan or a record has parts
abbrev has : Option Orphan → Option Record → Bool
has orphan None = is_some orphan
has orphan (Some x) = is_some x.output

parts_has : (rules : Rules) (relations : List Relation) (r : Ref) (orphan : Option Orphan) (known : Option Record) → is_some (parts_from rules relations r orphan known) ≡ has orphan known
parts_has rules relations r None None = refl
parts_has rules relations r (Some o) None = refl
parts_has rules relations r orphan (Some x) = go x.output
  where
    go : (v : Option Output) → is_some (parts_of_record relations r x v) ≡ is_some v
    go None = refl
    go (Some y) = refl

-- what has no parts has neither mark nor document
no_mark : (rules : Rules) (p : Option Parts) (mark : Option ℕ) (document : Option Tree) → is_some p ≡ false → IsStitched rules p mark document → (mark ≡ None) × (document ≡ None)
no_mark rules None mark document e h = h
no_mark rules (Some p) mark document e h = absurd (true≢false e)

-- ---- one record alone

module _ (rules : Rules) (m : State) (r : Ref) (x y : Record) (sound : Sound rules m) (ordered : AreOrdered m) (at : get m.records r ≡ Some x) where
  abbrev n : State
  n = with_record r y m

  -- what holds at the new record and at each old one
  at_record : (P : Ref → Option Record → Type 0) → P r (Some y) → ((q : Ref) → P q (get m.records q)) → (q : Ref) → P q (get n.records q)
  at_record P new old q = go (same_text q r) refl
    where
      go : (b : Bool) → same_text q r ≡ b → P q (get n.records q)
      go true is = subst (λ k. P k (get n.records k)) (sym (same_is text_total text_antisymmetric q r is)) (subst (P r) (sym (find-put_same text_total text_antisymmetric r y m.records)) new)
      go false is = subst (P q) (sym (find-put_other text_total text_antisymmetric q r y m.records is)) (old q)

  still_held : (q : Ref) → is_some (get n.records q) ≡ held m.holders q
  still_held = at_record (λ q v. is_some v ≡ held m.holders q) (ap is_some (sym at) ∙ sound.records r) sound.records

  n_stays : reheld n ≡ n
  n_stays = reheld_as n (holders_are rules m sound) (rows_are rules m sound)

  abbrev same_work_at : Ref → Bool
  same_work_at q = same_option rules.same_work (work rules m q) (work rules n q)

  work_stays : (q : Ref) → same_work_at q ≡ true
  work_stays q = same_option-self rules.same_work rules.same_work-self (work rules m q)

  abbrev fresh : List Ref
  fresh = fresh_refs n n.holders

  none_fresh : fresh ≡ []
  none_fresh = none_passing (λ q. is_none (get n.records q) && is_none (get n.orphans q)) (keys m.holders) (λ q i. go q (get n.records q) (still_held q ∙ is_some-find text_cmp q m.holders ∙ i))
    where
      go : (q : Ref) (v : Option Record) → is_some v ≡ true → (is_none v && is_none (get m.orphans q)) ≡ false
      go q None e = absurd (true≢false (sym e))
      go q (Some z) e = refl

  abbrev record_of : Ref → Option Record
  record_of q = Some (record_after (n.number + place text_cmp q fresh) (get n.orphans q) (same_work_at q) (get n.records q))

  records_stay : tabulate text_cmp (keys m.holders) record_of ≡ n.records
  records_stay = same_entries text_cmp text_total text_antisymmetric (tabulate text_cmp (keys m.holders) record_of) n.records
      (is_sorted-tabulate text_total text_antisymmetric (keys m.holders) record_of) (is_sorted-put text_cmp text_total r y m.records sound.in_order)
      (λ q. find-tabulate text_total text_antisymmetric q (keys m.holders) record_of
      ∙ ap (λ b. cond b (record_of q) None) (sym (is_some-find text_cmp q m.holders) ∙ sym (still_held q))
      ∙ ap (λ b. cond (is_some (get n.records q)) (Some (record_after (n.number + place text_cmp q fresh) (get n.orphans q) b (get n.records q))) None) (work_stays q)
      ∙ kept (n.number + place text_cmp q fresh) (get n.orphans q) (get n.records q))
    where
      kept : (drawn : ℕ) (orphan : Option Orphan) (v : Option Record) → cond (is_some v) (Some (record_after drawn orphan true v)) None ≡ v
      kept drawn orphan None = refl
      kept drawn orphan (Some z) = refl

  module _ (how : Leaving) where
    abbrev orphan_of : Ref → Option Orphan
    orphan_of q = orphan_after how (held n.holders q) (get n.records q) (get n.orphans q)

    orphan_stays : (q : Ref) → orphan_of q ≡ get m.orphans q
    orphan_stays q = go (held m.holders q) refl (get n.records q) (still_held q)
      where
        go : (b : Bool) → held m.holders q ≡ b → (v : Option Record) → is_some v ≡ held m.holders q → orphan_after how b v (get m.orphans q) ≡ get m.orphans q
        go true e v h = sym (sound.orphans q e)
        go false e None h = refl
        go false e (Some z) h = absurd (true≢false (h ∙ e))

    orphans_stay : tabulate text_cmp (keys n.orphans ++ keys n.records) orphan_of ≡ m.orphans
    orphans_stay = same_entries text_cmp text_total text_antisymmetric (tabulate text_cmp (keys n.orphans ++ keys n.records) orphan_of) m.orphans
        (is_sorted-tabulate text_total text_antisymmetric (keys n.orphans ++ keys n.records) orphan_of) ordered.orphans
        (λ q. find-tabulate text_total text_antisymmetric q (keys n.orphans ++ keys n.records) orphan_of
        ∙ ap (λ v. cond (list_any (same_text q) (keys n.orphans ++ keys n.records)) v None) (orphan_stays q) ∙ among q (get m.orphans q) refl)
      where
        among : (q : Ref) (v : Option Orphan) → get m.orphans q ≡ v → cond (list_any (same_text q) (keys n.orphans ++ keys n.records)) v None ≡ v
        among q None e = cond_none (list_any (same_text q) (keys n.orphans ++ keys n.records))
        among q (Some o) e = ap (λ b. cond b (Some o) None) (list_any-append (same_text q) (keys n.orphans) (keys n.records) (inl (found_key text_total text_antisymmetric q m.orphans o e)))

    recorded : rerecorded rules how m n n ≡ n
    recorded =
        let numbers : n.number + length fresh ≡ n.number = ap (λ l. n.number + length l) none_fresh ∙ plus_none n.number in
        λ i. record n { records = records_stay i; orphans = orphans_stay i; number = numbers i }
      where
        plus_none : (k : ℕ) → k + 0 ≡ k
        plus_none k = omega arith

    recorded_reheld : rerecorded rules how m n (reheld n) ≡ n
    recorded_reheld = ap (rerecorded rules how m n) n_stays ∙ recorded

  -- what had parts has some
  module _ (some : is_some x.output ≡ true → is_some y.output ≡ true) where
    has_still : (q : Ref) → has (get m.orphans q) (get m.records q) ≡ true → has (get m.orphans q) (get n.records q) ≡ true
    has_still = at_record (λ q v. has (get m.orphans q) (get m.records q) ≡ true → has (get m.orphans q) v ≡ true) (λ h. some (ap (has (get m.orphans r)) (sym at) ∙ h)) (λ q h. h)

    parts_still : (q : Ref) → is_some (parts rules n q) ≡ false → is_some (parts rules m q) ≡ false
    parts_still q e = go (is_some (parts rules m q)) refl
      where
        go : (b : Bool) → is_some (parts rules m q) ≡ b → b ≡ false
        go true h = sym (has_still q (sym (parts_has rules (records_emit rules m) q (get m.orphans q) (get m.records q)) ∙ h)) ∙ sym (parts_has rules (records_emit rules n) q (get n.orphans q) (get n.records q)) ∙ e
        go false h = refl

    no_mark_at : (q : Ref) → is_some (parts rules n q) ≡ false → (get m.marks q ≡ None) × (get m.documents q ≡ None)
    no_mark_at q e = no_mark rules (parts rules m q) (get m.marks q) (get m.documents q) (parts_still q e) (sound.stitched q)

    abbrev changed : List Ref
    changed = changed_refs rules m n

    abbrev same_parts_at : Ref → Bool
    same_parts_at q = same_option rules.same_parts (parts rules m q) (parts rules n q)

    abbrev is_changed : Ref → Bool
    is_changed q = is_some (parts rules n q) && not (same_parts_at q)

    changed_known : (q : Ref) → is_changed q ≡ true → list_any (same_text q) (known_refs n) ≡ true
    changed_known q h = go (list_any (same_text q) (known_refs n)) refl
      where
        go : (b : Bool) → list_any (same_text q) (known_refs n) ≡ b → b ≡ true
        go true e = refl
        go false e = absurd (true≢false (sym (and_first (is_some (parts rules n q)) _ h) ∙ ap is_some (unknown rules n q e)))

    changed_apart : AreApart changed
    changed_apart = filter_apart is_changed (known_refs n) (keys_apart (tabulate text_cmp (keys n.records ++ keys n.orphans) (λ q. Some (tt {0}))) (is_sorted-tabulate text_total text_antisymmetric (keys n.records ++ keys n.orphans) (λ q. Some (tt {0}))))

    abbrev mark_of : Ref → Option ℕ
    mark_of q = mark_after (m.ticket + place text_cmp q changed) (parts rules n q) (same_parts_at q) (get m.marks q)

    mark_is : (q : Ref) → get (puts text_cmp (tickets m.ticket changed) m.marks) q ≡ mark_of q
    mark_is q = get-tickets changed m.ticket m.marks q changed_apart
        ∙ ap (λ b. cond b (Some (m.ticket + place text_cmp q changed)) (get m.marks q)) (filtered_is is_changed (known_refs n) q (changed_known q))
        ∙ go (m.ticket + place text_cmp q changed) (parts rules n q) (same_parts_at q) (no_mark_at q)
      where
        go : (drawn : ℕ) (p : Option Parts) (same : Bool) → (is_some p ≡ false → (get m.marks q ≡ None) × (get m.documents q ≡ None)) → cond (is_some p && not same) (Some drawn) (get m.marks q) ≡ mark_after drawn p same (get m.marks q)
        go drawn None same none = (none refl).0
        go drawn (Some p) true none = refl
        go drawn (Some p) false none = refl

    marks_are : tabulate text_cmp (known_refs n) mark_of ≡ puts text_cmp (tickets m.ticket changed) m.marks
    marks_are = same_entries text_cmp text_total text_antisymmetric (tabulate text_cmp (known_refs n) mark_of) (puts text_cmp (tickets m.ticket changed) m.marks)
        (is_sorted-tabulate text_total text_antisymmetric (known_refs n) mark_of) (puts_sorted (tickets m.ticket changed) m.marks ordered.marks)
        (λ q. find-tabulate_all text_total text_antisymmetric q (known_refs n) mark_of
        (λ e. ap (λ p. mark_after (m.ticket + place text_cmp q changed) p (same_parts_at q) (get m.marks q)) (unknown rules n q e)) ∙ sym (mark_is q))

    documents_stay : over text_cmp m.documents (λ q document. document_after (parts rules n q) document) ≡ m.documents
    documents_stay = same_entries text_cmp text_total text_antisymmetric (over text_cmp m.documents (λ q document. document_after (parts rules n q) document)) m.documents
        (is_sorted-tabulate text_total text_antisymmetric (keys m.documents) (λ q. option_and_then (document_after (parts rules n q)) (get m.documents q))) ordered.documents
        (λ q. find-over text_total text_antisymmetric q m.documents (λ q document. document_after (parts rules n q) document) ∙ go q (parts rules n q) (get m.documents q) (λ e. (no_mark_at q e).1))
      where
        go : (q : Ref) (p : Option Parts) (v : Option Tree) → (is_some p ≡ false → v ≡ None) → option_and_then (document_after p) v ≡ v
        go q None v none = ap (option_and_then (document_after None)) (none refl) ∙ sym (none refl)
        go q (Some p) None none = refl
        go q (Some p) (Some document) none = refl

    marked : remarked rules m n ≡ record n { marks = puts text_cmp (tickets m.ticket changed) m.marks; ticket = m.ticket + length changed }
    marked = λ i. record n { marks = marks_are i; documents = documents_stay i; ticket = m.ticket + length changed }

-- where the record of r alone is another one, records, orphans and numbers are as they stand
pub alone_recorded : (rules : Rules) (how : Leaving) (m : State) (r : Ref) (x y : Record) → Sound rules m → AreOrdered m → get m.records r ≡ Some x
    → (let n = with_record r y m in rerecorded rules how m n (reheld n) ≡ n)
alone_recorded rules how m r x y sound ordered at = recorded_reheld rules m r x y sound ordered at how

-- where each reference that had parts still has some, the marks are those before with the changed references put in, and the documents stand
pub alone_marked : (rules : Rules) (m : State) (r : Ref) (x y : Record) → Sound rules m → AreOrdered m → get m.records r ≡ Some x → (is_some x.output ≡ true → is_some y.output ≡ true)
    → (let n = with_record r y m in
    remarked rules m n ≡ record n { marks = puts text_cmp (tickets m.ticket (changed_refs rules m n)) m.marks; ticket = m.ticket + length (changed_refs rules m n) })
alone_marked rules m r x y sound ordered at some = marked rules m r x y sound ordered at some

-- so the frame is that record and the marks
pub alone_framed : (rules : Rules) (how : Leaving) (m : State) (r : Ref) (x y : Record) → Sound rules m → AreOrdered m → get m.records r ≡ Some x → (is_some x.output ≡ true → is_some y.output ≡ true)
    → (let n = with_record r y m in
    frame rules how m n ≡ record n { marks = puts text_cmp (tickets m.ticket (changed_refs rules m n)) m.marks; ticket = m.ticket + length (changed_refs rules m n) })
alone_framed rules how m r x y sound ordered at some = ap (remarked rules m) (alone_recorded rules how m r x y sound ordered at) ∙ alone_marked rules m r x y sound ordered at some
