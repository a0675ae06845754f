-- Questions of the catalogue's state.
use Rattle.std.proofs.Common.{◌≡◌, ℕ, ◌<◌, ◌≤◌, Bool, true, false, cond, ◌&&◌, ◌⊎◌, ⊎_elim, List, [], ◌∷◌, refl, sym, ap, ◌∙◌, is_some, true≢false, arith, ◌||◌, ◌+◌, nat_le, nat_lt, unwrap_or, subst, inl, inr, nat_eq, le_refl}
use Rattle.std.specs.declared.option.Option.{Option}
use Rattle.std.specs.declared.option.Option.TheVariants.{None, Some}
use Rattle.std.specs.List.{list_any}
use Rattle.std.proofs.lemmas.Bool.Decides.{nat_tests}
use Rattle.std.specs.Option.{option_and_then, option_map}
use Rattle.std.specs.List.{filter}
use Rattle.cat_types.specs.declared.parts.Parts.{Parts}
use Rattle.cat_collections.proofs.Tables.{find-put_same, or_true, some_or_none, same_is}
use Rattle.cat_model.specs.declared.types.Row.{Row}
use Rattle.cat_model.specs.declared.types.Settings.{Settings}
use Rattle.cat_model.specs.Catalogue.{Rules, parts, row_at, work, work_of}
use Rattle.cat_model.specs.Sound.{IsStitched, Sound}
use Rattle.cat_model.specs.Settle.{by_ticket, marks_in_order, order, order_with, stitch_order, insert_mark}
use Rattle.cat_model.specs.Step.{due_at, earlier, earliest, leased, may_take, next_taken, take, take_next}
use Rattle.cat_model.specs.Reply.{mark_above, next_mark, next_stitch, taken, TakesNoLater, StitchesNoLater}
use Rattle.cat_laws.proofs.Settled.{any_in_order}
use Rattle.cat_collections.specs.Table.{Map, get, keys, same_text}
use Rattle.cat_collections.proofs.Tables.{text_total, text_antisymmetric, found_key, same_self}
use Rattle.cat_model.specs.declared.types.Record.{Record}
use Rattle.cat_model.specs.declared.types.State.{State}
use Rattle.cat_model.specs.Catalogue.{Ref}
use Rattle.cat_model.specs.Sound.{Quiet}
use Rattle.cat_model.specs.Settle.{is_due, due_refs, is_empty}
use Rattle.cat_model.specs.Reply.{is_quiet}
use Rattle.cat_laws.proofs.Settled.{any_filter, filter_head}

both_true : (a b : Bool) → (a && b) ≡ true → (a ≡ true) × (b ≡ true)
both_true true b h = (refl, h)
both_true false b h = absurd (true≢false (sym h))

get_first : {X : Type 0} (m : Map X) → is_empty m ≡ false → (r : Ref) × (is_some (get m r) ≡ true)
get_first [] h = absurd (true≢false h)
get_first (e ∷ es) h = (e.0, go (same_text e.0 e.0) (same_self text_total text_antisymmetric e.0))
  where
    go : (b : Bool) → b ≡ true → is_some (cond b (Some e.1) (get es e.0)) ≡ true
    go true h = refl
    go false h = absurd (true≢false (sym h))

key_found : {X : Type 0} (r : Ref) (m : Map X) → list_any (same_text r) (keys m) ≡ true → (x : X) × (get m r ≡ Some x)
key_found {X} r [] h = absurd (true≢false (sym h))
key_found {X} r (e ∷ es) h = go (same_text r e.0) h (key_found r es)
  where
    go : (b : Bool) → (b || list_any (same_text r) (keys es)) ≡ true → (list_any (same_text r) (keys es) ≡ true → (x : X) × (get es r ≡ Some x)) → (x : X) × (cond b (Some e.1) (get es r) ≡ Some x)
    go true h ih = (e.1, refl)
    go false h ih = ih h

pub asked_quiet : (m : State) (now : ℕ) → is_quiet m now ≡ true → Quiet m now
asked_quiet m now h = record { none_due = not_due; none_marked = λ r. go r m.marks (both_true _ _ h).1 }
  where
    go : {X : Type 0} (r : Ref) (marks : Map X) → is_empty marks ≡ true → get marks r ≡ None
    go r [] h = refl
    go r (e ∷ es) h = absurd (true≢false (sym h))

    no_refs : (rs : List Ref) → is_empty rs ≡ true → (r : Ref) → list_any (same_text r) rs ≡ false
    no_refs [] h r = refl
    no_refs (q ∷ rs) h r = absurd (true≢false (sym h))

    not_due : (r : Ref) (x : Record) → get m.records r ≡ Some x → now < x.due
    not_due r x e = ⊎_elim (λ le. absurd (true≢false (sym (in_due le) ∙ no_refs (due_refs now m) (both_true _ _ h).0 r))) (λ lt. lt) (cases x.due)
      where
        cases : (d : ℕ) → (d ≤ now) ⊎ (now < d)
        cases d = grind arith

        is : (x : Record) → x.due ≤ now → is_due now (Some x) ≡ true
        is x due = grind (arith, nat_tests)

        in_due : x.due ≤ now → list_any (same_text r) (due_refs now m) ≡ true
        in_due le = any_filter (λ r. is_due now (get m.records r)) (keys m.records) r (found_key text_total text_antisymmetric r m.records x e) (ap (is_due now) e ∙ is x le)

pub quiet_asked : (m : State) (now : ℕ) → Quiet m now → is_quiet m now ≡ true
quiet_asked m now quiet = both (due_refs now m) refl (is_empty m.marks) refl
  where
    due_not : (r : Ref) (v : Option Record) → get m.records r ≡ v → is_due now v ≡ false
    due_not r None e = refl
    due_not r (Some x) e = let lt = quiet.none_due r x e in grind (arith, nat_tests)

    both : (rs : List Ref) → due_refs now m ≡ rs → (b : Bool) → is_empty m.marks ≡ b → (is_empty rs && b) ≡ true
    both [] e true f = refl
    both [] e false f = let g = get_first m.marks f in absurd (true≢false (sym g.1 ∙ ap is_some (quiet.none_marked g.0)))
    both (r ∷ rs) e b f = absurd (true≢false (sym (filter_head (λ r. is_due now (get m.records r)) (keys m.records) r rs e) ∙ due_not r (get m.records r) refl))

earliest_may : (m : State) (p : Ref → Bool) (rs : List Ref) (r : Ref) → earliest m (filter p rs) ≡ Some r → p r ≡ true
earliest_may m p [] r e = absurd (true≢false (sym (ap is_some e)))
earliest_may m p (q ∷ rs) r e = go (p q) refl e (earliest_may m p rs r)
  where
    go : (b : Bool) → p q ≡ b → earliest m (cond b (q ∷ filter p rs) (filter p rs)) ≡ Some r → (earliest m (filter p rs) ≡ Some r → p r ≡ true) → p r ≡ true
    go false is e ih = ih e
    go true is e ih = at (earliest m (filter p rs)) refl e
      where
        one : (x : Ref) → Some x ≡ Some r → x ≡ r
        one x h = ap (λ v. unwrap_or v r) h

        pick : (b : Bool) (x : Ref) → earliest m (filter p rs) ≡ Some x → cond b (Some q) (Some x) ≡ Some r → p r ≡ true
        pick true x f e = ap p (sym (one q e)) ∙ is
        pick false x f e = ih (f ∙ e)

        at : (v : Option Ref) → earliest m (filter p rs) ≡ v → earlier m q v ≡ Some r → p r ≡ true
        at None f e = ap p (sym (one q e)) ∙ is
        at (Some x) f e = pick (nat_le (due_at (get m.records q)) (due_at (get m.records x))) x f e

-- a take gives an order exactly where a record may be taken
pub taken_given : (rules : Rules) (s : Settings) (m : State) (now : ℕ) → Sound rules m → is_some (taken rules s now m) ≡ is_some (next_taken now m)
taken_given rules s m now sound = go (next_taken now m) refl
  where
    ordered : (r : Ref) (x : Record) → get m.records r ≡ Some x → is_some (order rules (take s r now m (Some x)) r) ≡ true
    ordered r x e =
        let a = some_or_none (get m.holders r) (sym (sound.records r) ∙ ap is_some e) in
        let w = sound.holders.rows_of r a.0 a.1 in
        ap is_some
        (ap (λ v. order_with r (option_and_then (λ (x : Record). x.lease) v) (work rules m r)) (find-put_same text_total text_antisymmetric r (leased x.due x (Some (record { token = m.token; expires = now + s.lease }))) m.records)
        ∙ ap (order_with r (Some (record { token = m.token; expires = now + s.lease }))) (ap (option_map (λ (x : Row). work_of rules m.shelf x.offered.tree)) (ap (option_and_then (row_at m.rows)) a.1 ∙ w.at)))

    at : (r : Ref) → next_taken now m ≡ Some r → (v : Option Record) → get m.records r ≡ v → is_some (order rules (take s r now m v) r) ≡ true
    at r e None f = absurd (true≢false (sym (earliest_may m (λ r. may_take now (get m.records r)) (keys m.records) r e) ∙ ap (may_take now) f))
    at r e (Some x) f = ordered r x f

    go : (v : Option Ref) → next_taken now m ≡ v → is_some (option_and_then (order rules (take_next s now m v)) v) ≡ is_some v
    go None e = refl
    go (Some r) e = at r e (get m.records r) refl

mark_in : (after : ℕ) (es : List (Ref × ℕ)) (e : Ref × ℕ) → mark_above after es ≡ Some e → list_any (same_text e.0) (keys es) ≡ true
mark_in after [] e h = absurd (true≢false (sym (ap is_some h)))
mark_in after (f ∷ es) e h = go (nat_lt after f.1) h (mark_in after es e)
  where
    go : (b : Bool) → cond b (Some f) (mark_above after es) ≡ Some e → (mark_above after es ≡ Some e → list_any (same_text e.0) (keys es) ≡ true) → (same_text e.0 f.0 || list_any (same_text e.0) (keys es)) ≡ true
    go true h ih = ap (λ b. b || list_any (same_text e.0) (keys es)) (ap (λ v. same_text (unwrap_or v f).0 f.0) (sym h) ∙ same_self text_total text_antisymmetric f.0)
    go false h ih = or_true (same_text e.0 f.0) _ (ih h)

-- a stitch order comes exactly where a mark has a ticket above
pub stitch_given : (rules : Rules) (m : State) (after : ℕ) → Sound rules m → is_some (next_stitch rules m after) ≡ is_some (next_mark m after)
stitch_given rules m after sound = go (next_mark m after) refl
  where
    marked : (r : Ref) → list_any (same_text r) (by_ticket m.marks) ≡ true → get m.marks r ≡ None → ⊥
    marked r h none = true≢false (sym (sym (any_in_order (same_text r) m.marks) ∙ h) ∙ not_key (list_any (same_text r) (keys m.marks)) refl)
      where
        not_key : (b : Bool) → list_any (same_text r) (keys m.marks) ≡ b → list_any (same_text r) (keys m.marks) ≡ false
        not_key true e = let k = key_found r m.marks e in absurd (true≢false (sym (ap is_some k.1) ∙ ap is_some none))
        not_key false e = e

    with_parts : (e : Ref × ℕ) → list_any (same_text e.0) (by_ticket m.marks) ≡ true → (p : Option Parts) → parts rules m e.0 ≡ p → is_some (stitch_order rules m e.0 (Some e.1) p) ≡ true
    with_parts e h None is = absurd (marked e.0 h (subst (λ v. IsStitched rules v (get m.marks e.0) (get m.documents e.0)) is (sound.stitched e.0)).0)
    with_parts e h (Some p) is = refl

    go : (v : Option (Ref × ℕ)) → next_mark m after ≡ v → is_some (option_and_then (λ (e : Ref × ℕ). stitch_order rules m e.0 (Some e.1) (parts rules m e.0)) v) ≡ is_some v
    go None e = refl
    go (Some e) is = with_parts e (mark_in after (marks_in_order m.marks) e is) (parts rules m e.0) refl

pub taken_may : (m : State) (now : ℕ) (r : Ref) → next_taken now m ≡ Some r → may_take now (get m.records r) ≡ true
taken_may m now r e = earliest_may m (λ r. may_take now (get m.records r)) (keys m.records) r e

-- the earliest of some references is due no later than each of them
record IsEarliest (m : State) (rs : List Ref) (d : ℕ) : Type 0 where
  reference : Ref
  is : earliest m rs ≡ Some reference
  no_later : due_at (get m.records reference) ≤ d

earliest_first : (m : State) (rs : List Ref) (r : Ref) → list_any (same_text r) rs ≡ true → IsEarliest m rs (due_at (get m.records r))
earliest_first m [] r h = absurd (true≢false (sym h))
earliest_first m (k ∷ rs) r h = go (same_text r k) refl h (earliest m rs) refl (earliest_first m rs r)
  where
    own : (q : Ref) (b : Bool) → nat_le (due_at (get m.records k)) (due_at (get m.records q)) ≡ b → earliest m rs ≡ Some q → IsEarliest m (k ∷ rs) (due_at (get m.records k))
    own q true c e = record { reference = k; is = ap (earlier m k) e ∙ ap (λ b. cond b (Some k) (Some q)) c; no_later = le_refl _ }
    own q false c e = record { reference = q; is = ap (earlier m k) e ∙ ap (λ b. cond b (Some k) (Some q)) c; no_later = less (due_at (get m.records k)) (due_at (get m.records q)) c }
      where
        less : (a b : ℕ) → nat_le a b ≡ false → b ≤ a
        less a b c = grind (arith, nat_tests)

    other : (q : Ref) (b : Bool) → nat_le (due_at (get m.records k)) (due_at (get m.records q)) ≡ b → earliest m rs ≡ Some q → due_at (get m.records q) ≤ due_at (get m.records r) → IsEarliest m (k ∷ rs) (due_at (get m.records r))
    other q true c e le = record { reference = k; is = ap (earlier m k) e ∙ ap (λ b. cond b (Some k) (Some q)) c; no_later = let x = more (due_at (get m.records k)) (due_at (get m.records q)) c in omega arith }
      where
        more : (a b : ℕ) → nat_le a b ≡ true → a ≤ b
        more a b c = grind (arith, nat_tests)
    other q false c e le = record { reference = q; is = ap (earlier m k) e ∙ ap (λ b. cond b (Some k) (Some q)) c; no_later = le }

    at_own : (v : Option Ref) → earliest m rs ≡ v → IsEarliest m (k ∷ rs) (due_at (get m.records k))
    at_own None e = record { reference = k; is = ap (earlier m k) e; no_later = le_refl _ }
    at_own (Some q) e = own q (nat_le (due_at (get m.records k)) (due_at (get m.records q))) refl e

    at_other : IsEarliest m rs (due_at (get m.records r)) → IsEarliest m (k ∷ rs) (due_at (get m.records r))
    at_other x = other x.reference (nat_le (due_at (get m.records k)) (due_at (get m.records x.reference))) refl x.is x.no_later

    go : (b : Bool) → same_text r k ≡ b → (b || list_any (same_text r) rs) ≡ true → (v : Option Ref) → earliest m rs ≡ v → (list_any (same_text r) rs ≡ true → IsEarliest m rs (due_at (get m.records r))) → IsEarliest m (k ∷ rs) (due_at (get m.records r))
    go true is h v e ih = subst (λ j. IsEarliest m (k ∷ rs) (due_at (get m.records j))) (sym (same_is text_total text_antisymmetric r k is)) (at_own v e)
    go false is h v e ih = at_other (ih h)

pub taken_first : (m : State) (now : ℕ) (r : Ref) (x : Record) → get m.records r ≡ Some x → may_take now (Some x) ≡ true → TakesNoLater m now x
taken_first m now r x e may =
    let f = earliest_first m (filter (λ r. may_take now (get m.records r)) (keys m.records)) r
    (any_filter (λ r. may_take now (get m.records r)) (keys m.records) r (found_key text_total text_antisymmetric r m.records x e) (ap (may_take now) e ∙ may)) in
    record { reference = f.reference; next = f.is; no_later = subst (λ v. due_at (get m.records f.reference) ≤ due_at v) e f.no_later }

pub mark_is_above : (after : ℕ) (es : List (Ref × ℕ)) (e : Ref × ℕ) → mark_above after es ≡ Some e → after < e.1
mark_is_above after [] e h = absurd (true≢false (sym (ap is_some h)))
mark_is_above after (f ∷ es) e h = go (nat_lt after f.1) refl h (mark_is_above after es e)
  where
    lt : (a b : ℕ) → nat_lt a b ≡ true → a < b
    lt a b c = grind (arith, nat_tests)

    go : (b : Bool) → nat_lt after f.1 ≡ b → cond b (Some f) (mark_above after es) ≡ Some e → (mark_above after es ≡ Some e → after < e.1) → after < e.1
    go true c h ih = subst (λ (g : Ref × ℕ). after < g.1) (ap (λ v. unwrap_or v f) h) (lt after f.1 c)
    go false c h ih = ih h

-- marks in order of ticket
data InOrder : List (Ref × ℕ) → Type 0 where
  none : InOrder []
  one : {e : Ref × ℕ} {es : List (Ref × ℕ)} → ((k : ℕ) → list_any (λ f. nat_eq f.1 k) es ≡ true → e.1 ≤ k) → InOrder es → InOrder (e ∷ es)

any_ticket : (k : ℕ) (e : Ref × ℕ) (fs : List (Ref × ℕ)) → list_any (λ f. nat_eq f.1 k) (insert_mark e fs) ≡ (nat_eq e.1 k || list_any (λ f. nat_eq f.1 k) fs)
any_ticket k e [] = refl
any_ticket k e (f ∷ fs) = go (nat_le e.1 f.1) (any_ticket k e fs)
  where
    swap : (a b c : Bool) → (a || (b || c)) ≡ (b || (a || c))
    swap true true c = refl
    swap true false c = refl
    swap false b c = refl

    go : (b : Bool) → list_any (λ f. nat_eq f.1 k) (insert_mark e fs) ≡ (nat_eq e.1 k || list_any (λ f. nat_eq f.1 k) fs)
        → list_any (λ f. nat_eq f.1 k) (cond b (e ∷ f ∷ fs) (f ∷ insert_mark e fs)) ≡ (nat_eq e.1 k || (nat_eq f.1 k || list_any (λ f. nat_eq f.1 k) fs))
    go true ih = refl
    go false ih = ap (λ c. nat_eq f.1 k || c) ih ∙ swap (nat_eq f.1 k) (nat_eq e.1 k) (list_any (λ f. nat_eq f.1 k) fs)

either : (a b : Bool) → (a || b) ≡ true → (a ≡ true) ⊎ (b ≡ true)
either true b h = inl refl
either false b h = inr h

insert_order : (e : Ref × ℕ) (fs : List (Ref × ℕ)) → InOrder fs → InOrder (insert_mark e fs)
insert_order e [] none = one (λ k h. absurd (true≢false (sym h))) none
insert_order e (f ∷ fs) (one below rest) = go (nat_le e.1 f.1) refl (insert_order e fs rest)
  where
    le : (a b : ℕ) → nat_le a b ≡ true → a ≤ b
    le a b c = grind (arith, nat_tests)

    ge : (a b : ℕ) → nat_le a b ≡ false → b ≤ a
    ge a b c = grind (arith, nat_tests)

    eq : (a b : ℕ) → nat_eq a b ≡ true → a ≡ b
    eq a b c = grind (arith, nat_tests)

    go : (b : Bool) → nat_le e.1 f.1 ≡ b → InOrder (insert_mark e fs) → InOrder (cond b (e ∷ f ∷ fs) (f ∷ insert_mark e fs))
    go true c ih = one (λ k h. ⊎_elim (λ is. let x = eq f.1 k is in let y = le e.1 f.1 c in omega arith) (λ in_rest. let x = below k in_rest in let y = le e.1 f.1 c in omega arith)
        (either (nat_eq f.1 k) (list_any (λ f. nat_eq f.1 k) fs) h)) (one below rest)
    go false c ih = one (λ k h. ⊎_elim (λ is. let x = eq e.1 k is in let y = ge e.1 f.1 c in omega arith) (λ in_rest. below k in_rest)
        (either (nat_eq e.1 k) (list_any (λ f. nat_eq f.1 k) fs) (sym (any_ticket k e fs) ∙ h))) ih

marks_order : (marks : Map ℕ) → InOrder (marks_in_order marks)
marks_order [] = none
marks_order (e ∷ es) = insert_order e (marks_in_order es) (marks_order es)

ticket_in : (marks : Map ℕ) (r : Ref) (k : ℕ) → get marks r ≡ Some k → list_any (λ f. nat_eq f.1 k) (marks_in_order marks) ≡ true
ticket_in [] r k e = absurd (true≢false (sym (ap is_some e)))
ticket_in (f ∷ marks) r k e = any_ticket k f (marks_in_order marks) ∙ go (same_text r f.0) e (ticket_in marks r k)
  where
    self : (k : ℕ) → nat_eq k k ≡ true
    self k = grind (arith, nat_tests)

    go : (b : Bool) → cond b (Some f.1) (get marks r) ≡ Some k → (get marks r ≡ Some k → list_any (λ f. nat_eq f.1 k) (marks_in_order marks) ≡ true) → (nat_eq f.1 k || list_any (λ f. nat_eq f.1 k) (marks_in_order marks)) ≡ true
    go true e ih = ap (λ b. b || list_any (λ f. nat_eq f.1 k) (marks_in_order marks)) (ap (λ v. nat_eq (unwrap_or v k) k) e ∙ self k)
    go false e ih = or_true (nat_eq f.1 k) _ (ih e)

least_above : (after k : ℕ) (es : List (Ref × ℕ)) → InOrder es → list_any (λ f. nat_eq f.1 k) es ≡ true → after < k → (e : Ref × ℕ) × (mark_above after es ≡ Some e) × (e.1 ≤ k)
least_above after k [] none h lt = absurd (true≢false (sym h))
least_above after k (f ∷ es) (one below rest) h lt = go (nat_lt after f.1) refl (λ h. least_above after k es rest h lt)
  where
    not_lt : (a b : ℕ) → nat_lt a b ≡ false → b ≤ a
    not_lt a b c = grind (arith, nat_tests)

    eq : (a b : ℕ) → nat_eq a b ≡ true → a ≡ b
    eq a b c = grind (arith, nat_tests)

    go : (b : Bool) → nat_lt after f.1 ≡ b → (list_any (λ f. nat_eq f.1 k) es ≡ true → (e : Ref × ℕ) × (mark_above after es ≡ Some e) × (e.1 ≤ k)) → (e : Ref × ℕ) × (cond b (Some f) (mark_above after es) ≡ Some e) × (e.1 ≤ k)
    go true c ih = (f, refl, ⊎_elim (λ is. let x = eq f.1 k is in omega arith) (λ in_rest. below k in_rest) (either (nat_eq f.1 k) (list_any (λ f. nat_eq f.1 k) es) h))
    go false c ih = ih (⊎_elim (λ is. let x = eq f.1 k is in let y = not_lt after f.1 c in absurd (omega arith)) (λ in_rest. in_rest) (either (nat_eq f.1 k) (list_any (λ f. nat_eq f.1 k) es) h))

pub mark_least : (m : State) (after : ℕ) (r : Ref) (k : ℕ) → get m.marks r ≡ Some k → after < k → StitchesNoLater m after k
mark_least m after r k e lt = let x = least_above after k (marks_in_order m.marks) (marks_order m.marks) (ticket_in m.marks r k e) lt in record { mark = x.0; next = x.1; no_later = x.2 }
