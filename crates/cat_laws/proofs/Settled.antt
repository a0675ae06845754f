-- A settle ends within the width of its state.
use Rattle.std.proofs.Common.{◌≡◌, ℕ, zero, suc, ◌+◌, ◌<◌, ◌≤◌, Bool, true, false, cond, not, ◌&&◌, ◌||◌, ◌⊎◌, inl, inr, List, [], ◌∷◌, ◌++◌, map, length, ⊎_elim, refl, sym, ap, subst, ◌∙◌, is_some, nat_le, unwrap_or, arith, true≢false, nat_cmp}
use Rattle.std.specs.declared.option.Option.{Option}
use Rattle.std.specs.declared.option.Option.TheVariants.{None, Some}
use Rattle.std.specs.Option.{option_and_then, option_map}
use Rattle.std.specs.Ordering.{eq_by_cmp}
use Rattle.std.specs.List.{list_any, filter}
use Rattle.std.proofs.lemmas.Bool.Decides.{nat_tests}
use Rattle.std.specs.FinMap.Entries.{is_some-find}
use Rattle.std.proofs.lemmas.List.{length-map}
use Rattle.cat_collections.specs.Table.{Text, text_cmp, same_text, Map, get, keys, put, tabulate}
use Rattle.cat_model.specs.Catalogue.{Ref, Rules, Rows, Holders, held, row_at, holding, climbs, climbs_row, climbs_origin, work, work_of, parts, same_option, frame}
use Rattle.cat_types.specs.declared.input.Offered.{Offered}
use Rattle.cat_types.specs.declared.work.Output.{Output}
use Rattle.cat_types.specs.declared.work.Outcome.{Outcome}
use Rattle.cat_types.specs.declared.parts.Parts.{Parts}
use Rattle.cat_types.specs.declared.work.Work.{Work}
use Rattle.cat_model.specs.declared.types.Origin.{Origin}
use Rattle.cat_model.specs.declared.types.Row.{Row}
use Rattle.cat_model.specs.declared.types.Lease.{Lease}
use Rattle.cat_model.specs.declared.types.Record.{Record}
use Rattle.cat_model.specs.declared.types.State.{State}
use Rattle.cat_types.specs.declared.work.Outcome.TheVariants.{Good, Bad}
use Rattle.cat_model.specs.declared.types.Origin.TheVariants.{Provider, Entity}
use Rattle.cat_model.specs.Sound.{offered, Sound, Quiet, IsStitched}
use Rattle.cat_model.specs.Step.Event.{TakeAt, Finish}
use Rattle.cat_model.specs.Step.{change, same_origin, leased, with_record, finished_record, finished_state, leaving, has_token, is_present, finish, take, without_key, is_ticket, put_stitch}
use Rattle.cat_model.specs.declared.types.Settings.{Settings}
use Rattle.cat_model.specs.declared.types.Order.{Order}
use Rattle.cat_model.specs.declared.types.StitchOrder.{StitchOrder}
use Rattle.cat_model.specs.Settle.{is_due, order, order_with, due_refs, stitch_order, insert_mark, marks_in_order, by_ticket, IsSettled, width_refs, width}
use Rattle.cat_laws.proofs.Rounds.{finish_order, take_and_finish, turn, turns, round, rounds, stitch, stitch_with, stitches, settle}
use Rattle.cat_model.specs.Settle.IsSettled.{by_provider, by_entity}
use Rattle.cat_collections.proofs.Tables.{text_total, text_antisymmetric, same_is, same_self, some_or_none, cond_none, list_any-append, found_key, first_some, find-tabulate, or_true, find-put_same, find-put_other}
use Rattle.cat_model.proofs.Frame.{IsChange, framed, record_stays}
use Rattle.cat_model.proofs.Kept.{first_of_any, entries_within}
use Rattle.cat_model.proofs.Holding as firm
use Rattle.cat_model.proofs.Holding.{Firm, firm_holding, stood, count, count-le, count-less}
use Rattle.cat_laws.proofs.Steps.{other_way, get-without_key, stitch_kept, take_kept, finish_change, finish_rows, finish_names}

-- a record that is due, and whose row comes from a provider or a settled reference
pub record IsReady (now : ℕ) (m : State) (q : Ref) : Type 0 where
  pub x : Record
  pub at : get m.records q ≡ Some x
  pub due : x.due ≤ now
  pub row : Row
  pub holds : holding m.rows m.holders q ≡ Some row
  pub up : (e : Ref) → row.origin ≡ Entity e → IsSettled now m e

pub split_holding : (rows : Rows) (holders : Holders) (r : Ref) (row : Row) → holding rows holders r ≡ Some row → (a : ℕ) × (get holders r ≡ Some a) × (row_at rows a ≡ Some row)
split_holding rows holders r row h = go (get holders r) refl h
  where
    go : (v : Option ℕ) → get holders r ≡ v → option_and_then (row_at rows) v ≡ Some row → (a : ℕ) × (get holders r ≡ Some a) × (row_at rows a ≡ Some row)
    go None e h = absurd (true≢false (sym (ap is_some h)))
    go (Some a) e h = (a, e, h)

pub any_filter : (p : Ref → Bool) (ks : List Ref) (q : Ref) → list_any (same_text q) ks ≡ true → p q ≡ true → list_any (same_text q) (filter p ks) ≡ true
any_filter p [] q h e = absurd (true≢false (sym h))
any_filter p (k ∷ ks) q h e = go (same_text q k) refl h (p k) refl (λ h. any_filter p ks q h e)
  where
    go : (c : Bool) → same_text q k ≡ c → (c || list_any (same_text q) ks) ≡ true → (b : Bool) → p k ≡ b → (list_any (same_text q) ks ≡ true → list_any (same_text q) (filter p ks) ≡ true)
        → list_any (same_text q) (cond b (k ∷ filter p ks) (filter p ks)) ≡ true
    go true is h true pk ih = ap (λ c. c || list_any (same_text q) (filter p ks)) is
    go true is h false pk ih = absurd (true≢false (sym (ap p (sym (same_is text_total text_antisymmetric q k is)) ∙ e) ∙ pk))
    go false is h true pk ih = or_true (same_text q k) _ (ih h)
    go false is h false pk ih = ih h

pub filter_head : (p : Ref → Bool) (ks : List Ref) (r : Ref) (rs : List Ref) → filter p ks ≡ r ∷ rs → p r ≡ true
filter_head p [] r rs e = absurd (nil_not e)
  where
    nil_not : [] ≡ r ∷ rs → ⊥
    nil_not e = grind arith
filter_head p (k ∷ ks) r rs e = go (p k) refl e (filter_head p ks r rs)
  where
    go : (b : Bool) → p k ≡ b → cond b (k ∷ filter p ks) (filter p ks) ≡ r ∷ rs → (filter p ks ≡ r ∷ rs → p r ≡ true) → p r ≡ true
    go true pk e ih = let same : k ≡ r = cc in ap p (sym same) ∙ pk
    go false pk e ih = ih e

any_inserted : (p : Ref → Bool) (e : Ref × ℕ) (fs : List (Ref × ℕ)) → list_any p (keys (insert_mark e fs)) ≡ (p e.0 || list_any p (keys fs))
any_inserted p e [] = refl
any_inserted p e (f ∷ fs) = go (nat_le e.1 f.1) (any_inserted p e fs)
  where
    swap : (a b c : Bool) → (a || (b || c)) ≡ (b || (a || c))
    swap true true c = refl
    swap true false c = refl
    swap false b c = refl

    go : (b : Bool) → list_any p (keys (insert_mark e fs)) ≡ (p e.0 || list_any p (keys fs)) → list_any p (keys (cond b (e ∷ f ∷ fs) (f ∷ insert_mark e fs))) ≡ (p e.0 || (p f.0 || list_any p (keys fs)))
    go true ih = refl
    go false ih = ap (λ c. p f.0 || c) ih ∙ swap (p f.0) (p e.0) (list_any p (keys fs))

pub any_in_order : (p : Ref → Bool) (marks : Map ℕ) → list_any p (by_ticket marks) ≡ list_any p (keys marks)
any_in_order p [] = refl
any_in_order p (e ∷ es) = any_inserted p e (marks_in_order es) ∙ ap (λ c. p e.0 || c) (any_in_order p es)

module _ (rules : Rules) (s : Settings) (now : ℕ) (later : 1 ≤ s.interval) where
  -- no settled reference is due
  due_other : (m : State) (q : Ref) (x : Record) → get m.records q ≡ Some x → x.due ≤ now → (r : Ref) (z : Record) → get m.records r ≡ Some z → now < z.due → same_text r q ≡ false
  due_other m q x at due r z e lt = go (same_text r q) refl
    where
      go : (b : Bool) → same_text r q ≡ b → b ≡ false
      go true is =
          let same : z ≡ x = ap (λ v. unwrap_or v z) (sym e ∙ ap (get m.records) (same_is text_total text_antisymmetric r q is) ∙ at) in
          let d : z.due ≡ x.due = ap (λ (v : Record). v.due) same in
          absurd (omega arith)
      go false is = refl

  due_is : (x : Record) → x.due ≤ now → is_due now (Some x) ≡ true
  due_is x due = grind (arith, nat_tests)

  -- q, which is due, is taken
  module _ (m : State) (sound : Sound rules m) (q : Ref) (x : Record) (at : get m.records q ≡ Some x) (due : x.due ≤ now) where
    abbrev new_lease : Lease
    new_lease = record { token = m.token; expires = now + s.lease }

    abbrev y : Record
    y = leased x.due x (Some new_lease)

    abbrev t : State
    t = record (with_record q y m) { token = m.token + 1 }

    pub taken_is : change rules s (TakeAt q now) m ≡ t
    taken_is = ap (take s q now m) at

    at_taken : get t.records q ≡ Some y
    at_taken = find-put_same text_total text_antisymmetric q y m.records

    sound_taken : Sound rules t
    sound_taken = take_kept rules s m sound q now (Some x) at

    taken_record : (r : Ref) → same_text r q ≡ false → get t.records r ≡ get m.records r
    taken_record r apart = find-put_other text_total text_antisymmetric r q y m.records apart

    taken_same : (r : Ref) (z : Record) → get m.records r ≡ Some z → now < z.due → get t.records r ≡ get m.records r
    taken_same r z is lt = taken_record r (due_other m q x at due r z is lt)

    taken_settled : (r : Ref) → IsSettled now m r → IsSettled now t r
    taken_settled r (by_provider z row p is lt h o) = by_provider z row p (taken_same r z is lt ∙ is) lt h o
    taken_settled r (by_entity z row e is lt h o up) = by_entity z row e (taken_same r z is lt ∙ is) lt h o (taken_settled e up)

    taken_ready : (r : Ref) → IsReady now m r → IsReady now t r
    taken_ready r ready = go (same_text r q) refl
      where
        go : (b : Bool) → same_text r q ≡ b → IsReady now t r
        go true is = record {
          x = y;
          at = ap (get t.records) (same_is text_total text_antisymmetric r q is) ∙ at_taken;
          due = due;
          row = ready.row;
          holds = ready.holds;
          up = λ e o. taken_settled e (ready.up e o);
        }
        go false is = record { x = ready.x; at = taken_record r is ∙ ready.at; due = ready.due; row = ready.row; holds = ready.holds; up = λ e o. taken_settled e (ready.up e o) }

  -- q, which is due and leased, is finished
  module _ (m : State) (sound : Sound rules m) (q : Ref) (x : Record) (at : get m.records q ≡ Some x) (due : x.due ≤ now) (lease : Lease) (has_lease : x.lease ≡ Some lease) where
    pub its_row : (row : Row) × (holding m.rows m.holders q ≡ Some row)
    its_row =
        let a = some_or_none (get m.holders q) (sym (sound.records q) ∙ ap is_some at) in
        let w = sound.holders.rows_of q a.0 a.1 in
        (w.row, ap (option_and_then (row_at m.rows)) a.1 ∙ w.at)

    abbrev w : Work
    w = work_of rules m.shelf its_row.0.offered.tree

    its_work : work rules m q ≡ Some w
    its_work = ap (option_map (λ (x : Row). work_of rules m.shelf x.offered.tree)) its_row.1

    abbrev its_order : Order
    its_order = record { reference = q; token = lease.token; work = w }

    abbrev n : State
    n = finished_state s q now x (rules.result w) m

    abbrev g : State
    g = frame rules (leaving s.orphans) m n

    its_change : IsChange rules m n
    its_change = finish_change rules s m sound its_order now x at its_work (rules.result w) refl

    pub sound_finished : Sound rules g
    sound_finished = framed rules (leaving s.orphans) m n its_change

    pub its_order-is : order rules m q ≡ Some its_order
    its_order-is = ap (λ v. order_with q (option_and_then (λ (x : Record). x.lease) v) (work rules m q)) at ∙ ap (λ v. order_with q v (work rules m q)) has_lease ∙ ap (order_with q (Some lease)) its_work

    present : is_present rules m its_order x ≡ true
    present = both (ap (has_token lease.token) has_lease ∙ nat_same lease) (ap (same_option rules.same_work (Some w)) its_work ∙ rules.same_work-self w)
      where
        nat_same : (l : Lease) → has_token l.token (Some l) ≡ true
        nat_same l = grind (arith, nat_tests)

        both : {a b : Bool} → a ≡ true → b ≡ true → (a && b) ≡ true
        both {a} {b} p q = ap (λ c. c && b) p ∙ q

    pub finished_is : change rules s (Finish its_order now) m ≡ g
    finished_is = ap (finish rules s its_order now m) at ∙ ap (λ b. cond b g m) present

    -- rows of other origins than q stay
    rows_stay : (a : ℕ) (row : Row) → row_at m.rows a ≡ Some row → same_origin (Entity q) row.origin ≡ false → row_at n.rows a ≡ Some row
    rows_stay a row e h = finish_rows rules s m sound its_order now x at its_work (rules.result w) a row e h

    names : (r : Ref) (a : ℕ) (row : Row) → get m.holders r ≡ Some a → row_at n.rows a ≡ Some row → row.reference ≡ r
    names r a row e h = let v = sound.holders.rows_of r a e in
        finish_names rules s m sound its_order now x at its_work (rules.result w) a v.row row v.at h ∙ v.names

    -- no settled reference is q
    other_ref : (r : Ref) (z : Record) → get m.records r ≡ Some z → now < z.due → same_text r q ≡ false
    other_ref r z e lt = due_other m q x at due r z e lt

    settled_other : (e : Ref) → IsSettled now m e → same_text q e ≡ false
    settled_other e (by_provider z row p is lt h o) = other_way e q (other_ref e z is lt)
    settled_other e (by_entity z row f is lt h o up) = other_way e q (other_ref e z is lt)

    apart_provider : (o : Origin) (p : Text) → o ≡ Provider p → same_origin (Entity q) o ≡ false
    apart_provider o p e = ap (same_origin (Entity q)) e

    apart_entity : (o : Origin) (e : Ref) → o ≡ Entity e → IsSettled now m e → same_origin (Entity q) o ≡ false
    apart_entity o e is up = ap (same_origin (Entity q)) is ∙ settled_other e up

    firm_provider : (r : Ref) (row : Row) → holding m.rows m.holders r ≡ Some row → (p : Text) → row.origin ≡ Provider p → Firm n.rows m.holders r
    firm_provider r row h p o = let a = split_holding m.rows m.holders r row h in
        firm.Firm.by_provider a.0 row p a.1 (rows_stay a.0 row a.2 (apart_provider row.origin p o)) o

    firm_entity : (r : Ref) (row : Row) → holding m.rows m.holders r ≡ Some row → (e : Ref) → row.origin ≡ Entity e → IsSettled now m e → Firm n.rows m.holders e → Firm n.rows m.holders r
    firm_entity r row h e o up f = let a = split_holding m.rows m.holders r row h in
        firm.Firm.by_entity a.0 row e a.1 (rows_stay a.0 row a.2 (apart_entity row.origin e o up)) o f

    settled_firm : (r : Ref) → IsSettled now m r → Firm n.rows m.holders r
    settled_firm r (by_provider z row p is lt h o) = firm_provider r row h p o
    settled_firm r (by_entity z row e is lt h o up) = firm_entity r row h e o up (settled_firm e up)

    -- what is firm has the same row
    row_stays : (r : Ref) (row : Row) → holding m.rows m.holders r ≡ Some row → same_origin (Entity q) row.origin ≡ false → Firm n.rows m.holders r → holding g.rows g.holders r ≡ Some row
    row_stays r row h apart f = let a = split_holding m.rows m.holders r row h in
        (firm_holding n.rows m.holders names f).1 ∙ ap (option_and_then (row_at n.rows)) a.1 ∙ rows_stay a.0 row a.2 apart

    held_from : (rows : Rows) (holders : Holders) (r : Ref) (row : Row) → holding rows holders r ≡ Some row → held holders r ≡ true
    held_from rows holders r row h = ap is_some (split_holding rows holders r row h).1

    -- and the same record, if it isn't q
    record_kept : (r : Ref) (z : Record) (row : Row) → get n.records r ≡ Some z → holding m.rows m.holders r ≡ Some row → holding g.rows g.holders r ≡ Some row → get g.records r ≡ Some z
    record_kept r z row e h k = record_stays rules (leaving s.orphans) m n its_change r z e (held_from g.rows g.holders r row k)
        (ap (option_map (λ (x : Row). work_of rules m.shelf x.offered.tree)) (h ∙ sym k))

    other_record : (r : Ref) → same_text r q ≡ false → get n.records r ≡ get m.records r
    other_record r apart = find-put_other text_total text_antisymmetric r q (finished_record s now x (rules.result w)) m.records apart

    own_record : get n.records q ≡ Some (finished_record s now x (rules.result w))
    own_record = find-put_same text_total text_antisymmetric q (finished_record s now x (rules.result w)) m.records

    own_due : (u : Outcome) → now < (finished_record s now x u).due
    own_due (Good output issues) = omega arith
    own_due (Bad issues) = omega arith

    settled_stays : (r : Ref) → IsSettled now m r → IsSettled now g r
    settled_stays r (by_provider z row p is lt h o) =
        let k = row_stays r row h (apart_provider row.origin p o) (firm_provider r row h p o) in
        by_provider z row p (record_kept r z row (other_record r (other_ref r z is lt) ∙ is) h k) lt k o
    settled_stays r (by_entity z row e is lt h o up) =
        let k = row_stays r row h (apart_entity row.origin e o up) (firm_entity r row h e o up (settled_firm e up)) in
        by_entity z row e (record_kept r z row (other_record r (other_ref r z is lt) ∙ is) h k) lt k o (settled_stays e up)

    settled_same : (r : Ref) → IsSettled now m r → get g.records r ≡ get m.records r
    settled_same r (by_provider z row p is lt h o) =
        record_kept r z row (other_record r (other_ref r z is lt) ∙ is) h (row_stays r row h (apart_provider row.origin p o) (firm_provider r row h p o)) ∙ sym is
    settled_same r (by_entity z row e is lt h o up) =
        record_kept r z row (other_record r (other_ref r z is lt) ∙ is) h (row_stays r row h (apart_entity row.origin e o up) (firm_entity r row h e o up (settled_firm e up))) ∙ sym is

    module _ (r : Ref) (ready : IsReady now m r) where
      ready_apart : same_origin (Entity q) ready.row.origin ≡ false
      ready_apart = go ready.row.origin refl
        where
          go : (o : Origin) → ready.row.origin ≡ o → same_origin (Entity q) o ≡ false
          go (Provider p) e = refl
          go (Entity f) e = settled_other f (ready.up f e)

      ready_firm : Firm n.rows m.holders r
      ready_firm = go ready.row.origin refl
        where
          go : (o : Origin) → ready.row.origin ≡ o → Firm n.rows m.holders r
          go (Provider p) e = firm_provider r ready.row ready.holds p e
          go (Entity f) e = firm_entity r ready.row ready.holds f e (ready.up f e) (settled_firm f (ready.up f e))

      ready_row : holding g.rows g.holders r ≡ Some ready.row
      ready_row = row_stays r ready.row ready.holds ready_apart ready_firm

      ready_stays : same_text r q ≡ false → IsReady now g r
      ready_stays apart = record {
        x = ready.x;
        at = record_kept r ready.x ready.row (other_record r apart ∙ ready.at) ready.holds ready_row;
        due = ready.due;
        row = ready.row;
        holds = ready_row;
        up = λ e o. settled_stays e (ready.up e o);
      }

    own_settled : IsReady now m q → IsSettled now g q
    own_settled ready = go ready.row.origin refl
      where
        k : holding g.rows g.holders q ≡ Some ready.row
        k = ready_row q ready

        rec : get g.records q ≡ Some (finished_record s now x (rules.result w))
        rec = record_kept q (finished_record s now x (rules.result w)) ready.row own_record ready.holds k

        go : (o : Origin) → ready.row.origin ≡ o → IsSettled now g q
        go (Provider p) e = by_provider (finished_record s now x (rules.result w)) ready.row p rec (own_due (rules.result w)) k e
        go (Entity f) e = by_entity (finished_record s now x (rules.result w)) ready.row f rec (own_due (rules.result w)) k e (settled_stays f (ready.up f e))

    -- the references that are held stay within the rows' and the shelf texts'
    module _ (refs : List Ref) (held_in : (r : Ref) → held m.holders r ≡ true → list_any (same_text r) refs ≡ true)
        (shelf_in : (r : Ref) → list_any (same_text r) (rules.shelf_refs m.shelf) ≡ true → list_any (same_text r) refs ≡ true) where
      was_offered : (o : Origin) (r : Ref) (f : Offered) → offered m o r ≡ Some f → list_any (same_text r) refs ≡ true
      was_offered o r f e = let v = sound.offers.shown o r f e in held_in r (sound.holders.all_held v.arrival _ v.row)

      its_offers : (u : Outcome) → rules.result w ≡ u → (r : Ref) (f : Offered) → option_and_then (λ (v : Output). get v.offers r) (finished_record s now x u).output ≡ Some f → list_any (same_text r) refs ≡ true
      its_offers (Good output issues) is r f e = shelf_in r (rules.offers_on_shelf m.shelf its_row.0.offered.tree output issues is r f e)
      its_offers (Bad issues) is r f e = was_offered (Entity q) r f (ap (λ v. option_and_then (λ (v : Output). get v.offers r) (option_and_then (λ (v : Record). v.output) v)) at ∙ e)

      is_offered : (o : Origin) (r : Ref) (f : Offered) → offered n o r ≡ Some f → list_any (same_text r) refs ≡ true
      is_offered (Provider p) r f e = was_offered (Provider p) r f e
      is_offered (Entity k) r f e = go (same_text k q) refl
        where
          outputs : Option Record → Option Offered
          outputs v = option_and_then (λ (v : Output). get v.offers r) (option_and_then (λ (v : Record). v.output) v)

          go : (b : Bool) → same_text k q ≡ b → list_any (same_text r) refs ≡ true
          go false is = was_offered (Entity k) r f (sym (ap outputs (other_record k is)) ∙ e)
          go true is = its_offers (rules.result w) refl r f
              (sym (ap outputs own_record) ∙ sym (ap (λ j. outputs (get n.records j)) (same_is text_total text_antisymmetric k q is)) ∙ e)

      held_within : (r : Ref) → held g.holders r ≡ true → list_any (same_text r) refs ≡ true
      held_within r h =
          let a = some_or_none (get g.holders r) h in
          let v = sound_finished.holders.rows_of r a.0 a.1 in
          let b = stood n.rows n.holders a.0 v.row v.at in
          subst (λ j. list_any (same_text j) refs ≡ true) v.names (is_offered v.row.origin v.row.reference v.row.offered (its_change.offers.given a.0 v.row b.0))

  -- what an event of a settle leaves
  pub record Leaves (m m' : State) : Type 0 where
    pub sound : Sound rules m'
    pub settled : (r : Ref) → IsSettled now m r → IsSettled now m' r
    pub same : (r : Ref) → IsSettled now m r → get m'.records r ≡ get m.records r
    pub within : (refs : List Ref) → ((r : Ref) → held m.holders r ≡ true → list_any (same_text r) refs ≡ true)
        → ((r : Ref) → list_any (same_text r) (rules.shelf_refs m.shelf) ≡ true → list_any (same_text r) refs ≡ true) → (r : Ref) → held m'.holders r ≡ true → list_any (same_text r) refs ≡ true
    pub shelf : m'.shelf ≡ m.shelf

  pub leaves_on : (l m n : State) → Leaves l m → Leaves m n → Leaves l n
  leaves_on l m n a b = record {
    sound = b.sound;
    settled = λ r h. b.settled r (a.settled r h);
    same = λ r h. b.same r (a.settled r h) ∙ a.same r h;
    within = λ refs h f. b.within refs (a.within refs h f) (λ r e. f r (ap (λ v. list_any (same_text r) (rules.shelf_refs v)) (sym a.shelf) ∙ e));
    shelf = b.shelf ∙ a.shelf;
  }

  pub leaves_same : (m : State) → Sound rules m → Leaves m m
  leaves_same m sound = record { sound = sound; settled = λ r h. h; same = λ r h. refl; within = λ refs a b. a; shelf = refl }

  pub take_leaves : (m : State) (sound : Sound rules m) (q : Ref) (x : Record) (at : get m.records q ≡ Some x) (due : x.due ≤ now) → Leaves m (t m sound q x at due)
  take_leaves m sound q x at due = record {
    sound = sound_taken m sound q x at due;
    settled = taken_settled m sound q x at due;
    same = same;
    within = λ refs a b. a;
    shelf = refl;
  }
    where
      same : (r : Ref) → IsSettled now m r → get (t m sound q x at due).records r ≡ get m.records r
      same r (by_provider z row p is lt h o) = taken_same m sound q x at due r z is lt
      same r (by_entity z row e is lt h o up) = taken_same m sound q x at due r z is lt

  pub finish_leaves : (m : State) (sound : Sound rules m) (q : Ref) (x : Record) (at : get m.records q ≡ Some x) (due : x.due ≤ now) (lease : Lease) (l : x.lease ≡ Some lease) → Leaves m (g m sound q x at due lease l)
  finish_leaves m sound q x at due lease l = record {
    sound = sound_finished m sound q x at due lease l;
    settled = settled_stays m sound q x at due lease l;
    same = settled_same m sound q x at due lease l;
    within = held_within m sound q x at due lease l;
    shelf = refl;
  }

  -- what a turn of q leaves
  record Turned (m : State) (q : Ref) (m' : State) : Type 0 where
    leaves : Leaves m m'
    ready : (r : Ref) → same_text r q ≡ false → IsReady now m r → IsReady now m' r
    own : IsReady now m q → IsSettled now m' q

  turn_leaves : (m : State) → Sound rules m → (q : Ref) → Turned m q (turn rules s now q m)
  turn_leaves m sound q = go (get m.records q) refl
    where
      idle : is_due now (get m.records q) ≡ false → Turned m q (turn rules s now q m)
      idle idles = subst (Turned m q) (sym (ap (λ b. cond b (take_and_finish rules s now q m) m) idles))
          (record {
            leaves = leaves_same m sound;
            ready = λ r _ h. h;
            own = λ ready. absurd (true≢false (sym (due_is ready.x ready.due) ∙ sym (ap (is_due now) ready.at) ∙ idles));
          })

      busy : (x : Record) → get m.records q ≡ Some x → x.due ≤ now → Turned m q (turn rules s now q m)
      busy x at due = subst (Turned m q) (sym turned)
          (record {
            leaves = leaves_on m taken done (take_leaves m sound q x at due) (finish_leaves taken sound' q z at' due (new_lease m sound q x at due) refl);
            ready = λ r apart h. ready_stays taken sound' q z at' due (new_lease m sound q x at due) refl r (taken_ready m sound q x at due r h) apart;
            own = λ h. own_settled taken sound' q z at' due (new_lease m sound q x at due) refl (taken_ready m sound q x at due q h);
          })
        where
          taken : State
          taken = t m sound q x at due

          sound' : Sound rules taken
          sound' = sound_taken m sound q x at due

          z : Record
          z = y m sound q x at due

          at' : get taken.records q ≡ Some z
          at' = at_taken m sound q x at due

          done : State
          done = g taken sound' q z at' due (new_lease m sound q x at due) refl

          turned : turn rules s now q m ≡ done
          turned =
              ap (λ b. cond b (take_and_finish rules s now q m) m) (ap (is_due now) at ∙ due_is x due)
              ∙ ap (λ taken. finish_order rules s now (order rules taken q) taken) (taken_is m sound q x at due)
              ∙ ap (λ v. finish_order rules s now v taken) (its_order-is taken sound' q z at' due (new_lease m sound q x at due) refl)
              ∙ finished_is taken sound' q z at' due (new_lease m sound q x at due) refl

      go : (v : Option Record) → get m.records q ≡ v → Turned m q (turn rules s now q m)
      go None e = idle (ap (is_due now) e)
      go (Some x) e = test (is_due now (Some x)) refl
        where
          le : is_due now (Some x) ≡ true → x.due ≤ now
          le h = grind (arith, nat_tests)

          test : (b : Bool) → is_due now (Some x) ≡ b → Turned m q (turn rules s now q m)
          test true h = busy x e (le h)
          test false h = idle (ap (is_due now) e ∙ h)

  pub turns_leave : (rs : List Ref) (m : State) → Sound rules m → Leaves m (turns rules s now rs m) × ((q : Ref) → IsReady now m q → list_any (same_text q) rs ≡ true → IsSettled now (turns rules s now rs m) q)
  turns_leave [] m sound = (leaves_same m sound, λ q ready e. absurd (true≢false (sym e)))
  turns_leave (k ∷ rs) m sound =
      let a = turn_leaves m sound k in
      let b = turns_leave rs (turn rules s now k m) a.leaves.sound in (
        leaves_on m (turn rules s now k m) _ a.leaves b.0,
        λ q ready e. go a b q ready (same_text q k) refl e,
      )
    where
      go : Turned m k (turn rules s now k m)
          → Leaves (turn rules s now k m) (turns rules s now rs (turn rules s now k m))
          × ((q : Ref) → IsReady now (turn rules s now k m) q → list_any (same_text q) rs ≡ true → IsSettled now (turns rules s now rs (turn rules s now k m)) q)
          → (q : Ref) → IsReady now m q → (c : Bool) → same_text q k ≡ c → (c || list_any (same_text q) rs) ≡ true → IsSettled now (turns rules s now rs (turn rules s now k m)) q
      go a b q ready true is e =
          let same : q ≡ k = same_is text_total text_antisymmetric q k is in
          subst (IsSettled now (turns rules s now rs (turn rules s now k m))) (sym same) (b.0.settled k (a.own (subst (IsReady now m) same ready)))
      go a b q ready false is e = b.1 q (a.ready q is ready) e

  module _ (m : State) (sound : Sound rules m) where
    record_of : (r : Ref) → held m.holders r ≡ true → (x : Record) × (get m.records r ≡ Some x)
    record_of r h = some_or_none (get m.records r) (sound.records r ∙ h)

    -- a reference is settled, or some reference is ready
    abbrev Found : Ref → Type 0
    Found r = IsSettled now m r ⊎ ((q : Ref) × IsReady now m q)

    due_or_not : (d : ℕ) → (d ≤ now) ⊎ (now < d)
    due_or_not d = grind arith

    climb : (k : ℕ) (r : Ref) → climbs m.rows m.holders k r ≡ true → Found r
    climb zero r h = absurd (true≢false (sym h))
    climb (suc k) r h = go (holding m.rows m.holders r) refl h (climb k)
      where
        at_row : (row : Row) → holding m.rows m.holders r ≡ Some row → (o : Origin) → row.origin ≡ o → climbs_origin (climbs m.rows m.holders k) o ≡ true
            → ((e : Ref) → climbs m.rows m.holders k e ≡ true → Found e) → Found r
        at_row row e o is h above = by_record o is h (record_of r (ap is_some (split_holding m.rows m.holders r row e).1))
          where
            by_record : (o : Origin) → row.origin ≡ o → climbs_origin (climbs m.rows m.holders k) o ≡ true → (x : Record) × (get m.records r ≡ Some x) → Found r
            by_record (Provider p) is h x = ⊎_elim
                (λ due. inr (r, record { x = x.0; at = x.1; due = due; row = row; holds = e; up = λ f o. absurd (provider_not f (sym is ∙ o)) }))
                (λ lt. inl (by_provider x.0 row p x.1 lt e is)) (due_or_not x.0.due)
              where
                provider_not : (f : Ref) → Provider p ≡ Entity f → ⊥
                provider_not f e = grind arith
            by_record (Entity f) is h x = ⊎_elim
                (λ settled. ⊎_elim
                (λ due. inr (r, record { x = x.0; at = x.1; due = due; row = row; holds = e; up = λ j o. subst (IsSettled now m) (entity_same f j (sym is ∙ o)) settled }))
                (λ lt. inl (by_entity x.0 row f x.1 lt e is settled)) (due_or_not x.0.due))
                (λ ready. inr ready) (above f h)
              where
                entity_same : (f j : Ref) → Entity f ≡ Entity j → f ≡ j
                entity_same f j e = cc

        go : (v : Option Row) → holding m.rows m.holders r ≡ v → climbs_row (climbs m.rows m.holders k) v ≡ true → ((e : Ref) → climbs m.rows m.holders k e ≡ true → Found e) → Found r
        go None e h above = absurd (true≢false (sym h))
        go (Some row) e h above = at_row row e row.origin refl h above

    pub settled_not_due : (r : Ref) → IsSettled now m r → (x : Record) → get m.records r ≡ Some x → now < x.due
    settled_not_due r (by_provider z row p is lt h o) x e = let d : z.due ≡ x.due = ap (λ v. (unwrap_or v z).due) (sym is ∙ e) in omega arith
    settled_not_due r (by_entity z row f is lt h o up) x e = let d : z.due ≡ x.due = ap (λ v. (unwrap_or v z).due) (sym is ∙ e) in omega arith

    -- where a record is due, some reference is ready
    pub some_ready : (r : Ref) (x : Record) → get m.records r ≡ Some x → x.due ≤ now → (q : Ref) × IsReady now m q
    some_ready r x e due = ⊎_elim (λ settled. let lt = settled_not_due r settled x e in absurd (omega arith)) (λ ready. ready)
        (climb (length m.holders) r (sound.holders.all_rooted r (sym (sound.records r) ∙ ap is_some e)))

  -- whether some record is due
  pub due_cases : (m : State) → (due_refs now m ≡ []) ⊎ ((r : Ref) × (x : Record) × (get m.records r ≡ Some x) × (x.due ≤ now))
  due_cases m = go (due_refs now m) refl
    where
      due_at : (r : Ref) (v : Option Record) → get m.records r ≡ v → is_due now v ≡ true → (r : Ref) × (x : Record) × (get m.records r ≡ Some x) × (x.due ≤ now)
      due_at r None e h = absurd (true≢false (sym h))
      due_at r (Some x) e h = (r, x, e, grind (arith, nat_tests))

      go : (rs : List Ref) → due_refs now m ≡ rs → (rs ≡ []) ⊎ ((r : Ref) × (x : Record) × (get m.records r ≡ Some x) × (x.due ≤ now))
      go [] e = inl refl
      go (r ∷ rs) e = inr (due_at r (get m.records r) refl (filter_head (λ r. is_due now (get m.records r)) (keys m.records) r rs e))

  idle_rounds : (k : ℕ) (m : State) → due_refs now m ≡ [] → rounds rules s now k m ≡ m
  idle_rounds zero m e = refl
  idle_rounds (suc k) m e = ap (rounds rules s now k) (ap (λ rs. turns rules s now rs m) e) ∙ idle_rounds k m e

  pub ready_in_round : (m : State) (q : Ref) → IsReady now m q → list_any (same_text q) (due_refs now m) ≡ true
  ready_in_round m q ready = any_filter (λ r. is_due now (get m.records r)) (keys m.records) q (found_key text_total text_antisymmetric q m.records ready.x ready.at) (ap (is_due now) ready.at ∙ is ready.x ready.due)
    where
      is : (x : Record) → x.due ≤ now → is_due now (Some x) ≡ true
      is x due = grind (arith, nat_tests)

  module _ (refs : List Ref) where
    -- some references that are known to be settled
    pub record IsKnown (m : State) (known : Ref → Bool) : Type 0 where
      pub sound : Sound rules m
      pub held_in : (r : Ref) → held m.holders r ≡ true → list_any (same_text r) refs ≡ true
      pub shelf_in : (r : Ref) → list_any (same_text r) (rules.shelf_refs m.shelf) ≡ true → list_any (same_text r) refs ≡ true
      pub settled : (r : Ref) → known r ≡ true → IsSettled now m r

    abbrev left : (Ref → Bool) → ℕ
    left known = count (λ r. not (known r)) refs

    abbrev more : (Ref → Bool) → Ref → Ref → Bool
    more known q r = known r || same_text r q

    module _ (m : State) (known : Ref → Bool) (k : IsKnown m known) (q : Ref) (ready : IsReady now m q) where
      unknown_q : known q ≡ false
      unknown_q = go (known q) refl
        where
          go : (b : Bool) → known q ≡ b → b ≡ false
          go true e = let lt = settled_not_due m k.sound q (k.settled q e) ready.x ready.at in let le = ready.due in absurd (omega arith)
          go false e = refl

      q_in : list_any (same_text q) refs ≡ true
      q_in = k.held_in q (ap is_some (split_holding m.rows m.holders q ready.row ready.holds).1)

      less : left (more known q) < left known
      less =
          let f = first_of_any (same_text q) refs q_in in
          let same : q ≡ f.0 = same_is text_total text_antisymmetric q f.0 (first_some text_total text_antisymmetric (same_text q) refs f.0 f.1) in
          count-less (λ r. not (known r)) (λ r. not (more known q r)) fewer (same_text q) f.0 refs f.1
          (ap (λ r. not (known r)) (sym same) ∙ ap not unknown_q)
          (ap (λ r. not (more known q r)) (sym same) ∙ ap (λ b. not (b || same_text q q)) unknown_q ∙ ap not (same_self text_total text_antisymmetric q))
        where
          fewer : (r : Ref) → not (known r || same_text r q) ≡ true → not (known r) ≡ true
          fewer r h = go (known r) h
            where
              go : (b : Bool) → not (b || same_text r q) ≡ true → not b ≡ true
              go true h = h
              go false h = refl

      next_known : IsKnown (round rules s now m) (more known q)
      next_known =
          let t = turns_leave (due_refs now m) m k.sound in
          record {
            sound = t.0.sound;
            held_in = t.0.within refs k.held_in k.shelf_in;
            shelf_in = λ r h. k.shelf_in r (ap (λ v. list_any (same_text r) (rules.shelf_refs v)) (sym t.0.shelf) ∙ h);
            settled = λ r h. go t r (known r) refl (same_text r q) refl h;
          }
        where
          go : Leaves m (round rules s now m) × ((q : Ref) → IsReady now m q → list_any (same_text q) (due_refs now m) ≡ true → IsSettled now (round rules s now m) q)
              → (r : Ref) (b : Bool) → known r ≡ b → (c : Bool) → same_text r q ≡ c → (b || c) ≡ true → IsSettled now (round rules s now m) r
          go t r true e c is h = t.0.settled r (k.settled r e)
          go t r false e true is h = subst (IsSettled now (round rules s now m)) (sym (same_is text_total text_antisymmetric r q is)) (t.1 q ready (ready_in_round m q ready))
          go t r false e false is h = absurd (true≢false (sym h))

    -- after as many rounds as there are references left none is due
    rounds_end : (n : ℕ) (m : State) (known : Ref → Bool) → IsKnown m known → left known ≤ n → due_refs now (rounds rules s now n m) ≡ []
    rounds_end zero m known k h = go (due_cases m)
      where
        go : (due_refs now m ≡ []) ⊎ ((r : Ref) × (x : Record) × (get m.records r ≡ Some x) × (x.due ≤ now)) → due_refs now m ≡ []
        go (inl e) = e
        go (inr d) = let q = some_ready m k.sound d.0 d.1 d.2 d.3 in let l = less m known k q.0 q.1 in absurd (omega arith)
    rounds_end (suc n) m known k h = go (due_cases m) (λ q ready lt. rounds_end n (round rules s now m) (more known q) (next_known m known k q ready) lt)
      where
        go : (due_refs now m ≡ []) ⊎ ((r : Ref) × (x : Record) × (get m.records r ≡ Some x) × (x.due ≤ now))
            → ((q : Ref) → IsReady now m q → left (more known q) ≤ n → due_refs now (rounds rules s now n (round rules s now m)) ≡ []) → due_refs now (rounds rules s now n (round rules s now m)) ≡ []
        go (inl e) next = ap (due_refs now) (idle_rounds (suc n) m e) ∙ e
        go (inr d) next = let q = some_ready m k.sound d.0 d.1 d.2 d.3 in let l = less m known k q.0 q.1 in next q.0 q.1 (omega arith)

    rounds_sound : (n : ℕ) (m : State) → Sound rules m → Sound rules (rounds rules s now n m)
    rounds_sound zero m h = h
    rounds_sound (suc n) m h = rounds_sound n (round rules s now m) (turns_leave (due_refs now m) m h).0.sound

  -- a list without repeats has the same members
  distinct_in : (ks : List Ref) (r : Ref) → list_any (same_text r) ks ≡ true → list_any (same_text r) (keys (tabulate text_cmp ks (λ r. Some (tt {0})))) ≡ true
  distinct_in ks r h = found_key text_total text_antisymmetric r (tabulate text_cmp ks (λ r. Some (tt {0}))) (tt {0})
      (find-tabulate text_total text_antisymmetric r ks (λ r. Some (tt {0})) ∙ ap (λ b. cond b (Some (tt {0})) None) h)

  row_reference_in : (rows : Rows) (a : ℕ) (row : Row) → row_at rows a ≡ Some row → list_any (same_text row.reference) (map (λ (e : ℕ × Row). e.1.reference) rows) ≡ true
  row_reference_in [] a row h = absurd (true≢false (sym (ap is_some h)))
  row_reference_in (e ∷ rows) a row h = go (eq_by_cmp nat_cmp a e.0) h (row_reference_in rows a row)
    where
      go : (b : Bool) → cond b (Some e.1) (row_at rows a) ≡ Some row → (row_at rows a ≡ Some row → list_any (same_text row.reference) (map (λ (e : ℕ × Row). e.1.reference) rows) ≡ true)
          → (same_text row.reference e.1.reference || list_any (same_text row.reference) (map (λ (e : ℕ × Row). e.1.reference) rows)) ≡ true
      go true h ih = ap (λ b. b || list_any (same_text row.reference) (map (λ (e : ℕ × Row). e.1.reference) rows))
          (ap (λ v. same_text (unwrap_or v e.1).reference e.1.reference) (sym h) ∙ same_self text_total text_antisymmetric e.1.reference)
      go false h ih = or_true (same_text row.reference e.1.reference) _ (ih h)

  module _ (m : State) (sound : Sound rules m) where
    pub held_in_width : (r : Ref) → held m.holders r ≡ true → list_any (same_text r) (width_refs rules m) ≡ true
    held_in_width r h =
        let a = some_or_none (get m.holders r) h in
        let w = sound.holders.rows_of r a.0 a.1 in
        distinct_in (map (λ (e : ℕ × Row). e.1.reference) m.rows ++ rules.shelf_refs m.shelf) r
        (list_any-append (same_text r) (map (λ (e : ℕ × Row). e.1.reference) m.rows) (rules.shelf_refs m.shelf)
        (inl (subst (λ q. list_any (same_text q) (map (λ (e : ℕ × Row). e.1.reference) m.rows) ≡ true) w.names (row_reference_in m.rows a.0 w.row w.at))))

    pub shelf_in_width : (r : Ref) → list_any (same_text r) (rules.shelf_refs m.shelf) ≡ true → list_any (same_text r) (width_refs rules m) ≡ true
    shelf_in_width r h = distinct_in (map (λ (e : ℕ × Row). e.1.reference) m.rows ++ rules.shelf_refs m.shelf) r
        (list_any-append (same_text r) (map (λ (e : ℕ × Row). e.1.reference) m.rows) (rules.shelf_refs m.shelf) (inr h))

    -- no record is due after as many rounds as the state is wide
    pub rounds_settle : due_refs now (rounds rules s now (width rules m) m) ≡ []
    rounds_settle = rounds_end (width_refs rules m) (width rules m) m (λ r. false)
        (record { sound = sound; held_in = held_in_width; shelf_in = shelf_in_width; settled = λ r h. absurd (true≢false (sym h)) })
        (count-le (λ r. not false) (width_refs rules m))

  -- what a stitch of r leaves
  record Placed (m : State) (r : Ref) (m' : State) : Type 0 where
    sound : Sound rules m'
    own : get m'.marks r ≡ None
    none_stays : (q : Ref) → get m.marks q ≡ None → get m'.marks q ≡ None
    records : m'.records ≡ m.records

  stitch_leaves : (m : State) → Sound rules m → (r : Ref) → Placed m r (stitch rules s m r)
  stitch_leaves m sound r = go (get m.marks r) refl
    where
      nothing : get m.marks r ≡ None → Placed m r (stitch rules s m r)
      nothing e = subst (Placed m r) (sym (ap (λ v. stitch_with rules s (stitch_order rules m r v (parts rules m r)) m) e))
          (record { sound = sound; own = e; none_stays = λ q h. h; records = refl })

      placed : (ticket : ℕ) → get m.marks r ≡ Some ticket → (p : Parts) → parts rules m r ≡ Some p → Placed m r (stitch rules s m r)
      placed ticket e p is = subst (Placed m r)
          (sym (ap (λ v. stitch_with rules s (stitch_order rules m r v (parts rules m r)) m) e ∙ ap (λ v. stitch_with rules s (stitch_order rules m r (Some ticket) v) m) is ∙ counted))
          (record {
            sound = subst (Sound rules) counted (stitch_kept rules s m sound its_order);
            own = get-without_key rules s r m.marks r ∙ ap (λ b. cond b None (get m.marks r)) (same_self text_total text_antisymmetric r);
            none_stays = λ q h. get-without_key rules s r m.marks q ∙ ap (cond (same_text r q) None) h ∙ cond_none (same_text r q);
            records = refl;
          })
        where
          its_order : StitchOrder
          its_order = record { reference = r; ticket = ticket; parts = p }

          new : State
          new = record m { documents = put text_cmp r (rules.doc p) m.documents; marks = without_key r m.marks }

          same_ticket : (t : ℕ) → is_ticket t (Some t) ≡ true
          same_ticket t = grind (arith, nat_tests)

          both : {a b : Bool} → a ≡ true → b ≡ true → (a && b) ≡ true
          both {a} {b} p q = ap (λ c. c && b) p ∙ q

          counted : put_stitch rules its_order m ≡ new
          counted = ap (λ b. cond b new m) (both (ap (is_ticket ticket) e ∙ same_ticket ticket) (ap (same_option rules.same_parts (Some p)) is ∙ rules.same_parts-self p))

      go : (v : Option ℕ) → get m.marks r ≡ v → Placed m r (stitch rules s m r)
      go None e = nothing e
      go (Some ticket) e = by_parts (parts rules m r) refl
        where
          by_parts : (p : Option Parts) → parts rules m r ≡ p → Placed m r (stitch rules s m r)
          by_parts None is = nothing (subst (λ v. IsStitched rules v (get m.marks r) (get m.documents r)) is (sound.stitched r)).0
          by_parts (Some p) is = placed ticket e p is

  -- what stitches leave
  record AllPlaced (rs : List Ref) (m m' : State) : Type 0 where
    sound : Sound rules m'
    own : (r : Ref) → list_any (same_text r) rs ≡ true → get m'.marks r ≡ None
    none_stays : (q : Ref) → get m.marks q ≡ None → get m'.marks q ≡ None
    records : m'.records ≡ m.records

  stitches_leave : (rs : List Ref) (m : State) → Sound rules m → AllPlaced rs m (stitches rules s rs m)
  stitches_leave [] m sound = record { sound = sound; own = λ r h. absurd (true≢false (sym h)); none_stays = λ q h. h; records = refl }
  stitches_leave (k ∷ rs) m sound =
      let a = stitch_leaves m sound k in
      let b = stitches_leave rs (stitch rules s m k) a.sound in
      record { sound = b.sound; own = λ r h. go a b r (same_text r k) refl h; none_stays = λ q h. b.none_stays q (a.none_stays q h); records = b.records ∙ a.records }
    where
      go : Placed m k (stitch rules s m k) → AllPlaced rs (stitch rules s m k) (stitches rules s rs (stitch rules s m k)) → (r : Ref) (c : Bool) → same_text r k ≡ c → (c || list_any (same_text r) rs) ≡ true
          → get (stitches rules s rs (stitch rules s m k)).marks r ≡ None
      go a b r true is h = b.none_stays r (ap (get (stitch rules s m k).marks) (same_is text_total text_antisymmetric r k is) ∙ a.own)
      go a b r false is h = b.own r h

  module _ (m : State) (sound : Sound rules m) where
    abbrev done : State
    done = rounds rules s now (width rules m) m

    settled_marks : AllPlaced (by_ticket done.marks) done (settle rules s now (width rules m) m)
    settled_marks = stitches_leave (by_ticket done.marks) done (rounds_sound [] (width rules m) m sound)

    -- a settle of as many rounds as the state is wide leaves the catalogue quiet
    pub settle_quiet : Quiet (settle rules s now (width rules m) m) now
    settle_quiet = record { none_due = λ r x e. not_due r x (ap (λ records. get records r) (sym settled_marks.records) ∙ e); none_marked = none_marked }
      where
        not_due : (r : Ref) (x : Record) → get done.records r ≡ Some x → now < x.due
        not_due r x e = ⊎_elim due (λ lt. lt) (due_or_not m sound x.due)
          where
            is : (x : Record) → x.due ≤ now → is_due now (Some x) ≡ true
            is x due = grind (arith, nat_tests)

            due : x.due ≤ now → now < x.due
            due d = absurd (true≢false (sym (any_filter (λ r. is_due now (get done.records r)) (keys done.records) r (found_key text_total text_antisymmetric r done.records x e) (ap (is_due now) e ∙ is x d))
                ∙ ap (list_any (same_text r)) (rounds_settle m sound)))

        none_marked : (r : Ref) → get (settle rules s now (width rules m) m).marks r ≡ None
        none_marked r = go (get done.marks r) refl
          where
            go : (v : Option ℕ) → get done.marks r ≡ v → get (settle rules s now (width rules m) m).marks r ≡ None
            go None e = settled_marks.none_stays r e
            go (Some t) e = settled_marks.own r (any_in_order (same_text r) done.marks ∙ found_key text_total text_antisymmetric r done.marks t e)

  length-filter-le : (p : Ref → Bool) (ks : List Ref) → length (filter p ks) ≤ length ks
  length-filter-le p [] = omega arith
  length-filter-le p (k ∷ ks) = go (p k) (length-filter-le p ks)
    where
      go : (b : Bool) → length (filter p ks) ≤ length ks → length (cond b (k ∷ filter p ks) (filter p ks)) ≤ suc (length ks)
      go true h = omega arith
      go false h = omega arith

  module _ (refs : List Ref) where
    pub due_few : (m : State) (known : Ref → Bool) → IsKnown refs m known → length (due_refs now m) ≤ length refs
    due_few m known k =
        let a = length-filter-le (λ r. is_due now (get m.records r)) (keys m.records) in
        let b = entries_within refs m.records k.sound.in_order (λ r h. k.held_in r (sym (k.sound.records r) ∙ is_some-find text_cmp r m.records ∙ h)) in
        let c : length (keys m.records) ≡ length m.records = length-map m.records (λ (e : Ref × Record). e.0) in
        omega arith

    pub none_known : (m m' : State) → Leaves m m' → IsKnown refs m (λ r. false) → IsKnown refs m' (λ r. false)
    none_known m m' t k = record {
      sound = t.sound;
      held_in = t.within refs k.held_in k.shelf_in;
      shelf_in = λ r h. k.shelf_in r (ap (λ v. list_any (same_text r) (rules.shelf_refs v)) (sym t.shelf) ∙ h);
      settled = λ r h. absurd (true≢false (sym h));
    }
