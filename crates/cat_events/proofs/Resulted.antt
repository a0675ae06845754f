-- What a result comes to.
use Rattle.std.proofs.Common.{T, ◌≡◌, ℕ, ◌+◌, ◌≤◌, ◌^◌, Bool, true, false, cond, ◌&&◌, List, [], ◌∷◌, refl, sym, ap, ◌∙◌, nat_cmp, nat_lt, unwrap_or, arith, true≢false}
use Rattle.std.specs.declared.option.Option.{Option}
use Rattle.std.specs.declared.option.Option.TheVariants.{None, Some}
use Rattle.std.specs.Option.{option_and_then}
use Rattle.std.specs.Cmp.{nat_cmp_total}
use Rattle.std.specs.FinMap.{nat_cmp-IsAntisymmetric}
use Rattle.std.specs.FinMap.Entries.{is_sorted, same_entries}
use Rattle.std.proofs.lemmas.Bool.Decides.{nat_tests}
use Rattle.cat_tree.proofs.Equality.{is_same-true}
use Rattle.cat_collections.specs.Table.{Map, get, keys, over, put, same_text}
use Rattle.cat_types.specs.declared.input.Offered.{Offered}
use Rattle.cat_types.specs.declared.work.Outcome.{Outcome}
use Rattle.cat_types.specs.declared.work.Outcome.TheVariants.{Good, Bad}
use Rattle.cat_types.specs.declared.work.Output.{Output}
use Rattle.cat_collections.specs.Order.{in_order}
use Rattle.cat_collections.proofs.Tables.{text_total, text_antisymmetric, and_first, and_second, find-over, is_sorted-tabulate, same_is, same_self}
use Rattle.cat_model.specs.declared.types.Fault.TheVariants.{Spent}
use Rattle.cat_model.specs.declared.types.Counter.{Counter}
use Rattle.cat_model.specs.declared.types.Counter.TheVariants.{Arrival, Number, Token, Ticket}
use Rattle.cat_model.specs.declared.types.Numbered.{Numbered}
use Rattle.cat_model.specs.declared.types.Order.{Order}
use Rattle.cat_model.specs.declared.types.Origin.{Origin}
use Rattle.cat_model.specs.declared.types.Origin.TheVariants.{Entity}
use Rattle.cat_model.specs.declared.types.Record.{Record}
use Rattle.cat_model.specs.declared.types.Row.{Row}
use Rattle.cat_model.specs.declared.types.Settings.{Settings}
use Rattle.cat_model.specs.declared.types.State.{State}
use Rattle.cat_model.specs.Catalogue.{Ref, Rows, Rules, frame, row_at}
use Rattle.cat_model.specs.Sound.{AreOffers, AreSmall, offered}
use Rattle.cat_model.specs.Step.{add_offer, add_offers, fault_where, finish, finished_record, finished_rows, finished_state, has_row, leaving, is_offer, offered_again, or_else, row_after, same_origin, spent, with_record}
use Rattle.cat_model.specs.Step.Event.{Finish}
use Rattle.cat_model.proofs.Replaced.{same_origin-is}
use Rattle.cat_events.specs.Again.{is_present_order, kept_offers, offers_again, output_offers, same_offer, same_offers}
use Rattle.cat_events.specs.Stepped.{come_to, stepped}
use Rattle.cat_events.proofs.Shown.{row_shows}
use Rattle.cat_events.specs.declared.stepped.Stepped.TheVariants.{Acts}

both_true : (a b : Bool) → a ≡ true → b ≡ true → (a && b) ≡ true
both_true true b p q = q
both_true false b p q = p

-- ---- results that offer what was offered

-- what is offered again as it is, is the offer
same_offer-is : (v : Option Offered) (y : Offered) → same_offer v y ≡ true → v ≡ Some y
same_offer-is None y h = absurd (true≢false (sym h))
same_offer-is (Some x) y h =
    let key : x.key ≡ y.key = same_is text_total text_antisymmetric x.key y.key (and_first (same_text x.key y.key) _ h) in
    let tree : x.tree ≡ y.tree = is_same-true x.tree y.tree (and_second (same_text x.key y.key) _ h) in
    λ i. Some (record { key = key i; tree = tree i })

-- offers that are equal one by one are the same offers
same_offers-is : (ds es : Map Offered) → same_offers ds es ≡ true → ds ≡ es
same_offers-is [] [] h = refl
same_offers-is [] (e ∷ es) h = absurd (true≢false (sym h))
same_offers-is (d ∷ ds) [] h = absurd (true≢false (sym h))
same_offers-is (d ∷ ds) (e ∷ es) h =
    let here = and_first (same_text d.0 e.0 && same_offer (Some d.1) e.1) (same_offers ds es) h in
    let key : d.0 ≡ e.0 = same_is text_total text_antisymmetric d.0 e.0 (and_first (same_text d.0 e.0) _ here) in
    let value : d.1 ≡ e.1 = ap (λ v. unwrap_or v d.1) (same_offer-is (Some d.1) e.1 (and_second (same_text d.0 e.0) _ here)) in
    let rest = same_offers-is ds es (and_second (same_text d.0 e.0 && same_offer (Some d.1) e.1) (same_offers ds es) h) in
    λ i. (key i, value i) ∷ rest i

-- what an entity offers is what its record's kept output offers
offered_is : (m : State) (r q : Ref) → offered m (Entity r) q ≡ get (kept_offers (get m.records r)) q
offered_is m r q = go (get m.records r)
  where
    out : (o : Option Output) → option_and_then (λ (x : Output). get x.offers q) o ≡ get (output_offers o) q
    out None = refl
    out (Some o) = refl

    go : (v : Option Record) → option_and_then (λ (x : Output). get x.offers q) (option_and_then (λ (x : Record). x.output) v) ≡ get (kept_offers v) q
    go None = refl
    go (Some x) = out x.output

-- the rows with what is offered now are the rows as they were, where all stay
over_stands : (o : Origin) (offers : Ref → Option Offered) (rows : Rows) → T (is_sorted nat_cmp rows) → ((a : ℕ) (row : Row) → row_at rows a ≡ Some row → row_after o offers row ≡ Some row)
    → over nat_cmp rows (λ a row. row_after o offers row) ≡ rows
over_stands o offers rows in_order h =
    same_entries nat_cmp nat_cmp_total nat_cmp-IsAntisymmetric (over nat_cmp rows (λ a row. row_after o offers row)) rows
    (is_sorted-tabulate nat_cmp_total nat_cmp-IsAntisymmetric (keys rows) (λ a. option_and_then (row_after o offers) (row_at rows a))) in_order
    (λ a. find-over nat_cmp_total nat_cmp-IsAntisymmetric a rows (λ a row. row_after o offers row) ∙ at a (row_at rows a) refl)
  where
    at : (a : ℕ) (v : Option Row) → row_at rows a ≡ v → option_and_then (row_after o offers) v ≡ v
    at a None e = refl
    at a (Some row) e = h a row e

-- an offer that has a row gets none
add_stands : (o : Origin) (offers : Ref → Option Offered) (order : List Ref) (x : Numbered) → ((r : Ref) (y : Offered) → offers r ≡ Some y → has_row x.rows o r ≡ true) → add_offers o offers order x ≡ x
add_stands o offers [] x h = refl
add_stands o offers (r ∷ rs) x h = ap (add_offers o offers rs) (one (offers r) refl) ∙ add_stands o offers rs x h
  where
    one : (v : Option Offered) → offers r ≡ v → add_offer o r v x ≡ x
    one None e = refl
    one (Some y) e = ap (λ b. cond b x (record { rows = put nat_cmp x.next (record { origin = o; reference = r; offered = y }) x.rows; next = x.next + 1 })) (h r y e)

-- where a reference offers just what its record does, its rows stay as they are, and each offer has its row
module _ (m : State) (r : Ref) (offers : Map Offered) (are : AreOffers m) (same : kept_offers (get m.records r) ≡ offers) where
  offers_are : (q : Ref) → offered m (Entity r) q ≡ get offers q
  offers_are q = offered_is m r q ∙ ap (λ es. get es q) same

  each_stays : (a : ℕ) (row : Row) → row_at m.rows a ≡ Some row → row_after (Entity r) (get offers) row ≡ Some row
  each_stays a row e = go (same_origin (Entity r) row.origin) refl
    where
      again : get offers row.reference ≡ Some row.offered → offered_again row (get offers row.reference) ≡ Some row
      again f = ap (offered_again row) f ∙ ap (λ b. cond b (Some row) None) (same_self text_total text_antisymmetric row.offered.key)

      go : (b : Bool) → same_origin (Entity r) row.origin ≡ b → cond b (offered_again row (get offers row.reference)) (Some row) ≡ Some row
      go true is = again (sym (offers_are row.reference) ∙ (ap (λ o. offered m o row.reference) (same_origin-is (Entity r) row.origin is) ∙ are.given a row e))
      go false is = refl

  each_has : (q : Ref) (y : Offered) → get offers q ≡ Some y → has_row m.rows (Entity r) q ≡ true
  each_has q y e =
      let found = are.shown (Entity r) q y (offers_are q ∙ e) in
      row_shows m.rows (Entity r) q found.arrival (ap (is_offer (Entity r) q) found.row ∙ both_true _ _ (same_self text_total text_antisymmetric r) (same_self text_total text_antisymmetric q))

-- a result that offers what was offered leaves the rows and their next arrival, whatever its record becomes
pub rows_stand : (r : Ref) (outcome : Outcome) (m : State) (records : Map Record) → AreOffers m → T (is_sorted nat_cmp m.rows) → offers_again (get m.records r) outcome ≡ true
    → finished_rows r outcome (record m { records = records }) ≡ record { rows = m.rows; next = m.arrival }
rows_stand r (Bad issues) m records are in_order h = refl
rows_stand r (Good output issues) m records are in_order h =
    let same = same_offers-is (kept_offers (get m.records r)) output.offers h in
    ap (λ rows. add_offers (Entity r) (get output.offers) (keys output.offers) (record { rows = rows; next = m.arrival })) (over_stands (Entity r) (get output.offers) m.rows in_order (each_stays m r output.offers are same))
    ∙ add_stands (Entity r) (get output.offers) (keys output.offers) (record { rows = m.rows; next = m.arrival }) (each_has m r output.offers are same)

-- then the record alone is another one
pub finished_alone : (s : Settings) (r : Ref) (now : ℕ) (x : Record) (outcome : Outcome) (m : State) → AreOffers m → T (is_sorted nat_cmp m.rows) → offers_again (get m.records r) outcome ≡ true
    → finished_state s r now x outcome m ≡ with_record r (finished_record s now x outcome) m
finished_alone s r now x outcome m are in_order h =
    let n = with_record r (finished_record s now x outcome) m in
    ap (λ (z : Numbered). record n { rows = z.rows; arrival = z.next }) (rows_stand r outcome m n.records are in_order h)

-- ---- what a finish comes to

-- a counter that is at most its bound isn't spent
unspent_at : (k : ℕ) → k ≤ 2 ^ 59 → (c : Counter) → fault_where (nat_lt (2 ^ 59) k) (Spent c) ≡ None
unspent_at k h c = ap (λ b. fault_where b (Spent c)) (below k h)
  where
    below : (k : ℕ) → k ≤ 2 ^ 59 → nat_lt (2 ^ 59) k ≡ false
    below k h = grind (arith, nat_tests)

-- no counter has passed its bound
unspent : (n : State) → AreSmall n → spent n ≡ None
unspent n h =
    λ i. or_else (unspent_at n.arrival h.arrival Arrival i)
    (or_else (unspent_at n.number h.number Number i) (or_else (unspent_at n.token h.token Token i) (unspent_at n.ticket h.ticket Ticket i)))

module _ (rules : Rules) (s : Settings) (order : Order) (now : ℕ) (m : State) where
  abbrev result_state : Record → State
  result_state x = frame rules (leaving s.orphans) m (finished_state s order.reference now x (rules.result order.work) m)

  -- a finish of the present order is the frame of what the result makes of record and rows
  pub finish_comes : (x : Record) → get m.records order.reference ≡ Some x → is_present_order rules m order (Some x) ≡ true
      → come_to rules s (Finish order now) m ≡ stepped (spent (frame rules (leaving s.orphans) m (finished_state s order.reference now x (rules.result order.work) m))) (frame rules (leaving s.orphans) m (finished_state s order.reference now x (rules.result order.work) m))
  finish_comes x at present =
      ap (λ v. stepped (spent (finish rules s order now m v)) (finish rules s order now m v)) at
      ∙ ap (λ b. stepped (spent (cond b (result_state x) m)) (cond b (result_state x) m)) present

  -- a finish that is late changes nothing
  pub finish_late : AreSmall m → is_present_order rules m order (get m.records order.reference) ≡ false → come_to rules s (Finish order now) m ≡ Acts m
  finish_late small late = ap (λ z. stepped (spent z) z) (go (get m.records order.reference) late) ∙ ap (λ f. stepped f m) (unspent m small)
    where
      go : (v : Option Record) → is_present_order rules m order v ≡ false → finish rules s order now m v ≡ m
      go None h = refl
      go (Some x) h = ap (λ b. cond b (result_state x) m) h
