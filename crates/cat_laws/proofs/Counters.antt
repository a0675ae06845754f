-- The counters never fall, and begin at 1.
use Rattle.std.proofs.Common.{ℕ, ◌+◌, ◌≤◌, ◌^◌, Bool, true, false, cond, ◌||◌, List, [], ◌∷◌, is_some, nat_lt, le_refl, arith, length}
use Rattle.std.specs.declared.option.Option.{Option}
use Rattle.std.specs.declared.option.Option.TheVariants.{None, Some}
use Rattle.std.specs.Ordering.{nat_cmp}
use Rattle.cat_collections.specs.Table.{Text, text_cmp, get, keys, put, over}
use Rattle.cat_types.specs.declared.input.Offered.{Offered}
use Rattle.cat_types.specs.declared.work.Outcome.{Outcome}
use Rattle.cat_types.specs.declared.work.Outcome.TheVariants.{Good, Bad}
use Rattle.cat_model.specs.declared.types.State.{State}
use Rattle.cat_model.specs.declared.types.Record.{Record}
use Rattle.cat_model.specs.declared.types.Origin.{Origin}
use Rattle.cat_model.specs.declared.types.Numbered.{Numbered}
use Rattle.cat_model.specs.declared.types.Given.{Given}
use Rattle.cat_model.specs.declared.types.Order.{Order}
use Rattle.cat_model.specs.declared.types.StitchOrder.{StitchOrder}
use Rattle.cat_model.specs.declared.types.Settings.{Settings}
use Rattle.cat_model.specs.declared.types.Leaving.{Leaving}
use Rattle.cat_model.specs.declared.types.Origin.TheVariants.{Provider, Entity}
use Rattle.cat_model.specs.declared.types.Leaving.TheVariants.{Deleted}
use Rattle.cat_model.specs.Catalogue.{Ref, Rules, frame, reheld, rerecorded, fresh_refs, changed_refs}
use Rattle.cat_model.specs.Sound.{AreBegun, AreSmall}
use Rattle.cat_model.specs.Step.{add_offer, add_offers, has_row, row_after, replaced, mutated_state, mutate, items_after, source_at, refresh, take, take_next, next_taken, forgotten, forget, forget_at, ref_at, finished_record, finished_state, leaving, finish, is_present, is_present_stitch, put_stitch, with_record, without_key, Event, change, refusal, step, run, start, reopened}
use Rattle.cat_model.specs.Step.Event.{Mutate, ShelfPut, ShelfDrop, Refresh, Forget, ForgetNumber, Take, TakeAt, Finish, PutStitch}

-- the counters of n are at least those of m
pub record Grows (m n : State) : Type 0 where
  pub arrival : m.arrival ≤ n.arrival
  pub number : m.number ≤ n.number
  pub token : m.token ≤ n.token
  pub ticket : m.ticket ≤ n.ticket

same_counters : (m : State) → Grows m m
same_counters m = record { arrival = le_refl _; number = le_refl _; token = le_refl _; ticket = le_refl _ }

pub grows_on : (l m n : State) → Grows l m → Grows m n → Grows l n
grows_on l m n a b = record {
  arrival = let x = a.arrival in let y = b.arrival in omega arith;
  number = let x = a.number in let y = b.number in omega arith;
  token = let x = a.token in let y = b.token in omega arith;
  ticket = let x = a.ticket in let y = b.ticket in omega arith;
}

at_cond : {A : Type 0} (P : A → Type 0) (b : Bool) (x y : A) → P x → P y → P (cond b x y)
at_cond P true x y p q = p
at_cond P false x y p q = q

add_offer-le : (o : Origin) (r : Ref) (v : Option Offered) (x : Numbered) → x.next ≤ (add_offer o r v x).next
add_offer-le o r None x = le_refl _
add_offer-le o r (Some f) x = at_cond (λ (y : Numbered). x.next ≤ y.next) (has_row x.rows o r) x _ (le_refl _) (omega arith)

add_offers-le : (o : Origin) (offers : Ref → Option Offered) (rs : List Ref) (x : Numbered) → x.next ≤ (add_offers o offers rs x).next
add_offers-le o offers [] x = le_refl _
add_offers-le o offers (r ∷ rs) x =
    let a = add_offer-le o r (offers r) x in
    let b = add_offers-le o offers rs (add_offer o r (offers r) x) in
    omega arith

replaced-le : (o : Origin) (offers : Ref → Option Offered) (rs : List Ref) (m : State) → m.arrival ≤ (replaced o offers rs m).next
replaced-le o offers rs m = add_offers-le o offers rs (record { rows = over nat_cmp m.rows (λ a row. row_after o offers row); next = m.arrival })

module _ (rules : Rules) (s : Settings) where
  framed_grows : (how : Leaving) (m n : State) → Grows n (frame rules how m n)
  framed_grows how m n =
      let h = reheld n in
      let a : n.number ≤ n.number + length (fresh_refs n h.holders) = omega arith in
      let b : n.ticket ≤ n.ticket + length (changed_refs rules m (rerecorded rules how m n h)) = omega arith in
      record { arrival = le_refl _; number = a; token = le_refl _; ticket = b }

  take_grows : (r : Ref) (now : ℕ) (m : State) (v : Option Record) → Grows m (take s r now m v)
  take_grows r now m None = same_counters m
  take_grows r now m (Some x) = record { arrival = le_refl _; number = le_refl _; token = omega arith; ticket = le_refl _ }

  take_next_grows : (now : ℕ) (m : State) (v : Option Ref) → Grows m (take_next s now m v)
  take_next_grows now m None = same_counters m
  take_next_grows now m (Some r) = take_grows r now m (get m.records r)

  refresh_grows : (r : Ref) (m : State) (v : Option Record) → Grows m (refresh r m v)
  refresh_grows r m None = same_counters m
  refresh_grows r m (Some x) = record { arrival = le_refl _; number = le_refl _; token = le_refl _; ticket = le_refl _ }

  forgotten_grows : (r : Ref) (m : State) → Grows m (forgotten r m)
  forgotten_grows r m = record {
    arrival = replaced-le (Entity r) (λ q. None) [] (record m { records = without_key r m.records; orphans = without_key r m.orphans });
    number = le_refl _;
    token = le_refl _;
    ticket = le_refl _;
  }

  forget_grows : (r : Ref) (m : State) → Grows m (forget rules r m)
  forget_grows r m = at_cond (Grows m) (is_some (get m.records r) || is_some (get m.orphans r)) _ m
      (grows_on m (forgotten r m) _ (forgotten_grows r m) (framed_grows Deleted m (forgotten r m))) (same_counters m)

  forget_at_grows : (m : State) (v : Option Ref) → Grows m (forget_at rules m v)
  forget_at_grows m None = same_counters m
  forget_at_grows m (Some r) = forget_grows r m

  mutated_grows : (p : Text) (x : Given) (m : State) → Grows m (mutated_state p x (source_at (get m.providers p)) m)
  mutated_grows p x m =
      let items = items_after x (source_at (get m.providers p)).items in
      record {
        arrival = replaced-le (Provider p) (get items) (keys x.items) (record m { providers = put text_cmp p (record { serial = x.serial; items = items }) m.providers });
        number = le_refl _;
        token = le_refl _;
        ticket = le_refl _;
      }

  mutate_grows : (p : Text) (x : Given) (m : State) → Grows m (mutate rules p x m (source_at (get m.providers p)))
  mutate_grows p x m = at_cond (Grows m) (nat_lt (source_at (get m.providers p)).serial x.serial) _ m
      (grows_on m (mutated_state p x (source_at (get m.providers p)) m) _ (mutated_grows p x m) (framed_grows Deleted m _)) (same_counters m)

  finished_grows : (r : Ref) (now : ℕ) (x : Record) (u : Outcome) (m : State) → Grows m (finished_state s r now x u m)
  finished_grows r now x (Good output issues) m = record {
    arrival = replaced-le (Entity r) (get output.offers) (keys output.offers) (with_record r (finished_record s now x (Good output issues)) m);
    number = le_refl _;
    token = le_refl _;
    ticket = le_refl _;
  }
  finished_grows r now x (Bad issues) m = record { arrival = le_refl _; number = le_refl _; token = le_refl _; ticket = le_refl _ }

  finish_grows : (order : Order) (now : ℕ) (m : State) (v : Option Record) → Grows m (finish rules s order now m v)
  finish_grows order now m None = same_counters m
  finish_grows order now m (Some x) = at_cond (Grows m) (is_present rules m order x) _ m
      (grows_on m (finished_state s order.reference now x (rules.result order.work) m) _ (finished_grows order.reference now x (rules.result order.work) m) (framed_grows (leaving s.orphans) m _)) (same_counters m)

  put_stitch_grows : (order : StitchOrder) (m : State) → Grows m (put_stitch rules order m)
  put_stitch_grows order m = at_cond (Grows m) (is_present_stitch rules m order) _ m
      (record { arrival = le_refl _; number = le_refl _; token = le_refl _; ticket = le_refl _ }) (same_counters m)

  shelf_grows : (m : State) (n : State) → Grows m n → Grows m (frame rules Deleted m n)
  shelf_grows m n h = grows_on m n _ h (framed_grows Deleted m n)

  pub change_grows : (e : Event) (m : State) → Grows m (change rules s e m)
  change_grows (Mutate p x) m = mutate_grows p x m
  change_grows (ShelfPut name text) m = shelf_grows m (record m { shelf = put text_cmp name text m.shelf }) (record { arrival = le_refl _; number = le_refl _; token = le_refl _; ticket = le_refl _ })
  change_grows (ShelfDrop name) m = at_cond (Grows m) (is_some (get m.shelf name)) _ m
      (shelf_grows m (record m { shelf = without_key name m.shelf }) (record { arrival = le_refl _; number = le_refl _; token = le_refl _; ticket = le_refl _ })) (same_counters m)
  change_grows (Refresh r) m = refresh_grows r m (get m.records r)
  change_grows (Forget r) m = forget_grows r m
  change_grows (ForgetNumber number) m = forget_at_grows m (ref_at m number)
  change_grows (Take now) m = take_next_grows now m (next_taken now m)
  change_grows (TakeAt r now) m = take_grows r now m (get m.records r)
  change_grows (Finish order now) m = finish_grows order now m (get m.records order.reference)
  change_grows (PutStitch order) m = put_stitch_grows order m

  pub step_grows : (e : Event) (m : State) → Grows m (step rules s e m)
  unfolding step
  step_grows e m = at_cond (Grows m) (is_some (refusal rules s e m)) m (change rules s e m) (same_counters m) (change_grows e m)

  pub begun_on : (m n : State) → Grows m n → AreBegun m → AreBegun n
  begun_on m n g h = record {
    arrival = let x = g.arrival in let y = h.arrival in omega arith;
    number = let x = g.number in let y = h.number in omega arith;
    token = let x = g.token in let y = h.token in omega arith;
    ticket = let x = g.ticket in let y = h.ticket in omega arith;
  }

  pub step_begun : (e : Event) (m : State) → AreBegun m → AreBegun (step rules s e m)
  step_begun e m h = begun_on m (step rules s e m) (step_grows e m) h

  pub run_begun : (es : List Event) (m : State) → AreBegun m → AreBegun (run rules s es m)
  run_begun [] m h = h
  run_begun (e ∷ es) m h = run_begun es (step rules s e m) (step_begun e m h)

pub start_begun : AreBegun start
start_begun = record { arrival = omega arith; number = omega arith; token = omega arith; ticket = omega arith }

pub start_small : AreSmall start
start_small = record { arrival = le 1 (omega arith); number = le 1 (omega arith); token = le 1 (omega arith); ticket = le 1 (omega arith) }
  where
    le : (k : ℕ) → k ≤ 2 → k ≤ 2 ^ 59
    le k h = omega arith

pub reopened_begun : (rules : Rules) (m : State) → AreBegun m → AreBegun (reopened rules m)
reopened_begun rules m h = record { arrival = h.arrival; number = h.number; token = omega arith; ticket = omega arith }

pub reopened_small : (rules : Rules) (m : State) → AreSmall m → AreSmall (reopened rules m)
reopened_small rules m h = record { arrival = h.arrival; number = h.number; token = le 1 (omega arith); ticket = le 1 (omega arith) }
  where
    le : (k : ℕ) → k ≤ 2 → k ≤ 2 ^ 59
    le k h = omega arith
