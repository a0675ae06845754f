-- The own changes of events, and what they reach.
use Rattle.std.proofs.Common.{Box, Global, ◌≡◌, ℕ, Bool, true, false, not, ◌&&◌, ◌||◌, List, [], ◌∷◌, ◌++◌, MatchBool, refl, sym, ap, subst, ◌∙◌, is_some, true≢false}
use Rattle.std.specs.declared.option.Option.TheVariants.{None, Some}
use Rattle.std.specs.declared.option.Option.{Option}
use Rattle.std.specs.Option.{option_and_then, option_map}
use Rattle.std.specs.Cmp.{nat_cmp_total}
use Rattle.std.specs.FinMap.{nat_cmp-IsAntisymmetric}
use Rattle.std.specs.Ordering.{eq_by_cmp, nat_cmp}
use Rattle.std.specs.List.{cons_option, filter, filter_map, list_any}
use Rattle.std.specs.List.Sorted.{IsStrictlySortedBy}
use Rattle.std.proofs.lemmas.List.Folds.{list_any-append}
use Rattle.cat_collections.specs.Table.{Text, get, keys, same_text, text_cmp}
use Rattle.cat_collections.proofs.Orders.{has-filter, in_order-rises}
use Rattle.cat_collections.proofs.Tables.{or_false_first, or_false_second, or_true, same_is, same_self, text_antisymmetric, text_total}
use Rattle.cat_types.specs.declared.work.Outcome.{Outcome}
use Rattle.cat_types.specs.declared.work.Outcome.TheVariants.{Good, Bad}
use Rattle.cat_model.specs.declared.types.Given.{Given}
use Rattle.cat_model.specs.declared.types.Leaving.{Leaving}
use Rattle.cat_model.specs.declared.types.Leaving.TheVariants.{Deleted}
use Rattle.cat_model.specs.declared.types.Numbered.{Numbered}
use Rattle.cat_model.specs.declared.types.Origin.TheVariants.{Provider, Entity}
use Rattle.cat_model.specs.declared.types.ProviderInputs.{ProviderInputs}
use Rattle.cat_model.specs.declared.types.Record.{Record}
use Rattle.cat_model.specs.declared.types.Settings.{Settings}
use Rattle.cat_model.specs.declared.types.State.{State}
use Rattle.cat_model.specs.Catalogue.{Holders, Offers, Ref, Rows, Rules, Shelf, held, holding, rehold, reheld, standing, work, work_of}
use Rattle.cat_model.specs.declared.types.Row.{Row}
use Rattle.cat_model.specs.Rows.{may_read, reading, row_at}
use Rattle.cat_target.specs.Targets.{read_names}
use Rattle.cat_model.proofs.Named.{reading_has}
use Rattle.cat_model.specs.Sound.{Sound}
use Rattle.cat_model.specs.Step.{finished_record, finished_rows, finished_state, forgotten, items_after, mutated_state, replaced, source_at, with_record}
use Rattle.cat_laws.proofs.Alone.{reheld_stays}
use Rattle.cat_model.proofs.Frame.{same_option-is}
use Rattle.cat_plan.specs.Following.{IsOwnChange, IsReach, held_state}
use Rattle.cat_plan.specs.declared.change.Own.{Own}
use Rattle.cat_plan.proofs.Owned.{finish_is_own, forget_is_own, reach_is}
use Rattle.cat_claims.specs.Claimed.{IsClaimed, are_others}
use Rattle.cat_events.specs.OwnChanges.{IsFinishing, IsMutating, finishing_alone, offered_refs}
use Rattle.cat_events.specs.Planned.{IsOwned, IsReached}
use Rattle.cat_events.specs.Shelf.{DifferAt, readers_of, reads_other, with_shelf}
use Rattle.cat_claims.specs.declared.types.Claimed.{Claimed}
use Rattle.cat_events.specs.declared.plan.Inputs.TheVariants.{Same, Shelf as ShelfInputs}
use Rattle.cat_events.specs.declared.plan.OwnChange.{OwnChange}
use Rattle.cat_events.specs.Again.{offers_again}
use Rattle.cat_events.proofs.Held.{finish_keeps, forget_keeps, mutation_keeps}
use Rattle.cat_events.proofs.Resulted.{finished_alone}

never : (b : Bool) → false ≡ (b && not b)
never true = refl
never false = refl

not_false : (b : Bool) → not b ≡ false → b ≡ true
not_false true h = refl
not_false false h = absurd (true≢false h)

none_rise : IsStrictlySortedBy text_cmp []
none_rise = in_order-rises text_total text_antisymmetric []

-- ---- the shelf

module _ (rules : Rules) (m : State) (sound : Sound rules m) (shelf : Shelf) (touched : List Ref) where
  -- the own change of an event that changes the shelf
  abbrev shelf_change : OwnChange
  shelf_change = record { how = Deleted; own = None; inputs = ShelfInputs shelf; claims = None; touched = touched }

  pub shelf_owned : IsOwned shelf_change m (with_shelf shelf m)
  shelf_owned = record {
    change = record {
      records = λ r. refl;
      orphans = λ r. refl;
      marks = refl;
      documents = refl;
      number = refl;
      ticket = refl;
      same_shelf = refl;
      same_rows = ap (λ (z : State). z.rows) (reheld_stays rules m sound);
      same_holders = ap (λ (z : State). z.holders) (reheld_stays rules m sound);
    };
    providers = refl;
    arrival = refl;
    token = refl;
  }

  -- over a shelf that differs under one name, what isn't touched has the same work
  module _ (name : Text) (differ : DifferAt name m.shelf shelf) (et : touched ≡ filter (reads_other rules shelf m) (readers_of name m.rows)) where
    -- the references of the rows with these arrivals
    abbrev refs_in : List ℕ → List Text
    refs_in l = filter_map (λ b. option_map (λ row. row.reference) (row_at m.rows b)) l

    -- a row that may read the name is among its readers
    is_reader : (a : ℕ) (row : Row) → row_at m.rows a ≡ Some row → may_read name (Some row) ≡ true → list_any (same_text row.reference) (readers_of name m.rows) ≡ true
    is_reader a row at reads = among_readers (reading m.rows name) (reading_has m.rows name a (ap (may_read name) at ∙ reads))
      where
        among_readers : (l : List ℕ) → list_any (eq_by_cmp nat_cmp a) l ≡ true → list_any (same_text row.reference) (refs_in l) ≡ true
        among_readers [] h = absurd (true≢false (sym h))
        among_readers (b ∷ l) h = go (eq_by_cmp nat_cmp a b) refl h (among_readers l)
          where
            after : (v : Option Text) → list_any (same_text row.reference) (refs_in l) ≡ true → list_any (same_text row.reference) (cons_option v (refs_in l)) ≡ true
            after None k = k
            after (Some x) k = or_true (same_text row.reference x) _ k

            go : (c : Bool) → eq_by_cmp nat_cmp a b ≡ c → (c || list_any (eq_by_cmp nat_cmp a) l) ≡ true
                → (list_any (eq_by_cmp nat_cmp a) l ≡ true → list_any (same_text row.reference) (refs_in l) ≡ true) → list_any (same_text row.reference) (cons_option (option_map (λ (x : Row). x.reference) (row_at m.rows b)) (refs_in l)) ≡ true
            go true e h ih =
                let same : a ≡ b = same_is nat_cmp_total nat_cmp-IsAntisymmetric a b e in
                subst (λ (v : Option Row). list_any (same_text row.reference) (cons_option (option_map (λ (x : Row). x.reference) v) (refs_in l)) ≡ true) (sym at ∙ ap (row_at m.rows) same)
                (ap (λ c. c || list_any (same_text row.reference) (refs_in l)) (same_self text_total text_antisymmetric row.reference))
            go false e h ih = after (option_map (λ (x : Row). x.reference) (row_at m.rows b)) (ih h)

    -- a row that can't read the name has the same work
    unread : (row : Row) → may_read name (Some row) ≡ false → work_of rules m.shelf row.offered.tree ≡ work_of rules shelf row.offered.tree
    unread row apart = λ i. record { tree = row.offered.tree; contents = rules.reads row.offered.tree m.shelf shelf (λ t reads. differ t (other t reads (same_text t name) refl)) i }
      where
        other : (t : Text) → list_any (same_text t) (read_names row.offered.tree) ≡ true → (c : Bool) → same_text t name ≡ c → same_text t name ≡ false
        other t reads true e = absurd (true≢false (sym (ap (λ (q : Text). list_any (same_text q) (read_names row.offered.tree)) (sym (same_is text_total text_antisymmetric t name e)) ∙ reads) ∙ apart))
        other t reads false e = e

    same_over : (r : Ref) → list_any (same_text r) touched ≡ false → work rules m r ≡ work rules (held_state shelf m.rows m.holders m) r
    same_over r e = of_holder (get m.holders r) refl
      where
        of_row : (a : ℕ) → get m.holders r ≡ Some a → (row : Row) → row_at m.rows a ≡ Some row → row.reference ≡ r → option_map (λ (x : Row). work_of rules m.shelf x.offered.tree) (Some row) ≡ option_map (λ (x : Row). work_of rules shelf x.offered.tree) (Some row)
        of_row a h row at names = choose (may_read name (Some row)) refl
          where
            held_is : holding m.rows m.holders r ≡ Some row
            held_is = ap (option_and_then (row_at m.rows)) h ∙ at

            passes : may_read name (Some row) ≡ true → (reads_other rules shelf m r && true) ≡ false
            passes reads =
                sym (has-filter text_total text_antisymmetric (reads_other rules shelf m) r (readers_of name m.rows)
                ∙ ap (λ b. reads_other rules shelf m r && b) (ap (λ (q : Text). list_any (same_text q) (readers_of name m.rows)) (sym names) ∙ is_reader a row at reads))
                ∙ (ap (list_any (same_text r)) (sym et) ∙ e)

            first : (b : Bool) → (b && true) ≡ false → b ≡ false
            first true h = h
            first false h = refl

            choose : (c : Bool) → may_read name (Some row) ≡ c → option_map (λ (x : Row). work_of rules m.shelf x.offered.tree) (Some row) ≡ option_map (λ (x : Row). work_of rules shelf x.offered.tree) (Some row)
            choose false apart = ap Some (unread row apart)
            choose true reads =
                ap (option_map (λ (x : Row). work_of rules m.shelf x.offered.tree)) (sym held_is)
                ∙ (same_option-is rules.same_work rules.same_work-is (work rules m r) (work rules (held_state shelf m.rows m.holders m) r) (not_false _ (first (reads_other rules shelf m r) (passes reads)))
                ∙ ap (option_map (λ (x : Row). work_of rules shelf x.offered.tree)) held_is)

        of_holder : (v : Option ℕ) → get m.holders r ≡ v → work rules m r ≡ work rules (held_state shelf m.rows m.holders m) r
        of_holder None h = ap (λ (v : Option ℕ). option_map (λ (x : Row). work_of rules m.shelf x.offered.tree) (option_and_then (row_at m.rows) v)) h
            ∙ sym (ap (λ (v : Option ℕ). option_map (λ (x : Row). work_of rules shelf x.offered.tree) (option_and_then (row_at m.rows) v)) h)
        of_holder (Some a) h =
            let row = sound.holders.rows_of r a h in
            ap (λ (v : Option ℕ). option_map (λ (x : Row). work_of rules m.shelf x.offered.tree) (option_and_then (row_at m.rows) v)) h
            ∙ (ap (option_map (λ (x : Row). work_of rules m.shelf x.offered.tree)) row.at
            ∙ (of_row a h row.row row.at row.names
            ∙ (sym (ap (option_map (λ (x : Row). work_of rules shelf x.offered.tree)) row.at)
            ∙ sym (ap (λ (v : Option ℕ). option_map (λ (x : Row). work_of rules shelf x.offered.tree) (option_and_then (row_at m.rows) v)) h))))

    pub shelf_reached : IsReached rules shelf_change m
    shelf_reached = record {
      come = λ r. never (held m.holders r);
      left = λ r. never (held m.holders r);
      left_rise = none_rise;
      others = λ r e before after. same_over r e;
    }

-- ---- claims

-- what holding makes of these rows, where nothing was held by others before
abbrev rows_of : Numbered → Holders → Rows
rows_of z holders = standing z.rows (rehold z.rows holders)

-- where what isn't touched keeps the row that holds it, claims are reached
claims_reached : (rules : Rules) (m : State) (z : Numbered) (x : Claimed) (touched : List Ref) → IsClaimed x m.holders z
    → ((r : Ref) → list_any (same_text r) touched ≡ false → held m.holders r ≡ true → held (rehold z.rows m.holders) r ≡ true → holding m.rows m.holders r ≡ holding (rows_of z m.holders) (rehold z.rows m.holders) r)
    → IsReach rules m (held_state m.shelf x.rows x.holders m) x.fresh x.leaving touched
claims_reached rules m z x touched are keeps =
    reach_is rules m x.rows x.holders x.fresh x.leaving touched are.fresh are.leaving are.leaving_rise
    (λ r e before after. keeps r e before (ap (λ h. held h r) (sym are.holders) ∙ after) ∙ (λ i. holding (sym are.rows i) (sym are.holders i) r))

-- what isn't touched isn't moved, and isn't among the others either
apart_first : (r : Ref) (moved others : List Ref) → list_any (same_text r) (moved ++ others) ≡ false → list_any (same_text r) moved ≡ false
apart_first r moved others e = or_false_first _ _ (sym (list_any-append (same_text r) moved others) ∙ e)

apart_second : (r : Ref) (moved others : List Ref) → list_any (same_text r) (moved ++ others) ≡ false → list_any (same_text r) others ≡ false
apart_second r moved others e = or_false_second _ _ (sym (list_any-append (same_text r) moved others) ∙ e)

-- ---- forgets

module _ (m : State) (r own : Ref) (same : own ≡ r) (x : Box Claimed Global) (are : IsClaimed x.value m.holders (replaced (Entity r) (λ q. None) [] m)) where
  -- the own change of a forget
  abbrev forget_change : List Ref → OwnChange
  forget_change touched = record { how = Deleted; own = Some (record { reference = own; kept = None }); inputs = Same; claims = Some x; touched = touched }

  pub forget_owned : (touched : List Ref) → IsOwned (forget_change touched) m (forgotten r m)
  forget_owned touched =
      let n = forgotten r m in
      let c = subst (λ q. IsOwnChange (Some (record { reference = q; kept = None })) m.shelf (reheld n).rows (reheld n).holders m n) (sym same) (forget_is_own r m) in
      record {
        change = record {
          records = c.records;
          orphans = c.orphans;
          marks = refl;
          documents = refl;
          number = refl;
          ticket = refl;
          same_shelf = refl;
          same_rows = sym are.rows;
          same_holders = sym are.holders;
        };
        providers = refl;
        arrival = sym are.arrival;
        token = refl;
      }

  pub forget_reached : (rules : Rules) (touched : List Ref) → Sound rules m → touched ≡ x.value.moved → IsReached rules (forget_change touched) m
  forget_reached rules touched sound et =
      claims_reached rules m (replaced (Entity r) (λ q. None) [] m) x.value touched are
      (λ q e before after. forget_keeps m sound.offers sound.holders q r before after
      (ap (λ h. are_others (get m.holders q) (get h q)) (sym are.holders) ∙ (sym (are.moved q) ∙ (ap (list_any (same_text q)) (sym et) ∙ e))))

-- ---- results

module _ (s : Settings) (r : Ref) (now : ℕ) (y : Record) (outcome : Outcome) (m : State) (own : Own) (same : own.reference ≡ r) (kept : own.kept ≡ Some (finished_record s now y outcome)) where
  abbrev result : State
  result = finished_state s r now y outcome m

  own_is : own ≡ record { reference = r; kept = Some (finished_record s now y outcome) }
  own_is i = record { reference = same i; kept = kept i }

  own_change : get m.orphans r ≡ None → IsOwnChange (Some own) m.shelf (reheld result).rows (reheld result).holders m result
  own_change none = subst (λ o. IsOwnChange (Some o) m.shelf (reheld result).rows (reheld result).holders m result) (sym own_is) (finish_is_own s r now y outcome m none)

  rows_are : {x : Claimed} (o : Outcome) → IsClaimed x m.holders (finished_rows r o m) → (reheld (finished_state s r now y o m)).rows ≡ x.rows
  rows_are (Good output issues) are = sym are.rows
  rows_are (Bad issues) are = sym are.rows

  holders_are : {x : Claimed} (o : Outcome) → IsClaimed x m.holders (finished_rows r o m) → (reheld (finished_state s r now y o m)).holders ≡ x.holders
  holders_are (Good output issues) are = sym are.holders
  holders_are (Bad issues) are = sym are.holders

  arrival_is : {x : Claimed} (o : Outcome) → IsClaimed x m.holders (finished_rows r o m) → (finished_state s r now y o m).arrival ≡ x.arrival
  arrival_is (Good output issues) are = sym are.arrival
  arrival_is (Bad issues) are = sym are.arrival

  finishing_owned : (how : Leaving) (x : Box Claimed Global) (touched : List Ref) → get m.orphans r ≡ None → IsClaimed x.value m.holders (finished_rows own.reference outcome m)
      → IsOwned (record { how = how; own = Some own; inputs = Same; claims = Some x; touched = touched }) m result
  finishing_owned how x touched none claimed =
      let are = subst (λ q. IsClaimed x.value m.holders (finished_rows q outcome m)) same claimed in
      let c = own_change none in
      record {
        change = record {
          records = c.records;
          orphans = c.orphans;
          marks = c.marks;
          documents = c.documents;
          number = c.number;
          ticket = c.ticket;
          same_shelf = c.same_shelf;
          same_rows = rows_are outcome are;
          same_holders = holders_are outcome are;
        };
        providers = refl;
        arrival = arrival_is outcome are;
        token = refl;
      }

  pub finish_owned : (how : Leaving) (z : OwnChange) → get m.orphans r ≡ None → IsFinishing how own outcome m z → IsOwned z m result
  finish_owned how z none f = subst (λ z. IsOwned z m result) (sym f.is) (finishing_owned how f.claimed (f.claimed.value.moved ++ offered_refs outcome) none f.are)

  -- what a result doesn't offer, and no other row holds, keeps the row that holds it
  result_keeps : {rules : Rules} → Sound rules m → (q : Ref) (o : Outcome) → list_any (same_text q) (offered_refs o) ≡ false → held m.holders q ≡ true → held (rehold (finished_rows r o m).rows m.holders) q ≡ true
      → are_others (get m.holders q) (get (rehold (finished_rows r o m).rows m.holders) q) ≡ false
      → holding m.rows m.holders q ≡ holding (rows_of (finished_rows r o m) m.holders) (rehold (finished_rows r o m).rows m.holders) q
  result_keeps sound q (Good output issues) none = finish_keeps m sound.offers sound.holders q s r now y (Good output issues) none
  result_keeps sound q (Bad issues) none = finish_keeps m sound.offers sound.holders q s r now y (Bad issues) none

  pub finish_reached : (rules : Rules) (how : Leaving) (z : OwnChange) → Sound rules m → IsFinishing how own outcome m z → IsReached rules z m
  finish_reached rules how z sound f =
      let are = subst (λ q. IsClaimed f.claimed.value m.holders (finished_rows q outcome m)) same f.are in
      subst (λ z. IsReached rules z m) (sym f.is)
      (claims_reached rules m (finished_rows r outcome m) f.claimed.value (f.claimed.value.moved ++ offered_refs outcome) are
      (λ q e before after. result_keeps sound q outcome (apart_second q f.claimed.value.moved (offered_refs outcome) e) before after
      (ap (λ h. are_others (get m.holders q) (get h q)) (sym are.holders) ∙ (sym (are.moved q) ∙ apart_first q f.claimed.value.moved (offered_refs outcome) e))))

  -- ---- results that leave all rows

  module _ (rules : Rules) (sound : Sound rules m) (again : offers_again (get m.records r) outcome ≡ true) where
    stays : result ≡ with_record r (finished_record s now y outcome) m
    stays = finished_alone s r now y outcome m sound.offers sound.rows_in_order again

    held_stays : reheld result ≡ reheld (with_record r (finished_record s now y outcome) m)
    held_stays = ap reheld stays

    pub alone_owned : (how : Leaving) → get m.orphans r ≡ None → IsOwned (finishing_alone how own) m result
    alone_owned how none =
        let c = own_change none in
        record {
          change = record {
            records = c.records;
            orphans = c.orphans;
            marks = c.marks;
            documents = c.documents;
            number = c.number;
            ticket = c.ticket;
            same_shelf = c.same_shelf;
            same_rows = ap (λ (z : State). z.rows) held_stays ∙ ap (λ (z : State). z.rows) (reheld_stays rules m sound);
            same_holders = ap (λ (z : State). z.holders) held_stays ∙ ap (λ (z : State). z.holders) (reheld_stays rules m sound);
          };
          providers = refl;
          arrival = ap (λ (z : State). z.arrival) stays;
          token = refl;
        }

pub alone_reached : (rules : Rules) (m : State) (how : Leaving) (own : Own) → IsReached rules (finishing_alone how own) m
alone_reached rules m how own = record {
  come = λ r. never (held m.holders r);
  left = λ r. never (held m.holders r);
  left_rise = none_rise;
  others = λ r e before after. refl;
}

-- ---- mutations

module _ (p : Text) (x : Given) (m : State) (items : Offers) (made : items ≡ items_after x (source_at (get m.providers p)).items) (own : OwnChange) (mutating : IsMutating p x items m own) where
  abbrev source : ProviderInputs
  source = source_at (get m.providers p)

  abbrev mutated : State
  mutated = mutated_state p x source m

  mutation_is : IsMutating p x (items_after x source.items) m own
  mutation_is = subst (λ i. IsMutating p x i m own) made mutating

  pub mutation_owned : IsOwned own m mutated
  mutation_owned =
      let f = mutation_is in
      subst (λ z. IsOwned z m mutated) (sym f.is)
      (record {
        change = record {
          records = λ r. refl;
          orphans = λ r. refl;
          marks = refl;
          documents = refl;
          number = refl;
          ticket = refl;
          same_shelf = refl;
          same_rows = sym f.are.rows;
          same_holders = sym f.are.holders;
        };
        providers = refl;
        arrival = sym f.are.arrival;
        token = refl;
      })

  pub mutation_reached : (rules : Rules) → Sound rules m → IsReached rules own m
  mutation_reached rules sound =
      let f = mutation_is in
      subst (λ z. IsReached rules z m) (sym f.is)
      (claims_reached rules m (replaced (Provider p) (get (items_after x source.items)) (keys x.items) m) f.claimed.value (f.claimed.value.moved ++ keys x.items) f.are
      (λ q e before after. mutation_keeps m sound.offers sound.holders q p x (apart_second q f.claimed.value.moved (keys x.items) e) before after
      (ap (λ h. are_others (get m.holders q) (get h q)) (sym f.are.holders) ∙ (sym (f.are.moved q) ∙ apart_first q f.claimed.value.moved (keys x.items) e))))

  pub mutation_how : own.how ≡ Deleted
  mutation_how = ap (λ (z : OwnChange). z.how) mutating.is

-- ---- what a plan of a result comes to

module _ (s : Settings) (r : Ref) (now : ℕ) (y : Record) (outcome : Outcome) (m : State) (own : Own) (same : own.reference ≡ r) (kept : own.kept ≡ Some (finished_record s now y outcome)) where
  -- a result's own change, whether it leaves all rows or replaces some
  pub result_owned : (rules : Rules) (how : Leaving) (z : OwnChange) → Sound rules m → get m.records r ≡ Some y
      → MatchBool (offers_again (Some y) outcome) (z ≡ finishing_alone how own) (IsFinishing how own outcome m z) → IsOwned z m (finished_state s r now y outcome m) × IsReached rules z m × (z.how ≡ how)
  result_owned rules how z sound at = go (offers_again (Some y) outcome) refl
    where
      none : get m.orphans r ≡ None
      none = sound.orphans r (sym (sound.records r) ∙ ap is_some at)

      go : (b : Bool) → offers_again (Some y) outcome ≡ b → MatchBool b (z ≡ finishing_alone how own) (IsFinishing how own outcome m z)
          → IsOwned z m (finished_state s r now y outcome m) × IsReached rules z m × (z.how ≡ how)
      go true e is = (
        subst (λ z. IsOwned z m (finished_state s r now y outcome m)) (sym is) (alone_owned s r now y outcome m own same kept rules sound (ap (λ v. offers_again v outcome) at ∙ e) how none),
        subst (λ z. IsReached rules z m) (sym is) (alone_reached rules m how own),
        ap (λ (z : OwnChange). z.how) is,
      )
      go false e f = (finish_owned s r now y outcome m own same kept how z none f, finish_reached s r now y outcome m own same kept rules how z sound f, ap (λ (z : OwnChange). z.how) f.is)
