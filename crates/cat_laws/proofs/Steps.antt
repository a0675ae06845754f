-- Each event keeps what holds between two events.
use Rattle.std.proofs.Common.{◌≡◌, ℕ, ◌+◌, Bool, true, false, cond, ◌&&◌, ◌||◌, ◌⊎◌, inl, inr, ⊎_elim, List, [], ◌∷◌, refl, sym, ap, subst, ◌∙◌, is_some, nat_lt, unwrap_or, true≢false, ◌≤◌, arith, le_refl, ◌^◌}
use mathlib.Core.Path.{fun_ext}
use Rattle.std.specs.declared.option.Option.{Option}
use Rattle.std.specs.declared.option.Option.TheVariants.{None, Some}
use Rattle.std.specs.Option.{option_and_then}
use Rattle.std.specs.List.{list_any}
use Rattle.std.specs.FinMap.Entries.{is_sorted-put}
use Rattle.cat_collections.specs.Table.{Text, text_cmp, same_text, Map, get, keys, put}
use Rattle.cat_model.specs.Catalogue.{Ref, Issues, Shelf, Offers, Rules, held, row_at, work, output_of, parts, parts_from, records_emit, emitted, same_option}
use Rattle.cat_types.specs.declared.input.Offered.{Offered}
use Rattle.cat_types.specs.declared.work.Output.{Output}
use Rattle.cat_types.specs.declared.work.Outcome.{Outcome}
use Rattle.cat_types.specs.declared.work.Work.{Work}
use Rattle.cat_model.specs.declared.types.Origin.{Origin}
use Rattle.cat_model.specs.declared.types.Row.{Row}
use Rattle.cat_model.specs.declared.types.ProviderInputs.{ProviderInputs}
use Rattle.cat_model.specs.declared.types.Lease.{Lease}
use Rattle.cat_model.specs.declared.types.Record.{Record}
use Rattle.cat_model.specs.declared.types.Orphan.{Orphan}
use Rattle.cat_model.specs.declared.types.State.{State}
use Rattle.cat_types.specs.declared.work.Outcome.TheVariants.{Good, Bad}
use Rattle.cat_model.specs.declared.types.Origin.TheVariants.{Provider, Entity}
use Rattle.cat_model.specs.declared.types.Leaving.TheVariants.{Deleted}
use Rattle.cat_model.specs.Sound.{offered, HasRow, AreOffers, Sound, IsRight, IsOutcome, IsStitched, number_in, its_number, AreNumbers, AreSmall}
use Rattle.cat_model.specs.Step.{same_origin, put_all, without, source_at, items_after, mutated_state, Event, leased, with_record, without_key, forgotten, finished_record, finished_state, leaving, has_token, is_present, finish, mutate, refresh, take, forget, is_ticket, put_stitch, take_next, next_taken, forget_at, ref_at, refusal, change, step, run, start}
use Rattle.cat_model.specs.declared.types.Settings.{Settings}
use Rattle.cat_model.specs.declared.types.Given.{Given}
use Rattle.cat_model.specs.declared.types.Order.{Order}
use Rattle.cat_model.specs.declared.types.StitchOrder.{StitchOrder}
use Rattle.cat_model.specs.Step.{not_found, too_large, spent, or_else, fault_where}
use Rattle.cat_model.specs.declared.types.Fault.{Fault}
use Rattle.cat_model.specs.declared.types.Fault.TheVariants.{Spent}
use Rattle.cat_model.specs.declared.types.Counter.TheVariants.{Arrival, Number, Token}
use Rattle.std.proofs.lemmas.Bool.Decides.{nat_tests}
use Rattle.cat_model.specs.Step.Event.{Mutate, ShelfPut, ShelfDrop, Refresh, Forget, ForgetNumber, Take, TakeAt, Finish, PutStitch}
use Rattle.cat_collections.proofs.Tables.{text_total, text_antisymmetric, same_is, same_self, found_key, find-over, find-put_same, find-put_other, and_second}
use Rattle.cat_model.proofs.Frame.{same_option-is, right_at_once, IsChange, framed}
use Rattle.cat_model.proofs.Replaced.{AreOthers, kept_own, replaced_offers, other_rows, same_reference}

-- what holds at both branches of a test
at_cond : {A : Type 0} (P : A → Type 0) (b : Bool) (x y : A) → (b ≡ true → P x) → P y → P (cond b x y)
at_cond P true x y p q = p refl
at_cond P false x y p q = q

pub other_way : (q r : Ref) → same_text q r ≡ false → same_text r q ≡ false
other_way q r e = go (same_text r q) refl
  where
    go : (b : Bool) → same_text r q ≡ b → b ≡ false
    go true is = absurd (true≢false (sym (same_self text_total text_antisymmetric r) ∙ ap (λ k. same_text k r) (same_is text_total text_antisymmetric r q is) ∙ e))
    go false is = refl

pub numbers_from : (m n : State) → m.number ≤ n.number → ((q : Ref) (k : ℕ) → its_number n q ≡ Some k → its_number m q ≡ Some k) → AreNumbers m → AreNumbers n
numbers_from m n le same h = record {
  begun = let b = h.begun in omega arith;
  from_one = λ r k e. h.from_one r k (same r k e);
  below = λ r k e. let l = h.below r k (same r k e) in omega arith;
  differ = λ r q k e e'. h.differ r q k (same r k e) (same q k e');
}

module _ (rules : Rules) (s : Settings) where
  abbrev Holds : State → Type 0
  Holds = Sound rules

  -- an event that changes nothing but the shelf
  shelf_change : (m : State) → Holds m → (shelf : Shelf) → IsChange rules m (record m { shelf = shelf })
  shelf_change m h shelf = record { offers = record { given = h.offers.given; shown = h.offers.shown; below = h.offers.below; once = h.offers.once }; right = h.right; stitched = h.stitched; numbers = numbers_from m (record m { shelf = shelf }) (le_refl _) (λ q k e. e) h.numbers }

  put_kept : (m : State) → Holds m → (name text : Text) → Holds (change rules s (ShelfPut name text) m)
  put_kept m h name text = framed rules Deleted m _ (shelf_change m h (put text_cmp name text m.shelf))

  drop_kept : (m : State) → Holds m → (name : Text) → Holds (change rules s (ShelfDrop name) m)
  drop_kept m h name = at_cond Holds (is_some (get m.shelf name)) _ m (λ _. framed rules Deleted m _ (shelf_change m h (without_key name m.shelf))) h

  -- a record is put
  module _ (m : State) (h : Holds m) (r : Ref) (y : Record) where
    -- what holds at the new record and at each old one
    at_record : (P : Ref → Option Record → Type 0) → P r (Some y) → ((q : Ref) → P q (get m.records q)) → (q : Ref) → P q (get (with_record r y m).records q)
    at_record P new old q = go (same_text q r) refl
      where
        go : (b : Bool) → same_text q r ≡ b → P q (get (with_record r y m).records q)
        go true is = let same : q ≡ r = same_is text_total text_antisymmetric q r is in
            subst (λ k. P k (get (with_record r y m).records k)) (sym same) (subst (P r) (sym (find-put_same text_total text_antisymmetric r y m.records)) new)
        go false is = subst (P q) (sym (find-put_other text_total text_antisymmetric q r y m.records is)) (old q)

    -- it is right, as the others are
    put_right : IsRight rules (work rules m r) y → (q : Ref) (z : Record) → get (with_record r y m).records q ≡ Some z → IsRight rules (work rules m q) z
    put_right right = at_record (λ q v. (z : Record) → v ≡ Some z → IsRight rules (work rules m q) z) (λ z is. subst (IsRight rules (work rules m r)) (ap (λ v. unwrap_or v y) is) right) h.right

    -- it has the output of the one before
    module _ (x : Record) (e : get m.records r ≡ Some x) (as_before : y.output ≡ x.output) where
      same_outputs : output_of (with_record r y m).records ≡ output_of m.records
      same_outputs = fun_ext (at_record (λ q v. option_and_then (λ (x : Record). x.output) v ≡ output_of m.records q) (as_before ∙ sym (ap (option_and_then (λ (x : Record). x.output)) e)) (λ q. refl))

      same_offers : (o : Origin) (q : Ref) → offered (with_record r y m) o q ≡ offered m o q
      same_offers (Provider p) q = refl
      same_offers (Entity f) q = ap (λ outputs. option_and_then (λ (x : Output). get x.offers q) (outputs f)) same_outputs

      put_offers : AreOffers (with_record r y m)
      put_offers = record {
        given = λ a row h'. same_offers row.origin row.reference ∙ h.offers.given a row h';
        shown = λ o q f h'. h.offers.shown o q f (sym (same_offers o q) ∙ h');
        below = h.offers.below;
        once = h.offers.once;
      }

    -- it has the number of the one before
    put_numbers : (x : Record) → get m.records r ≡ Some x → y.number ≡ x.number → AreNumbers (with_record r y m)
    put_numbers x e same = numbers_from m (with_record r y m) (le_refl _)
        (λ q k e'. sym (at_record (λ q v. number_in v (get m.orphans q) ≡ its_number m q) (ap Some same ∙ sym (ap (λ v. number_in v (get m.orphans r)) e)) (λ q. refl) q) ∙ e') h.numbers

  -- a record is put that has the output, the issues and the number of the one before, and is due at once or as before
  module _ (m : State) (h : Holds m) (r : Ref) (x : Record) (e : get m.records r ≡ Some x) (due : ℕ) (lease : Option Lease) (when : (due ≡ 0) ⊎ (due ≡ x.due)) where
    abbrev y : Record
    y = leased due x lease

    abbrev n : State
    n = with_record r y m

    same_parts : (q : Ref) → parts rules n q ≡ parts rules m q
    same_parts q =
        ap (λ outputs. parts_from rules (emitted rules (keys m.holders) outputs) q (get m.orphans q) (get n.records q)) (same_outputs m h r y x e refl)
        ∙ at_record m h r y (λ q v. parts_from rules (records_emit rules m) q (get m.orphans q) v ≡ parts rules m q)
        (ap (parts_from rules (records_emit rules m) r (get m.orphans r)) (sym e)) (λ q. refl) q

    leased_kept : Holds n
    leased_kept = record {
      offers = put_offers m h r y x e refl;
      holders = h.holders;
      records = at_record m h r y (λ q v. is_some v ≡ held m.holders q) (ap is_some (sym e) ∙ h.records r) h.records;
      orphans = h.orphans;
      right = put_right m h r y right_new;
      stitched = λ q. subst (λ p. IsStitched rules p (get m.marks q) (get m.documents q)) (sym (same_parts q)) (h.stitched q);
      numbers = put_numbers m h r y x e refl;
      in_order = is_sorted-put text_cmp text_total r y m.records h.in_order;
      rows_in_order = h.rows_in_order;
      holders_in_order = h.holders_in_order;
    }
      where
        due_before : (w : Option Work) → due ≡ x.due → IsRight rules w x → IsRight rules w y
        due_before None is t = is ∙ t
        due_before (Some w) is (inl t) = inl (is ∙ t)
        due_before (Some w) is (inr t) = inr (kept (rules.result w) t)
          where
            kept : (u : Outcome) → IsOutcome u x → IsOutcome u y
            kept (Good output issues) t = t
            kept (Bad issues) t = t

        right_new : IsRight rules (work rules m r) y
        right_new = ⊎_elim (λ is. right_at_once rules (work rules m r) y is) (λ is. due_before (work rules m r) is (h.right r x e)) when

  refresh_kept : (m : State) → Holds m → (r : Ref) (v : Option Record) → get m.records r ≡ v → Holds (refresh r m v)
  refresh_kept m h r None e = h
  refresh_kept m h r (Some x) e = leased_kept m h r x e 0 None (inl refl)

  same_but_token : (m : State) → Holds m → (token : ℕ) → Holds (record m { token = token })
  same_but_token m h token = record {
    offers = record { given = h.offers.given; shown = h.offers.shown; below = h.offers.below; once = h.offers.once };
    holders = h.holders;
    records = h.records;
    orphans = h.orphans;
    right = h.right;
    stitched = h.stitched;
    numbers = numbers_from m (record m { token = token }) (le_refl _) (λ q k e. e) h.numbers;
    in_order = h.in_order;
    rows_in_order = h.rows_in_order;
    holders_in_order = h.holders_in_order;
  }

  pub take_kept : (m : State) → Holds m → (r : Ref) (now : ℕ) (v : Option Record) → get m.records r ≡ v → Holds (take s r now m v)
  take_kept m h r now None e = h
  take_kept m h r now (Some x) e = same_but_token _ (leased_kept m h r x e x.due (Some (record { token = m.token; expires = now + s.lease })) (inr refl)) (m.token + 1)

  pub get-without_key : {X : Type 0} (r : Ref) (m : Map X) (q : Ref) → get (without_key r m) q ≡ cond (same_text r q) None (get m q)
  get-without_key {X} r m q = find-over text_total text_antisymmetric q m (λ q x. cond (same_text r q) None (Some x)) ∙ go (same_text r q) (get m q)
    where
      go : (b : Bool) (v : Option X) → option_and_then (λ x. cond b None (Some x)) v ≡ cond b None v
      go true None = refl
      go true (Some x) = refl
      go false None = refl
      go false (Some x) = refl

  pub stitch_kept : (m : State) → Holds m → (order : StitchOrder) → Holds (put_stitch rules order m)
  stitch_kept m h order = at_cond Holds (is_ticket order.ticket (get m.marks order.reference) && same_option rules.same_parts (Some order.parts) (parts rules m order.reference)) _ m
      (λ is. record {
        offers = record { given = h.offers.given; shown = h.offers.shown; below = h.offers.below; once = h.offers.once };
        holders = h.holders;
        records = h.records;
        orphans = h.orphans;
        right = h.right;
        stitched = λ q. go q (same_option-is rules.same_parts rules.same_parts-is (Some order.parts) (parts rules m order.reference) (and_second (is_ticket order.ticket (get m.marks order.reference)) _ is)) (same_text q order.reference) refl;
        numbers = numbers_from m _ (le_refl _) (λ q k e. e) h.numbers;
        in_order = h.in_order;
        rows_in_order = h.rows_in_order;
        holders_in_order = h.holders_in_order;
      }) h
    where
      go : (q : Ref) → Some order.parts ≡ parts rules m order.reference → (b : Bool) → same_text q order.reference ≡ b
          → IsStitched rules (parts rules m q) (get (without_key order.reference m.marks) q) (get (put text_cmp order.reference (rules.doc order.parts) m.documents) q)
      go q p true is = subst (λ k. IsStitched rules (parts rules m k) (get (without_key order.reference m.marks) k) (get (put text_cmp order.reference (rules.doc order.parts) m.documents) k))
          (sym (same_is text_total text_antisymmetric q order.reference is))
          (subst (λ v. IsStitched rules v (get (without_key order.reference m.marks) order.reference) (get (put text_cmp order.reference (rules.doc order.parts) m.documents) order.reference)) p
          (inr (find-put_same text_total text_antisymmetric order.reference (rules.doc order.parts) m.documents)))
      go q p false is =
          subst (λ v. IsStitched rules (parts rules m q) v (get (put text_cmp order.reference (rules.doc order.parts) m.documents) q))
          (sym (get-without_key order.reference m.marks q ∙ ap (λ b. cond b None (get m.marks q)) (other_way q order.reference is)))
          (subst (λ v. IsStitched rules (parts rules m q) (get m.marks q) v) (sym (find-put_other text_total text_antisymmetric q order.reference (rules.doc order.parts) m.documents is)) (h.stitched q))

  -- the rows of all origins but one are as they were
  module _ (m : State) (h : Holds m) (o : Origin) (offers : Ref → Option Offered) (providers : Map ProviderInputs) (records : Map Record) (orphans : Map Orphan) where
    abbrev changed : State
    changed = record m { providers = providers; records = records; orphans = orphans }

    others : ((q : Origin) (r : Ref) → same_origin o q ≡ false → offered changed q r ≡ offered m q r) → AreOthers o offers changed
    others agree = record {
      given = λ a row e is. agree row.origin row.reference is ∙ h.offers.given a row e;
      shown = λ q r x is e. h.offers.shown q r x (sym (agree q r is) ∙ e);
      below = h.offers.below;
      once = h.offers.once;
    }

  module _ (m : State) (h : Holds m) (r : Ref) where
    abbrev n₁ : State
    n₁ = record m { records = without_key r m.records; orphans = without_key r m.orphans }

    forget_others : AreOthers (Entity r) (λ q. None) n₁
    forget_others = others m h (Entity r) (λ q. None) m.providers (without_key r m.records) (without_key r m.orphans) agree
      where
        agree : (o : Origin) (k : Ref) → same_origin (Entity r) o ≡ false → offered n₁ o k ≡ offered m o k
        agree (Provider p) k is = refl
        agree (Entity f) k is = ap (λ v. option_and_then (λ (x : Output). get x.offers k) (option_and_then (λ (x : Record). x.output) v))
            (get-without_key r m.records f ∙ ap (λ b. cond b None (get m.records f)) is)

    forget_none : (k : Ref) → offered n₁ (Entity r) k ≡ None
    forget_none k = ap (λ v. option_and_then (λ (x : Output). get x.offers k) (option_and_then (λ (x : Record). x.output) v))
        (get-without_key r m.records r ∙ ap (λ b. cond b None (get m.records r)) (same_self text_total text_antisymmetric r))

    forget_offers : AreOffers (forgotten r m)
    forget_offers = replaced_offers (Entity r) (λ q. None) n₁ forget_none forget_others [] (λ q x e. absurd (true≢false (sym (ap is_some e))))

    forget_right : (q : Ref) (x : Record) → get (without_key r m.records) q ≡ Some x → IsRight rules (work rules m q) x
    forget_right q x e = h.right q x (go (same_text r q) (sym (get-without_key r m.records q) ∙ e))
      where
        go : (b : Bool) → cond b None (get m.records q) ≡ Some x → get m.records q ≡ Some x
        go true e = absurd (true≢false (sym (ap is_some e)))
        go false e = e

    forget_number : (q : Ref) (k : ℕ) → its_number n₁ q ≡ Some k → its_number m q ≡ Some k
    forget_number q k e = go (same_text r q) (sym ((λ i. number_in (get-without_key r m.records q i) (get-without_key r m.orphans q i))) ∙ e)
      where
        go : (b : Bool) → number_in (cond b None (get m.records q)) (cond b None (get m.orphans q)) ≡ Some k → its_number m q ≡ Some k
        go true e = absurd (true≢false (sym (ap is_some e)))
        go false e = e

    forget_change : IsChange rules m (forgotten r m)
    forget_change = record { offers = forget_offers; right = forget_right; stitched = h.stitched; numbers = numbers_from m (forgotten r m) (le_refl _) forget_number h.numbers }

    forget_kept : Holds (forget rules r m)
    forget_kept = at_cond Holds (is_some (get m.records r) || is_some (get m.orphans r)) _ m (λ _. framed rules Deleted m (forgotten r m) forget_change) h

  get-put_all : (es items : Offers) (q : Ref) (f : Offered) → get (put_all es items) q ≡ Some f → (list_any (same_text q) (keys es) ≡ true) ⊎ (get items q ≡ Some f)
  get-put_all [] items q f e = inr e
  get-put_all (x ∷ es) items q f e = go (same_text q x.0) refl (get-put_all es items q f)
    where
      go : (b : Bool) → same_text q x.0 ≡ b → (get (put_all es items) q ≡ Some f → (list_any (same_text q) (keys es) ≡ true) ⊎ (get items q ≡ Some f))
          → ((b || list_any (same_text q) (keys es)) ≡ true) ⊎ (get items q ≡ Some f)
      go true is ih = inl refl
      go false is ih = ih (sym (find-put_other text_total text_antisymmetric q x.0 x.1 (put_all es items) is) ∙ e)

  module _ (m : State) (h : Holds m) (p : Text) (x : Given) where
    abbrev items : Offers
    items = items_after x (source_at (get m.providers p)).items

    abbrev sources : Map ProviderInputs
    sources = put text_cmp p (record { serial = x.serial; items = items }) m.providers

    abbrev n₂ : State
    n₂ = record m { providers = sources }

    mutate_others : AreOthers (Provider p) (get items) n₂
    mutate_others = others m h (Provider p) (get items) sources m.records m.orphans agree
      where
        agree : (o : Origin) (k : Ref) → same_origin (Provider p) o ≡ false → offered n₂ o k ≡ offered m o k
        agree (Provider q) k is = ap (option_and_then (λ (x : ProviderInputs). get x.items k))
            (find-put_other text_total text_antisymmetric q p (record { serial = x.serial; items = items }) m.providers (other_way p q is))
        agree (Entity f) k is = refl

    mutate_is : (k : Ref) → offered n₂ (Provider p) k ≡ get items k
    mutate_is k = ap (option_and_then (λ (x : ProviderInputs). get x.items k)) (find-put_same text_total text_antisymmetric p (record { serial = x.serial; items = items }) m.providers)

    -- an item that isn't in the mutation was there before
    old_item : (q : Ref) (f : Offered) → get (cond x.full [] (without x.removed (source_at (get m.providers p)).items)) q ≡ Some f → offered m (Provider p) q ≡ Some f
    old_item q f e = source (get m.providers p) (go x.full e)
      where
        go : (b : Bool) → get (cond b [] (without x.removed (source_at (get m.providers p)).items)) q ≡ Some f → get (source_at (get m.providers p)).items q ≡ Some f
        go true e = absurd (true≢false (sym (ap is_some e)))
        go false e = kept (list_any (same_text q) x.removed) (get (source_at (get m.providers p)).items q)
            (sym (find-over text_total text_antisymmetric q (source_at (get m.providers p)).items (λ r x'. cond (list_any (same_text r) x.removed) None (Some x'))) ∙ e)
          where
            kept : (b : Bool) (v : Option Offered) → option_and_then (λ x. cond b None (Some x)) v ≡ Some f → v ≡ Some f
            kept b None e = e
            kept true (Some y) e = absurd (true≢false (sym (ap is_some e)))
            kept false (Some y) e = e

        source : (v : Option ProviderInputs) → get (source_at v).items q ≡ Some f → option_and_then (λ (x : ProviderInputs). get x.items q) v ≡ Some f
        source None e = absurd (true≢false (sym (ap is_some e)))
        source (Some y) e = e

    mutate_offers : AreOffers (mutated_state p x (source_at (get m.providers p)) m)
    mutate_offers = replaced_offers (Provider p) (get items) n₂ mutate_is mutate_others (keys x.items)
        (λ q f e. ⊎_elim inl (λ old. inr (kept_own (Provider p) (get items) n₂ mutate_is mutate_others q f (h.offers.shown (Provider p) q f (old_item q f old)) f e refl))
        (get-put_all x.items (cond x.full [] (without x.removed (source_at (get m.providers p)).items)) q f e))

    mutate_kept : Holds (mutate rules p x m (source_at (get m.providers p)))
    mutate_kept = at_cond Holds (nat_lt (source_at (get m.providers p)).serial x.serial) _ m
        (λ _. framed rules Deleted m (mutated_state p x (source_at (get m.providers p)) m) (record { offers = mutate_offers; right = h.right; stitched = h.stitched; numbers = numbers_from m _ (le_refl _) (λ q k e. e) h.numbers })) h

  module _ (m : State) (h : Holds m) (order : Order) (now : ℕ) (x : Record) (e : get m.records order.reference ≡ Some x) (same : work rules m order.reference ≡ Some order.work) where
    abbrev r : Ref
    r = order.reference

    abbrev z : Outcome → Record
    z u = finished_record s now x u

    finish_is : (u : Outcome) → rules.result order.work ≡ u → IsRight rules (work rules m r) (z u)
    finish_is u is = subst (λ w. IsRight rules w (z u)) (sym same) (inr (subst (λ v. IsOutcome v (z u)) (sym is) (own u)))
      where
        own : (u : Outcome) → IsOutcome u (z u)
        own (Good output issues) = (refl, refl)
        own (Bad issues) = refl

    pub finish_change : (u : Outcome) → rules.result order.work ≡ u → IsChange rules m (finished_state s r now x u m)
    finish_change (Bad issues) is = record {
      offers = put_offers m h r (z (Bad issues)) x e refl;
      right = put_right m h r (z (Bad issues)) (finish_is (Bad issues) is);
      stitched = h.stitched;
      numbers = numbers_from (with_record r (z (Bad issues)) m) _ (le_refl _) (λ q k e. e) (put_numbers m h r (z (Bad issues)) x e refl);
    }
    finish_change (Good output issues) is = record {
      offers = replaced_offers (Entity r) (get output.offers) n₃ own good_others (keys output.offers) (λ q f e. inl (found_key text_total text_antisymmetric q output.offers f e));
      right = put_right m h r y' (finish_is (Good output issues) is);
      stitched = h.stitched;
      numbers = numbers_from (with_record r y' m) _ (le_refl _) (λ q k e. e) (put_numbers m h r y' x e refl);
    }
      where
        y' : Record
        y' = z (Good output issues)

        n₃ : State
        n₃ = with_record r y' m

        own : (k : Ref) → offered n₃ (Entity r) k ≡ get output.offers k
        own k = ap (λ v. option_and_then (λ (x : Output). get x.offers k) (option_and_then (λ (x : Record). x.output) v)) (find-put_same text_total text_antisymmetric r y' m.records)

        good_others : AreOthers (Entity r) (get output.offers) n₃
        good_others = others m h (Entity r) (get output.offers) m.providers (put text_cmp r y' m.records) m.orphans agree
          where
            agree : (o : Origin) (k : Ref) → same_origin (Entity r) o ≡ false → offered n₃ o k ≡ offered m o k
            agree (Provider p) k is = refl
            agree (Entity f) k is = ap (λ v. option_and_then (λ (x : Output). get x.offers k) (option_and_then (λ (x : Record). x.output) v))
                (find-put_other text_total text_antisymmetric f r y' m.records (other_way r f is))

    own_offers : (output : Output) (issues : Issues) (k : Ref) → offered (with_record r (z (Good output issues)) m) (Entity r) k ≡ get output.offers k
    own_offers output issues k = ap (λ v. option_and_then (λ (x : Output). get x.offers k) (option_and_then (λ (x : Record). x.output) v)) (find-put_same text_total text_antisymmetric r (z (Good output issues)) m.records)

    other_offers : (output : Output) (issues : Issues) → AreOthers (Entity r) (get output.offers) (with_record r (z (Good output issues)) m)
    other_offers output issues = others m h (Entity r) (get output.offers) m.providers (put text_cmp r (z (Good output issues)) m.records) m.orphans agree
      where
        agree : (o : Origin) (k : Ref) → same_origin (Entity r) o ≡ false → offered (with_record r (z (Good output issues)) m) o k ≡ offered m o k
        agree (Provider p) k is = refl
        agree (Entity f) k is = ap (λ v. option_and_then (λ (x : Output). get x.offers k) (option_and_then (λ (x : Record). x.output) v))
            (find-put_other text_total text_antisymmetric f r (z (Good output issues)) m.records (other_way r f is))

    -- the rows of other origins stay, and those that stay are of the same references
    pub finish_rows : (u : Outcome) (a : ℕ) (row : Row) → row_at m.rows a ≡ Some row → same_origin (Entity r) row.origin ≡ false → row_at (finished_state s r now x u m).rows a ≡ Some row
    finish_rows (Bad issues) a row e h = e
    finish_rows (Good output issues) a row e h =
        other_rows (Entity r) (get output.offers) (with_record r (z (Good output issues)) m) (own_offers output issues) (other_offers output issues) (keys output.offers) a row e h

    pub finish_names : (u : Outcome) (a : ℕ) (w row : Row) → row_at m.rows a ≡ Some w → row_at (finished_state s r now x u m).rows a ≡ Some row → row.reference ≡ w.reference
    finish_names (Bad issues) a w row e h = sym (ap (λ v. (unwrap_or v w).reference) (sym e ∙ h))
    finish_names (Good output issues) a w row e h =
        same_reference (Entity r) (get output.offers) (with_record r (z (Good output issues)) m) (own_offers output issues) (other_offers output issues) (keys output.offers) a w row e h

  finish_kept : (m : State) → Holds m → (order : Order) (now : ℕ) (v : Option Record) → get m.records order.reference ≡ v → Holds (finish rules s order now m v)
  finish_kept m h order now None e = h
  finish_kept m h order now (Some x) e = at_cond Holds (is_present rules m order x) _ m
      (λ is. framed rules (leaving s.orphans) m (finished_state s order.reference now x (rules.result order.work) m)
      (finish_change m h order now x e (sym (same_option-is rules.same_work rules.same_work-is (Some order.work) (work rules m order.reference) (and_second (has_token order.token x.lease) _ is))) (rules.result order.work) refl)) h

  take_next_kept : (m : State) → Holds m → (now : ℕ) (v : Option Ref) → Holds (take_next s now m v)
  take_next_kept m h now None = h
  take_next_kept m h now (Some r) = take_kept m h r now (get m.records r) refl

  forget_at_kept : (m : State) → Holds m → (v : Option Ref) → Holds (forget_at rules m v)
  forget_at_kept m h None = h
  forget_at_kept m h (Some r) = forget_kept m h r

  change_kept : (e : Event) (m : State) → Holds m → Holds (change rules s e m)
  change_kept (Mutate p x) m h = mutate_kept m h p x
  change_kept (ShelfPut name text) m h = put_kept m h name text
  change_kept (ShelfDrop name) m h = drop_kept m h name
  change_kept (Refresh r) m h = refresh_kept m h r (get m.records r) refl
  change_kept (Forget r) m h = forget_kept m h r
  change_kept (ForgetNumber number) m h = forget_at_kept m h (ref_at m number)
  change_kept (Take now) m h = take_next_kept m h now (next_taken now m)
  change_kept (TakeAt r now) m h = take_kept m h r now (get m.records r) refl
  change_kept (Finish order now) m h = finish_kept m h order now (get m.records order.reference) refl
  change_kept (PutStitch order) m h = stitch_kept m h order

  pub step_kept : (e : Event) (m : State) → Holds m → Holds (step rules s e m)
  unfolding step
  step_kept e m h = at_cond Holds (is_some (refusal rules s e m)) m (change rules s e m) (λ _. h) (change_kept e m h)

  pub run_kept : (es : List Event) (m : State) → Holds m → Holds (run rules s es m)
  run_kept [] m h = h
  run_kept (e ∷ es) m h = run_kept es (step rules s e m) (step_kept e m h)

  pub start_kept : Sound rules start
  start_kept = record {
    offers = record { given = λ a row e. absurd (nothing e); shown = no_offer; below = λ a row e. absurd (nothing e); once = λ a b row other e f o r. absurd (nothing e) };
    holders = record { rows_of = λ r a e. absurd (nothing e); all_rooted = λ r e. absurd (true≢false (sym e)); all_held = λ a row e. absurd (nothing e) };
    records = λ r. refl;
    orphans = λ r e. refl;
    right = λ r x e. absurd (nothing e);
    stitched = λ r. (refl, refl);
    numbers = record { begun = omega arith; from_one = λ r k e. absurd (nothing e); below = λ r k e. absurd (nothing e); differ = λ r q k e e'. absurd (nothing e) };
    in_order = tt;
    rows_in_order = tt;
    holders_in_order = tt;
  }
    where
      nothing : {A : Type 0} {x : A} → None ≡ Some x → ⊥
      nothing e = true≢false (sym (ap is_some e))

      no_offer : (o : Origin) (r : Ref) (x : Offered) → offered start o r ≡ Some x → HasRow [] o r x
      no_offer (Provider p) r x e = absurd (nothing e)
      no_offer (Entity f) r x e = absurd (nothing e)

  fault_not : (b : Bool) (fault : Fault) → fault_where b fault ≡ None → b ≡ false
  fault_not true fault e = absurd (true≢false (ap is_some e))
  fault_not false fault e = refl

  else_first : (v w : Option Fault) → or_else v w ≡ None → v ≡ None
  else_first None w e = refl
  else_first (Some x) w e = e

  else_second : (v w : Option Fault) → or_else v w ≡ None → w ≡ None
  else_second None w e = e
  else_second (Some x) w e = absurd (true≢false (ap is_some e))

  unspent : (n : State) → spent n ≡ None → AreSmall n
  unspent n e =
      let a = else_first (fault_where (nat_lt (2 ^ 59) n.arrival) (Spent Arrival)) _ e in
      let r = else_second (fault_where (nat_lt (2 ^ 59) n.arrival) (Spent Arrival)) _ e in
      let b = else_first (fault_where (nat_lt (2 ^ 59) n.number) (Spent Number)) _ r in
      let t = else_second (fault_where (nat_lt (2 ^ 59) n.number) (Spent Number)) _ r in
      let c = else_first (fault_where (nat_lt (2 ^ 59) n.token) (Spent Token)) _ t in
      let d = else_second (fault_where (nat_lt (2 ^ 59) n.token) (Spent Token)) _ t in
      record { arrival = le n.arrival (fault_not _ _ a); number = le n.number (fault_not _ _ b); token = le n.token (fault_not _ _ c); ticket = le n.ticket (fault_not _ _ d) }
    where
      le : (k : ℕ) → nat_lt (2 ^ 59) k ≡ false → k ≤ 2 ^ 59
      le k e = grind (arith, nat_tests)

  -- no counter passes its bound
  pub step_small : (e : Event) (m : State) → AreSmall m → AreSmall (step rules s e m)
  unfolding step
  step_small e m h = go (refusal rules s e m) refl
    where
      go : (v : Option Fault) → refusal rules s e m ≡ v → AreSmall (cond (is_some v) m (change rules s e m))
      go None is = unspent (change rules s e m) (else_second (too_large rules s e m (change rules s e m)) _ (else_second (not_found rules e m) _ is))
      go (Some x) is = h

  pub run_small : (es : List Event) (m : State) → AreSmall m → AreSmall (run rules s es m)
  run_small [] m h = h
  run_small (e ∷ es) m h = run_small es (step rules s e m) (step_small e m h)
