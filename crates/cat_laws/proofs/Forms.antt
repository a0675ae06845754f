-- What is kept has its form.
use Rattle.std.proofs.Common.{◌<◌, ◌^◌, ◌≡◌, ℕ, ◌+◌, ◌≤◌, Bool, true, false, cond, ◌||◌, ◌⊎◌, inl, inr, ⊎_elim, List, [], ◌∷◌, ◌++◌, refl, sym, ap, subst, ◌∙◌, is_some, nat_lt, unwrap_or, true≢false, arith, nat_cmp}
use Rattle.std.specs.Prelude.{T}
use Rattle.std.specs.declared.option.Option.{Option}
use Rattle.std.specs.declared.option.Option.TheVariants.{None, Some}
use Rattle.std.specs.Option.{option_and_then, option_map}
use Rattle.std.specs.Ordering.{eq_by_cmp}
use Rattle.std.specs.List.{list_any}
use Rattle.std.specs.FinMap.Entries.{is_sorted, is_sorted-put}
use Rattle.std.specs.Cmp.{nat_cmp_total}
use Rattle.std.specs.FinMap.{nat_cmp-IsAntisymmetric}
use Rattle.cat_collections.specs.Table.{Text, Map, same_text, text_cmp, get, keys, put, over, place}
use Rattle.cat_types.specs.declared.input.Offered.{Offered}
use Rattle.cat_types.specs.declared.issue.Issue.{Issue}
use Rattle.cat_types.specs.declared.parts.Parts.{Parts}
use Rattle.cat_types.specs.declared.work.Output.{Output}
use Rattle.cat_types.specs.declared.work.Outcome.{Outcome}
use Rattle.cat_types.specs.declared.work.Work.{Work}
use Rattle.cat_types.specs.declared.work.Outcome.TheVariants.{Good, Bad}
use Rattle.cat_collections.proofs.Tables.{text_total, text_antisymmetric, same_is, and_second, find-put_same, find-put_other, find-tabulate, find-over, is_sorted-tabulate}
use Rattle.cat_model.specs.declared.types.State.{State}
use Rattle.cat_model.specs.declared.types.Record.{Record}
use Rattle.cat_model.specs.declared.types.Orphan.{Orphan}
use Rattle.cat_model.specs.declared.types.Lease.{Lease}
use Rattle.cat_model.specs.declared.types.Row.{Row}
use Rattle.cat_model.specs.declared.types.Origin.{Origin}
use Rattle.cat_model.specs.declared.types.Origin.TheVariants.{Provider, Entity}
use Rattle.cat_model.specs.declared.types.Leaving.{Leaving}
use Rattle.cat_model.specs.declared.types.Leaving.TheVariants.{Deleted, Orphaned}
use Rattle.cat_model.specs.declared.types.Numbered.{Numbered}
use Rattle.cat_model.specs.declared.types.Settings.{Settings}
use Rattle.cat_model.specs.declared.types.Given.{Given}
use Rattle.cat_model.specs.declared.types.Order.{Order}
use Rattle.cat_model.specs.declared.types.StitchOrder.{StitchOrder}
use Rattle.cat_model.specs.declared.types.ProviderInputs.{ProviderInputs}
use Rattle.cat_model.specs.Catalogue.{Ref, Offers, Rules, Rows, row_at, held, holding, work, work_of, parts, same_option, frame, reheld, rerecorded, record_after, fresh_refs, orphan_after, orphan_from_record, orphan_from_output, mark_after, document_after, changed_refs, known_refs, due_now, parts_from, parts_of_record, records_emit}
use Rattle.cat_model.specs.Sound.{AreSmall, Sound, its_number, number_in, offered}
use Rattle.cat_model.specs.Formed.{FormRules, IsPartsOf, IsWorkOf, IsSource, IsKept, Formed, IsFormedGiven, IsFormedEvent, AreFormedEvents}
use Rattle.cat_model.specs.Step.{row_after, add_offer, add_offers, has_row, replaced, put_all, without, source_at, items_after, leased, with_record, without_key, forgotten, finished_record, finished_state, leaving, has_token, is_present, finish, mutated_state, refresh, take, take_next, next_taken, forget, forget_at, ref_at, is_present_stitch, put_stitch, Event, change, refusal, step, run, start, reopened}
use Rattle.cat_model.specs.Step.Event.{Mutate, ShelfPut, ShelfDrop, Refresh, Forget, ForgetNumber, Take, TakeAt, Finish, PutStitch}
use Rattle.cat_model.specs.Settle.{IsSettleEvent, AreSettleEvents, try_settle, width, not_begun}
use Rattle.cat_model.proofs.Holding.{stood}
use Rattle.cat_model.proofs.Frame.{same_option-is}
use Rattle.cat_laws.proofs.Steps.{get-without_key, step_kept}
use Rattle.cat_laws.proofs.Settled.{split_holding}
use Rattle.cat_laws.proofs.Plan.{exec_settle, settle_plan}
use Rattle.cat_laws.proofs.Cut.{exec_extends, fits_settle}

at_cond : {A : Type 0} (P : A → Type 0) (b : Bool) (x y : A) → (b ≡ true → P x) → P y → P (cond b x y)
at_cond P true x y p q = p refl
at_cond P false x y p q = q

nothing : {A X : Type 0} {x : X} → None ≡ Some x → A
nothing e = absurd (true≢false (sym (ap is_some e)))

-- ---- arrivals

put_from : (k : ℕ) (x : Row) (rows : Rows) → 1 ≤ k → ((a : ℕ) (row : Row) → row_at rows a ≡ Some row → 1 ≤ a) → (a : ℕ) (row : Row) → row_at (put nat_cmp k x rows) a ≡ Some row → 1 ≤ a
put_from k x rows le h a row e = go (eq_by_cmp nat_cmp a k) refl
  where
    go : (b : Bool) → eq_by_cmp nat_cmp a k ≡ b → 1 ≤ a
    go true is = subst (λ j. 1 ≤ j) (sym (same_is nat_cmp_total nat_cmp-IsAntisymmetric a k is)) le
    go false is = h a row (sym (find-put_other nat_cmp_total nat_cmp-IsAntisymmetric a k x rows is) ∙ e)

over_from : (rows : Rows) (f : ℕ → Row → Option Row) → ((a : ℕ) (row : Row) → row_at rows a ≡ Some row → 1 ≤ a) → (a : ℕ) (row : Row) → row_at (over nat_cmp rows f) a ≡ Some row → 1 ≤ a
over_from rows f h a row e = go (row_at rows a) refl (sym (find-over nat_cmp_total nat_cmp-IsAntisymmetric a rows f) ∙ e)
  where
    go : (v : Option Row) → row_at rows a ≡ v → option_and_then (f a) v ≡ Some row → 1 ≤ a
    go None is e = nothing e
    go (Some x) is e = h a x is

record IsFrom (x : Numbered) : Type 0 where
  next : 1 ≤ x.next
  rows : (a : ℕ) (row : Row) → row_at x.rows a ≡ Some row → 1 ≤ a

offer_from : (o : Origin) (r : Ref) (v : Option Offered) (x : Numbered) → IsFrom x → IsFrom (add_offer o r v x)
offer_from o r None x h = h
offer_from o r (Some f) x h = at_cond IsFrom (has_row x.rows o r) x _ (λ is. h)
    (record { next = let n = h.next in omega arith; rows = put_from x.next (record { origin = o; reference = r; offered = f }) x.rows h.next h.rows })

offers_from : (o : Origin) (offers : Ref → Option Offered) (rs : List Ref) (x : Numbered) → IsFrom x → IsFrom (add_offers o offers rs x)
offers_from o offers [] x h = h
offers_from o offers (r ∷ rs) x h = offers_from o offers rs (add_offer o r (offers r) x) (offer_from o r (offers r) x h)

replaced_from : (o : Origin) (offers : Ref → Option Offered) (rs : List Ref) (m : State) → 1 ≤ m.arrival → ((a : ℕ) (row : Row) → row_at m.rows a ≡ Some row → 1 ≤ a) → IsFrom (replaced o offers rs m)
replaced_from o offers rs m le h = offers_from o offers rs (record { rows = over nat_cmp m.rows (λ a row. row_after o offers row); next = m.arrival })
    (record { next = le; rows = over_from m.rows (λ a row. row_after o offers row) h })

-- ---- the items of a mutation

get-put_all : (es items : Offers) (q : Ref) (f : Offered) → get (put_all es items) q ≡ Some f → (get es q ≡ Some f) ⊎ (get items q ≡ Some f)
get-put_all [] items q f e = inr e
get-put_all (x ∷ es) items q f e = go (same_text q x.0) refl (get-put_all es items q f)
  where
    go : (b : Bool) → same_text q x.0 ≡ b → (get (put_all es items) q ≡ Some f → (get es q ≡ Some f) ⊎ (get items q ≡ Some f)) → (cond b (Some x.1) (get es q) ≡ Some f) ⊎ (get items q ≡ Some f)
    go true is ih = inl (sym (find-put_same text_total text_antisymmetric x.0 x.1 (put_all es items)) ∙ sym (ap (get (put text_cmp x.0 x.1 (put_all es items))) (same_is text_total text_antisymmetric q x.0 is)) ∙ e)
    go false is ih = ih (sym (find-put_other text_total text_antisymmetric q x.0 x.1 (put_all es items) is) ∙ e)

put_all-sorted : (es items : Offers) → T (is_sorted text_cmp items) → T (is_sorted text_cmp (put_all es items))
put_all-sorted [] items h = h
put_all-sorted (x ∷ es) items h = is_sorted-put text_cmp text_total x.0 x.1 (put_all es items) (put_all-sorted es items h)

without-sorted : (refs : List Ref) (items : Offers) → T (is_sorted text_cmp (without refs items))
without-sorted refs items = is_sorted-tabulate text_total text_antisymmetric (keys items) (λ k. option_and_then (λ x. cond (list_any (same_text k) refs) None (Some x)) (get items k))

without_key-sorted : {X : Type 0} (r : Ref) (m : Map X) → T (is_sorted text_cmp (without_key r m))
without_key-sorted r m = is_sorted-tabulate text_total text_antisymmetric (keys m) (λ k. option_and_then (λ x. cond (same_text r k) None (Some x)) (get m k))

base-sorted : (x : Given) (items : Offers) → T (is_sorted text_cmp (cond x.full [] (without x.removed items)))
base-sorted x items = at_cond (λ (y : Offers). T (is_sorted text_cmp y)) x.full [] (without x.removed items) (λ is. tt) (without-sorted x.removed items)

in_base : (x : Given) (items : Offers) (q : Ref) (f : Offered) → get (cond x.full [] (without x.removed items)) q ≡ Some f → get items q ≡ Some f
in_base x items q f e = go x.full e
  where
    kept : (b : Bool) (v : Option Offered) → option_and_then (λ x. cond b None (Some x)) v ≡ Some f → v ≡ Some f
    kept b None e = e
    kept true (Some y) e = nothing e
    kept false (Some y) e = e

    go : (b : Bool) → get (cond b [] (without x.removed items)) q ≡ Some f → get items q ≡ Some f
    go true e = nothing e
    go false e = kept (list_any (same_text q) x.removed) (get items q) (sym (find-over text_total text_antisymmetric q items (λ r x'. cond (list_any (same_text r) x.removed) None (Some x'))) ∙ e)

module _ (rules : Rules) (form : FormRules rules) where
  -- what the frame needs
  record Base (n : State) : Type 0 where
    begun : 1 ≤ n.arrival
    arrivals : (a : ℕ) (row : Row) → row_at n.rows a ≡ Some row → 1 ≤ a
    providers : (p : Text) (x : ProviderInputs) → get n.providers p ≡ Some x → IsSource form p x
    shelf : (name text : Text) → get n.shelf name ≡ Some text → form.is_shelf_name name ≡ true
    outputs : (r : Ref) (x : Record) (output : Output) → get n.records r ≡ Some x → x.output ≡ Some output → IsKept form r output
    orphans : (r : Ref) (x : Orphan) → get n.orphans r ≡ Some x → form.is_entity x.entity r ≡ true
    providers_in_order : T (is_sorted text_cmp n.providers)
    shelf_in_order : T (is_sorted text_cmp n.shelf)

  framed_form : (how : Leaving) (m n : State) → Base n → Formed form (frame rules how m n)
  framed_form how m n b = record {
    begun = b.begun;
    arrivals = λ a row e. b.arrivals a row (stood n.rows n.holders a row e).0;
    providers = b.providers;
    shelf = b.shelf;
    outputs = outputs;
    orphans = orphans;
    providers_in_order = b.providers_in_order;
    shelf_in_order = b.shelf_in_order;
    orphans_in_order = is_sorted-tabulate text_total text_antisymmetric (keys n.orphans ++ keys n.records) (λ r. orphan_after how (held (reheld n).holders r) (get n.records r) (get n.orphans r));
    marks_in_order = is_sorted-tabulate text_total text_antisymmetric (known_refs (rerecorded rules how m n (reheld n))) (λ r. mark_after (n.ticket + place text_cmp r (changed_refs rules m (rerecorded rules how m n (reheld n)))) (parts rules (rerecorded rules how m n (reheld n)) r) (same_option rules.same_parts (parts rules m r) (parts rules (rerecorded rules how m n (reheld n)) r)) (get n.marks r));
    documents_in_order = is_sorted-tabulate text_total text_antisymmetric (keys n.documents) (λ k. option_and_then (λ document. document_after (parts rules (rerecorded rules how m n (reheld n)) k) document) (get n.documents k));
  }
    where
      after_output : (r : Ref) (drawn : ℕ) (orphan : Option Orphan) (same : Bool) (v : Option Record) → get n.records r ≡ v → (output : Output) → (record_after drawn orphan same v).output ≡ Some output → IsKept form r output
      after_output r drawn orphan same None is output o = nothing o
      after_output r drawn orphan true (Some y) is output o = b.outputs r y output is o
      after_output r drawn orphan false (Some y) is output o = b.outputs r y output is o

      outputs : (r : Ref) (x : Record) (output : Output) → get (frame rules how m n).records r ≡ Some x → x.output ≡ Some output → IsKept form r output
      outputs r x output e o = go (list_any (same_text r) (keys (reheld n).holders))
          (sym (find-tabulate text_total text_antisymmetric r (keys (reheld n).holders) (λ r. Some (record_after (n.number + place text_cmp r (fresh_refs n (reheld n).holders)) (get n.orphans r) (same_option rules.same_work (work rules m r) (work rules (reheld n) r)) (get n.records r)))) ∙ e)
        where
          go : (c : Bool) → cond c (Some (record_after (n.number + place text_cmp r (fresh_refs n (reheld n).holders)) (get n.orphans r) (same_option rules.same_work (work rules m r) (work rules (reheld n) r)) (get n.records r))) None ≡ Some x → IsKept form r output
          go true e = after_output r _ (get n.orphans r) (same_option rules.same_work (work rules m r) (work rules (reheld n) r)) (get n.records r) refl output (ap (λ v. (unwrap_or v x).output) e ∙ o)
          go false e = nothing e

      of_output : (r : Ref) (y : Record) (v : Option Output) → get n.records r ≡ Some y → y.output ≡ v → (x : Orphan) → orphan_from_output y.number v ≡ Some x → form.is_entity x.entity r ≡ true
      of_output r y None is o x e = nothing e
      of_output r y (Some output) is o x e = subst (λ t. form.is_entity t r ≡ true) (ap (λ v. (unwrap_or v x).entity) e) (b.outputs r y output is o).entity

      of_record : (how : Leaving) (r : Ref) (y : Record) → get n.records r ≡ Some y → (x : Orphan) → orphan_from_record how y ≡ Some x → form.is_entity x.entity r ≡ true
      of_record Deleted r y is x e = nothing e
      of_record Orphaned r y is x e = of_output r y y.output is refl x e

      after_orphan : (r : Ref) (c : Bool) (v : Option Record) → get n.records r ≡ v → (o : Option Orphan) → get n.orphans r ≡ o → (x : Orphan) → orphan_after how c v o ≡ Some x → form.is_entity x.entity r ≡ true
      after_orphan r true v is o oi x e = nothing e
      after_orphan r false None is o oi x e = b.orphans r x (oi ∙ e)
      after_orphan r false (Some y) is o oi x e = of_record how r y is x e

      orphans : (r : Ref) (x : Orphan) → get (frame rules how m n).orphans r ≡ Some x → form.is_entity x.entity r ≡ true
      orphans r x e = go (list_any (same_text r) (keys n.orphans ++ keys n.records))
          (sym (find-tabulate text_total text_antisymmetric r (keys n.orphans ++ keys n.records) (λ r. orphan_after how (held (reheld n).holders r) (get n.records r) (get n.orphans r))) ∙ e)
        where
          go : (c : Bool) → cond c (orphan_after how (held (reheld n).holders r) (get n.records r) (get n.orphans r)) None ≡ Some x → form.is_entity x.entity r ≡ true
          go true e = after_orphan r (held (reheld n).holders r) (get n.records r) refl (get n.orphans r) refl x e
          go false e = nothing e

  -- a key is taken away
  gone : {X : Type 0} (s : Settings) (r : Ref) (m : Map X) (q : Ref) (x : X) → get (without_key r m) q ≡ Some x → get m q ≡ Some x
  gone {X} s r m q x e = go (same_text r q) (sym (get-without_key rules s r m q) ∙ e)
    where
      go : (b : Bool) → cond b None (get m q) ≡ Some x → get m q ≡ Some x
      go true e = nothing e
      go false e = e

  -- a value is put
  at_put : {X : Type 0} (P : Text → X → Type 0) (k : Text) (x : X) (m : Map X) → P k x → ((q : Text) (y : X) → get m q ≡ Some y → P q y) → (q : Text) (y : X) → get (put text_cmp k x m) q ≡ Some y → P q y
  at_put {X} P k x m new old q y e = go (same_text q k) refl
    where
      go : (b : Bool) → same_text q k ≡ b → P q y
      go true is =
          let same : q ≡ k = same_is text_total text_antisymmetric q k is in
          let value : x ≡ y = ap (λ v. unwrap_or v x) (sym (find-put_same text_total text_antisymmetric k x m) ∙ sym (ap (get (put text_cmp k x m)) same) ∙ e) in
          subst (λ j. P j y) (sym same) (subst (P k) value new)
      go false is = old q y (sym (find-put_other text_total text_antisymmetric q k x m is) ∙ e)

  module _ (s : Settings) (m : State) (sound : Sound rules m) (h : Formed form m) where
    base_shelf : (name text : Text) → form.is_shelf_name name ≡ true → Base (record m { shelf = put text_cmp name text m.shelf })
    base_shelf name text is = record {
      begun = h.begun;
      arrivals = h.arrivals;
      providers = h.providers;
      shelf = at_put (λ k t. form.is_shelf_name k ≡ true) name text m.shelf is h.shelf;
      outputs = h.outputs;
      orphans = h.orphans;
      providers_in_order = h.providers_in_order;
      shelf_in_order = is_sorted-put text_cmp text_total name text m.shelf h.shelf_in_order;
    }

    base_drop : (name : Text) → Base (record m { shelf = without_key name m.shelf })
    base_drop name = record {
      begun = h.begun;
      arrivals = h.arrivals;
      providers = h.providers;
      shelf = λ k t e. h.shelf k t (gone s name m.shelf k t e);
      outputs = h.outputs;
      orphans = h.orphans;
      providers_in_order = h.providers_in_order;
      shelf_in_order = without_key-sorted name m.shelf;
    }

    base_forgotten : (r : Ref) → Base (forgotten r m)
    base_forgotten r = record {
      begun = h.begun;
      arrivals = over_from m.rows (λ a row. row_after (Entity r) (λ q. None) row) h.arrivals;
      providers = h.providers;
      shelf = h.shelf;
      outputs = λ q x output e o. h.outputs q x output (gone s r m.records q x e) o;
      orphans = λ q x e. h.orphans q x (gone s r m.orphans q x e);
      providers_in_order = h.providers_in_order;
      shelf_in_order = h.shelf_in_order;
    }

    source_items : (p : Text) (v : Option ProviderInputs) → get m.providers p ≡ v → (r : Ref) (y : Offered) → get (source_at v).items r ≡ Some y → form.is_item y r ≡ true
    source_items p None is r y e = nothing e
    source_items p (Some x) is r y e = (h.providers p x is).items r y e

    base_mutated : (p : Text) (x : Given) → IsFormedGiven form p x → Base (mutated_state p x (source_at (get m.providers p)) m)
    base_mutated p x g =
        let items = items_after x (source_at (get m.providers p)).items in
        let from = replaced_from (Provider p) (get items) (keys x.items) (record m { providers = put text_cmp p (record { serial = x.serial; items = items }) m.providers }) h.begun h.arrivals in
        record {
          begun = from.next;
          arrivals = from.rows;
          providers = at_put (λ q y. IsSource form q y) p (record { serial = x.serial; items = items }) m.providers
              (record {
                name = g.name;
                begun = g.begun;
                small = g.small;
                items = λ r y e. ⊎_elim (λ new. g.items r y new) (λ old. source_items p (get m.providers p) refl r y (in_base x (source_at (get m.providers p)).items r y old))
                    (get-put_all x.items (cond x.full [] (without x.removed (source_at (get m.providers p)).items)) r y e);
                in_order = put_all-sorted x.items (cond x.full [] (without x.removed (source_at (get m.providers p)).items)) (base-sorted x (source_at (get m.providers p)).items);
              })
              h.providers;
          shelf = h.shelf;
          outputs = h.outputs;
          orphans = h.orphans;
          providers_in_order = is_sorted-put text_cmp text_total p (record { serial = x.serial; items = items }) m.providers h.providers_in_order;
          shelf_in_order = h.shelf_in_order;
        }

    -- what is offered may stand under its reference
    offered_form : (o : Origin) (r : Ref) (y : Offered) → offered m o r ≡ Some y → form.is_item y r ≡ true
    offered_form (Provider p) r y e = go (get m.providers p) refl e
      where
        go : (v : Option ProviderInputs) → get m.providers p ≡ v → option_and_then (λ (x : ProviderInputs). get x.items r) v ≡ Some y → form.is_item y r ≡ true
        go None is e = nothing e
        go (Some x) is e = (h.providers p x is).items r y e
    offered_form (Entity q) r y e = go (get m.records q) refl e
      where
        at : (x : Record) → get m.records q ≡ Some x → (v : Option Output) → x.output ≡ v → option_and_then (λ (x : Output). get x.offers r) v ≡ Some y → form.is_item y r ≡ true
        at x is None o e = nothing e
        at x is (Some output) o e = (h.outputs q x output is o).offers r y e

        go : (v : Option Record) → get m.records q ≡ v → option_and_then (λ (x : Output). get x.offers r) (option_and_then (λ (x : Record). x.output) v) ≡ Some y → form.is_item y r ≡ true
        go None is e = nothing e
        go (Some x) is e = at x is x.output refl e

    -- a reference's work is that of an offer that may stand under it
    pub work_form : (r : Ref) (w : Work) → work rules m r ≡ Some w → IsWorkOf form m r w
    work_form r w is = at (holding m.rows m.holders r) refl is
      where
        at : (v : Option Row) → holding m.rows m.holders r ≡ v → option_map (λ (row : Row). work_of rules m.shelf row.offered.tree) v ≡ Some w → IsWorkOf form m r w
        at None e i = nothing i
        at (Some row) e i =
            let a = split_holding m.rows m.holders r row e in
            let v = sound.holders.rows_of r a.0 a.1 in
            let same : row ≡ v.row = ap (λ u. unwrap_or u row) (sym a.2 ∙ v.at) in
            let names : row.reference ≡ r = ap (λ (x : Row). x.reference) same ∙ v.names in
            record {
              offer = row.offered;
              is = subst (λ j. form.is_item row.offered j ≡ true) names (offered_form row.origin row.reference row.offered (sound.offers.given a.0 row a.2));
              work = ap (λ u. unwrap_or u w) (sym i);
            }

    -- a good result of a reference's work has its form
    result_form : (r : Ref) (w : Work) → work rules m r ≡ Some w → (output : Output) (issues : List Issue) → rules.result w ≡ Good output issues → IsKept form r output
    result_form r w is output issues good =
        let x = work_form r w is in
        let result : rules.result (work_of rules m.shelf x.offer.tree) ≡ Good output issues = ap rules.result (sym x.work) ∙ good in
        record {
          entity = form.gives_entity m.shelf x.offer r output issues x.is result;
          offers = form.gives_items m.shelf x.offer r output issues x.is result;
        }

    pub row_form : (a : ℕ) (row : Row) → row_at m.rows a ≡ Some row → form.is_item row.offered row.reference ≡ true
    row_form a row e = offered_form row.origin row.reference row.offered (sound.offers.given a row e)

    pub parts_form : AreSmall m → (r : Ref) (p : Parts) → parts rules m r ≡ Some p → IsPartsOf form r p
    parts_form small r p e = go (get m.orphans r) refl (get m.records r) refl e
      where
        few : (k : ℕ) → its_number m r ≡ Some k → k < 2 ^ 59
        few k i = let lt = sound.numbers.below r k i in let le = small.number in omega arith

        numbered : (o : Option Orphan) → get m.orphans r ≡ o → (v : Option Record) → get m.records r ≡ v → its_number m r ≡ number_in v o
        numbered o f v i = ap (λ v. number_in v (get m.orphans r)) i ∙ ap (number_in v) f

        same : (x : Parts) → Some x ≡ Some p → IsPartsOf form r x → IsPartsOf form r p
        same x e h = subst (IsPartsOf form r) (ap (λ v. unwrap_or v x) e) h

        of_output : (o : Option Orphan) → get m.orphans r ≡ o → (x : Record) → get m.records r ≡ Some x → (v : Option Output) → x.output ≡ v → parts_of_record (records_emit rules m) r x v ≡ Some p → IsPartsOf form r p
        of_output o f x i None u e = nothing e
        of_output o f x i (Some output) u e = same _ e (record { entity = (h.outputs r x output i u).entity; number = few x.number (numbered o f (Some x) i) })

        go : (o : Option Orphan) → get m.orphans r ≡ o → (v : Option Record) → get m.records r ≡ v → parts_from rules (records_emit rules m) r o v ≡ Some p → IsPartsOf form r p
        go None f None i e = nothing e
        go (Some x) f None i e = same _ e (record { entity = h.orphans r x f; number = few x.number (numbered (Some x) f None i) })
        go o f (Some x) i e = of_output o f x i x.output refl e

    put_outputs : (r : Ref) (y : Record) → ((output : Output) → y.output ≡ Some output → IsKept form r output) → (q : Ref) (x : Record) (output : Output) → get (put text_cmp r y m.records) q ≡ Some x → x.output ≡ Some output → IsKept form q output
    put_outputs r y new q x output e o = at_put (λ q x. (output : Output) → x.output ≡ Some output → IsKept form q output) r y m.records new (λ q x e output o. h.outputs q x output e o) q x e output o

    base_finished : (r : Ref) (now : ℕ) (x : Record) → get m.records r ≡ Some x → (u : Outcome) → ((output : Output) (issues : List Issue) → u ≡ Good output issues → IsKept form r output) → Base (finished_state s r now x u m)
    base_finished r now x is (Good output issues) good =
        let from = replaced_from (Entity r) (get output.offers) (keys output.offers) (with_record r (finished_record s now x (Good output issues)) m) h.begun h.arrivals in
        record {
          begun = from.next;
          arrivals = from.rows;
          providers = h.providers;
          shelf = h.shelf;
          outputs = put_outputs r (finished_record s now x (Good output issues)) (λ other o. subst (IsKept form r) (ap (λ v. unwrap_or v output) o) (good output issues refl));
          orphans = h.orphans;
          providers_in_order = h.providers_in_order;
          shelf_in_order = h.shelf_in_order;
        }
    base_finished r now x is (Bad issues) good = record {
      begun = h.begun;
      arrivals = h.arrivals;
      providers = h.providers;
      shelf = h.shelf;
      outputs = put_outputs r (finished_record s now x (Bad issues)) (λ output o. h.outputs r x output is o);
      orphans = h.orphans;
      providers_in_order = h.providers_in_order;
      shelf_in_order = h.shelf_in_order;
    }

    -- a record is put that has the output of the one before
    leased_form : (r : Ref) (x : Record) → get m.records r ≡ Some x → (due : ℕ) (lease : Option Lease) (token : ℕ) → Formed form (record (with_record r (leased due x lease) m) { token = token })
    leased_form r x is due lease token = record {
      begun = h.begun;
      arrivals = h.arrivals;
      providers = h.providers;
      shelf = h.shelf;
      outputs = put_outputs r (leased due x lease) (λ output o. h.outputs r x output is o);
      orphans = h.orphans;
      providers_in_order = h.providers_in_order;
      shelf_in_order = h.shelf_in_order;
      orphans_in_order = h.orphans_in_order;
      marks_in_order = h.marks_in_order;
      documents_in_order = h.documents_in_order;
    }

    take_form : (r : Ref) (now : ℕ) (v : Option Record) → get m.records r ≡ v → Formed form (take s r now m v)
    take_form r now None is = h
    take_form r now (Some x) is = leased_form r x is x.due (Some (record { token = m.token; expires = now + s.lease })) (m.token + 1)

    refresh_form : (r : Ref) (v : Option Record) → get m.records r ≡ v → Formed form (refresh r m v)
    refresh_form r None is = h
    refresh_form r (Some x) is = leased_form r x is 0 None m.token

    take_next_form : (now : ℕ) (v : Option Ref) → Formed form (take_next s now m v)
    take_next_form now None = h
    take_next_form now (Some r) = take_form r now (get m.records r) refl

    forget_form : (r : Ref) → Formed form (forget rules r m)
    forget_form r = at_cond (Formed form) (is_some (get m.records r) || is_some (get m.orphans r)) _ m (λ is. framed_form Deleted m (forgotten r m) (base_forgotten r)) h

    forget_at_form : (v : Option Ref) → Formed form (forget_at rules m v)
    forget_at_form None = h
    forget_at_form (Some r) = forget_form r

    finish_form : (order : Order) (now : ℕ) (v : Option Record) → get m.records order.reference ≡ v → Formed form (finish rules s order now m v)
    finish_form order now None is = h
    finish_form order now (Some x) is = at_cond (Formed form) (is_present rules m order x) _ m
        (λ present. framed_form (leaving s.orphans) m (finished_state s order.reference now x (rules.result order.work) m)
        (base_finished order.reference now x is (rules.result order.work)
        (λ output issues good. result_form order.reference order.work
        (sym (same_option-is rules.same_work rules.same_work-is (Some order.work) (work rules m order.reference) (and_second (has_token order.token x.lease) _ present))) output issues good))) h

    stitch_form : (order : StitchOrder) → Formed form (put_stitch rules order m)
    stitch_form order = at_cond (Formed form) (is_present_stitch rules m order) _ m
        (λ is. record {
          begun = h.begun;
          arrivals = h.arrivals;
          providers = h.providers;
          shelf = h.shelf;
          outputs = h.outputs;
          orphans = h.orphans;
          providers_in_order = h.providers_in_order;
          shelf_in_order = h.shelf_in_order;
          orphans_in_order = h.orphans_in_order;
          marks_in_order = without_key-sorted order.reference m.marks;
          documents_in_order = is_sorted-put text_cmp text_total order.reference (rules.doc order.parts) m.documents h.documents_in_order;
        }) h

    change_form : (e : Event) → IsFormedEvent form e → Formed form (change rules s e m)
    change_form (Mutate p x) g = at_cond (Formed form) (nat_lt (source_at (get m.providers p)).serial x.serial) _ m
        (λ is. framed_form Deleted m (mutated_state p x (source_at (get m.providers p)) m) (base_mutated p x g)) h
    change_form (ShelfPut name text) g = framed_form Deleted m (record m { shelf = put text_cmp name text m.shelf }) (base_shelf name text g)
    change_form (ShelfDrop name) g = at_cond (Formed form) (is_some (get m.shelf name)) _ m (λ is. framed_form Deleted m (record m { shelf = without_key name m.shelf }) (base_drop name)) h
    change_form (Refresh r) g = refresh_form r (get m.records r) refl
    change_form (Forget r) g = forget_form r
    change_form (ForgetNumber number) g = forget_at_form (ref_at m number)
    change_form (Take now) g = take_next_form now (next_taken now m)
    change_form (TakeAt r now) g = take_form r now (get m.records r) refl
    change_form (Finish order now) g = finish_form order now (get m.records order.reference) refl
    change_form (PutStitch order) g = stitch_form order

    pub step_form : (e : Event) → IsFormedEvent form e → Formed form (step rules s e m)
    unfolding step
    step_form e g = at_cond (Formed form) (is_some (refusal rules s e m)) m (change rules s e m) (λ is. h) (change_form e g)

  module _ (s : Settings) where
    pub run_form : (es : List Event) (m : State) → Sound rules m → Formed form m → AreFormedEvents form es → Formed form (run rules s es m)
    run_form [] m sound h g = h
    run_form (e ∷ es) m sound h g = run_form es (step rules s e m) (step_kept rules s e m sound) (step_form s m sound h e g.0) g.1

    -- the events of a settle give nothing from outside
    settle_event_form : (now : ℕ) (e : Event) (m : State) → IsSettleEvent rules now m e → IsFormedEvent form e
    settle_event_form now (TakeAt r k) m is = tt
    settle_event_form now (Finish o k) m is = tt
    settle_event_form now (PutStitch x) m is = tt
    settle_event_form now (Mutate p x) m is = absurd is
    settle_event_form now (ShelfPut name text) m is = absurd is
    settle_event_form now (ShelfDrop name) m is = absurd is
    settle_event_form now (Refresh r) m is = absurd is
    settle_event_form now (Forget r) m is = absurd is
    settle_event_form now (ForgetNumber number) m is = absurd is
    settle_event_form now (Take k) m is = absurd is

    settle_events_form : (now : ℕ) (es : List Event) (m : State) → AreSettleEvents rules s now m es → AreFormedEvents form es
    settle_events_form now [] m are = tt
    settle_events_form now (e ∷ es) m are = (settle_event_form now e m are.0, settle_events_form now es (step rules s e m) are.2)

    pub settle_form : (now : ℕ) (limit : Option ℕ) (m : State) → Sound rules m → Formed form m → Formed form (try_settle rules s now limit m).state
    settle_form now limit m sound h =
        let x = exec_extends rules s now limit (settle_plan rules s now (width rules m)) (fits_settle rules s now (width rules m)) (not_begun m) in
        subst (λ p. Formed form p.state) (exec_settle rules s now limit m)
        (subst (Formed form) (sym x.state) (run_form x.events m sound h (settle_events_form now x.events m x.are)))

  pub start_form : Formed form start
  start_form = record {
    begun = omega arith;
    arrivals = λ a row e. nothing e;
    providers = λ p x e. nothing e;
    shelf = λ name text e. nothing e;
    outputs = λ r x output e o. nothing e;
    orphans = λ r x e. nothing e;
    providers_in_order = tt;
    shelf_in_order = tt;
    orphans_in_order = tt;
    marks_in_order = tt;
    documents_in_order = tt;
  }

  pub reopened_form : (m : State) → Formed form m → Formed form (reopened rules m)
  reopened_form m h = record {
    begun = h.begun;
    arrivals = h.arrivals;
    providers = h.providers;
    shelf = h.shelf;
    outputs = λ r x output e o. at r x output o (get m.records r) refl (sym (find-over text_total text_antisymmetric r m.records (λ r x. Some (due_now x))) ∙ e);
    orphans = h.orphans;
    providers_in_order = h.providers_in_order;
    shelf_in_order = h.shelf_in_order;
    orphans_in_order = h.orphans_in_order;
    marks_in_order = tt;
    documents_in_order = is_sorted-tabulate text_total text_antisymmetric (known_refs m) (λ r. option_map rules.doc (parts rules m r));
  }
    where
      at : (r : Ref) (x : Record) (output : Output) → x.output ≡ Some output → (v : Option Record) → get m.records r ≡ v → option_and_then (λ x. Some (due_now x)) v ≡ Some x → IsKept form r output
      at r x output o None is e = nothing e
      at r x output o (Some y) is e = h.outputs r y output is (ap (λ v. (unwrap_or v (due_now y)).output) e ∙ o)
