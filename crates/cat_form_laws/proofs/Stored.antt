-- All that is kept has its form after each event, and each stored document is one of its reference.
use Rattle.std.proofs.Common.{◌≡◌, ℕ, Bool, true, false, cond, ◌||◌, List, [], ◌∷◌, is_some, unwrap_or, nat_lt, refl, ap, sym, subst, ◌∙◌}
use Rattle.std.specs.declared.option.Option.{Option}
use Rattle.std.specs.declared.option.Option.TheVariants.{None, Some}
use Rattle.std.specs.Option.{option_and_then}
use Rattle.cat_collections.specs.Table.{text_cmp, same_text, get, put}
use Rattle.cat_types.specs.declared.parts.Parts.{Parts}
use Rattle.cat_collections.proofs.Tables.{text_total, text_antisymmetric, same_is, and_second, find-put_same, find-put_other, find-over}
use Rattle.cat_model.specs.Catalogue.{Ref, Tree, Rules, parts, document_after, frame, reheld, rerecorded}
use Rattle.cat_model.specs.Formed.{FormRules, Formed, IsPartsOf, IsFormedEvent, AreFormedEvents}
use Rattle.cat_model.specs.Settle.{IsSettleEvent, AreSettleEvents, try_settle, width, not_begun}
use Rattle.cat_model.specs.Sound.{AreSmall, Sound}
use Rattle.cat_model.specs.Step.{Event, change, finish, finished_state, forget, forget_at, forgotten, is_present, is_present_stitch, is_ticket, leaving, mutated_state, next_taken, put_stitch, ref_at, refresh, refusal, run, source_at, start, step, take, take_next, without_key}
use Rattle.cat_model.specs.Step.Event.{Mutate, ShelfPut, ShelfDrop, Refresh, Forget, ForgetNumber, Take, TakeAt, Finish, PutStitch}
use Rattle.cat_model.specs.declared.types.Leaving.{Leaving}
use Rattle.cat_model.specs.declared.types.Leaving.TheVariants.{Deleted}
use Rattle.cat_model.specs.declared.types.Order.{Order}
use Rattle.cat_model.specs.declared.types.Record.{Record}
use Rattle.cat_model.specs.declared.types.Settings.{Settings}
use Rattle.cat_model.specs.declared.types.State.{State}
use Rattle.cat_model.specs.declared.types.StitchOrder.{StitchOrder}
use Rattle.cat_laws.proofs.Counters.{start_small}
use Rattle.cat_laws.proofs.Cut.{exec_extends, fits_settle}
use Rattle.cat_laws.proofs.Forms.{parts_form, start_form, step_form}
use Rattle.cat_model.proofs.Frame.{same_option-is}
use Rattle.cat_laws.proofs.Plan.{exec_settle, settle_plan}
use Rattle.cat_laws.proofs.Steps.{start_kept, step_kept, step_small}

at_cond : {A : Type 0} (P : A → Type 0) (b : Bool) (x y : A) → (b ≡ true → P x) → P y → P (cond b x y)
at_cond P true x y p q = p refl
at_cond P false x y p q = q

module _ (rules : Rules) (form : FormRules rules) where
  -- a document of r is that of parts that have their form
  pub record IsStored (r : Ref) (d : Tree) : Type 0 where
    pub parts : Parts
    pub are : IsPartsOf form r parts
    pub document : d ≡ rules.doc parts

  abbrev Documents : State → Type 0
  Documents m = (r : Ref) (d : Tree) → get m.documents r ≡ Some d → IsStored r d

  pub record Holds (m : State) : Type 0 where
    pub sound : Sound rules m
    pub small : AreSmall m
    pub formed : Formed form m
    pub documents : (r : Ref) (d : Tree) → get m.documents r ≡ Some d → IsStored r d

  -- ---- the frame keeps documents or drops them

  kept_document : (v : Option Parts) (x d : Tree) → document_after v x ≡ Some d → Some x ≡ Some d
  kept_document None x d e = cc
  kept_document (Some p) x d e = e

  frame_documents : (how : Leaving) (m n : State) → Documents n → Documents (frame rules how m n)
  frame_documents how m n h r d e = go (get n.documents r) refl (sym (find-over text_total text_antisymmetric r n.documents (λ r document. document_after (parts rules (rerecorded rules how m n (reheld n)) r) document)) ∙ e)
    where
      go : (v : Option Tree) → get n.documents r ≡ v → option_and_then (λ document. document_after (parts rules (rerecorded rules how m n (reheld n)) r) document) v ≡ Some d → IsStored r d
      go None is e = cc
      go (Some x) is e = h r d (is ∙ kept_document (parts rules (rerecorded rules how m n (reheld n)) r) x d e)

  module _ (s : Settings) where
    -- ---- the events

    take_documents : (r : Ref) (now : ℕ) (m : State) (v : Option Record) → Documents m → Documents (take s r now m v)
    take_documents r now m None h = h
    take_documents r now m (Some x) h = h

    take_next_documents : (now : ℕ) (m : State) (v : Option Ref) → Documents m → Documents (take_next s now m v)
    take_next_documents now m None h = h
    take_next_documents now m (Some r) h = take_documents r now m (get m.records r) h

    refresh_documents : (r : Ref) (m : State) (v : Option Record) → Documents m → Documents (refresh r m v)
    refresh_documents r m None h = h
    refresh_documents r m (Some x) h = h

    forget_documents : (r : Ref) (m : State) → Documents m → Documents (forget rules r m)
    forget_documents r m h = at_cond Documents (is_some (get m.records r) || is_some (get m.orphans r)) _ m (λ is. frame_documents Deleted m (forgotten r m) h) h

    forget_at_documents : (m : State) (v : Option Ref) → Documents m → Documents (forget_at rules m v)
    forget_at_documents m None h = h
    forget_at_documents m (Some r) h = forget_documents r m h

    finish_documents : (order : Order) (now : ℕ) (m : State) (v : Option Record) → Documents m → Documents (finish rules s order now m v)
    finish_documents order now m None h = h
    finish_documents order now m (Some x) h =
        at_cond Documents (is_present rules m order x) _ m (λ is. frame_documents (leaving s.orphans) m (finished_state s order.reference now x (rules.result order.work) m) h) h

    put_documents : (r : Ref) (p : Parts) (m : State) → IsPartsOf form r p → Documents m → (q : Ref) (d : Tree) → get (put text_cmp r (rules.doc p) m.documents) q ≡ Some d → IsStored q d
    put_documents r p m are h q d e = go (same_text q r) refl
      where
        go : (b : Bool) → same_text q r ≡ b → IsStored q d
        go true is =
            let same : q ≡ r = same_is text_total text_antisymmetric q r is in
            let put_is : Some (rules.doc p) ≡ Some d = sym (find-put_same text_total text_antisymmetric r (rules.doc p) m.documents) ∙ (sym (ap (get (put text_cmp r (rules.doc p) m.documents)) same) ∙ e) in
            subst (λ k. IsStored k d) (sym same) (record { parts = p; are = are; document = ap (λ v. unwrap_or v d) (sym put_is) })
        go false is = h q d (sym (find-put_other text_total text_antisymmetric q r (rules.doc p) m.documents is) ∙ e)

    stitch_documents : (order : StitchOrder) (m : State) → Holds m → Documents (put_stitch rules order m)
    stitch_documents order m h = at_cond Documents (is_present_stitch rules m order) _ m stitched h.documents
      where
        stitched : is_present_stitch rules m order ≡ true → (q : Ref) (d : Tree) → get (put text_cmp order.reference (rules.doc order.parts) m.documents) q ≡ Some d → IsStored q d
        stitched is =
            let present : Some order.parts ≡ parts rules m order.reference =
            same_option-is rules.same_parts rules.same_parts-is (Some order.parts) (parts rules m order.reference) (and_second (is_ticket order.ticket (get m.marks order.reference)) _ is) in
            put_documents order.reference order.parts m (parts_form rules form s m h.sound h.formed h.small order.reference order.parts (sym present)) h.documents

    change_documents : (e : Event) (m : State) → Holds m → Documents (change rules s e m)
    change_documents (Mutate p x) m h =
        at_cond Documents (nat_lt (source_at (get m.providers p)).serial x.serial) _ m (λ is. frame_documents Deleted m (mutated_state p x (source_at (get m.providers p)) m) h.documents) h.documents
    change_documents (ShelfPut name text) m h = frame_documents Deleted m (record m { shelf = put text_cmp name text m.shelf }) h.documents
    change_documents (ShelfDrop name) m h =
        at_cond Documents (is_some (get m.shelf name)) _ m (λ is. frame_documents Deleted m (record m { shelf = without_key name m.shelf }) h.documents) h.documents
    change_documents (Refresh r) m h = refresh_documents r m (get m.records r) h.documents
    change_documents (Forget r) m h = forget_documents r m h.documents
    change_documents (ForgetNumber number) m h = forget_at_documents m (ref_at m number) h.documents
    change_documents (Take now) m h = take_next_documents now m (next_taken now m) h.documents
    change_documents (TakeAt r now) m h = take_documents r now m (get m.records r) h.documents
    change_documents (Finish order now) m h = finish_documents order now m (get m.records order.reference) h.documents
    change_documents (PutStitch order) m h = stitch_documents order m h

    step_documents : (e : Event) (m : State) → Holds m → Documents (step rules s e m)
    unfolding step
    step_documents e m h = at_cond Documents (is_some (refusal rules s e m)) m (change rules s e m) (λ is. h.documents) (change_documents e m h)

    pub step_holds : (e : Event) (m : State) → IsFormedEvent form e → Holds m → Holds (step rules s e m)
    step_holds e m g h = record {
      sound = step_kept rules s e m h.sound;
      small = step_small rules s e m h.small;
      formed = step_form rules form s m h.sound h.formed e g;
      documents = step_documents e m h;
    }

    run_holds : (es : List Event) (m : State) → AreFormedEvents form es → Holds m → Holds (run rules s es m)
    run_holds [] m g h = h
    run_holds (e ∷ es) m g h = run_holds es (step rules s e m) g.1 (step_holds e m g.0 h)

    -- ---- a settle

    -- its events give nothing from outside
    settle_event : (now : ℕ) (e : Event) (m : State) → IsSettleEvent rules now m e → IsFormedEvent form e
    settle_event now (TakeAt r k) m is = tt
    settle_event now (Finish o k) m is = tt
    settle_event now (PutStitch x) m is = tt
    settle_event now (Mutate p x) m is = absurd is
    settle_event now (ShelfPut name text) m is = absurd is
    settle_event now (ShelfDrop name) m is = absurd is
    settle_event now (Refresh r) m is = absurd is
    settle_event now (Forget r) m is = absurd is
    settle_event now (ForgetNumber number) m is = absurd is
    settle_event now (Take k) m is = absurd is

    settle_events : (now : ℕ) (es : List Event) (m : State) → AreSettleEvents rules s now m es → AreFormedEvents form es
    settle_events now [] m are = tt
    settle_events now (e ∷ es) m are = (settle_event now e m are.0, settle_events now es (step rules s e m) are.2)

    pub settle_holds : (now : ℕ) (limit : Option ℕ) (m : State) → Holds m → Holds (try_settle rules s now limit m).state
    settle_holds now limit m h =
        let x = exec_extends rules s now limit (settle_plan rules s now (width rules m)) (fits_settle rules s now (width rules m)) (not_begun m) in
        subst (λ p. Holds p.state) (exec_settle rules s now limit m)
        (subst Holds (sym x.state) (run_holds x.events m (settle_events now x.events m x.are) h))

    pub start_holds : Holds start
    start_holds = record {
      sound = start_kept rules s;
      small = start_small;
      formed = start_form rules form;
      documents = λ r d e. cc;
    }
