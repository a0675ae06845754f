-- Under the rule that deletes what leaves, no event makes an orphan.
use Rattle.std.proofs.Common.{◌≡◌, Bool, true, false, cond, ◌||◌, List, [], ◌∷◌, ◌++◌, refl, sym, ap, subst, ◌∙◌, is_some, true≢false, nat_lt, ℕ}
use Rattle.std.specs.declared.option.Option.{Option}
use Rattle.std.specs.declared.option.Option.TheVariants.{None, Some}
use Rattle.std.specs.Option.{option_and_then}
use Rattle.std.specs.List.{list_any}
use Rattle.std.specs.FinMap.Entries.{same_entries}
use Rattle.cat_collections.specs.Table.{Map, Text, get, keys, same_text, text_cmp, find, put}
use Rattle.cat_collections.proofs.Tables.{find-over, find-tabulate, is_sorted-tabulate, same_self, text_antisymmetric, text_total}
use Rattle.cat_model.specs.declared.types.Leaving.TheVariants.{Deleted}
use Rattle.cat_model.specs.declared.types.Order.{Order}
use Rattle.cat_model.specs.declared.types.Orphan.{Orphan}
use Rattle.cat_model.specs.declared.types.OrphanRule.TheVariants.{Delete}
use Rattle.cat_model.specs.declared.types.Record.{Record}
use Rattle.cat_model.specs.declared.types.Settings.{Settings}
use Rattle.cat_model.specs.declared.types.State.{State}
use Rattle.cat_model.specs.declared.types.StitchOrder.{StitchOrder}
use Rattle.cat_model.specs.Catalogue.{Ref, Rules, Tree, frame, held, orphan_after, reheld}
use Rattle.cat_model.specs.Fresh.{entity_docs, facts_of, fresh_docs, unless_orphan}
use Rattle.cat_model.specs.Settle.{try_settle}
use Rattle.cat_model.specs.Sound.{AreOrdered, MakesNoOrphan, Quiet, Sound}
use Rattle.cat_model.specs.Step.{Event, change, finish, finished_state, forget, forget_at, forgotten, is_present, is_present_stitch, leaving, mutated_state, next_taken, put_stitch, ref_at, refresh, refusal, run, source_at, start, step, take, take_next, without_key}
use Rattle.cat_model.specs.Step.Event.{Mutate, ShelfPut, ShelfDrop, Refresh, Forget, ForgetNumber, Take, TakeAt, Finish, PutStitch}
use Rattle.cat_laws.proofs.Fresh.{is_fresh}
use Rattle.cat_laws.proofs.Ordered.{start_ordered, step_ordered}
use Rattle.cat_laws.proofs.Stands.{settle_runs}
use Rattle.cat_laws.proofs.Steps.{run_kept, start_kept}

-- ---- orphans of two states

same : (m : State) → MakesNoOrphan m m
same m r x e = e

later : (m n o : State) → MakesNoOrphan m n → MakesNoOrphan n o → MakesNoOrphan m o
later m n o first second r x e = first r x (second r x e)

-- what holds at both branches of a test
at_cond : (m : State) (b : Bool) (x y : State) → MakesNoOrphan m x → MakesNoOrphan m y → MakesNoOrphan m (cond b x y)
at_cond m true x y p q = p
at_cond m false x y p q = q

-- a table in which nothing is found is empty
no_entries : {X : Type 0} (m : Map X) → ((r : Text) (x : X) → get m r ≡ Some x → ⊥) → m ≡ []
no_entries [] h = refl
no_entries (e ∷ es) h = absurd (h e.0 e.1 (ap (λ b. cond b (Some e.1) (find text_cmp e.0 es)) (same_self text_total text_antisymmetric e.0)))

-- where there was no orphan, there is none
pub still_none : (m n : State) → MakesNoOrphan m n → m.orphans ≡ [] → n.orphans ≡ []
still_none m n kept none = no_entries n.orphans (λ r x e. absurd (true≢false (sym (ap is_some (ap (λ o. get o r) (sym none) ∙ kept r x e)))))

-- ---- the events

-- a frame that deletes makes none
framed : (rules : Rules) (m n : State) → MakesNoOrphan n (frame rules Deleted m n)
framed rules m n r x e = inside (list_any (same_text r) (keys n.orphans ++ keys n.records))
    (sym (find-tabulate text_total text_antisymmetric r (keys n.orphans ++ keys n.records) (λ r. orphan_after Deleted (held (reheld n).holders r) (get n.records r) (get n.orphans r))) ∙ e)
  where
    go : (b : Bool) (v : Option Record) (o : Option Orphan) → orphan_after Deleted b v o ≡ Some x → o ≡ Some x
    go true v o e = absurd (true≢false (sym (ap is_some e)))
    go false None o e = e
    go false (Some y) o e = absurd (true≢false (sym (ap is_some e)))

    inside : (b : Bool) → cond b (orphan_after Deleted (held (reheld n).holders r) (get n.records r) (get n.orphans r)) None ≡ Some x → get n.orphans r ≡ Some x
    inside true e = go (held (reheld n).holders r) (get n.records r) (get n.orphans r) e
    inside false e = absurd (true≢false (sym (ap is_some e)))

-- what is taken away wasn't made
without_orphan : (q : Ref) (m : State) (r : Ref) (x : Orphan) → get (without_key q m.orphans) r ≡ Some x → get m.orphans r ≡ Some x
without_orphan q m r x e = go (get m.orphans r) (same_text q r) (sym (find-over text_total text_antisymmetric r m.orphans (λ k y. cond (same_text q k) None (Some y))) ∙ e)
  where
    go : (v : Option Orphan) (b : Bool) → option_and_then (λ y. cond b None (Some y)) v ≡ Some x → v ≡ Some x
    go None b e = e
    go (Some y) true e = absurd (true≢false (sym (ap is_some e)))
    go (Some y) false e = e

module _ (rules : Rules) (s : Settings) (deletes : s.orphans ≡ Delete) where
  finish_makes : (order : Order) (now : ℕ) (m : State) (v : Option Record) → MakesNoOrphan m (finish rules s order now m v)
  finish_makes order now m None = same m
  finish_makes order now m (Some x) =
      let n = finished_state s order.reference now x (rules.result order.work) m in
      at_cond m (is_present rules m order x) (frame rules (leaving s.orphans) m n) m (subst (λ o. MakesNoOrphan n (frame rules (leaving o) m n)) (sym deletes) (framed rules m n)) (same m)

  refresh_makes : (r : Ref) (m : State) (v : Option Record) → MakesNoOrphan m (refresh r m v)
  refresh_makes r m None = same m
  refresh_makes r m (Some x) = same m

  take_makes : (r : Ref) (now : ℕ) (m : State) (v : Option Record) → MakesNoOrphan m (take s r now m v)
  take_makes r now m None = same m
  take_makes r now m (Some x) = same m

  take_next_makes : (now : ℕ) (m : State) (v : Option Ref) → MakesNoOrphan m (take_next s now m v)
  take_next_makes now m None = same m
  take_next_makes now m (Some r) = take_makes r now m (get m.records r)

  forget_makes : (r : Ref) (m : State) → MakesNoOrphan m (forget rules r m)
  forget_makes r m = at_cond m (is_some (get m.records r) || is_some (get m.orphans r)) (frame rules Deleted m (forgotten r m)) m
      (later m (forgotten r m) (frame rules Deleted m (forgotten r m)) (without_orphan r m) (framed rules m (forgotten r m))) (same m)

  forget_at_makes : (m : State) (v : Option Ref) → MakesNoOrphan m (forget_at rules m v)
  forget_at_makes m None = same m
  forget_at_makes m (Some r) = forget_makes r m

  put_makes : (order : StitchOrder) (m : State) → MakesNoOrphan m (put_stitch rules order m)
  put_makes order m = at_cond m (is_present_stitch rules m order) _ m (same m) (same m)

  change_makes : (e : Event) (m : State) → MakesNoOrphan m (change rules s e m)
  change_makes (Mutate p x) m =
      let source = source_at (get m.providers p) in
      at_cond m (nat_lt source.serial x.serial) (frame rules Deleted m (mutated_state p x source m)) m (framed rules m (mutated_state p x source m)) (same m)
  change_makes (ShelfPut name text) m = framed rules m (record m { shelf = put text_cmp name text m.shelf })
  change_makes (ShelfDrop name) m = at_cond m (is_some (get m.shelf name)) (frame rules Deleted m (record m { shelf = without_key name m.shelf })) m (framed rules m (record m { shelf = without_key name m.shelf })) (same m)
  change_makes (Refresh r) m = refresh_makes r m (get m.records r)
  change_makes (Forget r) m = forget_makes r m
  change_makes (ForgetNumber number) m = forget_at_makes m (ref_at m number)
  change_makes (Take now) m = take_next_makes now m (next_taken now m)
  change_makes (TakeAt r now) m = take_makes r now m (get m.records r)
  change_makes (Finish order now) m = finish_makes order now m (get m.records order.reference)
  change_makes (PutStitch order) m = put_makes order m

  pub step_makes : (e : Event) (m : State) → MakesNoOrphan m (step rules s e m)
  unfolding step
  step_makes e m = at_cond m (is_some (refusal rules s e m)) m (change rules s e m) (same m) (change_makes e m)

  pub run_makes : (es : List Event) (m : State) → MakesNoOrphan m (run rules s es m)
  run_makes [] m = same m
  run_makes (e ∷ es) m = later m (step rules s e m) (run rules s es (step rules s e m)) (step_makes e m) (run_makes es (step rules s e m))

  pub settle_makes : (now : ℕ) (limit : Option ℕ) (m : State) → MakesNoOrphan m (try_settle rules s now limit m).state
  settle_makes now limit m = let x = settle_runs rules s now limit m in subst (MakesNoOrphan m) (sym x.1) (run_makes x.0 m)

-- ---- documents

run_ordered : (rules : Rules) (s : Settings) (es : List Event) (m : State) → AreOrdered m → AreOrdered (run rules s es m)
run_ordered rules s [] m h = h
run_ordered rules s (e ∷ es) m h = run_ordered rules s es (step rules s e m) (step_ordered rules s e m h)

-- a settle keeps the order of tables
pub settle_ordered : (rules : Rules) (s : Settings) (now : ℕ) (limit : Option ℕ) (m : State) → AreOrdered m → AreOrdered (try_settle rules s now limit m).state
settle_ordered rules s now limit m h = let x = settle_runs rules s now limit m in subst AreOrdered (sym x.1) (run_ordered rules s x.0 m h)

-- without orphans all documents are those of entities
all_entities : (m : State) → AreOrdered m → m.orphans ≡ [] → m.documents ≡ entity_docs m
all_entities m ordered none = same_entries text_cmp text_total text_antisymmetric m.documents (entity_docs m) ordered.documents
    (is_sorted-tabulate text_total text_antisymmetric (keys m.documents) (λ k. option_and_then (λ document. unless_orphan (get m.orphans k) document) (get m.documents k)))
    (λ r. sym (find-over text_total text_antisymmetric r m.documents (λ r document. unless_orphan (get m.orphans r) document) ∙ ap (λ o. option_and_then (λ document. unless_orphan (get o r) document) (get m.documents r)) none ∙ go (get m.documents r)))
  where
    go : (v : Option Tree) → option_and_then (λ document. Some document) v ≡ v
    go None = refl
    go (Some x) = refl

-- a quiet catalogue without orphans has just the documents computed afresh
pub just_fresh : (rules : Rules) (m : State) (now : ℕ) → Sound rules m → AreOrdered m → m.orphans ≡ [] → Quiet m now → m.documents ≡ fresh_docs rules (facts_of rules m)
just_fresh rules m now sound ordered none quiet = all_entities m ordered none ∙ (is_fresh rules m sound now quiet).entities

-- so it is after any events from an empty one
pub reached_fresh : (rules : Rules) (s : Settings) → s.orphans ≡ Delete → (es : List Event) (now : ℕ) → Quiet (run rules s es start) now → (run rules s es start).documents ≡ fresh_docs rules (facts_of rules (run rules s es start))
reached_fresh rules s deletes es now quiet = just_fresh rules (run rules s es start) now (run_kept rules s es start (start_kept rules s)) (run_ordered rules s es start start_ordered)
    (still_none start (run rules s es start) (run_makes rules s deletes es start) refl) quiet
