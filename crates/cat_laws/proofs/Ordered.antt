-- The tables of orphans, marks and documents are in order at every moment.
use Rattle.std.proofs.Common.{T, ℕ, Bool, true, false, cond, ◌||◌, ◌++◌, is_some, ◌+◌, nat_lt}
use Rattle.std.specs.declared.option.Option.{Option}
use Rattle.std.specs.declared.option.Option.TheVariants.{None, Some}
use Rattle.std.specs.Option.{option_and_then}
use Rattle.std.specs.FinMap.Entries.{is_sorted, is_sorted-put}
use Rattle.cat_collections.specs.Table.{Map, get, keys, over, place, put, same_text, text_cmp}
use Rattle.cat_collections.proofs.Tables.{is_sorted-tabulate, text_total, text_antisymmetric}
use Rattle.cat_model.specs.declared.types.Order.{Order}
use Rattle.cat_model.specs.declared.types.Record.{Record}
use Rattle.cat_model.specs.declared.types.State.{State}
use Rattle.cat_model.specs.declared.types.Leaving.{Leaving}
use Rattle.cat_model.specs.declared.types.Leaving.TheVariants.{Deleted}
use Rattle.cat_model.specs.declared.types.Settings.{Settings}
use Rattle.cat_model.specs.declared.types.StitchOrder.{StitchOrder}
use Rattle.cat_model.specs.Catalogue.{Ref, Rules, frame, held, parts, document_after, mark_after, changed_refs, known_refs, orphan_after, reheld, rerecorded, same_option}
use Rattle.cat_model.specs.Sound.{AreOrdered}
use Rattle.cat_model.specs.Step.{Event, change, finish, finished_state, leaving, forget, forget_at, forgotten, is_present, is_present_stitch, mutated_state, next_taken, put_stitch, ref_at, refresh, refusal, source_at, start, step, take, take_next, without_key}
use Rattle.cat_model.specs.Step.Event.{Mutate, ShelfPut, ShelfDrop, Refresh, Forget, ForgetNumber, Take, TakeAt, Finish, PutStitch}

-- what holds at both branches of a test
at_cond : (b : Bool) (x y : State) → AreOrdered x → AreOrdered y → AreOrdered (cond b x y)
at_cond true x y p q = p
at_cond false x y p q = q

-- a table made anew over another is in order
over_sorted : {X Y : Type 0} (m : Map X) (f : Ref → X → Option Y) → T (is_sorted text_cmp (over text_cmp m f))
over_sorted m f = is_sorted-tabulate text_total text_antisymmetric (keys m) (λ k. option_and_then (f k) (get m k))

pub start_ordered : AreOrdered start
start_ordered = record { orphans = tt; marks = tt; documents = tt }

module _ (rules : Rules) (s : Settings) where
  -- the frame makes all three tables anew
  pub framed_ordered : (how : Leaving) (m n : State) → AreOrdered (frame rules how m n)
  framed_ordered how m n =
      let h = reheld n in
      let f = rerecorded rules how m n h in
      record {
        orphans = is_sorted-tabulate text_total text_antisymmetric (keys n.orphans ++ keys n.records) (λ r. orphan_after how (held h.holders r) (get n.records r) (get n.orphans r));
        marks = is_sorted-tabulate text_total text_antisymmetric (known_refs f) (λ r. mark_after (f.ticket + place text_cmp r (changed_refs rules m f)) (parts rules f r) (same_option rules.same_parts (parts rules m r) (parts rules f r)) (get f.marks r));
        documents = over_sorted f.documents (λ r document. document_after (parts rules f r) document);
      }

  take_ordered : (r : Ref) (now : ℕ) (m : State) (v : Option Record) → AreOrdered m → AreOrdered (take s r now m v)
  take_ordered r now m None h = h
  take_ordered r now m (Some x) h = record { orphans = h.orphans; marks = h.marks; documents = h.documents }

  take_next_ordered : (now : ℕ) (m : State) (v : Option Ref) → AreOrdered m → AreOrdered (take_next s now m v)
  take_next_ordered now m None h = h
  take_next_ordered now m (Some r) h = take_ordered r now m (get m.records r) h

  refresh_ordered : (r : Ref) (m : State) (v : Option Record) → AreOrdered m → AreOrdered (refresh r m v)
  refresh_ordered r m None h = h
  refresh_ordered r m (Some x) h = record { orphans = h.orphans; marks = h.marks; documents = h.documents }

  forget_ordered : (r : Ref) (m : State) → AreOrdered m → AreOrdered (forget rules r m)
  forget_ordered r m h = at_cond (is_some (get m.records r) || is_some (get m.orphans r)) _ m (framed_ordered Deleted m (forgotten r m)) h

  forget_at_ordered : (m : State) (v : Option Ref) → AreOrdered m → AreOrdered (forget_at rules m v)
  forget_at_ordered m None h = h
  forget_at_ordered m (Some r) h = forget_ordered r m h

  finish_ordered : (order : Order) (now : ℕ) (m : State) (v : Option Record) → AreOrdered m → AreOrdered (finish rules s order now m v)
  finish_ordered order now m None h = h
  finish_ordered order now m (Some x) h = at_cond (is_present rules m order x) _ m (framed_ordered (leaving s.orphans) m (finished_state s order.reference now x (rules.result order.work) m)) h

  put_stitch_ordered : (order : StitchOrder) (m : State) → AreOrdered m → AreOrdered (put_stitch rules order m)
  put_stitch_ordered order m h = at_cond (is_present_stitch rules m order) _ m
      (record {
        orphans = h.orphans;
        marks = over_sorted m.marks (λ q x. cond (same_text order.reference q) None (Some x));
        documents = is_sorted-put text_cmp text_total order.reference (rules.doc order.parts) m.documents h.documents;
      })
      h

  change_ordered : (e : Event) (m : State) → AreOrdered m → AreOrdered (change rules s e m)
  change_ordered (Mutate p x) m h = at_cond (nat_lt (source_at (get m.providers p)).serial x.serial) _ m (framed_ordered Deleted m (mutated_state p x (source_at (get m.providers p)) m)) h
  change_ordered (ShelfPut name text) m h = framed_ordered Deleted m (record m { shelf = put text_cmp name text m.shelf })
  change_ordered (ShelfDrop name) m h = at_cond (is_some (get m.shelf name)) _ m (framed_ordered Deleted m (record m { shelf = without_key name m.shelf })) h
  change_ordered (Refresh r) m h = refresh_ordered r m (get m.records r) h
  change_ordered (Forget r) m h = forget_ordered r m h
  change_ordered (ForgetNumber number) m h = forget_at_ordered m (ref_at m number) h
  change_ordered (Take now) m h = take_next_ordered now m (next_taken now m) h
  change_ordered (TakeAt r now) m h = take_ordered r now m (get m.records r) h
  change_ordered (Finish order now) m h = finish_ordered order now m (get m.records order.reference) h
  change_ordered (PutStitch order) m h = put_stitch_ordered order m h

  pub step_ordered : (e : Event) (m : State) → AreOrdered m → AreOrdered (step rules s e m)
  unfolding step
  step_ordered e m h = at_cond (is_some (refusal rules s e m)) m (change rules s e m) h (change_ordered e m h)
