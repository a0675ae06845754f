-- A result or a document that counts is of the order that is present.
use Rattle.std.proofs.Common.{◌≡◌, ℕ, Bool, true, false, cond, nat_eq, refl, sym, ap, ◌∙◌, true≢false, arith}
use Rattle.std.proofs.lemmas.Bool.Decides.{nat_tests}
use Rattle.std.specs.Option.{option_and_then}
use Rattle.std.specs.declared.option.Option.{Option}
use Rattle.std.specs.declared.option.Option.TheVariants.{None, Some}
use Rattle.cat_model.proofs.Frame.{same_option-is}
use Rattle.cat_model.specs.Catalogue.{Rules, parts, work}
use Rattle.cat_model.specs.Reply.{finished, finished_as, finished_with, placed, token_of}
use Rattle.cat_model.specs.Settle.{mark_order, order, order_with, stitch_order}
use Rattle.cat_model.specs.Step.{has_token, is_present, is_present_stitch, is_ticket}
use Rattle.cat_model.specs.declared.types.Finished.TheVariants.{Late}
use Rattle.cat_model.specs.declared.types.Lease.{Lease}
use Rattle.cat_model.specs.declared.types.Order.{Order}
use Rattle.cat_model.specs.declared.types.Placed.TheVariants.{Counted, Late as LateStitch}
use Rattle.cat_model.specs.declared.types.Record.{Record}
use Rattle.cat_model.specs.declared.types.State.{State}
use Rattle.cat_model.specs.declared.types.StitchOrder.{StitchOrder}
use Rattle.cat_shared.specs.Notes.{has_counted, is_counted}
use Rattle.cat_collections.proofs.Tables.{and_first, and_second}
use Rattle.cat_collections.specs.Table.{get}
use Rattle.cat_types.specs.declared.parts.Parts.{Parts}
use Rattle.cat_types.specs.declared.work.Work.{Work}

same_number : (k n : ℕ) → nat_eq k n ≡ true → n ≡ k
same_number k n h = grind (arith, nat_tests)

module _ (rules : Rules) (m : State) where
  -- ---- results

  leased_order : (o : Order) (lease : Option Lease) (w : Option Work) → has_token o.token lease ≡ true → w ≡ Some o.work → order_with o.reference lease w ≡ Some o
  leased_order o None w h e = absurd (true≢false (sym h))
  leased_order o (Some lease) w h e =
      let token = same_number o.token lease.token h in
      ap (order_with o.reference (Some lease)) e ∙ (λ i. Some (record { reference = o.reference; token = token i; work = o.work }))

  -- where a result counts, its order is that of the lease of its reference
  pub finish_present : (o : Order) → has_counted (finished rules o m) ≡ true → order rules m o.reference ≡ Some o
  finish_present o h = at (get m.records o.reference) refl h
    where
      present : (x : Record) → get m.records o.reference ≡ Some x → is_present rules m o x ≡ true → order rules m o.reference ≡ Some o
      present x e p =
          ap (λ v. order_with o.reference (option_and_then (λ (y : Record). y.lease) v) (work rules m o.reference)) e
          ∙ leased_order o x.lease (work rules m o.reference) (and_first (has_token o.token x.lease) _ p)
          (sym (same_option-is rules.same_work rules.same_work-is (Some o.work) (work rules m o.reference) (and_second (has_token o.token x.lease) _ p)))

      going : (x : Record) → get m.records o.reference ≡ Some x → (b : Bool) → is_present rules m o x ≡ b
          → has_counted (cond b (finished_as (rules.result o.work)) (Late (token_of (Some x)))) ≡ true → order rules m o.reference ≡ Some o
      going x e true p h = present x e p
      going x e false p h = absurd (true≢false (sym h))

      at : (v : Option Record) → get m.records o.reference ≡ v → has_counted (finished_with rules o m v) ≡ true → order rules m o.reference ≡ Some o
      at None e h = absurd (true≢false (sym h))
      at (Some x) e h = going x e (is_present rules m o x) refl h

  -- ---- documents

  marked_order : (o : StitchOrder) (mark : Option ℕ) (p : Option Parts) → is_ticket o.ticket mark ≡ true → p ≡ Some o.parts → stitch_order rules m o.reference mark p ≡ Some o
  marked_order o None p h e = absurd (true≢false (sym h))
  marked_order o (Some ticket) p h e =
      let same = same_number o.ticket ticket h in
      ap (stitch_order rules m o.reference (Some ticket)) e ∙ (λ i. Some (record { reference = o.reference; ticket = same i; parts = o.parts }))

  -- where a document counts, its order is that of the mark of its reference
  pub stitch_present : (o : StitchOrder) → is_counted (placed rules o m) ≡ true → mark_order rules m o.reference ≡ Some o
  stitch_present o h = at (is_present_stitch rules m o) refl h
    where
      at : (b : Bool) → is_present_stitch rules m o ≡ b → is_counted (cond b Counted (LateStitch (get m.marks o.reference))) ≡ true → mark_order rules m o.reference ≡ Some o
      at true p h =
          marked_order o (get m.marks o.reference) (parts rules m o.reference) (and_first (is_ticket o.ticket (get m.marks o.reference)) _ p)
          (sym (same_option-is rules.same_parts rules.same_parts-is (Some o.parts) (parts rules m o.reference) (and_second (is_ticket o.ticket (get m.marks o.reference)) _ p)))
      at false p h = absurd (true≢false (sym h))
