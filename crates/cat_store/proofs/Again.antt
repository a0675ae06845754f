-- A sound state that something reopens as reopens as itself.
use Rattle.std.proofs.Common.{◌≡◌, inl, inr, ℕ, [], sym, ap, ◌∙◌, is_some, true≢false}
use Rattle.std.specs.declared.option.Option.{Option}
use Rattle.std.specs.declared.option.Option.TheVariants.{None, Some}
use Rattle.std.specs.FinMap.Entries.{same_entries}
use Rattle.std.specs.Option.{option_and_then, option_map}
use Rattle.cat_collections.specs.Table.{get, over, tabulate, text_cmp}
use Rattle.cat_collections.proofs.Tables.{find-over, find-tabulate_all, is_sorted-tabulate, text_antisymmetric, text_total}
use Rattle.cat_types.specs.declared.parts.Parts.{Parts}
use Rattle.cat_model.specs.Catalogue.{Ref, Rules, Tree, due_now, known_refs, parts}
use Rattle.cat_model.specs.Sound.{AreOrdered, IsStitched, Sound}
use Rattle.cat_model.specs.Step.{reopened}
use Rattle.cat_model.specs.declared.types.Record.{Record}
use Rattle.cat_model.specs.declared.types.State.{State}
use Rattle.cat_model.proofs.Frame.{unknown}
use Rattle.cat_state_check.proofs.Found.{over_same}
use Rattle.cat_stored_rows.proofs.In.{none_some, same_some}

module _ (rules : Rules) (m n : State) (is : n ≡ reopened rules m) (sound : Sound rules n) (ordered : AreOrdered n) where
  -- a record that is due at once and free stays as it is
  still : (r : Ref) (x : Record) → get n.records r ≡ Some x → Some (due_now x) ≡ Some x
  still r x f =
      go (get m.records r) (sym (ap (λ (k : State). get k.records r) is ∙ find-over text_total text_antisymmetric r m.records (λ r x. Some (due_now x))) ∙ f)
    where
      go : (v : Option Record) → option_and_then (λ x. Some (due_now x)) v ≡ Some x → Some (due_now x) ≡ Some x
      go None e = absurd (none_some e)
      go (Some y) e = ap (λ z. Some (due_now z)) (sym (same_some e)) ∙ e

  records_stay : over text_cmp n.records (λ r x. Some (due_now x)) ≡ n.records
  records_stay = over_same text_total text_antisymmetric n.records (λ r x. Some (due_now x)) sound.in_order still

  no_mark : (r : Ref) → get n.marks r ≡ None
  no_mark r = ap (λ (k : State). get k.marks r) is

  stitched : (v : Option Parts) (mark : Option ℕ) (document : Option Tree) → mark ≡ None → IsStitched rules v mark document → document ≡ option_map rules.doc v
  stitched None mark document e s = s.1
  stitched (Some x) mark document e (inl h) = absurd (true≢false (sym h ∙ ap is_some e))
  stitched (Some x) mark document e (inr h) = h

  documents_stay : tabulate text_cmp (known_refs n) (λ r. option_map rules.doc (parts rules n r)) ≡ n.documents
  documents_stay =
      same_entries text_cmp text_total text_antisymmetric (tabulate text_cmp (known_refs n) (λ r. option_map rules.doc (parts rules n r))) n.documents
      (is_sorted-tabulate text_total text_antisymmetric (known_refs n) (λ r. option_map rules.doc (parts rules n r))) ordered.documents
      (λ r.
      find-tabulate_all text_total text_antisymmetric r (known_refs n) (λ r. option_map rules.doc (parts rules n r)) (λ e. ap (option_map rules.doc) (unknown rules n r e))
      ∙ sym (stitched (parts rules n r) (get n.marks r) (get n.documents r) (no_mark r) (sound.stitched r)))

  pub reopens_as_itself : reopened rules n ≡ n
  reopens_as_itself =
      let marks : n.marks ≡ [] = ap (λ (k : State). k.marks) is in
      let token : n.token ≡ 1 = ap (λ (k : State). k.token) is in
      let ticket : n.ticket ≡ 1 = ap (λ (k : State). k.ticket) is in
      λ i. record n { records = records_stay i; marks = sym marks i; documents = documents_stay i; token = sym token i; ticket = sym ticket i }
