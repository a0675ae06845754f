-- A state that is read back from its store is sound.
use Rattle.std.proofs.Common.{◌≡◌, ℕ, inr, refl, sym, ap, subst, ◌∙◌, is_some, unwrap_or, true≢false, le_refl}
use Rattle.std.specs.declared.option.Option.{Option}
use Rattle.std.specs.declared.option.Option.TheVariants.{None, Some}
use Rattle.std.specs.Option.{option_and_then, option_map}
use Rattle.cat_collections.specs.Table.{get, keys}
use mathlib.Core.Path.{fun_ext}
use Rattle.cat_model.specs.Catalogue.{Ref, Rules, work, output_of, parts, parts_from, records_emit, emitted, known_refs, due_now}
use Rattle.cat_types.specs.declared.work.Output.{Output}
use Rattle.cat_types.specs.declared.parts.Parts.{Parts}
use Rattle.cat_model.specs.declared.types.Origin.{Origin}
use Rattle.cat_model.specs.declared.types.Record.{Record}
use Rattle.cat_model.specs.declared.types.State.{State}
use Rattle.cat_model.specs.declared.types.Origin.TheVariants.{Provider, Entity}
use Rattle.cat_model.specs.Sound.{offered, Sound, IsStitched, number_in}
use Rattle.cat_model.specs.Step.{reopened}
use Rattle.cat_collections.proofs.Tables.{text_total, text_antisymmetric, find-over, find-tabulate_all, is_sorted-tabulate}
use Rattle.cat_model.proofs.Frame.{right_at_once, unknown}
use Rattle.cat_laws.proofs.Steps.{numbers_from}

module _ (rules : Rules) (m : State) (s : Sound rules m) where
  abbrev n : State
  n = reopened rules m

  record_at : (r : Ref) → get n.records r ≡ option_map due_now (get m.records r)
  record_at r = find-over text_total text_antisymmetric r m.records (λ r x. Some (due_now x)) ∙ go (get m.records r)
    where
      go : (v : Option Record) → option_and_then (λ x. Some (due_now x)) v ≡ option_map due_now v
      go None = refl
      go (Some x) = refl

  outputs : output_of n.records ≡ output_of m.records
  outputs = fun_ext (λ r. ap (option_and_then (λ (x : Record). x.output)) (record_at r) ∙ go (get m.records r))
    where
      go : (v : Option Record) → option_and_then (λ (x : Record). x.output) (option_map due_now v) ≡ option_and_then (λ (x : Record). x.output) v
      go None = refl
      go (Some x) = refl

  same_offers : (o : Origin) (r : Ref) → offered n o r ≡ offered m o r
  same_offers (Provider p) r = refl
  same_offers (Entity e) r = ap (λ outputs. option_and_then (λ (x : Output). get x.offers r) (outputs e)) outputs

  same_parts : (r : Ref) → parts rules n r ≡ parts rules m r
  same_parts r =
      ap (λ outputs. parts_from rules (emitted rules (keys m.holders) outputs) r (get m.orphans r) (get n.records r)) outputs
      ∙ ap (parts_from rules (records_emit rules m) r (get m.orphans r)) (record_at r) ∙ go (get m.records r)
    where
      go : (v : Option Record) → parts_from rules (records_emit rules m) r (get m.orphans r) (option_map due_now v) ≡ parts_from rules (records_emit rules m) r (get m.orphans r) v
      go None = refl
      go (Some x) = refl

  document_at : (r : Ref) → get n.documents r ≡ option_map rules.doc (parts rules m r)
  document_at r = find-tabulate_all text_total text_antisymmetric r (known_refs m) (λ r. option_map rules.doc (parts rules m r)) (λ e. ap (option_map rules.doc) (unknown rules m r e))

  pub reopened_sound : Sound rules n
  reopened_sound = record {
    offers = record {
      given = λ a row e. same_offers row.origin row.reference ∙ s.offers.given a row e;
      shown = λ o r x e. s.offers.shown o r x (sym (same_offers o r) ∙ e);
      below = s.offers.below;
      once = s.offers.once;
    };
    holders = s.holders;
    records = λ r. ap is_some (record_at r) ∙ still (get m.records r) ∙ s.records r;
    orphans = s.orphans;
    right = λ r x e. right_at_once rules (work rules m r) x (due (get m.records r) x (sym (record_at r) ∙ e));
    stitched = λ r. subst (λ p. IsStitched rules p None (get n.documents r)) (sym (same_parts r)) (subst (IsStitched rules (parts rules m r) None) (sym (document_at r)) (placed (parts rules m r)));
    numbers = numbers_from m n (le_refl _) (λ r k e. number r k (get m.records r) (sym (ap (λ v. number_in v (get m.orphans r)) (record_at r)) ∙ e)) s.numbers;
    in_order = is_sorted-tabulate text_total text_antisymmetric (keys m.records) (λ k. option_and_then (λ x. Some (due_now x)) (get m.records k));
    rows_in_order = s.rows_in_order;
    holders_in_order = s.holders_in_order;
  }
    where
      still : (v : Option Record) → is_some (option_map due_now v) ≡ is_some v
      still None = refl
      still (Some x) = refl

      due : (v : Option Record) (x : Record) → option_map due_now v ≡ Some x → x.due ≡ 0
      due None x e = absurd (true≢false (sym (ap is_some e)))
      due (Some y) x e = sym (ap (λ v. (unwrap_or v (due_now y)).due) e)

      placed : (p : Option Parts) → IsStitched rules p None (option_map rules.doc p)
      placed None = (refl, refl)
      placed (Some p) = inr refl

      number : (r : Ref) (k : ℕ) (v : Option Record) → number_in (option_map due_now v) (get m.orphans r) ≡ Some k → number_in v (get m.orphans r) ≡ Some k
      number r k None e = e
      number r k (Some x) e = e
