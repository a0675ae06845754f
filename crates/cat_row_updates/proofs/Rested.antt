-- A state as it is stored is told by its rows, and all that it keeps has the form that is tested.
use Rattle.std.proofs.Common.{T, ◌≡◌, ◌⊎◌, inl, inr, ℕ, suc, ◌≤◌, ◌<◌, ◌^◌, Bool, true, false, not, ◌&&◌, ◌||◌, nat_le, nat_lt, List, [], ◌∷◌, length, refl, sym, ap, subst, ◌∙◌, is_some, true≢false, arith, le-leb, lt-ltb, Result, Ok}
use Rattle.std.specs.Prelude.{◌==◌, bytes_eq}
use Rattle.std.specs.declared.option.Option.{Option}
use Rattle.std.specs.declared.option.Option.TheVariants.{None, Some}
use Rattle.std.specs.FinMap.Entries.{is_sorted}
use Rattle.std.specs.Cmp.{nat_cmp_total}
use Rattle.std.specs.FinMap.{nat_cmp-IsAntisymmetric}
use Rattle.std.specs.List.{AllByRecursion, IsDistinct, list_all, list_any}
use Rattle.std.specs.Option.{option_map}
use Rattle.std.proofs.lemmas.Slice.Eq.{bytes_eq-Decides}
use Rattle.cat_tree.specs.Ask.{depth_of}
use Rattle.cat_tree.specs.Data.{Data}
use Rattle.cat_types.specs.Reference.{described}
use Rattle.cat_schema.specs.Rules.{breaches}
use Rattle.cat_kinds.specs.Kinds.{kind_faults}
use Rattle.cat_collections.specs.Table.{Text, get, keys, same_text, text_cmp}
use Rattle.cat_collections.proofs.Tables.{text_antisymmetric, text_total}
use Rattle.cat_types.specs.declared.work.Output.{Output}
use Rattle.cat_model.specs.Catalogue.{Ref, Rules, due_now, row_at}
use Rattle.cat_model.specs.Step.{reopened}
use Rattle.cat_model.specs.declared.types.Orphan.{Orphan}
use Rattle.cat_model.specs.declared.types.OrphanRule.{OrphanRule}
use Rattle.cat_model.specs.declared.types.ProviderInputs.{ProviderInputs}
use Rattle.cat_model.specs.declared.types.Record.{Record as Recorded}
use Rattle.cat_model.specs.declared.types.Row.{Row}
use Rattle.cat_model.specs.declared.types.State.{State}
use Rattle.cat_stored_rows.specs.First.{first}
use Rattle.cat_stored_rows.specs.Stored.{stored}
use Rattle.cat_stored_rows.specs.Told.{IsTold}
use Rattle.cat_stored_rows.proofs.In.{In, found_in, none_some, same_some}
use Rattle.cat_row_reader.specs.Forms.{differ, has_forms, is_entity, is_given_row, is_kept, is_left, is_output, is_source, is_this, may_be_given}
use Rattle.cat_row_updates.specs.Right.{HaveForms, IsEntity, rested}
use Rattle.cat_row_updates.specs.Told.{IsPlaced}
use Rattle.cat_row_updates.proofs.Opening.{record_at, same_first, same_stored, told_again}
use Rattle.cat_row_updates.proofs.Same.{due_records}

pub both : (a b : Bool) → a ≡ true → b ≡ true → (a && b) ≡ true
both true b h g = g
both false b h g = h

either_first : (a b : Bool) → a ≡ true → (a || b) ≡ true
either_first true b h = refl
either_first false b h = absurd (true≢false (sym h))

either_second : (a b : Bool) → b ≡ true → (a || b) ≡ true
either_second true b h = refl
either_second false b h = h

pub all_pass : {A : Type 0} (p : A → Bool) (xs : List A) → ((x : A) → In x xs → p x ≡ true) → list_all p xs ≡ true
all_pass p [] f = refl
all_pass p (x ∷ xs) f = both (p x) (list_all p xs) (f x (inl refl)) (all_pass p xs (λ y g. f y (inr g)))

-- ---- it is told

pub told_rested : (rules : Rules) (m : State) → IsTold m → IsTold (rested m)
told_rested rules m t =
    let again : IsTold (reopened rules m) = told_again rules m t in
    record {
      offers = record { given = again.offers.given; shown = again.offers.shown; below = again.offers.below; once = again.offers.once };
      records = again.records;
      narrow = again.narrow;
      items_in_order = again.items_in_order;
      providers_in_order = again.providers_in_order;
      shelf_in_order = again.shelf_in_order;
      rows_in_order = again.rows_in_order;
      holders_in_order = again.holders_in_order;
      records_in_order = again.records_in_order;
      orphans_in_order = again.orphans_in_order;
    }

-- ---- a record of it is one of the state

pub record IsDueOf (m : State) (r : Ref) (y : Recorded) : Type 0 where
  pub kept : Recorded
  pub at : get m.records r ≡ Some kept
  pub is : y ≡ due_now kept

pub is_due_of : (m : State) (r : Ref) (y : Recorded) → get (due_records m) r ≡ Some y → IsDueOf m r y
is_due_of m r y f = go (get m.records r) refl (sym (record_at m r) ∙ f)
  where
    go : (v : Option Recorded) → get m.records r ≡ v → option_map due_now v ≡ Some y → IsDueOf m r y
    go None at g = absurd (none_some g)
    go (Some x) at g = record { kept = x; at = at; is = sym (same_some g) }

-- ---- its forms pass

this_passes : (r : Ref) (t : Data) → described t ≡ Ok r → is_this r (described t) ≡ true
this_passes r t e = ap (is_this r) e ∙ (bytes_eq-Decides r r).1 refl

none_length : {A : Type 0} (xs : List A) → xs ≡ [] → (length xs == 0) ≡ true
none_length xs e = ap (λ l. length l == 0) e

entity_passes : (levels : ℕ) (t : Data) (r : Ref) → IsEntity levels t r → is_entity t r ≡ true
entity_passes levels t r p =
    both _ _ (both _ _ (both _ _ p.namespace (this_passes r t p.named)) (none_length (breaches t) p.schema)) (none_length (kind_faults t) p.references)

not_any : (r : Ref) (rs : List Ref) → AllByRecursion (λ q. same_text r q ≡ false) rs → list_any (same_text r) rs ≡ false
not_any r [] h = refl
not_any r (q ∷ rs) h = (λ i. (h.0 i || list_any (same_text r) rs)) ∙ not_any r rs h.1

differ_passes : (rs : List Ref) → IsDistinct same_text rs → differ rs ≡ true
unfolding IsDistinct
differ_passes [] d = refl
differ_passes (r ∷ rs) d = both _ _ (ap not (not_any r rs d.0)) (differ_passes rs d.1)

module _ (rules : Rules) (m : State) (t : IsTold m) (placed : IsPlaced m) (formed : HaveForms m) where
  source_passes : (e : Text × ProviderInputs) → In e m.providers → is_source e ≡ true
  source_passes e i =
      elim (formed.serials e.0 e.1 (found_in text_total text_antisymmetric m.providers t.providers_in_order e.0 e.1 i)) [
        | inl none ↦ either_first (length e.1.items == 0) _ (none_length e.1.items none)
        | inr s ↦ either_second (length e.1.items == 0) _ (both _ _ (le-leb 1 e.1.serial s.0) (lt-ltb e.1.serial (2 ^ 53) s.1))
      ]

  row_passes : (e : ℕ × Row) → In e m.rows → is_given_row e ≡ true
  row_passes e i =
      let at = found_in nat_cmp_total nat_cmp-IsAntisymmetric m.rows t.rows_in_order e.0 e.1 i in
      let offer = formed.offers e.0 e.1 at in
      both _ _ (le-leb 1 e.0 (formed.arrivals e.0 e.1 at)) (both _ _ (le-leb (depth_of e.1.offered.tree) 100 offer.shallow) (this_passes e.1.reference e.1.offered.tree offer.named))

  output_passes : (r : Ref) (x : Recorded) → get m.records r ≡ Some x → (v : Option Output) → x.output ≡ v → is_output r v ≡ true
  output_passes r x f None e = refl
  output_passes r x f (Some output) e = both _ _ (entity_passes 125 output.entity r (formed.outputs r x output f e)) (differ_passes (keys output.offers) (placed.once r x output f e))

  kept_passes : (e : Text × Recorded) → In e (due_records m) → is_kept e ≡ true
  kept_passes e i =
      let k = is_due_of m e.0 e.1 (found_in text_total text_antisymmetric (due_records m) (told_rested rules m t).records_in_order e.0 e.1 i) in
      ap (λ (y : Recorded). is_output e.0 y.output) k.is ∙ output_passes e.0 k.kept k.at k.kept.output refl

  left_passes : (e : Text × Orphan) → In e m.orphans → is_left e ≡ true
  left_passes e i = entity_passes 126 e.1.entity e.0 (formed.orphans e.0 e.1 (found_in text_total text_antisymmetric m.orphans t.orphans_in_order e.0 e.1 i))

  pub forms_pass : has_forms (rested m) ≡ true
  unfolding has_forms
  forms_pass =
      both _ _ (both _ _ (both _ _ (all_pass is_source m.providers source_passes) (all_pass is_given_row m.rows row_passes)) (all_pass is_kept (due_records m) kept_passes)) (all_pass is_left m.orphans left_passes)

-- ---- its rows are those of the state

module _ (rules : Rules) (m : State) (t : IsTold m) where
  rested_stored : (rule : OrphanRule) → stored rule (rested m) ≡ stored rule m
  unfolding stored
  rested_stored rule = same_stored rules m rule t.records_in_order

  rested_first : first (rested m) ≡ first m
  unfolding first
  rested_first = same_first rules m t.records_in_order

  pub again_stored : (rule : OrphanRule) → stored rule (reopened rules (rested m)) ≡ stored rule m
  again_stored rule = same_stored rules (rested m) rule (told_rested rules m t).records_in_order ∙ rested_stored rule

  pub again_first : first (reopened rules (rested m)) ≡ first m
  again_first = same_first rules (rested m) (told_rested rules m t).records_in_order ∙ rested_first
