-- What passed the test of forms has its form.
use Rattle.std.proofs.Common.{◌≡◌, ◌⊎◌, inl, inr, ℕ, suc, ◌≤◌, Bool, true, false, not, ◌&&◌, ◌||◌, List, [], ◌∷◌, length, refl, sym, ap, true≢false, arith}
use Rattle.std.proofs.lemmas.Bool.Decides.{nat_tests}
use Rattle.std.proofs.lemmas.Slice.Eq.{bytes_eq-Decides}
use Rattle.std.specs.Prelude.{◌==◌}
use Rattle.std.specs.declared.result.Result.{Result}
use Rattle.std.specs.declared.result.Result.TheVariants.{Ok, Err}
use Rattle.std.specs.List.{AllByRecursion, IsDistinct, list_all, list_any}
use Rattle.cat_tree.specs.Ask.{depth_of}
use Rattle.cat_tree.specs.Data.{Data}
use Rattle.cat_tree.specs.Proper.{IsProper}
use Rattle.cat_types.specs.Reference.{described}
use Rattle.cat_types.specs.declared.fault.RefFault.{RefFault}
use Rattle.cat_schema.specs.Rules.{breaches}
use Rattle.cat_kinds.specs.Kinds.{kind_faults}
use Rattle.cat_collections.specs.Table.{Text, same_text}
use Rattle.cat_collections.proofs.Tables.{and_first, and_second}
use Rattle.cat_model.specs.Catalogue.{Ref}
use Rattle.cat_model.specs.declared.types.State.{State}
use Rattle.cat_row_reader.specs.Forms.{differ, has_forms, has_namespace, is_entity, is_given_row, is_kept, is_left, is_source, is_this}
use Rattle.cat_row_updates.specs.Right.{IsEntity}

never : (n : ℕ) → (suc n == 0) ≡ true → ⊥
never n h = grind (arith, nat_tests)

pub either_of : (a b : Bool) → (a || b) ≡ true → (a ≡ true) ⊎ (b ≡ true)
either_of true b h = inl refl
either_of false b h = inr h

pub no_items : {A : Type 0} (xs : List A) → (length xs == 0) ≡ true → xs ≡ []
no_items [] h = refl
no_items (x ∷ xs) h = absurd (never (length xs) h)

pub this_named : (r : Ref) (v : Result Text RefFault) → is_this r v ≡ true → v ≡ Ok r
this_named r (Ok q) h = ap Ok ((bytes_eq-Decides q r).0 h)
this_named r (Err fault) h = absurd (true≢false (sym h))

not_either : (a b : Bool) → not (a || b) ≡ true → (a ≡ false) × (not b ≡ true)
not_either true b h = absurd (true≢false (sym h))
not_either false b h = (refl, h)

none_alike : (r : Ref) (rs : List Ref) → not (list_any (same_text r) rs) ≡ true → AllByRecursion (λ q. same_text r q ≡ false) rs
none_alike r [] h = tt
none_alike r (q ∷ rs) h = let two = not_either (same_text r q) (list_any (same_text r) rs) h in (two.0, none_alike r rs two.1)

pub distinct : (rs : List Ref) → differ rs ≡ true → IsDistinct same_text rs
unfolding IsDistinct
distinct [] h = tt
distinct (r ∷ rs) h = (none_alike r rs (and_first _ _ h), distinct rs (and_second (not (list_any (same_text r) rs)) _ h))

pub entity_of : (levels : ℕ) (t : Data) (r : Ref) → depth_of t ≤ levels → IsProper t → is_entity t r ≡ true → IsEntity levels t r
entity_of levels t r shallow proper h =
    let three : (has_namespace t && is_this r (described t) && length (breaches t) == 0) ≡ true = and_first _ _ h in
    let two : (has_namespace t && is_this r (described t)) ≡ true = and_first _ _ three in
    record {
      named = this_named r (described t) (and_second (has_namespace t) _ two);
      shallow = shallow;
      proper = proper;
      namespace = and_first _ _ two;
      schema = no_items (breaches t) (and_second (has_namespace t && is_this r (described t)) _ three);
      references = no_items (kind_faults t) (and_second (has_namespace t && is_this r (described t) && length (breaches t) == 0) _ h);
    }

-- each part of what passed
pub record IsPassing (m : State) : Type 0 where
  pub providers : list_all is_source m.providers ≡ true
  pub rows : list_all is_given_row m.rows ≡ true
  pub records : list_all is_kept m.records ≡ true
  pub orphans : list_all is_left m.orphans ≡ true

pub passing : (m : State) → has_forms m ≡ true → IsPassing m
unfolding has_forms
passing m h =
    let p = list_all is_source m.providers in
    let g = list_all is_given_row m.rows in
    let k = list_all is_kept m.records in
    let three : (p && g && k) ≡ true = and_first _ _ h in
    let two : (p && g) ≡ true = and_first _ _ three in
    record { providers = and_first _ _ two; rows = and_second p _ two; records = and_second (p && g) _ three; orphans = and_second (p && g && k) _ h }
