-- What the spec of a descriptor without breaches has.
use Rattle.std.proofs.Common.{◌≡◌, ℕ, Bool, true, false, ◌||◌, List, [], ◌∷◌, ◌++◌, Option, Some, None, bytes_eq, refl, ap, sym, ◌∙◌}
use Rattle.std.proofs.lemmas.Bool.{false≢true}
use Rattle.std.proofs.lemmas.Slice.Eq.{bytes_eq-Decides}
use Rattle.std.specs.List.{flat_map}
use Rattle.cat_tree.specs.Data.{Data}
use Rattle.cat_tree.specs.Ask.{child_of}
use Rattle.cat_types.specs.Reference.{is_map}
use Rattle.cat_schema.specs.declared.form.Form.TheVariants.{Map, List as Listing, Filled}
use Rattle.cat_schema.specs.declared.form.Wanted.{Wanted}
use Rattle.cat_schema.specs.declared.form.Wanted.TheVariants.{Needed}
use Rattle.cat_schema.specs.declared.kind.Kind.{Kind}
use Rattle.cat_schema.specs.Faults.{field, fields}
use Rattle.cat_schema.specs.Fields.{field_rows}
use Rattle.cat_schema.specs.Forms.{is_as}
use Rattle.cat_schema.specs.Kinds.{required_texts, required_lists}
use Rattle.cat_schema.specs.Rules.{metadata, spec, rule_1, rule_2, rule_3, rule_4, rule_18, rule_19, rule_20, is_among, single_reference, rule_21, list_reference, rule_22, rule_23, rule_24, of_metadata, of_spec, of_map, of_kind, kind_of, of_root, breaches}
use Rattle.cat_schema.proofs.Sound.{first_empty, second_empty, holds, field_holds, asked}

-- the descriptor has a spec, which breaks no rule of its kind
pub record HasSpec (t : Data) (k : Kind) : Type 0 where
  pub spec_of : Data
  pub there : child_of spec t ≡ Some spec_of
  pub faultless : of_spec k spec_of ≡ []

pub has_spec : (t : Data) (k : Kind) → breaches t ≡ [] → kind_of t ≡ Some k → HasSpec t k
unfolding breaches of_root
has_spec t k e named =
    let root : of_root t ≡ [] = asked (is_map t) (of_root t) (holds (is_map t) _ _ (first_empty (rule_1 t) _ e)) (second_empty (rule_1 t) _ e) in
    let rest = second_empty (rule_2 t ++ (rule_3 t ++ rule_4 t)) (of_map of_metadata (child_of metadata t) ++ (rule_18 t ++ of_kind (kind_of t) (child_of spec t))) root in
    let last = second_empty (of_map of_metadata (child_of metadata t)) (rule_18 t ++ of_kind (kind_of t) (child_of spec t)) rest in
    let own : of_kind (kind_of t) (child_of spec t) ≡ [] = second_empty (rule_18 t) (of_kind (kind_of t) (child_of spec t)) last in
    go (child_of spec t) refl (field_holds 18 (Needed Map) t [] spec (first_empty (rule_18 t) _ last)) (sym (ap (λ o. of_kind o (child_of spec t)) named) ∙ own)
  where
    go : (o : Option Data) → child_of spec t ≡ o → is_as (Needed Map) o ≡ true → of_kind (Some k) o ≡ [] → HasSpec t k
    go None h m e = absurd (false≢true m)
    go (Some s) h m e = record { spec_of = s; there = h; faultless = asked (is_map s) (of_spec k s) m e }

-- what such a spec keeps, rule after rule
pub record KeepsRules (k : Kind) (s : Data) : Type 0 where
  pub texts : fields 19 (Needed Filled) s spec (required_texts k) ≡ []
  pub lists : fields 20 (Needed Listing) s spec (required_lists k) ≡ []
  pub singles : flat_map (single_reference k s) field_rows ≡ []
  pub listed : flat_map (list_reference k s) field_rows ≡ []
  pub targets : rule_24 k s ≡ []

pub keeps_rules : (k : Kind) (s : Data) → of_spec k s ≡ [] → KeepsRules k s
unfolding of_spec rule_19 rule_20 rule_21 rule_22
keeps_rules k s e =
    let r20 = second_empty (rule_19 k s) (rule_20 k s ++ (rule_21 k s ++ (rule_22 k s ++ (rule_23 k s ++ rule_24 k s)))) e in
    let r21 = second_empty (rule_20 k s) (rule_21 k s ++ (rule_22 k s ++ (rule_23 k s ++ rule_24 k s))) r20 in
    let r22 = second_empty (rule_21 k s) (rule_22 k s ++ (rule_23 k s ++ rule_24 k s)) r21 in
    let r23 = second_empty (rule_22 k s) (rule_23 k s ++ rule_24 k s) r22 in
    record {
      texts = first_empty (rule_19 k s) _ e;
      lists = first_empty (rule_20 k s) _ r20;
      singles = first_empty (rule_21 k s) _ r21;
      listed = first_empty (rule_22 k s) _ r22;
      targets = second_empty (rule_23 k s) (rule_24 k s) r23;
    }

-- a field among those that keep a rule is as wanted
pub among_holds : (rule : ℕ) (wanted : Wanted) (d : Data) (place : List ℕ) (ks : List (List ℕ)) (key : List ℕ) → fields rule wanted d place ks ≡ [] → is_among key ks ≡ true → is_as wanted (child_of key d) ≡ true
among_holds rule wanted d place [] key e h = absurd (false≢true h)
among_holds rule wanted d place (k ∷ ks) key e h =
    go (bytes_eq k key) refl h (among_holds rule wanted d place ks key (second_empty (field rule wanted d place k) (fields rule wanted d place ks) e))
  where
    go : (b : Bool) → bytes_eq k key ≡ b → (b || is_among key ks) ≡ true → (is_among key ks ≡ true → is_as wanted (child_of key d) ≡ true) → is_as wanted (child_of key d) ≡ true
    go true is h rest = ap (λ q. is_as wanted (child_of q d)) (sym ((bytes_eq-Decides k key).0 is)) ∙ field_holds rule wanted d place k (first_empty (field rule wanted d place k) _ e)
    go false is h rest = rest h
