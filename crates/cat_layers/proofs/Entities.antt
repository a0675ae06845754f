-- A processed entity breaks no rule where the offered tree breaks none.
use Rattle.std.proofs.Common.{◌≡◌, ℕ, Bool, true, false, cond, List, [], ◌∷◌, ◌++◌, Option, None, Some, Ok, Err, if◌then◌else◌, is_some, codes, unwrap_or, ◌⊎◌, inl, inr, refl, ap, sym, ◌∙◌}
use Rattle.std.specs.Prelude.{option_and_then}
use Rattle.std.specs.Option.{option_map_or}
use Rattle.cat_tree.specs.Ask.{child_of}
use Rattle.cat_tree.specs.Data.{Data, null, flag, whole, words, list, dict}
use Rattle.cat_tree.specs.Edit.{with_key}
use Rattle.cat_tree.proofs.Edits.{child_of-with_key_other, member_at-put_same}
use Rattle.cat_types.specs.Names.{is_namespace}
use Rattle.cat_types.specs.Reference.{described, is_map, text_at, part_or, named_by, named_in}
use Rattle.cat_types.specs.declared.fault.RefFault.TheVariants.{Shape}
use Rattle.cat_collections.specs.Table.{Text}
use Rattle.cat_schema.specs.Faults.{below, unless, field, members, values, keys, member_fields}
use Rattle.cat_schema.specs.Forms.{is_as, may_be_there}
use Rattle.cat_schema.specs.Rules.{metadata, spec, rule_1, rule_2, rule_3, rule_4, rule_5, rule_6, rule_7, rule_8, rule_9, rule_10, rule_11, rule_12, rule_13, rule_14, rule_15, rule_16, rule_17, rule_18, of_metadata, of_map, of_kind, kind_of, of_root, breaches}
use Rattle.cat_schema.specs.declared.faults.SchemaFault.{SchemaFault}
use Rattle.cat_schema.specs.declared.form.Form.TheVariants.{Map, Words, NameOrEmpty, Namespace, Tag, Link}
use Rattle.cat_schema.specs.declared.form.Wanted.{Wanted}
use Rattle.cat_schema.specs.declared.form.Wanted.TheVariants.{Needed, Optional}
use Rattle.cat_schema.specs.Kinds.{kind_named}
use Rattle.cat_schema.specs.Fields.{FieldRow, field_rows}
use Rattle.cat_kinds.specs.Kinds.{faults_of, kind_faults}
use Rattle.cat_kinds.specs.Kinds as kinds
use Rattle.cat_kinds.specs.Mentions.{Mention, fits, mentions_at, mentions_in, mentions_by, mentions_by_each, mentions}
use Rattle.cat_process.specs.Process.{with_default, with_default_in, entity_of}
use Rattle.cat_layers.specs.Trees.{IsWithin}
use Rattle.cat_layers.specs.Forms.{IsProcessed}
use Rattle.cat_layers.proofs.Edits.{child_within, within-with_key, within-words, child_of-put}
use Rattle.cat_layers.proofs.Offers.{is_map-with_key, described-metadata}

-- ---- breaches that are none

first_empty : (xs ys : List SchemaFault) → xs ++ ys ≡ [] → xs ≡ []
first_empty [] ys e = refl
first_empty (x ∷ xs) ys e = cc

second_empty : (xs ys : List SchemaFault) → xs ++ ys ≡ [] → ys ≡ []
second_empty [] ys e = e
second_empty (x ∷ xs) ys e = cc

holds : (b : Bool) (rule : ℕ) (place : List ℕ) → unless b rule place ≡ [] → b ≡ true
holds true rule place e = refl
holds false rule place e = cc

field_holds : (rule : ℕ) (wanted : Wanted) (parent : Data) (place key : List ℕ) → field rule wanted parent place key ≡ [] → is_as wanted (child_of key parent) ≡ true
unfolding field
field_holds rule wanted parent place key e = holds _ _ _ e

asked : (b : Bool) (xs : List SchemaFault) → b ≡ true → cond b xs [] ≡ [] → xs ≡ []
asked true xs h e = e
asked false xs h e = cc

-- the annotations of metadata that break no rule are absent or a map
annotations_are_map : (m : Data) → of_metadata m ≡ [] → may_be_there is_map (child_of (codes "annotations") m) ≡ true
unfolding of_metadata
annotations_are_map m e =
    let later = second_empty (rule_5 m ++ (rule_6 m ++ (rule_7 m ++ rule_8 m))) ((rule_9 m ++ rule_10 m) ++ ((rule_11 m ++ rule_12 m) ++ ((rule_13 m ++ rule_14 m) ++ (rule_15 m ++ (rule_16 m ++ rule_17 m))))) e in
    let last = second_empty (rule_9 m ++ rule_10 m) ((rule_11 m ++ rule_12 m) ++ ((rule_13 m ++ rule_14 m) ++ (rule_15 m ++ (rule_16 m ++ rule_17 m)))) later in
    let both = first_empty (rule_11 m ++ rule_12 m) ((rule_13 m ++ rule_14 m) ++ (rule_15 m ++ (rule_16 m ++ rule_17 m))) last in
    field_holds 11 (Optional Map) m metadata (codes "annotations") (first_empty (field 11 (Optional Map) m metadata (codes "annotations")) _ (first_empty (rule_11 m) (rule_12 m) both))

root_annotations : (t m : Data) → child_of metadata t ≡ Some m → is_map m ≡ true → of_root t ≡ [] → may_be_there is_map (child_of (codes "annotations") m) ≡ true
unfolding of_root
root_annotations t m has map e =
    let rest = second_empty (rule_2 t ++ (rule_3 t ++ rule_4 t)) (of_map of_metadata (child_of metadata t) ++ (rule_18 t ++ of_kind (kind_of t) (child_of spec t))) e in
    let here : of_map of_metadata (child_of metadata t) ≡ [] = first_empty (of_map of_metadata (child_of metadata t)) (rule_18 t ++ of_kind (kind_of t) (child_of spec t)) rest in
    annotations_are_map m (asked (is_map m) (of_metadata m) map (sym (ap (of_map of_metadata) has) ∙ here))

whole_annotations : (t m : Data) → child_of metadata t ≡ Some m → is_map m ≡ true → breaches t ≡ [] → may_be_there is_map (child_of (codes "annotations") m) ≡ true
unfolding breaches
whole_annotations t m has map e =
    root_annotations t m has map (asked (is_map t) (of_root t) (holds (is_map t) 1 [] (first_empty (rule_1 t) _ e)) (second_empty (rule_1 t) _ e))

-- ---- metadata with a namespace

field_alike : (rule : ℕ) (wanted : Wanted) (d e : Data) (place key : List ℕ) → child_of key e ≡ child_of key d → field rule wanted e place key ≡ field rule wanted d place key
unfolding field
field_alike rule wanted d e place key h = ap (λ c. unless (is_as wanted c) rule (below place key)) h

field_passes : (rule : ℕ) (wanted : Wanted) (d : Data) (place key : List ℕ) → is_as wanted (child_of key d) ≡ true → field rule wanted d place key ≡ []
unfolding field
field_passes rule wanted d place key h = ap (λ b. unless b rule (below place key)) h

default_is_namespace : is_as (Optional Namespace) (Some (words (codes "default"))) ≡ true
unfolding is_namespace
default_is_namespace = refl

-- the metadata with the namespace `default`
abbrev named_metadata : Data → Data
named_metadata m = with_key (codes "namespace") (words (codes "default")) m

pub child_of-put_map : (k : List ℕ) (v d : Data) → is_map d ≡ true → child_of k (with_key k v d) ≡ Some v
child_of-put_map k v null h = cc
child_of-put_map k v (flag b) h = cc
child_of-put_map k v (whole z) h = cc
child_of-put_map k v (words s) h = cc
child_of-put_map k v (list ds) h = cc
child_of-put_map k v (dict ms) h = member_at-put_same k v ms

module _ (m : Data) (map : is_map m ≡ true) (none : child_of (codes "namespace") m ≡ None) where
  has_default : child_of (codes "namespace") (named_metadata m) ≡ Some (words (codes "default"))
  has_default = child_of-put_map (codes "namespace") (words (codes "default")) m map

  namespace_part : part_or (codes "default") (child_of (codes "namespace") (named_metadata m)) ≡ part_or (codes "default") (child_of (codes "namespace") m)
  namespace_part = ap (part_or (codes "default")) has_default ∙ sym (ap (part_or (codes "default")) none)

  same_6 : rule_6 (named_metadata m) ≡ rule_6 m
  same_6 =
      field_passes 6 (Optional Namespace) (named_metadata m) metadata (codes "namespace") (ap (is_as (Optional Namespace)) has_default ∙ default_is_namespace)
      ∙ sym (field_passes 6 (Optional Namespace) m metadata (codes "namespace") (ap (is_as (Optional Namespace)) none))

  metadata_alike : of_metadata (named_metadata m) ≡ of_metadata m
  unfolding of_metadata
  metadata_alike =
      let v : Data = words (codes "default") in
      let n : Data = named_metadata m in
      let labels : child_of (codes "labels") n ≡ child_of (codes "labels") m = child_of-with_key_other (codes "labels") (codes "namespace") v m refl in
      let annotations : child_of (codes "annotations") n ≡ child_of (codes "annotations") m = child_of-with_key_other (codes "annotations") (codes "namespace") v m refl in
      let tags : child_of (codes "tags") n ≡ child_of (codes "tags") m = child_of-with_key_other (codes "tags") (codes "namespace") v m refl in
      let links : child_of (codes "links") n ≡ child_of (codes "links") m = child_of-with_key_other (codes "links") (codes "namespace") v m refl in
      let r5 : rule_5 n ≡ rule_5 m = field_alike _ _ m n _ (codes "name") (child_of-with_key_other (codes "name") (codes "namespace") v m refl) in
      let r7 : rule_7 n ≡ rule_7 m = field_alike _ _ m n _ (codes "title") (child_of-with_key_other (codes "title") (codes "namespace") v m refl) in
      let r8 : rule_8 n ≡ rule_8 m = field_alike _ _ m n _ (codes "description") (child_of-with_key_other (codes "description") (codes "namespace") v m refl) in
      let f9 : field 9 (Optional Map) n metadata (codes "labels") ≡ field 9 (Optional Map) m metadata (codes "labels") = field_alike _ _ m n _ (codes "labels") labels in
      let f11 : field 11 (Optional Map) n metadata (codes "annotations") ≡ field 11 (Optional Map) m metadata (codes "annotations") = field_alike _ _ m n _ (codes "annotations") annotations in
      let r13 : rule_13 n ≡ rule_13 m = field_alike _ _ m n _ (codes "tags") tags in
      let r15 : rule_15 n ≡ rule_15 m = field_alike _ _ m n _ (codes "links") links in
      λ i. (r5 i ++ (same_6 i ++ (r7 i ++ r8 i)))
      ++ (((f9 i ++ keys 9 (labels i) (codes "metadata.labels")) ++ values 10 NameOrEmpty (labels i) (codes "metadata.labels"))
      ++ (((f11 i ++ keys 11 (annotations i) (codes "metadata.annotations")) ++ values 12 Words (annotations i) (codes "metadata.annotations"))
      ++ ((r13 i ++ members 14 Tag (tags i) (codes "metadata.tags"))
      ++ (r15 i ++ (members 16 Link (links i) (codes "metadata.links") ++ member_fields 17 (Optional Words) (links i) (codes "metadata.links") (codes "title" ∷ codes "icon" ∷ codes "type" ∷ []))))))

-- ---- an entity with such metadata

module _ (t m n : Data) (has : child_of metadata t ≡ Some m) (same_map : is_map n ≡ is_map m) where
  abbrev changed : Data
  changed = with_key metadata n t

  now_has : child_of metadata changed ≡ Some n
  now_has = child_of-put metadata n t m has

  kind_alike : child_of (codes "kind") changed ≡ child_of (codes "kind") t
  kind_alike = child_of-with_key_other (codes "kind") metadata n t refl

  spec_alike : child_of spec changed ≡ child_of spec t
  spec_alike = child_of-with_key_other spec metadata n t refl

  same_4 : rule_4 changed ≡ rule_4 t
  unfolding field
  same_4 =
      ap (λ c. unless (is_as (Needed Map) c) 4 (below [] metadata)) now_has
      ∙ (ap (λ b. unless b 4 (below [] metadata)) same_map
      ∙ sym (ap (λ c. unless (is_as (Needed Map) c) 4 (below [] metadata)) has))

  root_alike : of_metadata n ≡ of_metadata m → of_root changed ≡ of_root t
  unfolding of_root
  root_alike same =
      let r2 : rule_2 changed ≡ rule_2 t = field_alike _ _ t changed _ (codes "apiVersion") (child_of-with_key_other (codes "apiVersion") metadata n t refl) in
      let r3 : rule_3 changed ≡ rule_3 t = field_alike _ _ t changed _ (codes "kind") kind_alike in
      let r18 : rule_18 changed ≡ rule_18 t = field_alike _ _ t changed _ spec spec_alike in
      let inner : of_map of_metadata (child_of metadata changed) ≡ of_map of_metadata (child_of metadata t) =
      ap (of_map of_metadata) now_has ∙ ((λ i. if same_map i then same i else []) ∙ sym (ap (of_map of_metadata) has)) in
      λ i. (r2 i ++ (r3 i ++ same_4 i)) ++ (inner i ++ (r18 i ++ of_kind (option_and_then kind_named (text_at (kind_alike i))) (spec_alike i)))

  breaches_alike : of_metadata n ≡ of_metadata m → breaches changed ≡ breaches t
  unfolding breaches
  breaches_alike same =
      let map : is_map changed ≡ is_map t = is_map-with_key metadata n t in
      λ i. unless (map i) 1 [] ++ (if map i then root_alike same i else [])

  -- ---- reference fields

  fits_alike : (row : FieldRow) → fits (kind_of changed) row ≡ fits (kind_of t) row
  fits_alike row = ap (λ c. fits (option_and_then kind_named (text_at c)) row) kind_alike

  in_alike : (row : FieldRow) → mentions_in row changed ≡ mentions_in row t
  unfolding mentions_in
  in_alike row = ap (λ c. option_map_or (mentions_at row) (option_and_then (child_of row.key) c) []) spec_alike

  by_alike : (row : FieldRow) → mentions_by changed row ≡ mentions_by t row
  unfolding mentions_by
  by_alike row = λ i. if fits_alike row i then in_alike row i else []

  each_alike : (rows : List FieldRow) → mentions_by_each changed rows ≡ mentions_by_each t rows
  each_alike [] = refl
  each_alike (row ∷ rows) = λ i. by_alike row i ++ each_alike rows i

  mentions_alike : mentions changed ≡ mentions t
  unfolding mentions
  mentions_alike = each_alike field_rows

  kind_faults_alike : kinds.namespace_of changed ≡ kinds.namespace_of t → kind_faults changed ≡ kind_faults t
  unfolding kind_faults
  kind_faults_alike same = λ i. faults_of (same i) (mentions_alike i)

-- ---- the processed entity

namespace_default : (t : Data) (o : Option Data) → option_and_then (child_of (codes "namespace")) (child_of (codes "metadata") t) ≡ o → text_at o ≡ Some (codes "default") ⊎ text_at o ≡ None → kinds.namespace_of t ≡ codes "default"
unfolding kinds.namespace_of
namespace_default t o e (inl h) = ap (λ c. unwrap_or (text_at c) (codes "default")) e ∙ ap (λ s. unwrap_or s (codes "default")) h
namespace_default t o e (inr h) = ap (λ c. unwrap_or (text_at c) (codes "default")) e ∙ ap (λ s. unwrap_or s (codes "default")) h

found_in : (key : List ℕ) (t m : Data) → child_of (codes "metadata") t ≡ Some m → option_and_then (child_of key) (child_of (codes "metadata") t) ≡ child_of key m
found_in key t m has = ap (option_and_then (child_of key)) has

pub map_by : (d m : Data) (r : Text) → named_in d (Some m) ≡ Ok r → is_map m ≡ true
map_by d m r h = pick (is_map m) refl h
  where
    pick : (b : Bool) → is_map m ≡ b → (if b then named_by (text_at (child_of (codes "kind") d)) (part_or (codes "default") (child_of (codes "namespace") m)) (part_or [] (child_of (codes "name") m)) else Err Shape) ≡ Ok r → is_map m ≡ true
    pick true e k = e
    pick false e k = cc

module _ (d : Data) (r : Text) (named : described d ≡ Ok r) (within : IsWithin 100 d) (faultless : breaches d ≡ []) (read : kind_faults d ≡ []) where
  in_namespace : (m : Data) → child_of (codes "metadata") d ≡ Some m → is_map m ≡ true → (o : Option Data) → child_of (codes "namespace") m ≡ o → IsProcessed (with_default d m o) r
  in_namespace m has map (Some namespace) e = record {
    named = named;
    within = within;
    namespace = ap is_some (found_in (codes "namespace") d m has ∙ e);
    annotations = ap (may_be_there is_map) (found_in (codes "annotations") d m has) ∙ whole_annotations d m has map faultless;
    schema = faultless;
    references = read;
  }
  in_namespace m has map None e =
      let n : Data = named_metadata m in
      let same_map : is_map n ≡ is_map m = is_map-with_key (codes "namespace") (words (codes "default")) m in
      let t : Data = with_key (codes "metadata") n d in
      let has_now : child_of (codes "metadata") t ≡ Some n = child_of-put (codes "metadata") n d m has in
      let there : option_and_then (child_of (codes "namespace")) (child_of (codes "metadata") t) ≡ Some (words (codes "default")) = found_in (codes "namespace") t n has_now ∙ has_default m map e in
      record {
        named = described-metadata d m n has same_map (namespace_part m map e) (child_of-with_key_other (codes "name") (codes "namespace") (words (codes "default")) m refl) ∙ named;
        within = within-with_key 99 (codes "metadata") n d (within-with_key 98 (codes "namespace") (words (codes "default")) m (within-words 98 (codes "default")) (child_within 99 (codes "metadata") d m has within)) within;
        namespace = ap is_some there;
        annotations =
            ap (may_be_there is_map) (found_in (codes "annotations") t n has_now)
            ∙ (ap (may_be_there is_map) (child_of-with_key_other (codes "annotations") (codes "namespace") (words (codes "default")) m refl)
            ∙ whole_annotations d m has map faultless);
        schema = breaches_alike d m n has same_map (metadata_alike m map e) ∙ faultless;
        references = kind_faults_alike d m n has same_map (namespace_default t _ there (inl refl) ∙ sym (namespace_default d _ (found_in (codes "namespace") d m has ∙ e) (inr refl))) ∙ read;
      }

  in_metadata : (o : Option Data) → child_of (codes "metadata") d ≡ o → named_in d o ≡ Ok r → IsProcessed (with_default_in d o) r
  in_metadata None has e = cc
  in_metadata (Some m) has e = in_namespace m has (map_by d m r e) (child_of (codes "namespace") m) refl

  pub entity_is_processed : IsProcessed (entity_of d) r
  unfolding entity_of
  entity_is_processed = in_metadata (child_of (codes "metadata") d) refl named
