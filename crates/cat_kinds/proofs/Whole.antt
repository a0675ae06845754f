-- Where a descriptor breaks no rule, each reference is read.
use Rattle.std.proofs.Common.{◌≡◌, ℕ, suc, Bool, true, false, cond, not, ◌&&◌, List, [], ◌∷◌, ◌++◌, length, Option, Some, None, option_and_then, refl, ap, sym, ◌∙◌}
use Rattle.std.specs.List.{flat_map, AllByRecursion}
use Rattle.std.specs.Option.{option_map_or}
use Rattle.std.proofs.lemmas.Bool.{false≢true}
use Rattle.cat_tree.specs.Ask.{child_of}
use Rattle.cat_tree.specs.Data.{Data, null, flag, whole, words, list, dict, Items, no_items, item}
use Rattle.cat_schema.specs.declared.form.Form.TheVariants.{List as Listing, Filled}
use Rattle.cat_schema.specs.declared.form.Wanted.TheVariants.{Needed, Optional}
use Rattle.cat_schema.specs.declared.faults.SchemaFault.{SchemaFault}
use Rattle.cat_schema.specs.declared.kind.Kind.{Kind}
use Rattle.cat_schema.specs.Faults.{below, unless, field, over_items, member_fault, members}
use Rattle.cat_schema.specs.Fields.{FieldRow, field_rows, has_field}
use Rattle.cat_schema.specs.Forms.{has_form, is_as}
use Rattle.cat_schema.specs.Kinds.{required_texts, required_lists}
use Rattle.cat_schema.specs.Rules.{spec, is_among, may_have_single, has_list, single_reference, may_be_list, list_reference, kind_of, breaches}
use Rattle.cat_schema.proofs.Sound.{first_empty, second_empty, holds, field_holds, asked}
use Rattle.cat_schema.proofs.Checked.{HasSpec, has_spec, KeepsRules, keeps_rules, among_holds}
use Rattle.cat_kinds.specs.Mentions.{Mention, fits, mention, mentions_among, mentions_at, mentions_in}
use Rattle.cat_kinds.specs.Whole.{item_count, reference_count, field_count, field_of, IsReadWhole, ReadsEachReference}

-- what a field of the spec mentions
abbrev mentioned : FieldRow → Option Data → List Mention
mentioned row part = option_map_or (mentions_at row) part []

-- ---- single references

single_length : (row : FieldRow) (o : Option Data) → row.is_list ≡ false → is_as (Optional Filled) o ≡ true → length (mentioned row o) ≡ field_count o
single_length row None l h = refl
single_length row (Some null) l h = absurd (false≢true h)
single_length row (Some (flag b)) l h = absurd (false≢true h)
single_length row (Some (whole z)) l h = absurd (false≢true h)
single_length row (Some (words s)) l h = rw l refl
single_length row (Some (list ds)) l h = absurd (false≢true h)
single_length row (Some (dict ms)) l h = absurd (false≢true h)

filled_optional : (o : Option Data) → is_as (Needed Filled) o ≡ true → is_as (Optional Filled) o ≡ true
filled_optional None h = refl
filled_optional (Some d) h = h

-- ---- lists

among_length : (row : FieldRow) (i : ℕ) (place : List ℕ) (ds : Items) → over_items (member_fault 22 Filled place) i ds ≡ [] → length (mentions_among row i ds) ≡ item_count ds
among_length row i place no_items e = refl
among_length row i place (item d ds) e =
    one d (holds (has_form Filled d) 22 _ (first_empty (member_fault 22 Filled place i d) _ e))
    (among_length row (suc i) place ds (second_empty (member_fault 22 Filled place i d) (over_items (member_fault 22 Filled place) (suc i) ds) e))
  where
    one : (v : Data) → has_form Filled v ≡ true → length (mentions_among row (suc i) ds) ≡ item_count ds → length (mention row (Some i) v ++ mentions_among row (suc i) ds) ≡ suc (item_count ds)
    one null h rest = absurd (false≢true h)
    one (flag b) h rest = absurd (false≢true h)
    one (whole z) h rest = absurd (false≢true h)
    one (words s) h rest = ap suc rest
    one (list es) h rest = absurd (false≢true h)
    one (dict ms) h rest = absurd (false≢true h)

list_length : (row : FieldRow) (place : List ℕ) (o : Option Data) → row.is_list ≡ true → is_as (Optional Listing) o ≡ true → members 22 Filled o place ≡ [] → length (mentioned row o) ≡ field_count o
unfolding members
list_length row place None l h e = refl
list_length row place (Some null) l h e = absurd (false≢true h)
list_length row place (Some (flag b)) l h e = absurd (false≢true h)
list_length row place (Some (whole z)) l h e = absurd (false≢true h)
list_length row place (Some (words s)) l h e = absurd (false≢true h)
list_length row place (Some (list ds)) l h e =
    ap (λ b. length (cond b (mentions_among row 0 ds) (mention row None (list ds)))) l ∙ among_length row 0 place ds e
list_length row place (Some (dict ms)) l h e = absurd (false≢true h)

list_optional : (o : Option Data) → is_as (Needed Listing) o ≡ true → is_as (Optional Listing) o ≡ true
list_optional None h = refl
list_optional (Some d) h = h

-- ---- each field of the kind

module _ (k : Kind) (s : Data) (keeps : KeepsRules k s) where
  single_read : (row : FieldRow) → has_field k row ≡ true → row.is_list ≡ false → single_reference k s row ≡ [] → length (mentioned row (child_of row.key s)) ≡ field_count (child_of row.key s)
  single_read row has l e = single_length row (child_of row.key s) l (go (is_among row.key (required_texts k)) refl)
    where
      wanted : may_have_single k row ≡ not (is_among row.key (required_texts k))
      wanted = λ i. has i && not (l i) && not (is_among row.key (required_texts k))

      go : (b : Bool) → is_among row.key (required_texts k) ≡ b → is_as (Optional Filled) (child_of row.key s) ≡ true
      go true is = filled_optional (child_of row.key s) (among_holds 19 (Needed Filled) s spec (required_texts k) row.key keeps.texts is)
      go false is = field_holds 21 (Optional Filled) s spec row.key (asked (may_have_single k row) (field 21 (Optional Filled) s spec row.key) (wanted ∙ ap not is) e)

  listed_read : (row : FieldRow) → has_field k row ≡ true → row.is_list ≡ true → list_reference k s row ≡ [] → length (mentioned row (child_of row.key s)) ≡ field_count (child_of row.key s)
  listed_read row has l e =
      list_length row (below spec row.key) (child_of row.key s) l (go (is_among row.key (required_lists k)) refl) (second_empty (may_be_list k s row) _ both)
    where
      both : may_be_list k s row ++ members 22 Filled (child_of row.key s) (below spec row.key) ≡ []
      both = asked (has_list k row) (may_be_list k s row ++ members 22 Filled (child_of row.key s) (below spec row.key)) (λ i. has i && l i) e

      go : (b : Bool) → is_among row.key (required_lists k) ≡ b → is_as (Optional Listing) (child_of row.key s) ≡ true
      go true is = list_optional (child_of row.key s) (among_holds 20 (Needed Listing) s spec (required_lists k) row.key keeps.lists is)
      go false is =
          field_holds 22 (Optional Listing) s spec row.key
          (sym (ap (λ b. cond b [] (field 22 (Optional Listing) s spec row.key)) is) ∙ first_empty (may_be_list k s row) (members 22 Filled (child_of row.key s) (below spec row.key)) both)

  row_read : (row : FieldRow) → has_field k row ≡ true → single_reference k s row ≡ [] → list_reference k s row ≡ [] → length (mentioned row (child_of row.key s)) ≡ field_count (child_of row.key s)
  row_read row has single listed = go row.is_list refl
    where
      go : (b : Bool) → row.is_list ≡ b → length (mentioned row (child_of row.key s)) ≡ field_count (child_of row.key s)
      go true l = listed_read row has l listed
      go false l = single_read row has l single

-- ---- the entity

module _ (d : Data) (k : Kind) (named : kind_of d ≡ Some k) (s : Data) (there : child_of spec d ≡ Some s) (keeps : KeepsRules k s) where
  read_whole : (row : FieldRow) → single_reference k s row ≡ [] → list_reference k s row ≡ [] → IsReadWhole d row
  unfolding mentions_in
  read_whole row single listed has =
      ap (λ o. length (mentioned row (option_and_then (child_of row.key) o))) there
      ∙ (row_read k s keeps row (sym (ap (λ o. fits o row) named) ∙ has) single listed
      ∙ sym (ap (λ o. field_count (option_and_then (child_of row.key) o)) there))

  rows_read : (rows : List FieldRow) → flat_map (single_reference k s) rows ≡ [] → flat_map (list_reference k s) rows ≡ [] → AllByRecursion (IsReadWhole d) rows
  rows_read [] e f = tt
  rows_read (row ∷ rows) e f = (
    read_whole row (first_empty (single_reference k s row) _ e) (first_empty (list_reference k s row) _ f),
    rows_read rows (second_empty (single_reference k s row) (flat_map (single_reference k s) rows) e) (second_empty (list_reference k s row) (flat_map (list_reference k s) rows) f),
  )

unknown_read : (d : Data) (rows : List FieldRow) → kind_of d ≡ None → AllByRecursion (IsReadWhole d) rows
unknown_read d [] e = tt
unknown_read d (row ∷ rows) e = ((λ has. absurd (false≢true (sym (ap (λ o. fits o row) e) ∙ has))), unknown_read d rows e)

pub reads_each : (d : Data) → breaches d ≡ [] → ReadsEachReference d
reads_each d e = go (kind_of d) refl
  where
    go : (o : Option Kind) → kind_of d ≡ o → ReadsEachReference d
    go None is = unknown_read d field_rows is
    go (Some k) is =
        let has : HasSpec d k = has_spec d k e is in
        let keeps : KeepsRules k has.spec_of = keeps_rules k has.spec_of has.faultless in
        rows_read d k is has.spec_of has.there keeps field_rows keeps.singles keeps.listed
