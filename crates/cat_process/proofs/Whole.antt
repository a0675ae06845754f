-- Where a Location breaks no rule, each target text is read.
use Rattle.std.proofs.Common.{◌≡◌, ℕ, suc, ◌+◌, Bool, true, false, List, [], ◌∷◌, ◌++◌, length, Option, Some, None, option_and_then, codes, refl, ap, sym, ◌∙◌, length-append}
use Rattle.std.specs.Option.{option_map_or, option_to_list}
use Rattle.std.proofs.lemmas.Bool.{false≢true}
use Rattle.std.proofs.lemmas.Slice.Eq.{bytes_eq-Decides}
use Rattle.cat_tree.specs.Ask.{child_of}
use Rattle.cat_tree.specs.Data.{Data, null, flag, whole, words, list, dict, Items, no_items, item}
use Rattle.cat_types.specs.Reference.{text_at}
use Rattle.cat_collections.specs.Table.{Text}
use Rattle.cat_schema.specs.declared.form.Form.TheVariants.{List as Listing, Words, LocationType, Presence}
use Rattle.cat_schema.specs.declared.form.Wanted.TheVariants.{Optional}
use Rattle.cat_schema.specs.declared.faults.SchemaFault.{SchemaFault}
use Rattle.cat_schema.specs.declared.kind.Kind.TheVariants.{Location}
use Rattle.cat_schema.specs.Faults.{below, field, over_items, member_fault, members, lists}
use Rattle.cat_schema.specs.Forms.{has_form, is_as}
use Rattle.cat_schema.specs.Kinds.{kind_named}
use Rattle.cat_schema.specs.Rules.{spec, rule_24, kind_of, breaches}
use Rattle.cat_schema.proofs.Sound.{first_empty, second_empty, holds, field_holds}
use Rattle.cat_schema.proofs.Checked.{HasSpec, has_spec, KeepsRules, keeps_rules}
use Rattle.cat_kinds.specs.Whole.{item_count, field_count}
use Rattle.cat_target.specs.Location.{as_words, words_among, listed_words, grandchild_of, spec_words, more_texts, target_texts}
use Rattle.cat_process.specs.Process.{is_named_location, is_location}
use Rattle.cat_process.specs.Whole.{ReadsEachTarget}

first_length : (o : Option Data) → is_as (Optional Words) o ≡ true → length (option_to_list (option_and_then as_words o)) ≡ field_count o
first_length None h = refl
first_length (Some null) h = absurd (false≢true h)
first_length (Some (flag b)) h = absurd (false≢true h)
first_length (Some (whole z)) h = absurd (false≢true h)
first_length (Some (words s)) h = refl
first_length (Some (list ds)) h = absurd (false≢true h)
first_length (Some (dict ms)) h = absurd (false≢true h)

among_length : (place : List ℕ) (i : ℕ) (ds : Items) → over_items (member_fault 24 Words place) i ds ≡ [] → length (words_among ds) ≡ item_count ds
among_length place i no_items e = refl
among_length place i (item d ds) e =
    one d (holds (has_form Words d) 24 _ (first_empty (member_fault 24 Words place i d) _ e))
    (among_length place (suc i) ds (second_empty (member_fault 24 Words place i d) (over_items (member_fault 24 Words place) (suc i) ds) e))
  where
    one : (v : Data) → has_form Words v ≡ true → length (words_among ds) ≡ item_count ds → length (option_to_list (as_words v) ++ words_among ds) ≡ suc (item_count ds)
    one null h rest = absurd (false≢true h)
    one (flag b) h rest = absurd (false≢true h)
    one (whole z) h rest = absurd (false≢true h)
    one (words s) h rest = ap suc rest
    one (list es) h rest = absurd (false≢true h)
    one (dict ms) h rest = absurd (false≢true h)

more_length : (place : List ℕ) (o : Option Data) → is_as (Optional Listing) o ≡ true → members 24 Words o place ≡ [] → length (option_map_or listed_words o []) ≡ field_count o
unfolding members
more_length place None h e = refl
more_length place (Some null) h e = absurd (false≢true h)
more_length place (Some (flag b)) h e = absurd (false≢true h)
more_length place (Some (whole z)) h e = absurd (false≢true h)
more_length place (Some (words s)) h e = absurd (false≢true h)
more_length place (Some (list ds)) h e = among_length place 0 ds e
more_length place (Some (dict ms)) h e = absurd (false≢true h)

location_kind : (d : Data) → is_location d ≡ true → kind_of d ≡ Some Location
unfolding is_location
location_kind d h = go (text_at (child_of (codes "kind") d)) h
  where
    go : (o : Option Text) → is_named_location o ≡ true → option_and_then kind_named o ≡ Some Location
    go None h = absurd (false≢true h)
    go (Some t) h = ap kind_named ((bytes_eq-Decides t (codes "Location")).0 h)

-- the two fields of a spec that breaks no rule of a Location
record HasTexts (s : Data) : Type 0 where
  target : length (option_to_list (option_and_then as_words (child_of (codes "target") s))) ≡ field_count (child_of (codes "target") s)
  targets : length (option_map_or listed_words (child_of (codes "targets") s) []) ≡ field_count (child_of (codes "targets") s)

has_texts : (s : Data) → rule_24 Location s ≡ [] → HasTexts s
unfolding rule_24
has_texts s e =
    let kind : List SchemaFault = field 24 (Optional LocationType) s spec (codes "type") in
    let presence : List SchemaFault = field 24 (Optional Presence) s spec (codes "presence") in
    let all : List SchemaFault = lists 24 Words s spec (codes "targets" ∷ []) in
    let after = second_empty kind (field 24 (Optional Words) s spec (codes "target") ++ (all ++ presence)) e in
    let last : all ≡ [] = first_empty all presence (second_empty (field 24 (Optional Words) s spec (codes "target")) (all ++ presence) after) in
    let both = first_empty (field 24 (Optional Listing) s spec (codes "targets") ++ members 24 Words (child_of (codes "targets") s) (below spec (codes "targets"))) [] last in
    record {
      target = first_length _ (field_holds 24 (Optional Words) s spec (codes "target") (first_empty (field 24 (Optional Words) s spec (codes "target")) _ after));
      targets =
          more_length (below spec (codes "targets")) (child_of (codes "targets") s)
          (field_holds 24 (Optional Listing) s spec (codes "targets") (first_empty (field 24 (Optional Listing) s spec (codes "targets")) _ both))
          (second_empty (field 24 (Optional Listing) s spec (codes "targets")) _ both);
    }

pub reads_each : (d : Data) → breaches d ≡ [] → is_location d ≡ true → ReadsEachTarget d
unfolding target_texts spec_words more_texts
reads_each d e h =
    let has : HasSpec d Location = has_spec d Location e (location_kind d h) in
    let keeps : KeepsRules Location has.spec_of = keeps_rules Location has.spec_of has.faultless in
    let texts : HasTexts has.spec_of = has_texts has.spec_of keeps.targets in
    let first : length (option_to_list (option_and_then as_words (grandchild_of spec (codes "target") d))) ≡ field_count (grandchild_of spec (codes "target") d) =
    ap (λ o. length (option_to_list (option_and_then as_words (option_and_then (child_of (codes "target")) o)))) has.there
    ∙ (texts.target ∙ ap (λ o. field_count (option_and_then (child_of (codes "target")) o)) (sym has.there)) in
    let more : length (option_map_or listed_words (grandchild_of spec (codes "targets") d) []) ≡ field_count (grandchild_of spec (codes "targets") d) =
    ap (λ o. length (option_map_or listed_words (option_and_then (child_of (codes "targets")) o) [])) has.there
    ∙ (texts.targets ∙ ap (λ o. field_count (option_and_then (child_of (codes "targets")) o)) (sym has.there)) in
    length-append (option_to_list (option_and_then as_words (grandchild_of spec (codes "target") d))) (option_map_or listed_words (grandchild_of spec (codes "targets") d) [])
    ∙ (λ i. first i + more i)
