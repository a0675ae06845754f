-- The tests of offers and entities say what they should.
use Rattle.std.proofs.Common.{◌≡◌, ℕ, suc, true, ◌&&◌, ◌==◌, List, [], ◌∷◌, Result, Ok, Err, nat_lt, nat_le, length, refl, ap, arith}
use Rattle.std.specs.Prelude.{is_some}
use Rattle.std.proofs.lemmas.Bool.{and_parts, and_from, ltb-true, lt-ltb, leb-true, le-leb}
use Rattle.std.proofs.lemmas.Bool.Decides.{nat_tests}
use Rattle.std.proofs.lemmas.Slice.Eq.{bytes_eq-Decides}
use Rattle.cat_tree.specs.Data.{Data}
use Rattle.cat_types.specs.Reference.{described}
use Rattle.cat_types.specs.declared.fault.RefFault.{RefFault}
use Rattle.cat_schema.specs.Rules.{breaches}
use Rattle.cat_kinds.specs.Kinds.{kind_faults}
use Rattle.cat_collections.specs.Table.{Text}
use Rattle.cat_types.specs.declared.input.Offered.{Offered}
use Rattle.cat_inputs.specs.Body.{is_key}
use Rattle.cat_layers.specs.Trees.{is_within}
use Rattle.cat_layers.specs.Forms.{IsOffer, IsProcessed, stated_namespace, has_annotations_map, is_this, is_item, is_faultless, is_entity}
use Rattle.cat_layers.proofs.Tests.{within_holds, within_is}

this_holds : (r : Text) (n : Result Text RefFault) → n ≡ Ok r → is_this r n ≡ true
this_holds r (Ok q) e = (bytes_eq-Decides q r).1 (cc)
this_holds r (Err fault) e = cc

this_is : (r : Text) (n : Result Text RefFault) → is_this r n ≡ true → n ≡ Ok r
this_is r (Ok q) e = ap Ok ((bytes_eq-Decides q r).0 e)
this_is r (Err fault) e = cc

none_holds : {A : Type 0} (xs : List A) → xs ≡ [] → (length xs == 0) ≡ true
none_holds xs e = ap (λ ys. length ys == 0) e

not_none : (n : ℕ) → (suc n == 0) ≡ true → ⊥
not_none n h = grind (arith, nat_tests)

pub none_is : {A : Type 0} (xs : List A) → (length xs == 0) ≡ true → xs ≡ []
none_is [] e = refl
none_is (x ∷ xs) e = absurd (not_none (length xs) e)

pub offer_holds : (x : Offered) (r : Text) → IsOffer x r → is_item x r ≡ true
unfolding is_item
offer_holds x r h =
    and_from (is_this r (described x.tree)) (is_within 100 x.tree && is_key x.key) (this_holds r (described x.tree) h.named)
    (and_from (is_within 100 x.tree) (is_key x.key) (within_holds 100 x.tree h.within)
    (and_from (nat_lt 0 (length x.key)) (nat_le (length x.key) 2048) (lt-ltb 0 (length x.key) h.filled) (le-leb (length x.key) 2048 h.short)))

pub offer_is : (x : Offered) (r : Text) → is_item x r ≡ true → IsOffer x r
unfolding is_item
offer_is x r h =
    let named = and_parts (is_this r (described x.tree)) (is_within 100 x.tree && is_key x.key) h in
    let rest = and_parts (is_within 100 x.tree) (is_key x.key) named.1 in
    let key = and_parts (nat_lt 0 (length x.key)) (nat_le (length x.key) 2048) rest.1 in
    record { named = this_is r (described x.tree) named.0; within = within_is 100 x.tree rest.0; filled = ltb-true 0 (length x.key) key.0; short = leb-true (length x.key) 2048 key.1 }

pub entity_holds : (t : Data) (r : Text) → IsProcessed t r → is_entity t r ≡ true
unfolding is_entity
entity_holds t r h =
    and_from (is_this r (described t)) _ (this_holds r (described t) h.named)
    (and_from (is_within 100 t) _ (within_holds 100 t h.within)
    (and_from (is_some (stated_namespace t) && has_annotations_map t) (is_faultless t) (and_from (is_some (stated_namespace t)) (has_annotations_map t) h.namespace h.annotations)
    (and_from (length (breaches t) == 0) (length (kind_faults t) == 0) (none_holds (breaches t) h.schema) (none_holds (kind_faults t) h.references))))

pub entity_is : (t : Data) (r : Text) → is_entity t r ≡ true → IsProcessed t r
unfolding is_entity
entity_is t r h =
    let named = and_parts (is_this r (described t)) (is_within 100 t && ((is_some (stated_namespace t) && has_annotations_map t) && is_faultless t)) h in
    let within = and_parts (is_within 100 t) ((is_some (stated_namespace t) && has_annotations_map t) && is_faultless t) named.1 in
    let rest = and_parts (is_some (stated_namespace t) && has_annotations_map t) (is_faultless t) within.1 in
    let parts = and_parts (is_some (stated_namespace t)) (has_annotations_map t) rest.0 in
    let none = and_parts (length (breaches t) == 0) (length (kind_faults t) == 0) rest.1 in
    record {
      named = this_is r (described t) named.0;
      within = within_is 100 t within.0;
      namespace = parts.0;
      annotations = parts.1;
      schema = none_is (breaches t) none.0;
      references = none_is (kind_faults t) none.1;
    }
