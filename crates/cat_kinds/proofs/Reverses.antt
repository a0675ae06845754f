-- Each relation that an entity states is stated the other way too.
use Rattle.std.proofs.Common.{◌≡◌, ℕ, suc, Bool, true, false, cond, ◌||◌, List, [], ◌∷◌, ◌++◌, refl, sym, ap, ◌∙◌, true≢false, ◌⊎◌, inl, inr}
use Rattle.std.specs.Prelude.{⊤, Result, Ok, Err, codes, option_and_then}
use Rattle.std.specs.declared.option.Option.{Option}
use Rattle.std.specs.declared.option.Option.TheVariants.{None, Some}
use Rattle.std.specs.List.{list_any, Contains}
use Rattle.std.specs.Option.{option_map_or}
use Rattle.std.proofs.lemmas.List.Folds.{list_any-append}
use Rattle.cat_tree.specs.Data.{Data, null, flag, whole, words, list, dict, Items, no_items, item}
use Rattle.cat_tree.specs.Ask.{child_of}
use Rattle.cat_types.specs.Reference.{text_in}
use Rattle.cat_types.specs.declared.fault.RefFault.{RefFault}
use Rattle.cat_collections.specs.Table.{Text}
use Rattle.cat_types.specs.declared.relation.Relation.{Relation}
use Rattle.cat_types.specs.declared.relation.RelKind.{RelKind}
use Rattle.cat_types.specs.declared.relation.RelKind.TheVariants.{OwnedBy, OwnerOf, PartOf, HasPart, ProvidesApi, ApiProvidedBy, ConsumesApi, ApiConsumedBy, DependsOn, DependencyOf, ChildOf, ParentOf, HasMember, MemberOf}
use Rattle.cat_collections.proofs.Tables.{same_is, same_self, or_true}
use Rattle.cat_schema.specs.Fields.{FieldRow, field_rows}
use Rattle.cat_schema.specs.Rules.{kind_of}
use Rattle.cat_kinds.specs.Mentions.{Mention, fits, as_mention, mention, mentions_among, listed, mentions_at, mentions_in, mentions_by, mentions_by_each, mentions}
use Rattle.cat_kinds.specs.Kinds.{namespace_of, reading_of, relation, both_ways, stated_by, in_order, relations_of, reverse, reversed}
use Rattle.cat_kinds.proofs.Orders.{relation_total, relation_antisymmetric, same, has_from_contains, contains_from_has, has-in_order}

pub reverse_back : (k : RelKind) → reverse (reverse k) ≡ k
reverse_back OwnedBy = refl
reverse_back OwnerOf = refl
reverse_back PartOf = refl
reverse_back HasPart = refl
reverse_back ProvidesApi = refl
reverse_back ApiProvidedBy = refl
reverse_back ConsumesApi = refl
reverse_back ApiConsumedBy = refl
reverse_back DependsOn = refl
reverse_back DependencyOf = refl
reverse_back ChildOf = refl
reverse_back ParentOf = refl
reverse_back HasMember = refl
reverse_back MemberOf = refl

-- ---- each mention stands in a field whose two relations are each other's reverse

abbrev IsPaired : FieldRow → Type 0
IsPaired row = row.reverse ≡ reverse row.relation

abbrev RowsPaired : List FieldRow → Type 0
RowsPaired [] = ⊤
RowsPaired (row ∷ rows) = IsPaired row × RowsPaired rows

abbrev Paired : List Mention → Type 0
Paired [] = ⊤
Paired (m ∷ ms) = IsPaired m.field × Paired ms

rows_paired : RowsPaired field_rows
rows_paired = (refl, (refl, (refl, (refl, (refl, (refl, (refl, (refl, (refl, (refl, (refl, (refl, (refl, tt)))))))))))))

paired-append : (ms ns : List Mention) → Paired ms → Paired ns → Paired (ms ++ ns)
paired-append [] ns h k = k
paired-append (m ∷ ms) ns h k = (h.0, paired-append ms ns h.1 k)

module _ (row : FieldRow) (h : IsPaired row) where
  paired_as : (position : Option ℕ) (text : Option Text) → Paired (as_mention row position text)
  paired_as position None = tt
  paired_as position (Some s) = (h, tt)

  paired_among : (k : ℕ) (ds : Items) → Paired (mentions_among row k ds)
  paired_among k no_items = tt
  paired_among k (item d ds) = paired-append (mention row (Some k) d) (mentions_among row (suc k) ds) (paired_as (Some k) (text_in d)) (paired_among (suc k) ds)

  paired_listed : (d : Data) → Paired (listed row d)
  paired_listed null = tt
  paired_listed (flag b) = tt
  paired_listed (whole z) = tt
  paired_listed (words s) = tt
  paired_listed (list ds) = paired_among 0 ds
  paired_listed (dict ms) = tt

  paired_cond : (b : Bool) (ms ns : List Mention) → Paired ms → Paired ns → Paired (cond b ms ns)
  paired_cond true ms ns p q = p
  paired_cond false ms ns p q = q

  paired_at : (d : Data) → Paired (mentions_at row d)
  paired_at d = paired_cond row.is_list (listed row d) (mention row None d) (paired_listed d) (paired_as None (text_in d))

  paired_in : (d : Data) → Paired (mentions_in row d)
  unfolding mentions_in
  paired_in d = go (option_and_then (child_of row.key) (child_of (codes "spec") d))
    where
      go : (part : Option Data) → Paired (option_map_or (mentions_at row) part [])
      go None = tt
      go (Some value) = paired_at value

  paired_by : (d : Data) → Paired (mentions_by d row)
  unfolding mentions_by
  paired_by d = paired_cond (fits (kind_of d) row) (mentions_in row d) [] (paired_in d) tt

paired_by_each : (d : Data) (rows : List FieldRow) → RowsPaired rows → Paired (mentions_by_each d rows)
paired_by_each d [] h = tt
paired_by_each d (row ∷ rows) h = paired-append (mentions_by d row) (mentions_by_each d rows) (paired_by row h.0 d) (paired_by_each d rows h.1)

paired : (d : Data) → Paired (mentions d)
unfolding mentions
paired d = paired_by_each d field_rows rows_paired

-- ---- so what is stated is stated the other way too

either_true : (a b : Bool) → (a || b) ≡ true → (a ≡ true) ⊎ (b ≡ true)
either_true true b e = inl refl
either_true false b e = inr e

first_true : (a b : Bool) → a ≡ true → (a || b) ≡ true
first_true true b e = refl
first_true false b e = absurd (true≢false (sym e))

is_same : (x y : Relation) → x ≡ y → same x y ≡ true
is_same x y e = ap (same x) (sym e) ∙ same_self relation_total relation_antisymmetric x

back_by : (x there back : Relation) → (x ≡ there → reversed x ≡ back) → (x ≡ back → reversed x ≡ there) → list_any (same x) (there ∷ back ∷ []) ≡ true → list_any (same (reversed x)) (there ∷ back ∷ []) ≡ true
back_by x there back f g e = go (either_true _ _ e)
  where
    go_back : (same x back ≡ true) ⊎ (false ≡ true) → (same (reversed x) there || (same (reversed x) back || false)) ≡ true
    go_back (inr j) = absurd (true≢false (sym j))
    go_back (inl j) = first_true (same (reversed x) there) _ (is_same (reversed x) there (g (same_is relation_total relation_antisymmetric x back j)))

    go : (same x there ≡ true) ⊎ ((same x back || false) ≡ true) → (same (reversed x) there || (same (reversed x) back || false)) ≡ true
    go (inl i) = or_true (same (reversed x) there) _ (first_true (same (reversed x) back) false (is_same (reversed x) back (f (same_is relation_total relation_antisymmetric x there i))))
    go (inr i) = go_back (either_true (same x back) false i)

both_back : (source : Text) (m : Mention) (reading : Result Text RefFault) → IsPaired m.field → (x : Relation) → list_any (same x) (both_ways source m reading) ≡ true → list_any (same (reversed x)) (both_ways source m reading) ≡ true
both_back source m (Err fault) h x e = absurd (true≢false (sym e))
both_back source m (Ok target) h x e =
    back_by x (relation source m.field.relation target) (relation target m.field.reverse source)
    (λ is. ap reversed is ∙ ap (λ k. relation target k source) (sym h))
    (λ is. ap reversed is ∙ ap (λ k. relation source k target) (ap reverse h ∙ reverse_back m.field.relation)) e

stated_back : (source namespace : Text) (ms : List Mention) → Paired ms → (x : Relation) → list_any (same x) (stated_by source namespace ms) ≡ true → list_any (same (reversed x)) (stated_by source namespace ms) ≡ true
stated_back source namespace [] h x e = absurd (true≢false (sym e))
stated_back source namespace (m ∷ ms) h x e =
    let now : List Relation = both_ways source m (reading_of namespace m) in
    let later : List Relation = stated_by source namespace ms in
    list_any-append (same (reversed x)) now later
    ∙ go (list_any (same (reversed x)) now) (list_any (same (reversed x)) later) (both_back source m (reading_of namespace m) h.0 x) (stated_back source namespace ms h.1 x) (either_true _ _ (sym (list_any-append (same x) now later) ∙ e))
  where
    go : {p q : Type 0} (a b : Bool) → (p → a ≡ true) → (q → b ≡ true) → p ⊎ q → (a || b) ≡ true
    go a b f g (inl i) = first_true a b (f i)
    go a b f g (inr i) = or_true a b (g i)

pub relations_back : (d : Data) (source : Text) (x : Relation) → Contains (relations_of d source) x → Contains (relations_of d source) (reversed x)
unfolding relations_of
relations_back d source x h =
    let stated : List Relation = stated_by source (namespace_of d) (mentions d) in
    let there = sym (has-in_order x stated) ∙ has_from_contains (in_order stated) x h in
    contains_from_has (in_order stated) (reversed x) (has-in_order (reversed x) stated ∙ stated_back source (namespace_of d) (mentions d) (paired d) x there)
