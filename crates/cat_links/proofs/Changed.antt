-- Only sources of relations that come or go have other relations after changes.
use Rattle.std.proofs.Common.{T, ◌≡◌, ◌≢◌, arith, Bool, true, false, cond, not, ◌&&◌, ◌||◌, List, [], ◌∷◌, ◌++◌, refl, sym, ap, ◌∙◌, true≢false, nat_lt}
use Rattle.std.specs.Ordering.{eq_by_cmp}
use Rattle.std.specs.List.{filter, list_any, Contains}
use Rattle.std.specs.FinMap.Entries.{is_sorted}
use Rattle.std.proofs.lemmas.List.Folds.{list_any-append}
use Rattle.cat_collections.specs.Table.{Text, same_text, text_cmp}
use Rattle.cat_types.specs.Relation.{relation_cmp}
use Rattle.cat_types.specs.declared.relation.Relation.{Relation}
use Rattle.cat_collections.proofs.Tables.{text_total, text_antisymmetric, and_first, or_false_first, or_false_second, or_true, same_is, same_self}
use Rattle.cat_collections.specs.Order.{in_order}
use Rattle.cat_links.specs.Links.{Emitted, all_emitted, comes_or_goes, emitted_by, has, only_in, relations_of, sources}
use Rattle.cat_links.specs.Counts.{emitters_of, one_if}
use Rattle.cat_links.specs.declared.links.EmitChange.{EmitChange}
use Rattle.cat_links.specs.Changes.{AreChanged, touched, with_changes, with_emitter}
use Rattle.cat_links.proofs.Counted.{emitters-with_emitter, has_emitters, sorted-with_emitter}
use Rattle.cat_collections.proofs.Orders.{has-filter, contains_from_has, has-in_order, has_from_contains, in_order-rises, same_in_order}
use Rattle.cat_types.specs.Relations.{relation_total, relation_antisymmetric}

-- ---- one change

-- where an emitter emits a relation as before, all that is emitted has it as before
has-with_emitter : (k : Text) (v : List Relation) (m : Emitted) (x : Relation) → T (is_sorted text_cmp m) → has x v ≡ has x (emitted_by m k) → has x (all_emitted (with_emitter k v m)) ≡ has x (all_emitted m)
has-with_emitter k v m x s g =
    let e = emitters-with_emitter k v m x s in
    let b : one_if (has x v) ≡ one_if (has x (emitted_by m k)) = ap one_if g in
    has_emitters (with_emitter k v m) x ∙ (ap (nat_lt 0) (omega arith) ∙ sym (has_emitters m x))

abbrev among : Text → List Text → Bool
among s = list_any (same_text s)

-- a list without a source has no relation with it
has_no : (x : Relation) (xs : List Relation) → among x.source (sources xs) ≡ false → has x xs ≡ false
has_no x [] h = refl
has_no x (y ∷ ys) h = go (eq_by_cmp relation_cmp x y) refl (has_no x ys (or_false_second (same_text x.source y.source) _ h))
  where
    go : (b : Bool) → eq_by_cmp relation_cmp x y ≡ b → has x ys ≡ false → (b || has x ys) ≡ false
    go true is rest =
        let e : x ≡ y = same_is relation_total relation_antisymmetric x y is in
        absurd (true≢false (sym (ap (λ z. same_text x.source z.source) (sym e) ∙ same_self text_total text_antisymmetric x.source) ∙ or_false_first (same_text x.source y.source) _ h))
    go false is rest = rest

-- ---- many changes

neither : (a b : Bool) → (not b && a) ≡ false → (not a && b) ≡ false → a ≡ b
neither true true h g = refl
neither true false h g = h
neither false true h g = sym g
neither false false h g = refl

has_only : (x : Relation) (xs ys : List Relation) → has x (only_in xs ys) ≡ (not (has x ys) && has x xs)
has_only x xs ys =
    has-filter relation_total relation_antisymmetric (λ z. not (has z ys)) x (in_order relation_cmp xs) ∙ ap (λ b. not (has x ys) && b) (has-in_order relation_total relation_antisymmetric x xs)

-- a relation that neither comes nor goes is in both lists or in none
in_both : (x : Relation) (xs ys : List Relation) → has x (only_in xs ys) ≡ false → has x (only_in ys xs) ≡ false → has x xs ≡ has x ys
in_both x xs ys h g = neither (has x xs) (has x ys) (sym (has_only x xs ys) ∙ h) (sym (has_only x ys xs) ∙ g)

has_first : (x : Relation) (xs ys : List Relation) → has x (xs ++ ys) ≡ false → has x xs ≡ false
has_first x xs ys h = or_false_first (has x xs) _ (sym (list_any-append (eq_by_cmp relation_cmp x) xs ys) ∙ h)

has_second : (x : Relation) (xs ys : List Relation) → has x (xs ++ ys) ≡ false → has x ys ≡ false
has_second x xs ys h = or_false_second (has x xs) _ (sym (list_any-append (eq_by_cmp relation_cmp x) xs ys) ∙ h)

-- a relation that isn't touched is emitted as before
has-with_changes : (m : Emitted) (cs : List EmitChange) (x : Relation) → T (is_sorted text_cmp m) → has x (touched m cs) ≡ false → has x (all_emitted (with_changes m cs)) ≡ has x (all_emitted m)
has-with_changes m [] x s h = refl
has-with_changes m (c ∷ cs) x s h =
    let n = with_emitter c.emitter c.relations m in
    let come = only_in c.relations (emitted_by m c.emitter) in
    let gone = only_in (emitted_by m c.emitter) c.relations in
    let front : has x (come ++ gone) ≡ false = has_first x (come ++ gone) (touched n cs) h in
    has-with_changes n cs x (sorted-with_emitter c.emitter c.relations m s) (has_second x (come ++ gone) (touched n cs) h)
    ∙ has-with_emitter c.emitter c.relations m x s (in_both x c.relations (emitted_by m c.emitter) (has_first x come gone front) (has_second x come gone front))

-- ---- the sources that differ

comes_or_goes-same : (a b : Bool) → a ≡ b → cond a (not b) b ≡ false
comes_or_goes-same true true e = refl
comes_or_goes-same true false e = absurd (true≢false e)
comes_or_goes-same false b e = sym e

stays : (a b : Bool) → cond a (not b) b ≡ false → b ≡ a
stays true true e = refl
stays true false e = absurd (true≢false e)
stays false b e = e

-- a source among those of relations is that of one of them
source_of_one : (s : Text) (xs : List Relation) → among s (sources xs) ≡ true → (x : Relation) × (has x xs ≡ true) × (s ≡ x.source)
source_of_one s [] h = absurd (true≢false (sym h))
source_of_one s (x ∷ xs) h = go (same_text s x.source) refl h (source_of_one s xs)
  where
    go : (b : Bool) → same_text s x.source ≡ b → (b || among s (sources xs)) ≡ true → (among s (sources xs) ≡ true → (y : Relation) × (has y xs ≡ true) × (s ≡ y.source)) → (y : Relation) × (has y (x ∷ xs) ≡ true) × (s ≡ y.source)
    go true e h ih = (x, ap (λ b. b || has x xs) (same_self relation_total relation_antisymmetric x), same_is text_total text_antisymmetric s x.source e)
    go false e h ih = let r = ih h in (r.0, or_true (eq_by_cmp relation_cmp r.0 x) _ r.1, r.2)

-- the source of a relation is among those of a list that has it
source_is_among : (x : Relation) (xs : List Relation) → has x xs ≡ true → among x.source (sources xs) ≡ true
source_is_among x xs h = go (among x.source (sources xs)) refl
  where
    go : (b : Bool) → among x.source (sources xs) ≡ b → b ≡ true
    go true e = refl
    go false e = absurd (true≢false (sym h ∙ has_no x xs e))

has_relations_of : (m : Emitted) (s : Text) (x : Relation) → has x (relations_of m s) ≡ (same_text s x.source && has x (all_emitted m))
has_relations_of m s x =
    has-in_order relation_total relation_antisymmetric x (filter (λ y. same_text s y.source) (all_emitted m)) ∙ has-filter relation_total relation_antisymmetric (λ y. same_text s y.source) x (all_emitted m)

module _ (m : Emitted) (cs : List EmitChange) (sorted : T (is_sorted text_cmp m)) where
  abbrev after : Emitted
  after = with_changes m cs

  abbrev moved : List Relation
  moved = filter (comes_or_goes m after) (touched m cs)

  abbrev list : List Text
  list = in_order text_cmp (sources moved)

  member : (s : Text) → among s list ≡ among s (sources moved)
  member s = has-in_order text_total text_antisymmetric s (sources moved)

  has_moved : (x : Relation) → has x moved ≡ (comes_or_goes m after x && has x (touched m cs))
  has_moved x = has-filter relation_total relation_antisymmetric (comes_or_goes m after) x (touched m cs)

  -- a relation of a source that isn't in the list is emitted as before
  stays_emitted : (x : Relation) → among x.source list ≡ false → has x (all_emitted after) ≡ has x (all_emitted m)
  stays_emitted x h = go (has x (touched m cs)) refl (comes_or_goes m after x) refl
    where
      go : (a : Bool) → has x (touched m cs) ≡ a → (b : Bool) → comes_or_goes m after x ≡ b → has x (all_emitted after) ≡ has x (all_emitted m)
      go false t b c = has-with_changes m cs x sorted t
      go true t false c = stays (has x (all_emitted m)) (has x (all_emitted after)) c
      go true t true c =
          absurd (true≢false (sym (source_is_among x moved (has_moved x ∙ ((λ i. c i && t i)))) ∙ (sym (member x.source) ∙ h)))

  same_if : (s : Text) → among s list ≡ false → relations_of after s ≡ relations_of m s
  same_if s e =
      same_in_order relation_total relation_antisymmetric (filter p (all_emitted after)) (filter p (all_emitted m))
      (λ x. has-filter relation_total relation_antisymmetric p x (all_emitted after) ∙ (go x (p x) refl ∙ sym (has-filter relation_total relation_antisymmetric p x (all_emitted m))))
    where
      p : Relation → Bool
      p x = same_text s x.source

      go : (x : Relation) (b : Bool) → same_text s x.source ≡ b → (b && has x (all_emitted after)) ≡ (b && has x (all_emitted m))
      go x true h = stays_emitted x (ap (λ t. among t list) (sym (same_is text_total text_antisymmetric s x.source h)) ∙ e)
      go x false h = refl

  differ_if : (s : Text) → among s list ≡ true → relations_of after s ≢ relations_of m s
  differ_if s e same =
      let one = source_of_one s moved (sym (member s) ∙ e) in
      let x = one.0 in
      let from : same_text s x.source ≡ true = ap (λ t. same_text t x.source) one.2 ∙ same_self text_total text_antisymmetric x.source in
      let there : (n : Emitted) → has x (relations_of n s) ≡ has x (all_emitted n) = λ n. has_relations_of n s x ∙ ap (λ b. b && has x (all_emitted n)) from in
      let kept : has x (all_emitted m) ≡ has x (all_emitted after) = sym (there m) ∙ (ap (has x) (sym same) ∙ there after) in
      true≢false (sym (and_first (comes_or_goes m after x) _ (sym (has_moved x) ∙ one.1)) ∙ comes_or_goes-same (has x (all_emitted m)) (has x (all_emitted after)) kept)

  pub are_changed : AreChanged m after list
  are_changed = record {
    sound = λ s h. differ_if s (has_from_contains text_total text_antisymmetric list s h);
    complete = λ s h. elim (among s list) as (λ b. among s list ≡ b → Contains list s) [
      | true ↦ λ e. contains_from_has text_total text_antisymmetric list s e
      | false ↦ λ e. absurd (h (same_if s e))
    ] refl;
    others = λ s h. elim (among s list) as (λ b. among s list ≡ b → relations_of after s ≡ relations_of m s) [
      | true ↦ λ e. absurd (h (contains_from_has text_total text_antisymmetric list s e))
      | false ↦ λ e. same_if s e
    ] refl;
    rises = in_order-rises text_total text_antisymmetric (sources moved);
  }
