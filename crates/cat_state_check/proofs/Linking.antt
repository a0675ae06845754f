-- The links of kept outputs, made from nothing.
use Rattle.std.proofs.Common.{T, ◌≡◌, Bool, true, false, cond, ◌||◌, List, [], ◌∷◌, map, refl, sym, ap, subst, ◌∙◌}
use Rattle.std.specs.FinMap.Entries.{is_sorted}
use Rattle.std.specs.List.{list_any}
use Rattle.std.specs.Option.{option_and_then}
use Rattle.cat_collections.specs.Table.{Text, keys, same_text, text_cmp}
use Rattle.cat_collections.proofs.Tables.{no_key, same_is, text_antisymmetric, text_total}
use Rattle.cat_types.specs.declared.relation.Relation.{Relation}
use Rattle.cat_links.specs.Changes.{with_changes, with_emitter}
use Rattle.cat_links.specs.Links.{Emitted, emitted_by}
use Rattle.cat_links.specs.declared.links.EmitChange.{EmitChange}
use Rattle.cat_links.proofs.Counted.{emitted-with_emitter, sorted-with_emitter}
use Rattle.cat_model.specs.Catalogue.{Ref, Rules, emits, output_of}
use Rattle.cat_model.specs.declared.types.Record.{Record}
use Rattle.cat_model.specs.declared.types.State.{State}
use Rattle.cat_plan.specs.Linked.{AreLinked}

module _ (f : Text → List Relation) where
  -- each of these emitters emits what f gives it
  abbrev pub changes : List Text → List EmitChange
  changes ks = map (λ e. record { emitter = e; relations = f e }) ks

  emitted_after : (ks : List Text) (m : Emitted) (q : Text) → emitted_by (with_changes m (changes ks)) q ≡ cond (list_any (same_text q) ks) (f q) (emitted_by m q)
  emitted_after [] m q = refl
  emitted_after (k ∷ ks) m q =
      emitted_after ks (with_emitter k (f k) m) q
      ∙ (ap (λ v. cond (list_any (same_text q) ks) (f q) v) (emitted-with_emitter k q (f k) m) ∙ go (same_text q k) refl (list_any (same_text q) ks))
    where
      go : (b : Bool) → same_text q k ≡ b → (c : Bool) → cond c (f q) (cond b (f k) (emitted_by m q)) ≡ cond (b || c) (f q) (emitted_by m q)
      go true e true = refl
      go true e false = ap f (sym (same_is text_total text_antisymmetric q k e))
      go false e c = refl

  sorted_after : (ks : List Text) (m : Emitted) → T (is_sorted text_cmp m) → T (is_sorted text_cmp (with_changes m (changes ks)))
  sorted_after [] m h = h
  sorted_after (k ∷ ks) m h = sorted_after ks (with_emitter k (f k) m) (sorted-with_emitter k (f k) m h)

-- links to which each record gives what its output emits are those of the state
pub linked_from_nothing : (rules : Rules) (m : State) (links : Emitted) (made : List EmitChange) → links ≡ with_changes [] made → made ≡ changes (λ e. emits rules e (output_of m.records e)) (keys m.records) → AreLinked rules links m
linked_from_nothing rules m links made el em = record {
  in_order = subst (λ l. T (is_sorted text_cmp l)) (sym all) (sorted_after f (keys m.records) [] tt);
  each = λ e. ap (λ l. emitted_by l e) all ∙ (emitted_after f (keys m.records) [] e ∙ go e (list_any (same_text e) (keys m.records)) refl);
}
  where
    f : Text → List Relation
    f e = emits rules e (output_of m.records e)

    all : links ≡ with_changes [] (changes f (keys m.records))
    all = el ∙ ap (with_changes []) em

    go : (e : Ref) (b : Bool) → list_any (same_text e) (keys m.records) ≡ b → cond b (f e) [] ≡ f e
    go e true h = refl
    go e false h = sym (ap (λ v. emits rules e (option_and_then (λ (x : Record). x.output) v)) (no_key text_total text_antisymmetric e m.records h))
