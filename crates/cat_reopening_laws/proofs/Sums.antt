-- What is left of a shelf has no more bytes than the shelf.
use Rattle.std.proofs.Common.{T, ◌≡◌, inl, inr, ℕ, ◌+◌, ◌≤◌, ◌^◌, Bool, true, false, cond, min, [], ◌∷◌, refl, sym, ap, ◌∙◌, le_refl, arith, Ordering}
use Rattle.std.specs.declared.cmp.Ordering.TheVariants.{Less, Equal, Greater}
use Rattle.std.specs.declared.option.Option.{Option}
use Rattle.std.specs.declared.option.Option.TheVariants.{None, Some}
use Rattle.std.specs.Option.{option_and_then}
use Rattle.std.specs.Ordering.{is_eq}
use Rattle.std.specs.List.{sum_by}
use Rattle.std.specs.FinMap.Entries.{by_order, is_sorted}
use Rattle.std.proofs.lemmas.List.Sums.{sum_by-cons}
use Rattle.cat_collections.specs.Table.{Text, Map, find, keys, put, put_some, same_text, tabulate, text_cmp}
use Rattle.cat_collections.proofs.Tables.{same_is, text_antisymmetric, text_total}
use Rattle.cat_model.specs.Step.{without_key}
use Rattle.cat_model.specs.declared.types.ProviderInputs.{ProviderInputs}
use Rattle.cat_layers.specs.Bytes.{entry_bytes, provider_bytes, stored_bytes}
use Rattle.cat_stored_rows.proofs.In.{In, found_in, none_some, same_some}

module _ {X : Type 0} (f : Text × X → ℕ) where
  put_sum : (k : Text) (x : X) (m : Map X) → sum_by f (put text_cmp k x m) ≤ f (k, x) + sum_by f m
  put_sum k x [] = let one = sum_by-cons f (k, x) [] in omega arith
  put_sum k x (e ∷ es) = go (text_cmp k e.0) refl (put_sum k x es)
    where
      go : (c : Ordering) → text_cmp k e.0 ≡ c → sum_by f (put text_cmp k x es) ≤ f (k, x) + sum_by f es → sum_by f (by_order c ((k, x) ∷ e ∷ es) ((e.0, x) ∷ es) (e ∷ put text_cmp k x es)) ≤ f (k, x) + sum_by f (e ∷ es)
      go Less is rest = let all = sum_by-cons f (k, x) (e ∷ es) in omega arith
      go Equal is rest =
          let same : f (k, x) ≡ f (e.0, x) = ap (λ q. f (q, x)) (same_is text_total text_antisymmetric k e.0 (ap is_eq is)) in
          let new : sum_by f ((e.0, x) ∷ es) ≡ f (e.0, x) + sum_by f es = sum_by-cons f (e.0, x) es in
          let old : sum_by f (e ∷ es) ≡ f e + sum_by f es = sum_by-cons f e es in
          omega arith
      go Greater is rest =
          let new : sum_by f (e ∷ put text_cmp k x es) ≡ f e + sum_by f (put text_cmp k x es) = sum_by-cons f e (put text_cmp k x es) in
          let old : sum_by f (e ∷ es) ≡ f e + sum_by f es = sum_by-cons f e es in
          omega arith

  -- where each entry has its value or none
  tabulated_sum : (g : Text → Option X) (es : Map X) → ((e : Text × X) → In e es → (x : X) → g e.0 ≡ Some x → e.1 ≡ x) → sum_by f (tabulate text_cmp (keys es) g) ≤ sum_by f es
  tabulated_sum g [] h = le_refl _
  tabulated_sum g (e ∷ es) h = go (g e.0) refl (tabulated_sum g es (λ d i. h d (inr i)))
    where
      go : (v : Option X) → g e.0 ≡ v → sum_by f (tabulate text_cmp (keys es) g) ≤ sum_by f es → sum_by f (put_some text_cmp e.0 v (tabulate text_cmp (keys es) g)) ≤ sum_by f (e ∷ es)
      go None is rest =
          let old : sum_by f (e ∷ es) ≡ f e + sum_by f es = sum_by-cons f e es in
          omega arith
      go (Some x) is rest =
          let old : sum_by f (e ∷ es) ≡ f e + sum_by f es = sum_by-cons f e es in
          let same : f e ≡ f (e.0, x) = ap (λ y. f (e.0, y)) (h e (inl refl) x is) in
          let new = put_sum e.0 x (tabulate text_cmp (keys es) g) in
          omega arith

  left_sum : (r : Text) (m : Map X) → T (is_sorted text_cmp m) → sum_by f (without_key r m) ≤ sum_by f m
  left_sum r m h = tabulated_sum (λ k. option_and_then (λ x. cond (same_text r k) None (Some x)) (find text_cmp k m)) m its
    where
      go : (b : Bool) (y x : X) → cond b None (Some y) ≡ Some x → y ≡ x
      go true y x e = absurd (none_some e)
      go false y x e = same_some e

      its : (e : Text × X) → In e m → (x : X) → option_and_then (λ x. cond (same_text r e.0) None (Some x)) (find text_cmp e.0 m) ≡ Some x → e.1 ≡ x
      its e i x is = go (same_text r e.0) e.1 x
          (ap (option_and_then (λ x. cond (same_text r e.0) None (Some x))) (sym (found_in text_total text_antisymmetric m h e.0 e.1 i)) ∙ is)

pub left_bytes : (providers : Map ProviderInputs) (shelf : Map Text) (name : Text) → T (is_sorted text_cmp shelf) → stored_bytes providers (without_key name shelf) ≤ stored_bytes providers shelf
left_bytes providers shelf name h = let less = left_sum entry_bytes name shelf h in fewer (sum_by provider_bytes providers) _ _ less
  where
    fewer : (n a b : ℕ) → a ≤ b → min (n + a) (2 ^ 62) ≤ min (n + b) (2 ^ 62)
    fewer n a b less = omega arith
