-- The items that are left where those of some references go, one after the other.
use Rattle.std.proofs.Common.{T, ◌≡◌, Bool, true, false, cond, not, ◌||◌, List, [], ◌∷◌, refl, sym, ap, ◌∙◌, true≢false}
use Rattle.std.specs.declared.option.Option.{Option}
use Rattle.std.specs.declared.option.Option.TheVariants.{None, Some}
use Rattle.std.specs.Option.{option_and_then}
use Rattle.std.specs.List.{list_any}
use Rattle.std.specs.FinMap.Entries.{find-where_key, is_sorted, is_sorted-where_key, same_entries}
use Rattle.cat_collections.specs.Table.{Map, Text, get, keys, same_text, text_cmp}
use Rattle.cat_collections.proofs.Tables.{find-over, is_sorted-tabulate, same_is, same_self, text_antisymmetric, text_total}
use Rattle.cat_collections.specs.Rows as spec
use Rattle.cat_types.specs.Amended.{without_all}
use Rattle.cat_model.specs.Catalogue.{Offers}
use Rattle.cat_model.specs.Step.{without}

to_T : (b : Bool) → b ≡ true → T b
to_T true h = tt
to_T false h = absurd (true≢false (sym h))

same_sym : (q r : Text) → same_text q r ≡ same_text r q
same_sym q r = go (same_text q r) refl (same_text r q) refl
  where
    go : (b : Bool) → same_text q r ≡ b → (c : Bool) → same_text r q ≡ c → b ≡ c
    go true e true f = refl
    go false e false f = refl
    go true e false f = sym (same_self text_total text_antisymmetric q) ∙ (ap (λ t. same_text t q) (same_is text_total text_antisymmetric q r e) ∙ f)
    go false e true f = sym e ∙ (ap (λ t. same_text q t) (same_is text_total text_antisymmetric r q f) ∙ same_self text_total text_antisymmetric q)

module _ {X : Type 0} where
  get-without : (r q : Text) (m : Map X) → get (spec.without text_cmp r m) q ≡ cond (same_text q r) None (get m q)
  get-without r q m =
      find-where_key text_cmp (λ k. not (same_text r k)) q (λ x e. ap (λ k. not (same_text r k)) (sym (text_antisymmetric q x e))) m
      ∙ (go (same_text r q) ∙ ap (λ b. cond b None (get m q)) (same_sym r q))
    where
      go : (b : Bool) → cond (not b) (get m q) None ≡ cond b None (get m q)
      go true = refl
      go false = refl

  get-without_all : (rs : List Text) (q : Text) (m : Map X) → get (without_all text_cmp rs m) q ≡ cond (list_any (same_text q) rs) None (get m q)
  get-without_all [] q m = refl
  get-without_all (r ∷ rs) q m =
      get-without_all rs q (spec.without text_cmp r m) ∙ (ap (cond (list_any (same_text q) rs) None) (get-without r q m) ∙ go (same_text q r) (list_any (same_text q) rs))
    where
      go : (b c : Bool) → cond c None (cond b None (get m q)) ≡ cond (b || c) None (get m q)
      go true true = refl
      go true false = refl
      go false c = refl

  sorted-without_all : (rs : List Text) (m : Map X) → T (is_sorted text_cmp m) → T (is_sorted text_cmp (without_all text_cmp rs m))
  sorted-without_all [] m h = h
  sorted-without_all (r ∷ rs) m h = sorted-without_all rs (spec.without text_cmp r m) (is_sorted-where_key text_cmp (λ q. not (same_text r q)) m h)

-- the items without those of these references, where their keys rise
pub left_is : (refs : List Text) (items : Offers) → is_sorted text_cmp items ≡ true → without_all text_cmp refs items ≡ without refs items
left_is refs items h =
    same_entries text_cmp text_total text_antisymmetric (without_all text_cmp refs items) (without refs items) (sorted-without_all refs items (to_T _ h))
    (is_sorted-tabulate text_total text_antisymmetric (keys items) (λ r. option_and_then (λ x. cond (list_any (same_text r) refs) None (Some x)) (get items r)))
    (λ q. get-without_all refs q items ∙ (go (list_any (same_text q) refs) (get items q) ∙ sym (find-over text_total text_antisymmetric q items (λ r x. cond (list_any (same_text r) refs) None (Some x)))))
  where
    go : {X : Type 0} (b : Bool) (x : Option X) → cond b None x ≡ option_and_then (λ y. cond b None (Some y)) x
    go true None = refl
    go true (Some y) = refl
    go false None = refl
    go false (Some y) = refl
