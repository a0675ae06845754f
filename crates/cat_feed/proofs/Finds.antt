-- What `find` gives where a text is below all keys, or isn't there any more.
use Rattle.std.proofs.Common.{T, ◌≡◌, Bool, true, false, cond, not, ◌&&◌, List, [], ◌∷◌, refl, sym, ap, subst, ◌∙◌, true≢false, Ordering, Less, Equal, Greater}
use Rattle.std.specs.declared.option.Option.{Option}
use Rattle.std.specs.declared.option.Option.TheVariants.{None, Some}
use Rattle.std.specs.Ordering.{eq_by_cmp, is_eq, is_lt, ordering_reverse}
use Rattle.std.specs.FinMap.Entries.{below_all, find, find-where_key, is_sorted, is_sorted-put, is_sorted-where_key}
use Rattle.cat_collections.specs.Rows.{without}
use Rattle.cat_collections.specs.Table.{Map, Text, get, put, text_cmp, same_text, text_total, text_antisymmetric}
use Rattle.cat_collections.proofs.Tables.{same_is, same_self}

pub both : (a b : Bool) → T a → T b → T (a && b)
both true b p q = q
both false b p q = absurd p

pub first : (a b : Bool) → T (a && b) → T a
first true b p = tt
first false b p = absurd p

pub second : (a b : Bool) → T (a && b) → T b
second true b p = p
second false b p = absurd p

pub to_T : (b : Bool) → b ≡ true → T b
to_T true e = tt
to_T false e = absurd (true≢false (sym e))

pub less : (o : Ordering) → T (is_lt o) → o ≡ Less
less Less p = refl
less Equal p = absurd p
less Greater p = absurd p

pub lt_from_less : {o : Ordering} → o ≡ Less → T (is_lt o)
lt_from_less e = subst (λ o. T (is_lt o)) (sym e) tt

pub less_from_greater : (x y : Text) → text_cmp x y ≡ Greater → text_cmp y x ≡ Less
less_from_greater x y e = text_total.antisymm y x ∙ ap ordering_reverse e

pub same_is_text : (x y : Text) → same_text x y ≡ true → x ≡ y
same_is_text = same_is text_total text_antisymmetric

pub same_itself : (x : Text) → same_text x x ≡ true
same_itself = same_self text_total text_antisymmetric

turned : (x y : Text) → same_text x y ≡ true → same_text x y ≡ same_text y x
turned x y e = λ i. same_text (same_is_text x y e i) (sym (same_is_text x y e) i)

pub same-sym : (x y : Text) → same_text x y ≡ same_text y x
same-sym x y = go (same_text x y) refl (same_text y x) refl
  where
    go : (a : Bool) → same_text x y ≡ a → (b : Bool) → same_text y x ≡ b → same_text x y ≡ same_text y x
    go true e b f = turned x y e
    go false e true f = sym (turned y x f)
    go false e false f = e ∙ sym f

module _ {X : Type 0} where
  -- below a lower text
  pub below_less : (x y : Text) (es : Map X) → text_cmp x y ≡ Less → T (below_all text_cmp y es) → T (below_all text_cmp x es)
  below_less x y [] p h = tt
  below_less x y (e ∷ es) p h = both _ _ (lt_from_less (text_total.trans x y e.0 p (less _ (first _ _ h)))) (below_less x y es p (second _ _ h))

  pub find-below : (q : Text) (es : Map X) → T (below_all text_cmp q es) → get es q ≡ None
  find-below q [] h = refl
  find-below q (e ∷ es) h = go (text_cmp q e.0) (first _ _ h) (find-below q es (second _ _ h))
    where
      go : (o : Ordering) → T (is_lt o) → get es q ≡ None → cond (is_eq o) (Some e.1) (get es q) ≡ None
      go Less h ih = ih
      go Equal h ih = absurd h
      go Greater h ih = absurd h

  pub find-without : (q k : Text) (m : Map X) → get (without text_cmp k m) q ≡ cond (not (same_text q k)) (get m q) None
  find-without q k m =
      find-where_key text_cmp (λ x. not (same_text k x)) q (λ x e. ap (λ y. not (same_text k y)) (sym (text_antisymmetric q x e))) m
      ∙ ap (λ b. cond (not b) (get m q) None) (same-sym k q)

  pub sorted-without : (k : Text) (m : Map X) → T (is_sorted text_cmp m) → T (is_sorted text_cmp (without text_cmp k m))
  sorted-without k m h = is_sorted-where_key text_cmp (λ x. not (same_text k x)) m h
