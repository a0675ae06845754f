-- References that are seen one after the other, from the last to the first.
use Rattle.std.proofs.Common.{◌≡◌, ℕ, ◌+◌, ◌-◌, ◌<◌, ◌≤◌, Bool, true, false, not, ◌&&◌, ◌||◌, List, [], ◌∷◌, drop, length, get_or, refl, sym, ap, subst, ◌∙◌, is_some, suc, zero, arith, cond}
use Rattle.std.specs.FinMap.Entries.{find-put}
use Rattle.std.specs.List.{list_any}
use Rattle.std.specs.declared.option.Option.TheVariants.{Some}
use Rattle.std.proofs.lemmas.List.{drop_more}
use Rattle.cat_collections.specs.Table.{Map, Text, get, keys, put, same_text, text_cmp}
use Rattle.cat_collections.proofs.Tables.{text_total}
use Rattle.cat_row_reader.specs.Forms.{differ}

-- a list that ends in references of which two are one has two that are one
not_from : {X : Type 0} (i : ℕ) (m : List (Text × X)) → differ (keys (drop i m)) ≡ false → differ (keys m) ≡ false
not_from zero m h = h
not_from (suc i) [] h = h
not_from (suc i) (e ∷ es) h = go (not (list_any (same_text e.0) (keys es))) (not_from i es h)
  where
    go : (b : Bool) → differ (keys es) ≡ false → (b && differ (keys es)) ≡ false
    go true g = g
    go false g = refl

module _ {X : Type 0} (m : List (Text × X)) (left : ℕ) (e : Text × X) (more : 0 < left) (fits : left ≤ length m) (at : e ≡ get_or m (left - 1) e) where
  -- the entries from one place earlier on
  one_less : drop (left - 1) m ≡ e ∷ drop left m
  one_less =
      let place : left - 1 + 1 ≡ left = omega arith in
      drop_more m (left - 1) e (omega arith) ∙ (λ i. sym at i ∷ drop (place i) m)

  -- what is seen with one reference more
  pub seen_more : (seen : Map (Unit {0})) → ((r : Text) → is_some (get seen r) ≡ list_any (same_text r) (keys (drop left m)))
      → (r : Text) → is_some (get (put text_cmp e.0 (tt {0}) seen) r) ≡ list_any (same_text r) (keys (drop (left - 1) m))
  seen_more seen so r =
      ap is_some (find-put text_cmp text_total r e.0 (tt {0}) seen) ∙ (go (same_text r e.0) ∙ ap (λ l. list_any (same_text r) (keys l)) (sym one_less))
    where
      go : (b : Bool) → is_some (cond b (Some (tt {0})) (get seen r)) ≡ (b || list_any (same_text r) (keys (drop left m)))
      go true = refl
      go false = so r

  -- one that wasn't seen differs from those behind it
  pub still_differ : (seen : Map (Unit {0})) → ((r : Text) → is_some (get seen r) ≡ list_any (same_text r) (keys (drop left m))) → is_some (get seen e.0) ≡ false
      → differ (keys (drop left m)) ≡ true → differ (keys (drop (left - 1) m)) ≡ true
  still_differ seen so new h = ap (λ l. differ (keys l)) one_less ∙ (λ i. not ((sym (so e.0) ∙ new) i) && h i)

  -- and one that was seen doesn't
  pub twice : (seen : Map (Unit {0})) → ((r : Text) → is_some (get seen r) ≡ list_any (same_text r) (keys (drop left m))) → is_some (get seen e.0) ≡ true → false ≡ differ (keys m)
  twice seen so old = sym (not_from (left - 1) m (ap (λ l. differ (keys l)) one_less ∙ ap (λ b. not b && differ (keys (drop left m))) (sym (so e.0) ∙ old)))
