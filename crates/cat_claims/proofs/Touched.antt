-- What of the touched references changes.
use Rattle.std.proofs.Common.{◌≡◌, ℕ, Bool, true, false, cond, not, ◌&&◌, ◌||◌, ◌⊎◌, inl, inr, List, [], ◌∷◌, ◌++◌, refl, sym, ap, ◌∙◌, is_some, true≢false, nat_eq, arith}
use Rattle.std.specs.declared.option.Option.{Option}
use Rattle.std.specs.declared.option.Option.TheVariants.{None, Some}
use Rattle.std.specs.List.{list_any, filter}
use Rattle.std.specs.List.Sorted.{IsStrictlySortedBy}
use Rattle.std.specs.FinMap.Entries.{find-put, is_some-find, is_sorted}
use Rattle.std.proofs.lemmas.Bool.Decides.{nat_tests}
use Rattle.std.proofs.lemmas.List.Kept.{IsStrictlySortedBy-filter}
use Rattle.cat_collections.specs.Table.{Map, find, get, keys, put, same_text, text_cmp}
use Rattle.cat_collections.proofs.Tables.{text_total, text_antisymmetric, or_true}
use Rattle.cat_collections.proofs.Orders.{has-filter, keys_rise}
use Rattle.cat_model.proofs.Members.{any_either, any_left, any_right}
use Rattle.cat_model.specs.Catalogue.{Ref, Holders, held}
use Rattle.cat_claims.specs.Claimed.{are_others}
use Rattle.cat_claims.specs.Touched.{AreKeptBut, HasAll, is_fresh, is_leaving, is_moved}
use Rattle.cat_claims.proofs.Outside.{to_T}

-- ---- what is noted

put_notes : (k r : Ref) (v : Unit {0}) (m : Map (Unit {0})) → (same_text r k || list_any (same_text r) (keys m)) ≡ true → list_any (same_text r) (keys (put text_cmp k v m)) ≡ true
put_notes k r v m h = sym (is_some-find text_cmp r (put text_cmp k v m)) ∙ (ap is_some (find-put text_cmp text_total r k v m) ∙ go (same_text r k) h)
  where
    go : (b : Bool) → (b || list_any (same_text r) (keys m)) ≡ true → is_some (cond b (Some v) (find text_cmp r m)) ≡ true
    go true h = refl
    go false h = is_some-find text_cmp r m ∙ h

-- one reference more is noted
pub note_more : (done : List Ref) (r : Ref) (v : Unit {0}) (old now new : Map (Unit {0})) → new ≡ put text_cmp r v now → HasAll (done ++ keys old) (keys now) → HasAll ((done ++ r ∷ []) ++ keys old) (keys new)
note_more done r v old now new e h q x = ap (λ m. list_any (same_text q) (keys m)) e ∙ put_notes r q v now (go (any_either (same_text q) (done ++ r ∷ []) (keys old) x))
  where
    before : list_any (same_text q) (done ++ keys old) ≡ true → (same_text q r || list_any (same_text q) (keys now)) ≡ true
    before y = or_true (same_text q r) _ (h q y)

    itself : (b : Bool) → (b || false) ≡ true → (b || list_any (same_text q) (keys now)) ≡ true
    itself true y = refl
    itself false y = absurd (true≢false (sym y))

    later : (list_any (same_text q) done ≡ true) ⊎ (list_any (same_text q) (r ∷ []) ≡ true) → (same_text q r || list_any (same_text q) (keys now)) ≡ true
    later (inl y) = before (any_left (same_text q) done (keys old) y)
    later (inr y) = itself (same_text q r) y

    go : (list_any (same_text q) (done ++ r ∷ []) ≡ true) ⊎ (list_any (same_text q) (keys old) ≡ true) → (same_text q r || list_any (same_text q) (keys now)) ≡ true
    go (inl y) = later (any_either (same_text q) done (r ∷ []) y)
    go (inr y) = before (any_right (same_text q) done (keys old) y)

-- two lists are noted, one after the other
pub note_both : (first second : List Ref) (none mid all : Map (Unit {0})) → HasAll (first ++ keys none) (keys mid) → HasAll (second ++ keys mid) (keys all) → HasAll (second ++ first) (keys all)
note_both first second none mid all h k q x = go (any_either (same_text q) second first x)
  where
    go : (list_any (same_text q) second ≡ true) ⊎ (list_any (same_text q) first ≡ true) → list_any (same_text q) (keys all) ≡ true
    go (inl y) = k q (any_left (same_text q) second (keys mid) y)
    go (inr y) = k q (any_right (same_text q) second (keys mid) (h q (any_left (same_text q) first (keys none) y)))

-- ---- what is kept

pub kept_self : (refs : List Ref) (m : Holders) → AreKeptBut refs m m
kept_self refs m r h = refl

has_not : {A : Type 0} (p : A → Bool) (xs ys : List A) → list_any p (xs ++ ys) ≡ false → (list_any p xs ≡ false) × (list_any p ys ≡ false)
has_not p xs ys h = (out (list_any p xs) refl (λ e. any_left p xs ys e), out (list_any p ys) refl (λ e. any_right p xs ys e))
  where
    out : (b : Bool) {c : Bool} → c ≡ b → (c ≡ true → list_any p (xs ++ ys) ≡ true) → c ≡ false
    out true e f = absurd (true≢false (sym (f e) ∙ h))
    out false e f = e

-- what is kept twice
pub kept_both : (first second : List Ref) (a b c : Holders) → AreKeptBut first a b → AreKeptBut second b c → AreKeptBut (first ++ second) a c
kept_both first second a b c h k r out = let w = has_not (same_text r) first second out in k r w.1 ∙ h r w.0

pub kept_among : (refs all : List Ref) (a b : Holders) → HasAll refs all → AreKeptBut refs a b → AreKeptBut all a b
kept_among refs all a b have h r out = h r (go (list_any (same_text r) refs) refl)
  where
    go : (x : Bool) → list_any (same_text r) refs ≡ x → x ≡ false
    go true e = absurd (true≢false (sym (have r e) ∙ out))
    go false e = refl

-- ---- what changes

module _ (before after : Holders) (touched : List Ref) (kept : AreKeptBut touched before after) where
  only_there : (p : Ref → Bool) → ((r : Ref) → get after r ≡ get before r → p r ≡ false) → (r : Ref) → list_any (same_text r) (filter p touched) ≡ p r
  only_there p none r = has-filter text_total text_antisymmetric p r touched ∙ go (list_any (same_text r) touched) refl (p r) refl
    where
      go : (b : Bool) → list_any (same_text r) touched ≡ b → (c : Bool) → p r ≡ c → (c && b) ≡ c
      go true e true f = refl
      go true e false f = refl
      go false e true f = absurd (true≢false (sym f ∙ none r (kept r e)))
      go false e false f = refl

  never_both : (v : Option ℕ) → (is_some v && not (is_some v)) ≡ false
  never_both None = refl
  never_both (Some a) = refl

  no_other : (v : Option ℕ) → are_others v v ≡ false
  no_other None = refl
  no_other (Some a) = let n : nat_eq a a ≡ true = grind (arith, nat_tests) in ap not n

  pub fresh-is : (r : Ref) → list_any (same_text r) (filter (is_fresh before after) touched) ≡ is_fresh before after r
  fresh-is = only_there (is_fresh before after) (λ r e. ap (λ v. is_some v && not (held before r)) e ∙ never_both (get before r))

  pub leaving-is : (r : Ref) → list_any (same_text r) (filter (is_leaving before after) touched) ≡ is_leaving before after r
  leaving-is = only_there (is_leaving before after) (λ r e. ap (λ v. held before r && not (is_some v)) e ∙ never_both (get before r))

  pub moved-is : (r : Ref) → list_any (same_text r) (filter (is_moved before after) touched) ≡ is_moved before after r
  moved-is = only_there (is_moved before after) (λ r e. ap (are_others (get before r)) e ∙ no_other (get before r))

pub filter_rises : (p : Ref → Bool) (m : Map (Unit {0})) → is_sorted text_cmp m ≡ true → IsStrictlySortedBy text_cmp (filter p (keys m))
filter_rises p m h = IsStrictlySortedBy-filter text_cmp p (keys m) (keys_rise text_total text_antisymmetric m (to_T _ h))
