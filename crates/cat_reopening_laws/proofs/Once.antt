-- A good result offers no reference twice.
use Rattle.std.proofs.Common.{◌≡◌, Bool, true, false, ◌||◌, List, [], ◌∷◌, ◌++◌, if◌then◌else◌, refl, sym, ap, subst, ◌∙◌, true≢false}
use Rattle.std.specs.List.{AllByRecursion, IsDistinct, list_any}
use Rattle.cat_collections.specs.Table.{Text, Map, keys, same_text}
use Rattle.cat_collections.proofs.Tables.{or_false_first, or_false_second, same_is, same_self, text_antisymmetric, text_total}
use Rattle.cat_types.specs.declared.input.Offered.{Offered}
use Rattle.cat_types.specs.declared.issue.Issue.{Issue}
use Rattle.cat_types.specs.declared.work.Output.{Output}
use Rattle.cat_types.specs.declared.work.Outcome.TheVariants.{Good}
use Rattle.cat_types.specs.declared.work.Work.{Work}
use Rattle.cat_process.specs.Offers.{all_offers, firsts, is_seen}
use Rattle.cat_process.specs.Process.{result_of}
use Rattle.cat_process.proofs.Cases.{offers_are}

-- none of these was seen
abbrev AreNew : List Text → List Text → Type 0
AreNew seen ks = AllByRecursion (λ k. list_any (same_text k) seen ≡ false) ks

-- what was not seen among more was not seen among fewer, nor is it what they have more
split_any : (p : Text → Bool) (seen : List Text) (k : Text) → list_any p (seen ++ k ∷ []) ≡ false → (list_any p seen ≡ false) × (p k ≡ false)
split_any p [] k h = (refl, or_false_first (p k) false h)
split_any p (x ∷ seen) k h = let rest = split_any p seen k (or_false_second (p x) _ h) in (neither (p x) _ (or_false_first (p x) _ h) rest.0, rest.1)
  where
    neither : (a b : Bool) → a ≡ false → b ≡ false → (a || b) ≡ false
    neither true b h g = h
    neither false b h g = g

new_before : (seen : List Text) (k : Text) (ks : List Text) → AreNew (seen ++ k ∷ []) ks → AreNew seen ks
new_before seen k [] h = tt
new_before seen k (q ∷ ks) h = ((split_any (same_text q) seen k h.0).0, new_before seen k ks h.1)

other_way : (k q : Text) → same_text q k ≡ false → same_text k q ≡ false
other_way k q h = go (same_text k q) refl
  where
    go : (b : Bool) → same_text k q ≡ b → b ≡ false
    go false is = refl
    go true is = absurd (true≢false (sym (same_self text_total text_antisymmetric q) ∙ (ap (same_text q) (sym (same_is text_total text_antisymmetric k q is)) ∙ h)))

apart_from : (seen : List Text) (k : Text) (ks : List Text) → AreNew (seen ++ k ∷ []) ks → AllByRecursion (λ q. same_text k q ≡ false) ks
apart_from seen k [] h = tt
apart_from seen k (q ∷ ks) h = (other_way k q (split_any (same_text q) seen k h.0).1, apart_from seen k ks h.1)

firsts_new : (seen : List Text) (es : Map Offered) → AreNew seen (keys (firsts seen es))
firsts_new seen [] = tt
firsts_new seen (e ∷ es) = go (is_seen seen e) refl (firsts_new seen es) (firsts_new (seen ++ e.0 ∷ []) es)
  where
    go : (b : Bool) → is_seen seen e ≡ b → AreNew seen (keys (firsts seen es)) → AreNew (seen ++ e.0 ∷ []) (keys (firsts (seen ++ e.0 ∷ []) es))
        → AreNew seen (keys (if b then firsts seen es else e ∷ firsts (seen ++ e.0 ∷ []) es))
    go true is skip keep = skip
    go false is skip keep = (is, new_before seen e.0 (keys (firsts (seen ++ e.0 ∷ []) es)) keep)

firsts_once : (seen : List Text) (es : Map Offered) → IsDistinct same_text (keys (firsts seen es))
unfolding IsDistinct
firsts_once seen [] = tt
firsts_once seen (e ∷ es) = go (is_seen seen e) (firsts_once seen es) (firsts_once (seen ++ e.0 ∷ []) es)
  where
    go : (b : Bool) → IsDistinct same_text (keys (firsts seen es)) → IsDistinct same_text (keys (firsts (seen ++ e.0 ∷ []) es))
        → IsDistinct same_text (keys (if b then firsts seen es else e ∷ firsts (seen ++ e.0 ∷ []) es))
    go true skip keep = skip
    go false skip keep = (apart_from seen e.0 (keys (firsts (seen ++ e.0 ∷ []) es)) (firsts_new (seen ++ e.0 ∷ []) es), keep)

-- no reference is offered twice
abbrev pub IsOnce : Output → Type 0
IsOnce output = IsDistinct same_text (keys output.offers)

pub result_once : (w : Work) (output : Output) (issues : List Issue) → result_of w ≡ Good output issues → IsOnce output
result_once w output issues h = subst (λ offers. IsDistinct same_text (keys offers)) (offers_are w output issues h) (firsts_once [] (all_offers w.tree w.contents))
