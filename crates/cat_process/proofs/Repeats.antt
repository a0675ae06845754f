-- An offer more: it is the first of its reference, or comes after another.
use Rattle.std.proofs.Common.{◌≡◌, ℕ, Bool, true, false, not, cond, ◌||◌, List, [], ◌∷◌, ◌++◌, map, if◌then◌else◌, bytes_eq, nat_eq, refl, ap, sym, ◌∙◌, append_assoc, arith}
use Rattle.std.proofs.lemmas.Bool.Decides.{nat_tests}
use Rattle.std.proofs.lemmas.List.{append-nil, map-append}
use Rattle.std.proofs.lemmas.List.Folds.{list_any-append}
use Rattle.std.proofs.lemmas.Map.Text.{is_eq-slice_cmp}
use Rattle.std.specs.Bool.{OnFalse}
use Rattle.std.specs.List.{list_any}
use Rattle.cat_collections.specs.Table.{Text, Map, same_text, keys}
use Rattle.cat_types.specs.declared.input.Offered.{Offered}
use Rattle.cat_types.specs.declared.issue.Issue.{Issue}
use Rattle.cat_process.specs.Offers.{is_seen, firsts, repeats}
use Rattle.cat_process.specs.Process.{duplicate}

abbrev pub Offer : Type 0
Offer = Text × Offered

-- the offer, where there is none of its reference
abbrev pub unless_seen : Bool → Offer → Map Offered
unless_seen b e = if b then [] else e ∷ []

-- the offer, where there is one of its reference
abbrev pub where_seen : Bool → Offer → Map Offered
where_seen b e = if b then e ∷ [] else []

abbrev first_of : List Text → Offer → Map Offered → Bool → Map Offered
first_of seen x es b = if b then firsts seen es else x ∷ firsts (seen ++ x.0 ∷ []) es

abbrev rest_of : List Text → Offer → Map Offered → Bool → Map Offered
rest_of seen x es b = if b then x ∷ repeats seen es else repeats (seen ++ x.0 ∷ []) es

seen_on : (seen : List Text) (x : Offer) (es : Map Offered) (e : Offer) → is_seen ((seen ++ x.0 ∷ []) ++ keys (firsts (seen ++ x.0 ∷ []) es)) e ≡ is_seen (seen ++ keys (x ∷ firsts (seen ++ x.0 ∷ []) es)) e
seen_on seen x es e = ap (λ s. is_seen s e) (append_assoc seen (x.0 ∷ []) (keys (firsts (seen ++ x.0 ∷ []) es)))

firsts-push : (seen : List Text) (es : Map Offered) (e : Offer) → firsts seen (es ++ e ∷ []) ≡ firsts seen es ++ unless_seen (is_seen (seen ++ keys (firsts seen es)) e) e
firsts-push seen [] e = ap (λ s. unless_seen (is_seen s e) e) (sym (append-nil seen))
firsts-push seen (x ∷ xs) e =
    elim (is_seen seen x) as (λ b. first_of seen x (xs ++ e ∷ []) b ≡ first_of seen x xs b ++ unless_seen (is_seen (seen ++ keys (first_of seen x xs b)) e) e) [
      | true ↦ firsts-push seen xs e
      | false ↦ ap (λ ys. x ∷ ys) (firsts-push (seen ++ x.0 ∷ []) xs e ∙ ap (λ b. firsts (seen ++ x.0 ∷ []) xs ++ unless_seen b e) (seen_on seen x xs e))
    ]

repeats-push : (seen : List Text) (es : Map Offered) (e : Offer) → repeats seen (es ++ e ∷ []) ≡ repeats seen es ++ where_seen (is_seen (seen ++ keys (firsts seen es)) e) e
repeats-push seen [] e = ap (λ s. where_seen (is_seen s e) e) (sym (append-nil seen))
repeats-push seen (x ∷ xs) e =
    elim (is_seen seen x) as (λ b. rest_of seen x (xs ++ e ∷ []) b ≡ rest_of seen x xs b ++ where_seen (is_seen (seen ++ keys (first_of seen x xs b)) e) e) [
      | true ↦ ap (λ ys. x ∷ ys) (repeats-push seen xs e)
      | false ↦ repeats-push (seen ++ x.0 ∷ []) xs e ∙ ap (λ b. repeats (seen ++ x.0 ∷ []) xs ++ where_seen b e) (seen_on seen x xs e)
    ]

-- ---- the set of the references seen

-- the keys of the set are the references of the offers
abbrev pub SeeAlike : List Text → Map Offered → Type 0
SeeAlike ks offers = (q : Text) → list_any (same_text q) ks ≡ list_any (same_text q) (keys offers)

nat_eq-sym : (a b : ℕ) → nat_eq a b ≡ nat_eq b a
nat_eq-sym a b = grind (arith, nat_tests)

bytes_eq-sym : (xs ys : List ℕ) → bytes_eq xs ys ≡ bytes_eq ys xs
bytes_eq-sym [] [] = refl
bytes_eq-sym [] (y ∷ ys) = refl
bytes_eq-sym (x ∷ xs) [] = refl
bytes_eq-sym (x ∷ xs) (y ∷ ys) = rw (nat_eq-sym x y, bytes_eq-sym xs ys) refl

same_text-sym : (s t : Text) → same_text s t ≡ same_text t s
same_text-sym s t = is_eq-slice_cmp s t ∙ (bytes_eq-sym s t ∙ sym (is_eq-slice_cmp t s))

or_at_end : (b r : Bool) → cond b true r ≡ (r || (b || false))
or_at_end true true = refl
or_at_end true false = refl
or_at_end false true = refl
or_at_end false false = refl

-- the set has grown by t
abbrev pub Grows : List Text → List Text → Text → Type 0
Grows old new t = (q : Text) → list_any (same_text q) new ≡ cond (same_text t q) true (list_any (same_text q) old)

grown_alike : (old new : List Text) (offers : Map Offered) (e : Offer) → SeeAlike old offers → Grows old new e.0 → SeeAlike new (offers ++ e ∷ [])
grown_alike old new offers e h grows q =
    grows q
    ∙ (λ i. cond (same_text-sym e.0 q i) true (h q i))
    ∙ or_at_end (same_text q e.0) (list_any (same_text q) (keys offers))
    ∙ sym (list_any-append (same_text q) (keys offers) (e.0 ∷ []))
    ∙ ap (list_any (same_text q)) (sym (map-append (λ (x : Offer). x.0) offers (e ∷ [])))

-- the list, grown by the offer where it is new
abbrev pub added : Bool → Offer → Map Offered
added is_new e = if is_new then e ∷ [] else []

-- what is seen goes on being what is offered
pub seen_step : (is_new : Bool) (old new : List Text) (key : Text) (offers grown : Map Offered) (e : Offer) → key ≡ e.0 → SeeAlike old offers → Grows old new key → OnFalse is_new (new ≡ old) → grown ≡ offers ++ added is_new e → SeeAlike new grown
seen_step true old new key offers grown e k h grows same g q =
    grown_alike old new offers e h (λ s. grows s ∙ ap (λ t. cond (same_text t s) true (list_any (same_text s) old)) k) q
    ∙ ap (λ es. list_any (same_text q) (keys es)) (sym g)
seen_step false old new key offers grown e k h grows same g q =
    ap (list_any (same_text q)) same ∙ h q ∙ ap (λ es. list_any (same_text q) (keys es)) (sym (g ∙ append-nil offers))

-- ---- a turn of the loop

new_is : (b : Bool) (e : Offer) → added (not b) e ≡ unless_seen b e
new_is true e = refl
new_is false e = refl

pub firsts_step : (is_new : Bool) (old : List Text) (key : Text) (done offers grown : Map Offered) (e : Offer) → key ≡ e.0 → offers ≡ firsts [] done → SeeAlike old offers → is_new ≡ not (list_any (same_text key) old) → grown ≡ offers ++ added is_new e → grown ≡ firsts [] (done ++ e ∷ [])
firsts_step is_new old key done offers grown e k o h n g =
    g ∙ ap (λ b. offers ++ added b e) (n ∙ ap (λ t. not (list_any (same_text t) old)) k ∙ ap not (h e.0))
    ∙ ap (λ es. offers ++ es) (new_is (is_seen (keys offers) e) e)
    ∙ ap (λ es. es ++ unless_seen (is_seen (keys es) e) e) o
    ∙ sym (firsts-push [] done e)

abbrev pub warned : Bool → Offer → List Issue
warned is_new e = if is_new then [] else duplicate e ∷ []

warned_is : (b : Bool) (e : Offer) → warned (not b) e ≡ map duplicate (where_seen b e)
warned_is true e = refl
warned_is false e = refl

pub repeats_step : (is_new : Bool) (old : List Text) (key : Text) (done offers : Map Offered) (warnings grown : List Issue) (e : Offer) → key ≡ e.0 → offers ≡ firsts [] done → warnings ≡ map duplicate (repeats [] done) → SeeAlike old offers → is_new ≡ not (list_any (same_text key) old) → grown ≡ warnings ++ warned is_new e → grown ≡ map duplicate (repeats [] (done ++ e ∷ []))
repeats_step is_new old key done offers warnings grown e k o w h n g =
    g ∙ ap (λ b. warnings ++ warned b e) (n ∙ ap (λ t. not (list_any (same_text t) old)) k ∙ ap not (h e.0 ∙ ap (λ es. is_seen (keys es) e) o))
    ∙ ap (λ ws. warnings ++ ws) (warned_is (is_seen (keys (firsts [] done)) e) e)
    ∙ ap (λ ws. ws ++ map duplicate (where_seen (is_seen (keys (firsts [] done)) e) e)) w
    ∙ sym (map-append duplicate (repeats [] done) (where_seen (is_seen (keys (firsts [] done)) e) e))
    ∙ ap (map duplicate) (sym (repeats-push [] done e))
