-- The members of a map that are kept while one after the other is looked at.
use Rattle.std.proofs.Common.{◌≡◌, ℕ, List, [], ◌∷◌, ◌++◌, map, Option, Some, None, Bool, true, false, cond, ◌==◌, ◌<◌, ◌≤◌, ◌+◌, length, drop, get_or, refl, sym, ap, subst, ◌∙◌, nat_cmp, Less, append_assoc, true≢false}
use Rattle.std.proofs.lemmas.List.{append-nil, map-append, drop_more, drop_all}
use Rattle.cat_tree.specs.declared.tree.Tree.{Tree}
use Rattle.cat_tree.specs.View.{data_of, entry_of}
use Rattle.std.specs.Cmp.Lexicographic.{slice_cmp}
use Rattle.std.specs.List.{AllByRecursion}
use Rattle.std.specs.List.Sorted.{IsStrictlySortedBy}
use Rattle.cat_tree.specs.Data.{Data, dict, Members, no_members, member, members_of, keys_of}
use Rattle.cat_query.specs.Project.{Path, kept_under, entry_kept, below, reached, reached_members, filled, has_end}

abbrev Entries : Type 0
Entries = List (List ℕ × Data)

-- these entries come before the others
abbrev pub before : List (List ℕ × Data) → Members → Members
before [] ms = ms
before (e ∷ es) ms = member e.0 e.1 (before es ms)

pub before_none : (es : List (List ℕ × Data)) → before es no_members ≡ members_of es
before_none [] = refl
before_none (e ∷ es) = ap (member e.0 e.1) (before_none es)

before-append : (es fs : List (List ℕ × Data)) (ms : Members) → before (es ++ fs) ms ≡ before es (before fs ms)
before-append [] fs ms = refl
before-append (e ∷ es) fs ms = ap (member e.0 e.1) (before-append es fs ms)

under_entry : (k : List ℕ) (o : Option Data) (ms : Members) → before (entry_kept k o) ms ≡ kept_under k o ms
under_entry k None ms = refl
under_entry k (Some d) ms = refl

pub before_more : (es : List (List ℕ × Data)) (k : List ℕ) (o : Option Data) (ms : Members) → before (es ++ entry_kept k o) ms ≡ before es (kept_under k o ms)
before_more es k o ms = before-append es (entry_kept k o) ms ∙ ap (before es) (under_entry k o ms)

-- the keys rise
abbrev pub KeysRise : List (List ℕ) → Type 0
KeysRise ks = IsStrictlySortedBy (slice_cmp nat_cmp) ks

all_without : (P : List ℕ → Type 0) (xs : List (List ℕ)) (y : List ℕ) (zs : List (List ℕ)) → AllByRecursion P (xs ++ y ∷ zs) → AllByRecursion P (xs ++ zs)
all_without P [] y zs h = h.1
all_without P (x ∷ xs) y zs h = (h.0, all_without P xs y zs h.1)

rise_without : (xs : List (List ℕ)) (y : List ℕ) (zs : List (List ℕ)) → KeysRise (xs ++ y ∷ zs) → KeysRise (xs ++ zs)
unfolding IsStrictlySortedBy
rise_without [] y zs h = h.1
rise_without (x ∷ xs) y zs h = (all_without (λ k. slice_cmp nat_cmp x k ≡ Less) xs y zs h.0, rise_without xs y zs h.1)

keys_append : (es fs : List (List ℕ × Data)) → keys_of (es ++ fs) ≡ keys_of es ++ keys_of fs
keys_append es fs = map-append (λ (e : List ℕ × Data). e.0) es fs

rise_more : (es : List (List ℕ × Data)) (k : List ℕ) (o : Option Data) (ks : List (List ℕ)) → KeysRise (keys_of es ++ k ∷ ks) → KeysRise (keys_of (es ++ entry_kept k o) ++ ks)
rise_more es k None ks h = subst (λ l. KeysRise (l ++ ks)) (sym (keys_append es [] ∙ append-nil (keys_of es))) (rise_without (keys_of es) k ks h)
rise_more es k (Some d) ks h = subst KeysRise (sym (ap (λ l. l ++ ks) (keys_append es ((k, d) ∷ [])) ∙ append_assoc (keys_of es) (k ∷ []) ks)) h

-- one member more was looked at
pub looked_further : (ps : List Path) (es : List (List ℕ × Tree)) (i : ℕ) (x : List ℕ × Tree) (old new : List (List ℕ × Data)) (o : Option Data) (all : Members) → i < length es → x ≡ get_or es i x → new ≡ old ++ entry_kept x.0 o → o ≡ reached (below x.0 ps) (data_of x.1)
    → (before old (reached_members ps (members_of (map entry_of (drop i es)))) ≡ all) × KeysRise (keys_of old ++ keys_of (map entry_of (drop i es)))
    → (before new (reached_members ps (members_of (map entry_of (drop (i + 1) es)))) ≡ all) × KeysRise (keys_of new ++ keys_of (map entry_of (drop (i + 1) es)))
looked_further ps es i x old new o all h at more is was =
    let here : drop i es ≡ x ∷ drop (i + 1) es = drop_more es i x h ∙ ap (λ y. y ∷ drop (i + 1) es) (sym at) in
    let rest : Members = reached_members ps (members_of (map entry_of (drop (i + 1) es))) in
    let ks : List (List ℕ) = keys_of (map entry_of (drop (i + 1) es)) in (
      ap (λ l. before l rest) more
          ∙ before_more old x.0 o rest
          ∙ ap (λ p. before old (kept_under x.0 p rest)) is
          ∙ ap (λ l. before old (reached_members ps (members_of (map entry_of l)))) (sym here)
          ∙ was.0,
      subst (λ l. KeysRise (keys_of l ++ ks)) (sym more) (rise_more old x.0 o ks (subst (λ l. KeysRise (keys_of old ++ keys_of (map entry_of l))) here was.1)),
    )

-- at the end what was kept is all that is kept
pub looked_at_all : (ps : List Path) (es : List (List ℕ × Tree)) (i : ℕ) (kept : List (List ℕ × Data)) (all : Members) → length es ≤ i → before kept (reached_members ps (members_of (map entry_of (drop i es)))) ≡ all → members_of kept ≡ all
looked_at_all ps es i kept all h e =
    sym (before_none kept) ∙ ap (λ l. before kept (reached_members ps (members_of (map entry_of l)))) (sym (drop_all i es h)) ∙ e

pub rise_at_end : (es : List (List ℕ × Tree)) (i : ℕ) (kept : List (List ℕ × Data)) → length es ≤ i → KeysRise (keys_of kept ++ keys_of (map entry_of (drop i es))) → KeysRise (keys_of kept)
rise_at_end es i kept h r = subst KeysRise (ap (λ l. keys_of kept ++ keys_of (map entry_of l)) (drop_all i es h) ∙ append-nil (keys_of kept)) r

no_end : (t : Bool) (d : Data) (o : Option Data) → t ≡ false → cond t (Some d) o ≡ o
no_end true d o h = absurd (true≢false h)
no_end false d o h = refl

-- what is reached of a map at which no path ends
pub reached_map : (ps : List Path) (d : Data) (ms : Members) → has_end ps ≡ false → d ≡ dict ms → reached ps d ≡ filled (reached_members ps ms)
reached_map ps d ms h e = ap (reached ps) e ∙ no_end (has_end ps) (dict ms) (filled (reached_members ps ms)) h

-- a map with members is filled
pub filled_more : (t : Bool) (es : List (List ℕ × Tree)) (fs : List (List ℕ × Tree)) → t ≡ (length fs == 0) → t ≡ false → fs ≡ es → filled (members_of (map entry_of es)) ≡ Some (dict (members_of (map entry_of es)))
filled_more t [] fs e h k = absurd (true≢false (sym (e ∙ ap (λ l. length l == 0) k) ∙ h))
filled_more t (x ∷ xs) fs e h k = refl
