-- That a look at each reference that was found gives the documents that are accepted.
use Rattle.std.proofs.Common.{◌≡◌, ℕ, Bool, true, false, cond, ◌&&◌, List, [], ◌∷◌, Some, Ordering, Less, Equal, Greater, refl, sym, ap, ◌∙◌, true≢false}
use Rattle.std.specs.List.{cons_option, filter, filter_map}
use Rattle.std.specs.Ordering.{is_gt, is_lt, ordering_reverse}
use Rattle.std.specs.Cmp.{tied_itself}
use Rattle.std.specs.FinMap.Entries.{below_all, is_sorted}
use Rattle.cat_tree.specs.Data.{Data}
use Rattle.cat_collections.specs.Places.{first_from}
use Rattle.cat_collections.specs.Table.{Map, keys, text_cmp, text_total}
use Rattle.cat_search.specs.Filter.{is_accepted, matching}
use Rattle.cat_search.specs.Index.{Set, accepts_all, documents_of, found}
use Rattle.cat_search.specs.declared.condition.Condition.{Condition}
use Rattle.cat_search.proofs.Finds.{accepts_any, all_passing, first_true, second_true}

is_less : (o : Ordering) → is_lt o ≡ true → o ≡ Less
is_less Less e = refl
is_less Equal e = absurd (true≢false (sym e))
is_less Greater e = absurd (true≢false (sym e))

-- a look at each reference of the entries gives the entry
abbrev AreSeen : Map Data → Map Data → Type 0
AreSeen docs [] = Unit {0}
AreSeen docs (e ∷ es) = (first_from text_cmp e.0 docs ≡ Some e) × AreSeen docs es

seen_behind : (e : List ℕ × Data) (docs es : Map Data) → below_all text_cmp e.0 es ≡ true → AreSeen docs es → AreSeen (e ∷ docs) es
seen_behind e docs [] h s = tt
seen_behind e docs (x ∷ xs) h s = (
  ap (λ o. cond (is_gt o) (first_from text_cmp x.0 docs) (Some e))
      (text_total.antisymm x.0 e.0 ∙ ap ordering_reverse (is_less (text_cmp e.0 x.0) (first_true (is_lt (text_cmp e.0 x.0)) (below_all text_cmp e.0 xs) h)))
      ∙ s.0,
  seen_behind e docs xs (second_true (is_lt (text_cmp e.0 x.0)) (below_all text_cmp e.0 xs) h) s.1,
)

all_seen : (docs : Map Data) → is_sorted text_cmp docs ≡ true → AreSeen docs docs
all_seen [] h = tt
all_seen (e ∷ es) h = (
  ap (λ o. cond (is_gt o) (first_from text_cmp e.0 es) (Some e)) (tied_itself text_total e.0),
  seen_behind e es es (first_true (below_all text_cmp e.0 es) (is_sorted text_cmp es) h) (all_seen es (second_true (below_all text_cmp e.0 es) (is_sorted text_cmp es) h)),
)

passing_seen : (p : Data → Bool) (docs es : Map Data) → AreSeen docs es → AreSeen docs (filter (λ e. p e.1) es)
passing_seen p docs [] s = tt
passing_seen p docs (e ∷ es) s = go (p e.1) s.0 (passing_seen p docs es s.1)
  where
    go : (b : Bool) → first_from text_cmp e.0 docs ≡ Some e → AreSeen docs (filter (λ x. p x.1) es) → AreSeen docs (cond b (e ∷ filter (λ x. p x.1) es) (filter (λ x. p x.1) es))
    go true i rest = (i, rest)
    go false i rest = rest

looks : (docs es : Map Data) → AreSeen docs es → filter_map (λ k. first_from text_cmp k docs) (keys es) ≡ es
looks docs [] s = refl
looks docs (e ∷ es) s = (λ i. cons_option (s.0 i) (looks docs es s.1 i))

by_reference : (docs : Map Data) (s : Set) → documents_of docs s ≡ filter_map (λ k. first_from text_cmp k docs) (keys s)
by_reference docs [] = refl
by_reference docs (e ∷ es) = ap (cons_option (first_from text_cmp e.0 docs)) (by_reference docs es)

-- the documents of the references that were found are those that are accepted
pub documents_found : (docs : Map Data) (s : Set) (fs : List (List Condition)) → is_sorted text_cmp docs ≡ true → keys s ≡ found fs docs → documents_of docs s ≡ matching fs docs
documents_found docs s fs h e =
    by_reference docs s
    ∙ ap (filter_map (λ k. first_from text_cmp k docs)) e
    ∙ looks docs (matching fs docs) (passing_seen (is_accepted fs) docs docs (all_seen docs h))

-- without conditions all documents match
pub all_match : (docs : Map Data) (fs : List (List Condition)) → accepts_all fs ≡ true → docs ≡ matching fs docs
all_match docs fs h = sym (all_passing (is_accepted fs) (λ d. accepts_any fs d h) docs)
