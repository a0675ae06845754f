-- What is released, and what then waits.
use Rattle.std.proofs.Common.{◌≡◌, ℕ, ◌+◌, ◌<◌, true, cond, ◌⊎◌, inl, inr, List, ◌++◌, length, take, get_or, sym, ap, subst, ◌∙◌, nat_cmp, nat_le}
use Rattle.std.specs.declared.option.Option.TheVariants.{None, Some}
use Rattle.std.specs.List.{list_any, filter, flat_map}
use Rattle.std.specs.Ordering.{eq_by_cmp}
use Rattle.std.specs.Cmp.{nat_cmp_total}
use Rattle.std.specs.FinMap.{nat_cmp-IsAntisymmetric}
use Rattle.cat_collections.specs.Table.{get, keys, over, same_text, text_cmp}
use Rattle.cat_collections.proofs.Tables.{text_total, text_antisymmetric}
use Rattle.cat_model.specs.Catalogue.{Ref, Rows, Holders, rehold, claim}
use Rattle.cat_model.specs.Rows.{Arrivals, given, named}
use Rattle.cat_model.specs.Mend.{below, candidates, released, cut_off}
use Rattle.cat_model.proofs.Members.{any_either, any_left, any_right}
use Rattle.cat_model.proofs.Mended.{begins, candidates_wait}
use Rattle.cat_claims.specs.Change.{AreAmong, IsMendable, among}
use Rattle.cat_claims.specs.Touched.{AreKeptBut, HasAll}
use Rattle.cat_claims.specs.Waiting.{AllWait}
use Rattle.cat_claims.specs.declared.types.Replaced.{Replaced}
use Rattle.cat_claims.proofs.Levels.{below_alike, flat_map_alike, flat_map_one_more}
use Rattle.cat_claims.proofs.Outside.{find-outside}
use Rattle.cat_claims.proofs.Touched.{kept_among, kept_both}

pub all_wait : (rows : Rows) (refs : List Ref) (i : ℕ) (r : Ref) (old now new : List ℕ) → i < length refs → AreAmong (named rows (get_or refs i r) ++ now) new → AreAmong (old ++ flat_map (named rows) (take i refs)) now
    → AreAmong (old ++ flat_map (named rows) (take (i + 1) refs)) new
all_wait rows refs i r old now new l more h a x = go (any_either (eq_by_cmp nat_cmp a) old (flat_map (named rows) (take (i + 1) refs)) x)
  where
    before : among a (old ++ flat_map (named rows) (take i refs)) ≡ true → among a new ≡ true
    before y = more a (any_right (eq_by_cmp nat_cmp a) (named rows (get_or refs i r)) now (h a y))

    later : (among a (flat_map (named rows) (take i refs)) ≡ true) ⊎ (among a (named rows (get_or refs i r)) ≡ true) → among a new ≡ true
    later (inl y) = before (any_right (eq_by_cmp nat_cmp a) old (flat_map (named rows) (take i refs)) y)
    later (inr y) = more a (any_left (eq_by_cmp nat_cmp a) (named rows (get_or refs i r)) now y)

    go : (among a old ≡ true) ⊎ (among a (flat_map (named rows) (take (i + 1) refs)) ≡ true) → among a new ≡ true
    go (inl y) = before (any_left (eq_by_cmp nat_cmp a) old (flat_map (named rows) (take i refs)) y)
    go (inr y) = later (any_either (eq_by_cmp nat_cmp a) (flat_map (named rows) (take i refs)) (named rows (get_or refs i r))
        (subst (λ xs. among a xs ≡ true) (flat_map_one_more (named rows) refs i r l) y))

-- references with the same members release the same
released_alike : (xs ys : List Ref) (holders : Holders) → ((r : Ref) → list_any (same_text r) xs ≡ list_any (same_text r) ys) → released xs holders ≡ released ys holders
released_alike xs ys holders alike = λ j. over text_cmp holders (λ r a. cond (alike r j) None (Some a))

-- what isn't released is held as before
pub released_keeps : (refs : List Ref) (holders : Holders) → AreKeptBut refs holders (released refs holders)
released_keeps refs holders r out = find-outside text_total text_antisymmetric refs holders r ∙ ap (λ b. cond b None (get holders r)) out

-- only what is released or claimed changes
pub touched_alone : (cut claimed touched : List Ref) (holders after : Holders) → AreKeptBut claimed (released cut holders) after → HasAll (claimed ++ cut) touched → AreKeptBut touched holders after
touched_alone cut claimed touched holders after h have =
    kept_among (cut ++ claimed) touched holders after (λ r x. have r (turned r (any_either (same_text r) cut claimed x))) (kept_both cut claimed holders (released cut holders) after (released_keeps cut holders) h)
  where
    turned : (r : Ref) → (list_any (same_text r) cut ≡ true) ⊎ (list_any (same_text r) claimed ≡ true) → list_any (same_text r) (claimed ++ cut) ≡ true
    turned r (inl x) = any_right (same_text r) claimed cut x
    turned r (inr x) = any_left (same_text r) claimed cut x

module _ (x : Replaced) (holders : Holders) (change : IsMendable x holders) (cut : List Ref) (cut-is : cut ≡ below (length holders) x.numbered.rows holders x.lost) where
  abbrev rows : Rows
  rows = x.numbered.rows

  abbrev all_cut : List Ref
  all_cut = cut_off change.origin change.before rows holders

  -- the same is cut off as from all that is lost
  cut_alike : (r : Ref) → list_any (same_text r) cut ≡ list_any (same_text r) all_cut
  cut_alike r = ap (list_any (same_text r)) cut-is ∙ below_alike (length holders) rows holders x.lost _ change.lost r

  released-is : released cut holders ≡ released all_cut holders
  released-is = released_alike cut all_cut holders cut_alike

  reheld : claim (length rows) rows (keys rows) (released cut holders) ≡ rehold rows holders
  reheld = ap (claim (length rows) rows (keys rows)) released-is ∙ sym (begins change.origin change.before rows change.next holders change.were change.replaced)

  they_wait : (waiting : List ℕ) → AreAmong (keys x.new ++ flat_map (named rows) cut) waiting → AllWait rows waiting (released cut holders)
  they_wait waiting all = subst (λ h. AllWait rows waiting h) (sym released-is) (λ a h. there a (candidates_wait change.origin change.before rows change.next holders change.were change.replaced a h))
    where
      there : (a : ℕ) → among a (candidates change.origin change.next rows all_cut) ≡ true → among a waiting ≡ true
      there a h = go (any_either (eq_by_cmp nat_cmp a) (filter (nat_le change.next) (given rows change.origin)) (flat_map (named rows) all_cut) h)
        where
          go : (among a (filter (nat_le change.next) (given rows change.origin)) ≡ true) ⊎ (among a (flat_map (named rows) all_cut) ≡ true) → among a waiting ≡ true
          go (inl y) = all a (any_left (eq_by_cmp nat_cmp a) (keys x.new) (flat_map (named rows) cut) (change.new a y))
          go (inr y) = all a (any_right (eq_by_cmp nat_cmp a) (keys x.new) (flat_map (named rows) cut)
              (flat_map_alike text_total text_antisymmetric nat_cmp_total nat_cmp-IsAntisymmetric (named rows) cut all_cut cut_alike a ∙ y))

  module _ (slice : List Ref) (left : Holders) (slice-is : slice ≡ cut) (left-is : left ≡ released slice holders) where
    what-is : left ≡ released cut holders
    what-is = left-is ∙ ap (λ refs. released refs holders) slice-is

    pub they_wait_then : (first waiting : Arrivals) (called : List Ref) → first ≡ x.new → called ≡ cut → AreAmong (keys first ++ flat_map (named rows) called) (keys waiting) → AllWait rows (keys waiting) left
    they_wait_then first waiting called e f all =
        subst (λ h. AllWait rows (keys waiting) h) (sym what-is) (they_wait (keys waiting)
        (subst (λ (m : Arrivals). AreAmong (keys m ++ flat_map (named rows) cut) (keys waiting)) e (subst (λ rs. AreAmong (keys first ++ flat_map (named rows) rs) (keys waiting)) f all)))

    pub reheld_then : (after : Holders) → after ≡ claim (length rows) rows (keys rows) left → after ≡ rehold rows holders
    reheld_then after e = e ∙ (ap (claim (length rows) rows (keys rows)) what-is ∙ reheld)

    pub touched_then : (claimed touched : List Ref) (after : Holders) → AreKeptBut claimed left after → HasAll (claimed ++ cut) touched → AreKeptBut touched holders after
    touched_then claimed touched after h have = touched_alone cut claimed touched holders after (subst (λ m. AreKeptBut claimed m after) what-is h) have
