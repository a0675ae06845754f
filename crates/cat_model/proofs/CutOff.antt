-- What is cut off is what isn't rooted.
use Rattle.std.proofs.Common.{◌≡◌, ℕ, zero, suc, Bool, true, false, cond, not, ◌⊎◌, inl, inr, List, ◌++◌, length, refl, sym, ap, ◌∙◌, is_some, is_none, unwrap_or, arith, true≢false, nat_cmp, nat_eq}
use Rattle.std.specs.declared.option.Option.{Option}
use Rattle.std.specs.declared.option.Option.TheVariants.{None, Some}
use Rattle.std.specs.Option.{option_and_then}
use Rattle.std.specs.List.{list_any, flat_map}
use Rattle.std.specs.Ordering.{eq_by_cmp}
use Rattle.std.specs.Cmp.{nat_cmp_total}
use Rattle.std.specs.FinMap.{nat_cmp-IsAntisymmetric}
use Rattle.std.proofs.lemmas.Bool.Decides.{nat_tests}
use Rattle.cat_collections.specs.Table.{same_text, get, keys}
use Rattle.cat_model.specs.Catalogue.{Ref, Rows, Holders, held, row_at, holding, climbs_row, climbs_origin, climbs, rooted}
use Rattle.cat_model.specs.declared.types.Origin.{Origin}
use Rattle.cat_model.specs.declared.types.Row.{Row}
use Rattle.cat_model.specs.declared.types.Origin.TheVariants.{Provider, Entity}
use Rattle.cat_model.specs.Sound.{AreHolders, AreNamed, rooted_holders}
use Rattle.cat_model.specs.Step.{same_origin}
use Rattle.cat_collections.proofs.Tables.{text_total, text_antisymmetric, found_key, find-over, any_filter, same_tabulated}
use Rattle.cat_model.proofs.Replaced.{same_origin-is, same_origin-self}
use Rattle.cat_model.specs.Rows.{is_from, given}
use Rattle.cat_model.specs.Mend.{is_holder, held_by, lost_by, lost, children, below, cut_off, released, IsReplaced}
use Rattle.cat_model.proofs.Members.{any_left, any_right, any_either, filter_passes, flat_map_in, flat_map_from, filter_map_in, filter_map_from}

abbrev pub has : Ref → List Ref → Bool
has r refs = list_any (same_text r) refs

abbrev pub among : ℕ → List ℕ → Bool
among a arrivals = list_any (eq_by_cmp nat_cmp a) arrivals

-- the arrivals of an origin are of rows of it
pub given_is : (rows : Rows) (o : Origin) (a : ℕ) → among a (given rows o) ≡ true → (row : Row) × (row_at rows a ≡ Some row) × (row.origin ≡ o)
given_is rows o a h = go (row_at rows a) refl (filter_passes nat_cmp_total nat_cmp-IsAntisymmetric (λ a. is_from o (row_at rows a)) (keys rows) a h)
  where
    go : (v : Option Row) → row_at rows a ≡ v → is_from o v ≡ true → (row : Row) × (row_at rows a ≡ Some row) × (row.origin ≡ o)
    go None e h = absurd (true≢false (sym h))
    go (Some row) e h = (row, e, sym (same_origin-is o row.origin h))

pub is_given : (rows : Rows) (o : Origin) (a : ℕ) (row : Row) → row_at rows a ≡ Some row → row.origin ≡ o → among a (given rows o) ≡ true
is_given rows o a row e is = any_filter nat_cmp_total nat_cmp-IsAntisymmetric (λ a. is_from o (row_at rows a)) (keys rows) a (found_key nat_cmp_total nat_cmp-IsAntisymmetric a rows row e)
    (ap (is_from o) e ∙ (ap (same_origin o) is ∙ same_origin-self o))

-- a row that holds its reference
holds_it : (holders : Holders) (a : ℕ) (v : Option Row) (r : Ref) → held_by holders a v ≡ Some r → (row : Row) × (v ≡ Some row) × (get holders r ≡ Some a)
holds_it holders a None r h = absurd (true≢false (sym (ap is_some h)))
holds_it holders a (Some row) r h = go (get holders row.reference) refl h
  where
    at : (b : ℕ) → get holders row.reference ≡ Some b → (c : Bool) → nat_eq a b ≡ c → cond c (Some row.reference) None ≡ Some r → (x : Row) × (Some row ≡ Some x) × (get holders r ≡ Some a)
    at b e true n h =
        let is : row.reference ≡ r = ap (λ v. unwrap_or v r) h in
        let k : b ≡ a = grind (arith, nat_tests) in
        (row, refl, sym (ap (get holders) is) ∙ (e ∙ ap Some k))
    at b e false n h = absurd (true≢false (sym (ap is_some h)))

    go : (v : Option ℕ) → get holders row.reference ≡ v → cond (is_holder a v) (Some row.reference) None ≡ Some r → (x : Row) × (Some row ≡ Some x) × (get holders r ≡ Some a)
    go None e h = absurd (true≢false (sym (ap is_some h)))
    go (Some b) e h = at b e (nat_eq a b) refl h

is_held_by : (holders : Holders) (a : ℕ) (row : Row) (r : Ref) → get holders r ≡ Some a → row.reference ≡ r → held_by holders a (Some row) ≡ Some r
is_held_by holders a row r h is =
    let n : nat_eq a a ≡ true = grind (arith, nat_tests) in
    ap (λ q. cond (is_holder a (get holders q)) (Some q) None) is ∙ (ap (λ v. cond (is_holder a v) (Some r) None) h ∙ ap (λ b. cond b (Some r) None) n)

none_is : {A : Type 0} (v : Option A) → is_none v ≡ true → v ≡ None
none_is None h = refl
none_is (Some x) h = absurd (true≢false (sym h))

module _ (rows : Rows) (holders : Holders) where
  abbrev beneath : List Ref → List Ref
  beneath refs = flat_map (children rows holders) refs

  -- what a reference below gave is one step lower
  below_child : (n : ℕ) (refs : List Ref) (e r : Ref) → has e (below n rows holders refs) ≡ true → has r (children rows holders e) ≡ true → has r (below (suc n) rows holders refs) ≡ true
  below_child zero refs e r h c = absurd (true≢false (sym h))
  below_child (suc n) refs e r h c =
      go (any_either (same_text e) refs (below n rows holders (beneath refs)) h) (λ i. below_child n (beneath refs) e r i c)
    where
      go : (has e refs ≡ true) ⊎ (has e (below n rows holders (beneath refs)) ≡ true) → (has e (below n rows holders (beneath refs)) ≡ true → has r (below (suc n) rows holders (beneath refs)) ≡ true)
          → has r (refs ++ below (suc n) rows holders (beneath refs)) ≡ true
      go (inl i) ih = any_right (same_text r) refs (below (suc n) rows holders (beneath refs))
          (any_left (same_text r) (beneath refs) (below n rows holders (beneath (beneath refs))) (flat_map_in text_total text_antisymmetric text_total text_antisymmetric (children rows holders) refs e r i c))
      go (inr i) ih = any_right (same_text r) refs (below (suc n) rows holders (beneath refs)) (ih i)

  -- none of these climbs
  abbrev NoneClimbs : List Ref → Type 0
  NoneClimbs refs = (q : Ref) → has q refs ≡ true → (m : ℕ) → climbs rows holders m q ≡ false

  children_never : (refs : List Ref) → NoneClimbs refs → NoneClimbs (flat_map (children rows holders) refs)
  children_never refs none q h zero = refl
  children_never refs none q h (suc m) =
      let w = flat_map_from text_total text_antisymmetric text_total text_antisymmetric (children rows holders) refs q h in
      let x = filter_map_from nat_cmp_total nat_cmp-IsAntisymmetric text_total text_antisymmetric (λ a. held_by holders a (row_at rows a)) (given rows (Entity w.0)) q w.2 in
      let g = given_is rows (Entity w.0) x.0 x.1 in
      let y = holds_it holders x.0 (row_at rows x.0) q x.2 in
      ap (climbs_row (climbs rows holders m)) (ap (option_and_then (row_at rows)) y.2 ∙ g.1) ∙ (ap (climbs_origin (climbs rows holders m)) g.2 ∙ none w.0 w.1 m)

  lost_never : (o : Origin) (before : Rows) → NoneClimbs (lost o before rows holders)
  lost_never o before q h zero = refl
  lost_never o before q h (suc m) =
      let x = filter_map_from nat_cmp_total nat_cmp-IsAntisymmetric text_total text_antisymmetric (lost_by before rows holders) (given before o) q h in
      go x.0 (row_at rows x.0) refl x.2
    where
      go : (a : ℕ) (v : Option Row) → row_at rows a ≡ v → cond (is_none v) (held_by holders a (row_at before a)) None ≡ Some q → climbs rows holders (suc m) q ≡ false
      go a None e f = let y = holds_it holders a (row_at before a) q f in ap (climbs_row (climbs rows holders m)) (ap (option_and_then (row_at rows)) y.2 ∙ e)
      go a (Some row) e f = absurd (true≢false (sym (ap is_some f)))

  never : (n : ℕ) (refs : List Ref) → NoneClimbs refs → NoneClimbs (below n rows holders refs)
  never zero refs none q h m = absurd (true≢false (sym h))
  never (suc n) refs none q h m = go (any_either (same_text q) refs (below n rows holders (beneath refs)) h) (λ i. never n (beneath refs) (children_never refs none) q i m)
    where
      go : (has q refs ≡ true) ⊎ (has q (below n rows holders (beneath refs)) ≡ true) → (has q (below n rows holders (beneath refs)) ≡ true → climbs rows holders m q ≡ false) → climbs rows holders m q ≡ false
      go (inl i) ih = none q i m
      go (inr i) ih = ih i

module _ (o : Origin) (before rows : Rows) (next : ℕ) (holders : Holders) (were : AreHolders before holders) (after : IsReplaced o before next rows) where
  -- the row of a holder that is still there
  still : (r : Ref) (a : ℕ) (row : Row) → get holders r ≡ Some a → row_at rows a ≡ Some row
      → (was : Row) × (row_at before a ≡ Some was) × (was.origin ≡ row.origin) × (was.reference ≡ row.reference) × (was.reference ≡ r)
  still r a row h at =
      let w = were.rows_of r a h in
      let x = after.were a row at (after.below a w.row w.at) in
      let same : x.was ≡ w.row = ap (λ v. unwrap_or v x.was) (sym x.at ∙ w.at) in
      (x.was, x.at, x.same_origin, x.same_reference, ap (λ (y : Row). y.reference) same ∙ w.names)

  pub names : AreNamed rows holders
  names r a row h at = let x = still r a row h at in sym x.3 ∙ x.4

  abbrev CutOrClimbs : ℕ → Ref → Type 0
  CutOrClimbs n r = (climbs rows holders n r ≡ true) ⊎ (has r (below n rows holders (lost o before rows holders)) ≡ true)

  module _ (n : ℕ) (r : Ref) (a : ℕ) (e : get holders r ≡ Some a) where
    -- a row that is gone was of o
    its_origin : (row : Row) → row_at before a ≡ Some row → row_at rows a ≡ None → (b : Bool) → same_origin o row.origin ≡ b → row.origin ≡ o
    its_origin row h g true s = sym (same_origin-is o row.origin s)
    its_origin row h g false s = absurd (true≢false (sym (ap is_some (sym g ∙ after.others a row h s))))

    to : (v : Option Row) → row_at rows a ≡ v → holding rows holders r ≡ v
    to v g = ap (option_and_then (row_at rows)) e ∙ g

    above : (row : Row) → row_at rows a ≡ Some row → (q : Ref) → row.origin ≡ Entity q → CutOrClimbs n q → CutOrClimbs (suc n) r
    above row g q is (inl u) = inl (ap (climbs_row (climbs rows holders n)) (to (Some row) g) ∙ (ap (climbs_origin (climbs rows holders n)) is ∙ u))
    above row g q is (inr u) = inr (below_child rows holders n (lost o before rows holders) q r u
        (filter_map_in nat_cmp_total nat_cmp-IsAntisymmetric text_total text_antisymmetric (λ a. held_by holders a (row_at rows a)) (given rows (Entity q)) a r
        (is_given rows (Entity q) a row g is) (ap (held_by holders a) g ∙ is_held_by holders a row r e (names r a row e g))))

    by_origin : (row : Row) → row_at rows a ≡ Some row → (o : Origin) → row.origin ≡ o → climbs_origin (climbs before holders n) o ≡ true
        → ((q : Ref) → climbs before holders n q ≡ true → CutOrClimbs n q) → CutOrClimbs (suc n) r
    by_origin row g (Provider p) is h up = inl (ap (climbs_row (climbs rows holders n)) (to (Some row) g) ∙ ap (climbs_origin (climbs rows holders n)) is)
    by_origin row g (Entity q) is h up = above row g q is (up q h)

    one_higher : climbs_row (climbs before holders n) (row_at before a) ≡ true → ((q : Ref) → climbs before holders n q ≡ true → CutOrClimbs n q) → CutOrClimbs (suc n) r
    one_higher h up = at (row_at rows a) refl
      where
        at : (v : Option Row) → row_at rows a ≡ v → CutOrClimbs (suc n) r
        at None g = let w = were.rows_of r a e in inr (any_left (same_text r) (lost o before rows holders) (below n rows holders (beneath rows holders (lost o before rows holders)))
            (filter_map_in nat_cmp_total nat_cmp-IsAntisymmetric text_total text_antisymmetric (lost_by before rows holders) (given before o) a r
            (is_given before o a w.row w.at (its_origin w.row w.at g (same_origin o w.row.origin) refl))
            (ap (λ v. cond (is_none v) (held_by holders a (row_at before a)) None) g ∙ (ap (held_by holders a) w.at ∙ is_held_by holders a w.row r e w.names))))
        at (Some row) g =
            let x = still r a row e g in
            by_origin row g row.origin refl (ap (climbs_origin (climbs before holders n)) (sym x.2) ∙ (sym (ap (climbs_row (climbs before holders n)) x.1) ∙ h)) up

  cut_or_climbs : (n : ℕ) (r : Ref) → climbs before holders n r ≡ true → CutOrClimbs n r
  cut_or_climbs zero r h = absurd (true≢false (sym h))
  cut_or_climbs (suc n) r h = go (get holders r) refl h (cut_or_climbs n)
    where
      go : (v : Option ℕ) → get holders r ≡ v → climbs_row (climbs before holders n) (option_and_then (row_at before) v) ≡ true
          → ((q : Ref) → climbs before holders n q ≡ true → CutOrClimbs n q) → CutOrClimbs (suc n) r
      go None e h up = absurd (true≢false (sym h))
      go (Some a) e h up = one_higher n r a e h up

  -- a reference that was held is rooted just where it isn't cut off
  pub rooted-is : (r : Ref) → held holders r ≡ true → rooted rows holders r ≡ not (has r (cut_off o before rows holders))
  rooted-is r h = go (has r (cut_off o before rows holders)) refl
    where
      go : (b : Bool) → has r (cut_off o before rows holders) ≡ b → rooted rows holders r ≡ not b
      go true e = never rows holders (length holders) (lost o before rows holders) (lost_never rows holders o before) r e (length holders)
      go false e = out (cut_or_climbs (length holders) r (were.all_rooted r h))
        where
          out : (climbs rows holders (length holders) r ≡ true) ⊎ (has r (below (length holders) rows holders (lost o before rows holders)) ≡ true) → rooted rows holders r ≡ true
          out (inl u) = u
          out (inr u) = absurd (true≢false (sym u ∙ e))

  abbrev kept : Ref → ℕ → Option ℕ
  kept r a = cond (rooted rows holders r) (Some a) None

  abbrev freed : Ref → ℕ → Option ℕ
  freed r a = cond (has r (cut_off o before rows holders)) None (Some a)

  -- so what stays is what isn't released
  pub stays : rooted_holders rows holders ≡ released (cut_off o before rows holders) holders
  stays = same_tabulated text_total text_antisymmetric (keys holders) (keys holders)
      (λ k. option_and_then (kept k) (get holders k)) (λ k. option_and_then (freed k) (get holders k))
      (λ q. find-over text_total text_antisymmetric q holders kept ∙ (go q (get holders q) refl ∙ sym (find-over text_total text_antisymmetric q holders freed)))
    where
      turned : (b : Bool) (a : ℕ) → cond (not b) (Some a) None ≡ cond b None (Some a)
      turned true a = refl
      turned false a = refl

      go : (q : Ref) (v : Option ℕ) → get holders q ≡ v → option_and_then (kept q) v ≡ option_and_then (freed q) v
      go q None e = refl
      go q (Some a) e = ap (λ b. cond b (Some a) None) (rooted-is q (ap is_some e)) ∙ turned (has q (cut_off o before rows holders)) a
