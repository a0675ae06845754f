-- What `rehold` leaves: holders that are rows of their references and rooted, and no row that may claim.
use Rattle.std.proofs.Common.{T, ◌≡◌, ℕ, zero, suc, ◌<◌, ◌≤◌, Bool, true, false, cond, not, ◌&&◌, ◌||◌, List, [], ◌∷◌, length, refl, sym, ap, subst, ◌∙◌, is_some, unwrap_or, arith, true≢false, Ordering, Less, Equal, Greater, nat_cmp}
use Rattle.std.specs.declared.option.Option.{Option}
use Rattle.std.specs.declared.option.Option.TheVariants.{None, Some}
use Rattle.std.specs.Option.{option_and_then}
use Rattle.std.specs.Ordering.{eq_by_cmp, is_eq}
use Rattle.std.specs.List.{list_any, filter_map, cons_option}
use Rattle.std.specs.Cmp.{nat_cmp_total}
use Rattle.std.specs.FinMap.{nat_cmp-IsAntisymmetric}
use Rattle.std.specs.FinMap.Entries.{is_sorted, is_sorted-put, by_order}
use Rattle.cat_collections.specs.Table.{Text, text_cmp, same_text, get, keys, find, put, first}
use Rattle.cat_model.specs.Catalogue.{Ref, Rows, Holders, held, row_at, holding, may_offer, climbs_row, climbs_origin, climbs, rooted, claims, hold, claim, holding_arrivals, rehold, with_origin_held, standing}
use Rattle.cat_model.specs.declared.types.Origin.{Origin}
use Rattle.cat_model.specs.declared.types.Row.{Row}
use Rattle.cat_model.specs.declared.types.Origin.TheVariants.{Provider, Entity}
use Rattle.cat_model.specs.Sound.{IsRowOf, AreHolders}
use Rattle.std.proofs.lemmas.List.{length-map}
use Rattle.cat_collections.proofs.Tables.{text_total, text_antisymmetric, same_is, same_self, or_true, some_or_none, none_or_some, first_some, first_in, first_none, found_key, find-over, find-put_same, find-put_other, and_first, and_second, not_true}

-- a new key makes the map longer
pub length-put_new : {K X : Type 0} (R : K → K → Ordering) (k : K) (v : X) (m : List (K × X)) → find R k m ≡ None → length (put R k v m) ≡ suc (length m)
length-put_new R k v [] e = refl
length-put_new {K} {X} R k v (x ∷ m) e = go (R k x.0) e (length-put_new R k v m)
  where
    go : (c : Ordering) → cond (is_eq c) (Some x.1) (find R k m) ≡ None → (find R k m ≡ None → length (put R k v m) ≡ suc (length m))
        → length (by_order c ((k, v) ∷ x ∷ m) ((x.0, v) ∷ m) (x ∷ put R k v m)) ≡ suc (suc (length m))
    go Less e ih = refl
    go Equal e ih = absurd (true≢false (ap is_some e))
    go Greater e ih = ap suc (ih e)

pub climbs_row-more : (up up' : Ref → Bool) → ((e : Ref) → up e ≡ true → up' e ≡ true) → (v : Option Row) → climbs_row up v ≡ true → climbs_row up' v ≡ true
climbs_row-more up up' more None h = h
climbs_row-more up up' more (Some row) h = go row.origin h
  where
    go : (o : Origin) → climbs_origin up o ≡ true → climbs_origin up' o ≡ true
    go (Provider p) h = refl
    go (Entity e) h = more e h

-- how many pass
pub count : {K : Type 0} → (K → Bool) → List K → ℕ
count p [] = 0
count p (k ∷ ks) = cond (p k) (suc (count p ks)) (count p ks)

pub count-le : {K : Type 0} (p : K → Bool) (ks : List K) → count p ks ≤ length ks
unfolding count
count-le p [] = omega arith
count-le p (k ∷ ks) = go (p k) (count-le p ks)
  where
    go : (b : Bool) → count p ks ≤ length ks → cond b (suc (count p ks)) (count p ks) ≤ suc (length ks)
    go true h = omega arith
    go false h = omega arith

module _ {K : Type 0} (p p' : K → Bool) (fewer : (k : K) → p' k ≡ true → p k ≡ true) where
  count-fewer : (ks : List K) → count p' ks ≤ count p ks
  unfolding count
  count-fewer [] = omega arith
  count-fewer (k ∷ ks) = go (p k) (p' k) (fewer k) (count-fewer ks)
    where
      go : (b b' : Bool) → (b' ≡ true → b ≡ true) → count p' ks ≤ count p ks → cond b' (suc (count p' ks)) (count p' ks) ≤ cond b (suc (count p ks)) (count p ks)
      go true true f h = omega arith
      go true false f h = omega arith
      go false true f h = absurd (true≢false (sym (f refl)))
      go false false f h = h

  pub count-less : (t : K → Bool) (a : K) (ks : List K) → first t ks ≡ Some a → p a ≡ true → p' a ≡ false → count p' ks < count p ks
  unfolding count
  count-less t a [] e pa h = absurd (true≢false (sym (ap is_some e)))
  count-less t a (k ∷ ks) e pa h = go (t k) e (λ e. count-less t a ks e pa h) (count-fewer ks)
    where
      grows : (b b' : Bool) → (b' ≡ true → b ≡ true) → count p' ks < count p ks → cond b' (suc (count p' ks)) (count p' ks) < cond b (suc (count p ks)) (count p ks)
      grows true true f h = omega arith
      grows true false f h = omega arith
      grows false true f h = absurd (true≢false (sym (f refl)))
      grows false false f h = h

      here : (b b' : Bool) → b ≡ true → b' ≡ false → count p' ks ≤ count p ks → cond b' (suc (count p' ks)) (count p' ks) < cond b (suc (count p ks)) (count p ks)
      here true true f h le = absurd (true≢false h)
      here true false f h le = omega arith
      here false b' f h le = absurd (true≢false (sym f))

      go : (b : Bool) → cond b (Some k) (first t ks) ≡ Some a → (first t ks ≡ Some a → count p' ks < count p ks) → count p' ks ≤ count p ks
          → cond (p' k) (suc (count p' ks)) (count p' ks) < cond (p k) (suc (count p ks)) (count p ks)
      go true e ih le = let same : k ≡ a = ap (λ v. unwrap_or v k) e in here (p k) (p' k) (ap p same ∙ pa) (ap p' same ∙ h) le
      go false e ih le = grows (p k) (p' k) (fewer k) (ih e)

module _ (rows : Rows) where
  -- a row that claims its reference
  record IsClaim (holders : Holders) (a : ℕ) (row : Row) : Type 0 where
    at : row_at rows a ≡ Some row
    free : held holders row.reference ≡ false
    may : may_offer holders row.origin ≡ true

  record IsHeld (holders : Holders) (r : Ref) (a : ℕ) : Type 0 where
    row : Row
    at : row_at rows a ≡ Some row
    names : row.reference ≡ r
    may : may_offer holders row.origin ≡ true
    climbs : rooted rows holders r ≡ true

  AllHeld : Holders → Type 0
  AllHeld holders = (r : Ref) (a : ℕ) → get holders r ≡ Some a → IsHeld holders r a

  a_claim : (holders : Holders) (a : ℕ) → claims holders (row_at rows a) ≡ true → (row : Row) × IsClaim holders a row
  a_claim holders a h = go (row_at rows a) refl h
    where
      go : (v : Option Row) → row_at rows a ≡ v → claims holders v ≡ true → (row : Row) × IsClaim holders a row
      go None e h = absurd (true≢false (sym h))
      go (Some row) e h = (row, record { at = e; free = not_true _ (and_first _ _ h); may = and_second (not (held holders row.reference)) _ h })

  -- what each claim keeps holds at the end
  claim-keeps : (P : Holders → Type 0) (arrivals : List ℕ)
      → ((holders : Holders) (a : ℕ) (row : Row) → IsClaim holders a row → list_any (eq_by_cmp nat_cmp a) arrivals ≡ true → P holders → P (put text_cmp row.reference a holders))
      → (n : ℕ) (holders : Holders) → P holders → P (claim n rows arrivals holders)
  claim-keeps P arrivals keeps zero holders p = p
  claim-keeps P arrivals keeps (suc n) holders p = go (first (λ a. claims holders (row_at rows a)) arrivals) refl (claim-keeps P arrivals keeps n)
    where
      go : (v : Option ℕ) → first (λ a. claims holders (row_at rows a)) arrivals ≡ v → ((h : Holders) → P h → P (claim n rows arrivals h))
          → P (elim v [ None ↦ holders | Some a ↦ claim n rows arrivals (hold a (row_at rows a) holders) ])
      go None e ih = p
      go (Some a) e ih =
          let c = a_claim holders a (first_some nat_cmp_total nat_cmp-IsAntisymmetric (λ a. claims holders (row_at rows a)) arrivals a e) in
          ih (hold a (row_at rows a) holders) (subst (λ v. P (hold a v holders)) (sym c.1.at) (keeps holders a c.0 c.1 (first_in nat_cmp_total nat_cmp-IsAntisymmetric (λ a. claims holders (row_at rows a)) arrivals a e) p))

  climbing_held : (holders : Holders) (up : Ref → Bool) (q : Ref) → climbs_row up (holding rows holders q) ≡ true → held holders q ≡ true
  climbing_held holders up q h = go (get holders q) h
    where
      go : (v : Option ℕ) → climbs_row up (option_and_then (row_at rows) v) ≡ true → is_some v ≡ true
      go None h = h
      go (Some a) h = refl

  pub climbs_more : (holders : Holders) (n : ℕ) (q : Ref) → climbs rows holders n q ≡ true → climbs rows holders (suc n) q ≡ true
  climbs_more holders zero q h = absurd (true≢false (sym h))
  climbs_more holders (suc n) q h = climbs_row-more (climbs rows holders n) (climbs rows holders (suc n)) (climbs_more holders n) (holding rows holders q) h

  module _ (holders : Holders) (a : ℕ) (row : Row) (c : IsClaim holders a row) where
    abbrev after : Holders
    after = put text_cmp row.reference a holders

    free_of : get holders row.reference ≡ None
    free_of = none_or_some _ c.free

    get-after : (q : Ref) → same_text q row.reference ≡ false → get after q ≡ get holders q
    get-after q h = find-put_other text_total text_antisymmetric q row.reference a holders h

    get-claimed : get after row.reference ≡ Some a
    get-claimed = find-put_same text_total text_antisymmetric row.reference a holders

    held_apart : (q : Ref) → held holders q ≡ true → same_text q row.reference ≡ false
    held_apart q h = go (same_text q row.reference) refl
      where
        go : (b : Bool) → same_text q row.reference ≡ b → b ≡ false
        go true e = absurd (true≢false (sym h ∙ ap (held holders) (same_is text_total text_antisymmetric q row.reference e) ∙ c.free))
        go false e = refl

    held_after : (q : Ref) → held holders q ≡ true → held after q ≡ true
    held_after q h = ap is_some (get-after q (held_apart q h)) ∙ h

    may_after : (o : Origin) → may_offer holders o ≡ true → may_offer after o ≡ true
    may_after (Provider p) h = refl
    may_after (Entity e) h = held_after e h

    climbs_after : (n : ℕ) (q : Ref) → climbs rows holders n q ≡ true → climbs rows after n q ≡ true
    climbs_after zero q h = h
    climbs_after (suc n) q h =
        ap (λ v. climbs_row (climbs rows after n) (option_and_then (row_at rows) v)) (get-after q (held_apart q (climbing_held holders (climbs rows holders n) q h)))
        ∙ climbs_row-more (climbs rows holders n) (climbs rows after n) (climbs_after n) (holding rows holders q) h

    longer : length after ≡ suc (length holders)
    longer = length-put_new text_cmp row.reference a holders free_of

    kept_claims : AllHeld holders → AllHeld after
    unfolding AllHeld
    kept_claims all r b h = go (same_text r row.reference) refl
      where
        origin_climbs : (o : Origin) → may_offer holders o ≡ true → climbs_origin (climbs rows after (length holders)) o ≡ true
        origin_climbs (Provider p) may = refl
        origin_climbs (Entity e) may = let x = some_or_none (get holders e) may in climbs_after (length holders) e (all e x.0 x.1).climbs

        old : get holders r ≡ Some b → IsHeld after r b
        old e = let w = all r b e in
            record {
              row = w.row;
              at = w.at;
              names = w.names;
              may = may_after w.row.origin w.may;
              climbs = subst (λ n. climbs rows after n r ≡ true) (sym longer) (climbs_more after (length holders) r (climbs_after (length holders) r w.climbs));
            }

        new : r ≡ row.reference → IsHeld after r b
        new e =
            let same : a ≡ b = ap (λ v. unwrap_or v a) (sym get-claimed ∙ ap (get after) (sym e) ∙ h) in
            record {
              row = row;
              at = ap (row_at rows) (sym same) ∙ c.at;
              names = sym e;
              may = may_after row.origin c.may;
              climbs = subst (λ q. rooted rows after q ≡ true) (sym e)
                  (subst (λ n. climbs rows after n row.reference ≡ true) (sym longer)
                  (ap (climbs_row (climbs rows after (length holders))) (ap (option_and_then (row_at rows)) get-claimed ∙ c.at) ∙ origin_climbs row.origin c.may));
            }

        go : (x : Bool) → same_text r row.reference ≡ x → IsHeld after r b
        go true e = new (same_is text_total text_antisymmetric r row.reference e)
        go false e = old (sym (get-after r e) ∙ h)

    closed_after : (q : Ref) → not (held after q) ≡ true → not (held holders q) ≡ true
    closed_after q h = go (held holders q) refl
      where
        go : (b : Bool) → held holders q ≡ b → not b ≡ true
        go true e = absurd (true≢false (sym (held_after q e) ∙ not_true _ h))
        go false e = refl

  all_claimed : (arrivals : List ℕ) (n : ℕ) (holders : Holders) → AllHeld holders → AllHeld (claim n rows arrivals holders)
  all_claimed arrivals = claim-keeps AllHeld arrivals (λ holders a row c _. kept_claims holders a row c)

  none_held : AllHeld []
  unfolding AllHeld
  none_held r a e = absurd (true≢false (sym (ap is_some e)))

  -- the row's reference isn't held
  is_open : Holders → Option Row → Bool
  is_open holders None = false
  is_open holders (Some row) = not (held holders row.reference)

  opens : Holders → ℕ → Bool
  opens holders a = is_open holders (row_at rows a)

  fewer_open : (arrivals : List ℕ) (holders : Holders) (a : ℕ) (row : Row) (c : IsClaim holders a row) → first (λ a. claims holders (row_at rows a)) arrivals ≡ Some a
      → count (opens (after holders a row c)) arrivals < count (opens holders) arrivals
  unfolding opens is_open
  fewer_open arrivals holders a row c e =
      count-less (opens holders) (opens (after holders a row c)) fewer (λ a. claims holders (row_at rows a)) a arrivals e
      (ap (is_open holders) c.at ∙ ap not c.free)
      (ap (is_open (after holders a row c)) c.at ∙ ap (λ b. not (is_some b)) (get-claimed holders a row c))
    where
      fewer : (k : ℕ) → opens (after holders a row c) k ≡ true → opens holders k ≡ true
      fewer k h = go (row_at rows k) h
        where
          go : (v : Option Row) → is_open (after holders a row c) v ≡ true → is_open holders v ≡ true
          go None h = h
          go (Some x) h = closed_after holders a row c x.reference h

  -- at the end no row may claim
  claim-ends : (arrivals : List ℕ) (n : ℕ) (holders : Holders) → count (opens holders) arrivals ≤ n
      → first (λ a. claims (claim n rows arrivals holders) (row_at rows a)) arrivals ≡ None
  claim-ends arrivals zero holders h = go (first (λ a. claims holders (row_at rows a)) arrivals) refl
    where
      go : (v : Option ℕ) → first (λ a. claims holders (row_at rows a)) arrivals ≡ v → v ≡ None
      go None e = refl
      go (Some a) e =
          let c = a_claim holders a (first_some nat_cmp_total nat_cmp-IsAntisymmetric (λ a. claims holders (row_at rows a)) arrivals a e) in
          let l : count (opens (after holders a c.0 c.1)) arrivals < count (opens holders) arrivals = fewer_open arrivals holders a c.0 c.1 e in
          absurd (omega arith)
  claim-ends arrivals (suc n) holders h = go (first (λ a. claims holders (row_at rows a)) arrivals) refl (claim-ends arrivals n)
    where
      go : (v : Option ℕ) → first (λ a. claims holders (row_at rows a)) arrivals ≡ v
          → ((h : Holders) → count (opens h) arrivals ≤ n → first (λ a. claims (claim n rows arrivals h) (row_at rows a)) arrivals ≡ None)
          → first (λ a. claims (elim v [ None ↦ holders | Some a ↦ claim n rows arrivals (hold a (row_at rows a) holders) ]) (row_at rows a)) arrivals ≡ None
      go None e ih = e
      go (Some a) e ih =
          let c = a_claim holders a (first_some nat_cmp_total nat_cmp-IsAntisymmetric (λ a. claims holders (row_at rows a)) arrivals a e) in
          let l : count (opens (after holders a c.0 c.1)) arrivals < count (opens holders) arrivals = fewer_open arrivals holders a c.0 c.1 e in
          ih (hold a (row_at rows a) holders) (subst (λ v. count (opens (hold a v holders)) arrivals ≤ n) (sym c.1.at) (omega arith))

  module _ (holders : Holders) where
    abbrev pub begun : Holders
    begun = claim (length holders) rows (holding_arrivals holders) []

    abbrev ended : Holders
    ended = rehold rows holders

    ended_held : AllHeld ended
    ended_held = all_claimed (keys rows) (length rows) begun (all_claimed (holding_arrivals holders) (length holders) [] none_held)

    none_claims : (a : ℕ) (row : Row) → row_at rows a ≡ Some row → claims ended (Some row) ≡ false
    none_claims a row e =
        let le : count (opens begun) (keys rows) ≤ length rows =
        subst (λ n. count (opens begun) (keys rows) ≤ n) (length-map rows (λ (e : ℕ × Row). e.0)) (count-le (opens begun) (keys rows)) in
        ap (claims ended) (sym e)
        ∙ first_none nat_cmp_total nat_cmp-IsAntisymmetric (λ a. claims ended (row_at rows a)) (keys rows) (claim-ends (keys rows) (length rows) begun le) a
        (found_key nat_cmp_total nat_cmp-IsAntisymmetric a rows row e)

    abbrev stand : Rows
    stand = standing rows ended

    -- which rows stand
    pub stands : (a : ℕ) (row : Row) → row_at rows a ≡ Some row → may_offer ended row.origin ≡ true → row_at stand a ≡ Some row
    stands a row e may = find-over nat_cmp_total nat_cmp-IsAntisymmetric a rows (λ a row. with_origin_held ended row)
        ∙ ap (option_and_then (with_origin_held ended)) e ∙ ap (λ b. cond b (Some row) None) may

    pub stood : (a : ℕ) (row : Row) → row_at stand a ≡ Some row → (row_at rows a ≡ Some row) × (may_offer ended row.origin ≡ true)
    stood a row e = go (row_at rows a) refl (sym (find-over nat_cmp_total nat_cmp-IsAntisymmetric a rows (λ a row. with_origin_held ended row)) ∙ e)
      where
        kept : (x : Row) (b : Bool) → may_offer ended x.origin ≡ b → cond b (Some x) None ≡ Some row → (x ≡ row) × (may_offer ended row.origin ≡ true)
        kept x true may e = let same : x ≡ row = ap (λ v. unwrap_or v x) e in (same, ap (λ (y : Row). may_offer ended y.origin) (sym same) ∙ may)
        kept x false may e = absurd (true≢false (sym (ap is_some e)))

        go : (v : Option Row) → row_at rows a ≡ v → option_and_then (with_origin_held ended) v ≡ Some row → (row_at rows a ≡ Some row) × (may_offer ended row.origin ≡ true)
        go None e h = absurd (true≢false (sym (ap is_some h)))
        go (Some x) e h = let k = kept x (may_offer ended x.origin) refl h in (e ∙ ap Some k.0, k.1)

    same_holding : (r : Ref) → holding stand ended r ≡ holding rows ended r
    same_holding r = go (get ended r) refl
      where
        go : (v : Option ℕ) → get ended r ≡ v → option_and_then (row_at stand) v ≡ option_and_then (row_at rows) v
        go None e = refl
        go (Some a) e = unfold AllHeld in (let w = ended_held r a e in stands a w.row w.at w.may ∙ sym w.at)

    climbs_standing : (n : ℕ) (r : Ref) → climbs rows ended n r ≡ true → climbs stand ended n r ≡ true
    climbs_standing zero r h = h
    climbs_standing (suc n) r h =
        ap (climbs_row (climbs stand ended n)) (same_holding r) ∙ climbs_row-more (climbs rows ended n) (climbs stand ended n) (climbs_standing n) (holding rows ended r) h

    -- after the rules of holding, each holder is a row of its reference and rooted, and each row's reference is held
    pub reheld_holders : AreHolders stand ended
    unfolding AllHeld
    reheld_holders = record {
      rows_of = λ r a e. let w = ended_held r a e in record { row = w.row; at = stands a w.row w.at w.may; names = w.names };
      all_rooted = λ r h. let x = some_or_none (get ended r) h in climbs_standing (length ended) r (ended_held r x.0 x.1).climbs;
      all_held = λ a row e. let w = stood a row e in is_held row (none_claims a row w.0) w.1;
    }
      where
        is_held : (row : Row) → claims ended (Some row) ≡ false → may_offer ended row.origin ≡ true → held ended row.reference ≡ true
        is_held row h may = go (held ended row.reference) (may_offer ended row.origin) h may
          where
            go : (b m : Bool) → (not b && m) ≡ false → m ≡ true → b ≡ true
            go true m h e = refl
            go false m h e = sym h ∙ e

-- an element of a list that f takes to a
module _ {K : Type 0} (f : K → Option ℕ) where
  filter_map-in : (same : K → K → Bool) → ((x y : K) → same x y ≡ true → x ≡ y) → (ks : List K) (k : K) (a : ℕ) → list_any (same k) ks ≡ true → f k ≡ Some a
      → list_any (eq_by_cmp nat_cmp a) (filter_map f ks) ≡ true
  filter_map-in same is [] k a h e = absurd (true≢false (sym h))
  filter_map-in same is (x ∷ xs) k a h e = go (same k x) refl h (filter_map-in same is xs k a)
    where
      here : (v : Option ℕ) → f x ≡ v → f x ≡ Some a → list_any (eq_by_cmp nat_cmp a) (cons_option v (filter_map f xs)) ≡ true
      here None e g = absurd (true≢false (sym (ap is_some (sym e ∙ g))))
      here (Some b) e g = ap (λ c. eq_by_cmp nat_cmp a c || list_any (eq_by_cmp nat_cmp a) (filter_map f xs)) (ap (λ v. unwrap_or v b) (sym e ∙ g))
          ∙ ap (λ c. c || list_any (eq_by_cmp nat_cmp a) (filter_map f xs)) (same_self nat_cmp_total nat_cmp-IsAntisymmetric a)

      there : (v : Option ℕ) → list_any (eq_by_cmp nat_cmp a) (filter_map f xs) ≡ true → list_any (eq_by_cmp nat_cmp a) (cons_option v (filter_map f xs)) ≡ true
      there None h = h
      there (Some b) h = or_true (eq_by_cmp nat_cmp a b) _ h

      go : (b : Bool) → same k x ≡ b → (b || list_any (same k) xs) ≡ true → (list_any (same k) xs ≡ true → f k ≡ Some a → list_any (eq_by_cmp nat_cmp a) (filter_map f xs) ≡ true)
          → list_any (eq_by_cmp nat_cmp a) (cons_option (f x) (filter_map f xs)) ≡ true
      go true s h ih = here (f x) refl (ap f (sym (is k x s)) ∙ e)
      go false s h ih = there (f x) (ih h e)

  filter_map-from : (ks : List K) (a : ℕ) → list_any (eq_by_cmp nat_cmp a) (filter_map f ks) ≡ true → (k : K) × (f k ≡ Some a)
  filter_map-from [] a h = absurd (true≢false (sym h))
  filter_map-from (x ∷ xs) a h = go (f x) refl h (filter_map-from xs a)
    where
      hit : (b : ℕ) → f x ≡ Some b → (c : Bool) → eq_by_cmp nat_cmp a b ≡ c → (c || list_any (eq_by_cmp nat_cmp a) (filter_map f xs)) ≡ true
          → (list_any (eq_by_cmp nat_cmp a) (filter_map f xs) ≡ true → (k : K) × (f k ≡ Some a)) → (k : K) × (f k ≡ Some a)
      hit b e true s h ih = (x, e ∙ ap Some (sym (same_is nat_cmp_total nat_cmp-IsAntisymmetric a b s)))
      hit b e false s h ih = ih h

      go : (v : Option ℕ) → f x ≡ v → list_any (eq_by_cmp nat_cmp a) (cons_option v (filter_map f xs)) ≡ true
          → (list_any (eq_by_cmp nat_cmp a) (filter_map f xs) ≡ true → (k : K) × (f k ≡ Some a)) → (k : K) × (f k ≡ Some a)
      go None e h ih = ih h
      go (Some b) e h ih = hit b e (eq_by_cmp nat_cmp a b) refl h ih

  length-filter_map-le : (ks : List K) → length (filter_map f ks) ≤ length ks
  length-filter_map-le [] = omega arith
  length-filter_map-le (x ∷ xs) = go (f x) (length-filter_map-le xs)
    where
      go : (v : Option ℕ) → length (filter_map f xs) ≤ length xs → length (cons_option v (filter_map f xs)) ≤ suc (length xs)
      go None h = omega arith
      go (Some a) h = omega arith

-- a reference whose chain of holders goes up through rows that are there
pub data Firm (rows : Rows) (holders : Holders) : Ref → Type 0 where
  by_provider : {r : Ref} (a : ℕ) (row : Row) (p : Text) → get holders r ≡ Some a → row_at rows a ≡ Some row → row.origin ≡ Provider p → Firm rows holders r
  by_entity : {r : Ref} (a : ℕ) (row : Row) (e : Ref) → get holders r ≡ Some a → row_at rows a ≡ Some row → row.origin ≡ Entity e → Firm rows holders e → Firm rows holders r

pub record Stays (rows : Rows) (holders : Holders) (r : Ref) : Type 0 where
  pub arrival : ℕ
  pub row : Row
  pub was : get holders r ≡ Some arrival
  pub at : row_at rows arrival ≡ Some row
  pub kept : get (begun rows holders) r ≡ Some arrival

-- the rules of holding keep what is firm
module _ (rows : Rows) (holders : Holders) (names : (r : Ref) (a : ℕ) (row : Row) → get holders r ≡ Some a → row_at rows a ≡ Some row → row.reference ≡ r) where
  abbrev arrivals : List ℕ
  arrivals = holding_arrivals holders

  none_begins : first (λ a. claims (begun rows holders) (row_at rows a)) arrivals ≡ None
  none_begins =
      let a = count-le (opens rows []) arrivals in
      let b = length-filter_map-le (λ r. get holders r) (keys holders) in
      let c : length (keys holders) ≡ length holders = length-map holders (λ (e : Ref × ℕ). e.0) in
      claim-ends rows arrivals (length holders) [] (omega arith)

  From : Holders → Type 0
  From h = (r : Ref) (a : ℕ) → get h r ≡ Some a → (list_any (eq_by_cmp nat_cmp a) arrivals ≡ true) × IsRowOf rows r a

  begun_from : From (begun rows holders)
  unfolding From
  begun_from = claim-keeps rows From arrivals step (length holders) [] (λ r a e. absurd (true≢false (sym (ap is_some e))))
    where
      step : (h : Holders) (a : ℕ) (row : Row) → IsClaim rows h a row → list_any (eq_by_cmp nat_cmp a) arrivals ≡ true
          → ((r : Ref) (b : ℕ) → get h r ≡ Some b → (list_any (eq_by_cmp nat_cmp b) arrivals ≡ true) × IsRowOf rows r b)
          → (r : Ref) (b : ℕ) → get (put text_cmp row.reference a h) r ≡ Some b → (list_any (eq_by_cmp nat_cmp b) arrivals ≡ true) × IsRowOf rows r b
      step h a row c in' p r b e = go (same_text r row.reference) refl
        where
          go : (x : Bool) → same_text r row.reference ≡ x → (list_any (eq_by_cmp nat_cmp b) arrivals ≡ true) × IsRowOf rows r b
          go true s =
              let same : r ≡ row.reference = same_is text_total text_antisymmetric r row.reference s in
              let is : a ≡ b = ap (λ v. unwrap_or v a) (sym (get-claimed rows h a row c) ∙ ap (get (put text_cmp row.reference a h)) (sym same) ∙ e) in
              (ap (λ k. list_any (eq_by_cmp nat_cmp k) arrivals) (sym is) ∙ in', record { row = row; at = ap (row_at rows) (sym is) ∙ c.at; names = sym same })
          go false s = p r b (sym (get-after rows h a row c r s) ∙ e)

  keeps_holder : (r : Ref) (a : ℕ) (row : Row) → get holders r ≡ Some a → row_at rows a ≡ Some row → may_offer (begun rows holders) row.origin ≡ true → get (begun rows holders) r ≡ Some a
  unfolding From
  keeps_holder r a row h e may = found (get (begun rows holders) r) refl (is_held (held (begun rows holders) row.reference) (may_offer (begun rows holders) row.origin) no may)
    where
      its_name : row.reference ≡ r
      its_name = names r a row h e

      no : claims (begun rows holders) (Some row) ≡ false
      no = ap (claims (begun rows holders)) (sym e) ∙ first_none nat_cmp_total nat_cmp-IsAntisymmetric (λ a. claims (begun rows holders) (row_at rows a)) arrivals none_begins a
          (filter_map-in (λ r. get holders r) same_text (same_is text_total text_antisymmetric) (keys holders) r a (found_key text_total text_antisymmetric r holders a h) h)

      is_held : (b m : Bool) → (not b && m) ≡ false → m ≡ true → b ≡ true
      is_held true m h e = refl
      is_held false m h e = sym h ∙ e

      found : (v : Option ℕ) → get (begun rows holders) r ≡ v → held (begun rows holders) row.reference ≡ true → v ≡ Some a
      found None g h' = absurd (true≢false (sym h' ∙ ap (held (begun rows holders)) its_name ∙ ap is_some g))
      found (Some b) g h' =
          let w = begun_from r b g in
          let q = filter_map-from (λ r. get holders r) (keys holders) b w.0 in
          let same : q.0 ≡ r = sym (names q.0 b w.1.row q.1 w.1.at) ∙ w.1.names in
          sym q.1 ∙ ap (get holders) same ∙ h

  pub firm_stays : {r : Ref} → Firm rows holders r → Stays rows holders r
  firm_stays {r} (by_provider a row p h e is) =
      record { arrival = a; row = row; was = h; at = e; kept = keeps_holder r a row h e (ap (may_offer (begun rows holders)) is) }
  firm_stays {r} (by_entity a row q h e is up) =
      let w = firm_stays up in
      record { arrival = a; row = row; was = h; at = e; kept = keeps_holder r a row h e (ap (may_offer (begun rows holders)) is ∙ ap is_some w.kept) }

  still_held : (r : Ref) (a : ℕ) → get (begun rows holders) r ≡ Some a → get (rehold rows holders) r ≡ Some a
  still_held r a e = claim-keeps rows (λ h. get h r ≡ Some a) (keys rows)
      (λ h b row c _ g. get-after rows h b row c r (held_apart rows h b row c r (ap is_some g)) ∙ g) (length rows) (begun rows holders) e

  -- so it has the same holding row
  pub firm_holding : {r : Ref} → Firm rows holders r → (get (rehold rows holders) r ≡ get holders r) × (holding (standing rows (rehold rows holders)) (rehold rows holders) r ≡ holding rows holders r)
  firm_holding {r} f =
      let w = firm_stays f in
      let g = still_held r w.arrival w.kept in
      (g ∙ sym w.was, same_holding rows holders r ∙ ap (option_and_then (row_at rows)) (g ∙ sym w.was))

  -- what is kept first was so before
  pub begun_was : (r : Ref) (b : ℕ) → get (begun rows holders) r ≡ Some b → get holders r ≡ Some b
  unfolding From
  begun_was r b e =
      let w = begun_from r b e in
      let q = filter_map-from (λ r. get holders r) (keys holders) b w.0 in
      let same : q.0 ≡ r = sym (names q.0 b w.1.row q.1 w.1.at) ∙ w.1.names in
      sym (ap (get holders) same) ∙ q.1

module _ (rows : Rows) (holders : Holders) where
  pub begun_held : (r : Ref) (a : ℕ) → get (begun rows holders) r ≡ Some a → rooted rows (begun rows holders) r ≡ true
  unfolding AllHeld
  begun_held r a e = (all_claimed rows (holding_arrivals holders) (length holders) [] (none_held rows) r a e).climbs

  pub begun_in_order : T (is_sorted text_cmp (begun rows holders))
  begun_in_order = claim-keeps rows (λ h. T (is_sorted text_cmp h)) (holding_arrivals holders) (λ h a row c _ p. is_sorted-put text_cmp text_total row.reference a h p) (length holders) [] tt

  pub rehold_in_order : T (is_sorted text_cmp (rehold rows holders))
  rehold_in_order = claim-keeps rows (λ h. T (is_sorted text_cmp h)) (keys rows) (λ h a row c _ p. is_sorted-put text_cmp text_total row.reference a h p) (length rows) (begun rows holders) begun_in_order
