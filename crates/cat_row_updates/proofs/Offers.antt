-- What the offers of a stored output tell of those of the output.
use Rattle.std.proofs.Common.{T, ◌≡◌, ℕ, inl, inr, ◌||◌, Bool, true, false, cond, List, [], ◌∷◌, map, refl, sym, ap, subst, ◌∙◌, is_some, unwrap_or, true≢false}
use Rattle.std.specs.declared.option.Option.{Option}
use Rattle.std.specs.declared.option.Option.TheVariants.{None, Some}
use Rattle.std.specs.Cmp.{IsTotalOrder, nat_cmp_total}
use Rattle.std.specs.FinMap.{IsAntisymmetric, nat_cmp-IsAntisymmetric}
use Rattle.std.specs.FinMap.Entries.{is_some-find, is_sorted}
use Rattle.std.specs.List.{AllByRecursion, IsDistinct, flat_map, list_any}
use Rattle.std.specs.Ordering.{nat_cmp}
use Rattle.cat_collections.specs.Pairs.{pair_antisymmetric, pair_total}
use Rattle.cat_collections.specs.Table.{Text, find, get, keys, same_text, text_cmp}
use Rattle.cat_collections.proofs.Tables.{same_is, same_self, text_antisymmetric, text_total}
use Rattle.cat_types.specs.declared.input.Offered.{Offered}
use Rattle.cat_model.specs.Catalogue.{Ref, row_at}
use Rattle.cat_model.specs.Catalogue as catalogue
use Rattle.cat_model.specs.declared.types.Origin.{Origin}
use Rattle.cat_model.specs.declared.types.Origin.TheVariants.{Provider, Entity}
use Rattle.cat_model.specs.declared.types.Row.{Row}
use Rattle.cat_row_format.specs.declared.row.StoredOffer.{StoredOffer}
use Rattle.cat_stored_rows.specs.Stored.{Emitted, emitted, emitted_as, emitted_by, offer_in, pairs_cmp, tree_beside}
use Rattle.cat_stored_rows.specs.declared.version.Version.{Version}
use Rattle.cat_stored_rows.proofs.In.{In, found_in, found_puts, from_flat, in_flat, in_found, none_some, same_some}

pub pairs_total : IsTotalOrder pairs_cmp
pairs_total = pair_total text_total text_total

pub pairs_antisymmetric : IsAntisymmetric pairs_cmp
pairs_antisymmetric = pair_antisymmetric text_antisymmetric text_antisymmetric

-- ---- lists that are equal

first_one : {A : Type 0} {x y : A} {xs ys : List A} → x ∷ xs ≡ y ∷ ys → x ≡ y
first_one e = cc

rest_one : {A : Type 0} {x y : A} {xs ys : List A} → x ∷ xs ≡ y ∷ ys → xs ≡ ys
rest_one e = cc

no_more : {A B : Type 0} {x : A} {xs : List A} → [] ≡ x ∷ xs → B
no_more e = absurd (cc)

-- ---- offers by their stored offers

-- an offer with its arrival number is that of a stored offer
pub record IsGiven (version : Version) (arrivals others : Emitted) (emitter other r : Ref) (y : Offered) (v : Option Offered) : Type 0 where
  pub offer : Offered
  pub is : v ≡ Some offer
  pub key : y.key ≡ offer.key
  pub beside : tree_beside version y.tree ≡ tree_beside version offer.tree
  pub arrival : unwrap_or (find pairs_cmp (emitter, r) arrivals) 0 ≡ unwrap_or (find pairs_cmp (other, r) others) 0

module _ (version : Version) (arrivals others : Emitted) (emitter other : Ref) where
  pub same_refs : (xs ys : List (Text × Offered)) → map (offer_in version arrivals emitter) xs ≡ map (offer_in version others other) ys → keys xs ≡ keys ys
  same_refs [] [] e = refl
  same_refs [] (y ∷ ys) e = no_more e
  same_refs (x ∷ xs) [] e = no_more (sym e)
  same_refs (x ∷ xs) (y ∷ ys) e =
      let reference : x.0 ≡ y.0 = ap (λ (o : StoredOffer). o.reference) (first_one e) in
      let rest : keys xs ≡ keys ys = same_refs xs ys (rest_one e) in
      λ i. reference i ∷ rest i

  pub given_too : (xs ys : List (Text × Offered)) → map (offer_in version arrivals emitter) xs ≡ map (offer_in version others other) ys
      → (r : Ref) (x : Offered) → get xs r ≡ Some x → IsGiven version arrivals others emitter other r x (get ys r)
  given_too [] ys e r x f = absurd (none_some f)
  given_too (z ∷ xs) [] e r x f = no_more (sym e)
  given_too (z ∷ xs) (y ∷ ys) e r x f = go (same_text r z.0) refl f (given_too xs ys (rest_one e) r x)
    where
      reference : z.0 ≡ y.0
      reference = ap (λ (o : StoredOffer). o.reference) (first_one e)

      go : (b : Bool) → same_text r z.0 ≡ b → cond b (Some z.1) (get xs r) ≡ Some x → (get xs r ≡ Some x → IsGiven version arrivals others emitter other r x (get ys r)) → IsGiven version arrivals others emitter other r x (get (y ∷ ys) r)
      go true t g ih =
          let here : r ≡ z.0 = same_is text_total text_antisymmetric r z.0 t in
          record {
            offer = y.1;
            is = ap (λ b. cond b (Some y.1) (get ys r)) (ap (same_text r) (sym reference) ∙ t);
            key = ap (λ (o : Offered). o.key) (sym (same_some g)) ∙ ap (λ (o : StoredOffer). o.key) (first_one e);
            beside = ap (λ (o : Offered). tree_beside version o.tree) (sym (same_some g)) ∙ ap (λ (o : StoredOffer). o.tree) (first_one e);
            arrival =
                ap (λ q. unwrap_or (find pairs_cmp (emitter, q) arrivals) 0) here
                ∙ (ap (λ (o : StoredOffer). o.arrival) (first_one e)
                ∙ ap (λ q. unwrap_or (find pairs_cmp (other, q) others) 0) (sym (here ∙ reference)));
          }
      go false t g ih =
          subst (IsGiven version arrivals others emitter other r x) (sym (ap (λ b. cond b (Some y.1) (get ys r)) (ap (same_text r) (sym reference) ∙ t))) (ih g)

-- ---- offers that are told apart by their references

not_there : (r : Ref) (xs : List Ref) → AllByRecursion (λ q. same_text r q ≡ false) xs → list_any (same_text r) xs ≡ false
not_there r [] h = refl
not_there r (x ∷ xs) h = (λ i. (h.0 i || list_any (same_text r) xs)) ∙ not_there r xs h.1

-- lists that have the same references, each once, and the same under each, are one
pub same_listed : (xs ys : List (Text × Offered)) → IsDistinct same_text (keys xs) → keys xs ≡ keys ys → ((r : Ref) → get xs r ≡ get ys r) → xs ≡ ys
unfolding IsDistinct
same_listed [] [] d e f = refl
same_listed [] (y ∷ ys) d e f = no_more e
same_listed (x ∷ xs) [] d e f = no_more (sym e)
same_listed (x ∷ xs) (y ∷ ys) d e f =
    let key : x.0 ≡ y.0 = first_one e in
    let value : x.1 ≡ y.1 = same_some (sym (here x xs) ∙ (f x.0 ∙ (ap (get (y ∷ ys)) key ∙ here y ys))) in
    let rest : xs ≡ ys = same_listed xs ys d.1 (rest_one e) (λ r. go r (same_text r x.0) refl (f r)) in
    λ i. (key i, value i) ∷ rest i
  where
    here : (z : Text × Offered) (zs : List (Text × Offered)) → get (z ∷ zs) z.0 ≡ Some z.1
    here z zs = ap (λ b. cond b (Some z.1) (get zs z.0)) (same_self text_total text_antisymmetric z.0)

    none : (v : Option Offered) → is_some v ≡ false → v ≡ None
    none None e = refl
    none (Some z) e = absurd (true≢false e)

    gone : (zs : List (Text × Offered)) → keys xs ≡ keys zs → get zs x.0 ≡ None
    gone zs k = none (get zs x.0) (is_some-find text_cmp x.0 zs ∙ (ap (list_any (same_text x.0)) (sym k) ∙ not_there x.0 (keys xs) d.0))

    go : (r : Ref) (b : Bool) → same_text r x.0 ≡ b → get (x ∷ xs) r ≡ get (y ∷ ys) r → get xs r ≡ get ys r
    go r true t g =
        let is : r ≡ x.0 = same_is text_total text_antisymmetric r x.0 t in
        ap (get xs) is ∙ (gone xs refl ∙ sym (ap (get ys) is ∙ gone ys (rest_one e)))
    go r false t g =
        sym (ap (λ b. cond b (Some x.1) (get xs r)) t) ∙ (g ∙ ap (λ b. cond b (Some y.1) (get ys r)) (ap (same_text r) (sym (first_one e)) ∙ t))

-- ---- the arrival number of a row that an entity emitted

module _ (rows : catalogue.Rows) (sorted : T (is_sorted nat_cmp rows))
    (once : (a b : ℕ) (row other : Row) → row_at rows a ≡ Some row → row_at rows b ≡ Some other → row.origin ≡ other.origin → row.reference ≡ other.reference → a ≡ b) where
  noted : (a : ℕ) (r e : Ref) (o : Origin) → o ≡ Entity e → In ((e, r), a) (emitted_by a r o)
  noted a r e o is = subst (λ o. In ((e, r), a) (emitted_by a r o)) (sym is) (inl refl)

  -- an entry that was noted is of a row of its emitter and its reference
  pub record IsNoted (e r : Ref) (b a : ℕ) (row : Row) : Type 0 where
    pub origin : row.origin ≡ Entity e
    pub reference : row.reference ≡ r
    pub arrival : b ≡ a

  is_noted : (e r : Ref) (b a : ℕ) (row : Row) (o : Origin) → row.origin ≡ o → In ((e, r), b) (emitted_by a row.reference o) → IsNoted e r b a row
  is_noted e r b a row (Provider p) is h = absurd h
  is_noted e r b a row (Entity q) is (inl same) = record {
    origin = is ∙ ap Entity (sym (ap (λ x. x.0.0) same));
    reference = sym (ap (λ x. x.0.1) same);
    arrival = ap (λ x. x.1) same;
  }
  is_noted e r b a row (Entity q) is (inr h) = absurd h

  pub emitted_at : (a : ℕ) (row : Row) (e : Ref) → row_at rows a ≡ Some row → row.origin ≡ Entity e → find pairs_cmp (e, row.reference) (emitted rows) ≡ Some a
  emitted_at a row e f is =
      found_puts pairs_total pairs_antisymmetric (flat_map emitted_as rows) (e, row.reference) a alone
      (in_flat emitted_as (a, row) ((e, row.reference), a) rows (in_found nat_cmp_total nat_cmp-IsAntisymmetric a rows row f) (noted a row.reference e row.origin is))
    where
      alone : (b : ℕ) → In ((e, row.reference), b) (flat_map emitted_as rows) → b ≡ a
      alone b h =
          let from = from_flat emitted_as ((e, row.reference), b) rows h in
          let note : IsNoted e row.reference b from.0.0 from.0.1 = is_noted e row.reference b from.0.0 from.0.1 from.0.1.origin refl from.2 in
          let there : row_at rows from.0.0 ≡ Some from.0.1 = found_in nat_cmp_total nat_cmp-IsAntisymmetric rows sorted from.0.0 from.0.1 from.1 in
          note.arrival ∙ once from.0.0 a from.0.1 row there f (note.origin ∙ sym is) note.reference
