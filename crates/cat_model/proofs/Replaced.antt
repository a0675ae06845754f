-- What the replacement of an origin's rows leaves.
use Rattle.std.proofs.Common.{◌≡◌, ℕ, ◌+◌, ◌<◌, ◌≤◌, Bool, true, false, cond, ◌||◌, ◌⊎◌, inl, inr, ⊎_elim, List, [], ◌∷◌, refl, sym, ap, subst, ◌∙◌, is_some, unwrap_or, arith, true≢false, nat_cmp, le_refl, le_trans, ◌&&◌}
use Rattle.std.specs.declared.option.Option.{Option}
use Rattle.std.specs.declared.option.Option.TheVariants.{None, Some}
use Rattle.std.specs.Option.{option_and_then}
use Rattle.std.specs.Ordering.{eq_by_cmp}
use Rattle.std.specs.List.{list_any}
use Rattle.std.specs.Cmp.{nat_cmp_total}
use Rattle.std.specs.FinMap.{nat_cmp-IsAntisymmetric}
use Rattle.cat_collections.specs.Table.{same_text, keys, put, over}
use Rattle.cat_model.specs.Catalogue.{Ref, Rows, row_at}
use Rattle.cat_types.specs.declared.input.Offered.{Offered}
use Rattle.cat_model.specs.declared.types.Origin.{Origin}
use Rattle.cat_model.specs.declared.types.Row.{Row}
use Rattle.cat_model.specs.declared.types.State.{State}
use Rattle.cat_model.specs.declared.types.Origin.TheVariants.{Provider, Entity}
use Rattle.cat_model.specs.Sound.{offered, HasRow, AreOffers}
use Rattle.cat_model.specs.Step.{same_origin, offered_again, row_after, is_offer, has_row, add_offer, add_offers, with_offers}
use Rattle.cat_model.specs.declared.types.Numbered.{Numbered}
use Rattle.cat_collections.proofs.Tables.{text_total, text_antisymmetric, same_is, same_self, find-over, find-put_same, find-put_other, and_first, and_second, or_true, found_key}

pub same_origin-is : (o q : Origin) → same_origin o q ≡ true → o ≡ q
same_origin-is (Provider p) (Provider q) h = ap Provider (same_is text_total text_antisymmetric p q h)
same_origin-is (Provider p) (Entity e) h = absurd (true≢false (sym h))
same_origin-is (Entity e) (Provider q) h = absurd (true≢false (sym h))
same_origin-is (Entity e) (Entity f) h = ap Entity (same_is text_total text_antisymmetric e f h)

pub same_origin-self : (o : Origin) → same_origin o o ≡ true
same_origin-self (Provider p) = same_self text_total text_antisymmetric p
same_origin-self (Entity e) = same_self text_total text_antisymmetric e

any_some : {K : Type 0} (p : K → Bool) (ks : List K) → list_any p ks ≡ true → (k : K) × (p k ≡ true)
any_some p [] h = absurd (true≢false (sym h))
any_some {K} p (k ∷ ks) h = go (p k) refl h (any_some p ks)
  where
    go : (b : Bool) → p k ≡ b → (b || list_any p ks) ≡ true → (list_any p ks ≡ true → (k : K) × (p k ≡ true)) → (k : K) × (p k ≡ true)
    go true e h ih = (k, e)
    go false e h ih = ih h

-- some row of this origin is of r
pub record HasSome (rows : Rows) (o : Origin) (r : Ref) : Type 0 where
  pub arrival : ℕ
  pub row : Row
  pub at : row_at rows arrival ≡ Some row
  pub from : row.origin ≡ o
  pub names : row.reference ≡ r

any_at : (p : ℕ → Bool) (ks : List ℕ) (b : ℕ) → list_any (eq_by_cmp nat_cmp b) ks ≡ true → p b ≡ true → list_any p ks ≡ true
any_at p [] b h e = h
any_at p (k ∷ ks) b h e = go (eq_by_cmp nat_cmp b k) refl h (λ h. any_at p ks b h e)
  where
    go : (c : Bool) → eq_by_cmp nat_cmp b k ≡ c → (c || list_any (eq_by_cmp nat_cmp b) ks) ≡ true → (list_any (eq_by_cmp nat_cmp b) ks ≡ true → list_any p ks ≡ true) → (p k || list_any p ks) ≡ true
    go true is h ih = ap (λ c. c || list_any p ks) (ap p (sym (same_is nat_cmp_total nat_cmp-IsAntisymmetric b k is)) ∙ e)
    go false is h ih = or_true (p k) _ (ih h)

is_row : (rows : Rows) (o : Origin) (r : Ref) (b : ℕ) (row : Row) → row_at rows b ≡ Some row → o ≡ row.origin → r ≡ row.reference → has_row rows o r ≡ true
is_row rows o r b row e from names = any_at (λ a. is_offer o r (row_at rows a)) (keys rows) b (found_key nat_cmp_total nat_cmp-IsAntisymmetric b rows row e)
    (ap (is_offer o r) e ∙ both (ap (same_origin o) (sym from) ∙ same_origin-self o) (ap (same_text r) (sym names) ∙ same_self text_total text_antisymmetric r))
  where
    both : {a b : Bool} → a ≡ true → b ≡ true → (a && b) ≡ true
    both {a} {b} p q = ap (λ c. c && b) p ∙ q

has_row-is : (rows : Rows) (o : Origin) (r : Ref) → has_row rows o r ≡ true → HasSome rows o r
has_row-is rows o r h = let a = any_some (λ a. is_offer o r (row_at rows a)) (keys rows) h in go a.0 (row_at rows a.0) refl a.1
  where
    go : (a : ℕ) (v : Option Row) → row_at rows a ≡ v → is_offer o r v ≡ true → HasSome rows o r
    go a None e h = absurd (true≢false (sym h))
    go a (Some row) e h = record {
      arrival = a;
      row = row;
      at = e;
      from = sym (same_origin-is o row.origin (and_first _ _ h));
      names = sym (same_is text_total text_antisymmetric r row.reference (and_second (same_origin o row.origin) _ h));
    }

module _ (o : Origin) (offers : Ref → Option Offered) (m : State) where
  -- each row of an origin but o is of what that offers, and there is one for each offer
  pub record AreOthers : Type 0 where
    pub given : (a : ℕ) (row : Row) → row_at m.rows a ≡ Some row → same_origin o row.origin ≡ false → offered m row.origin row.reference ≡ Some row.offered
    pub shown : (q : Origin) (r : Ref) (x : Offered) → same_origin o q ≡ false → offered m q r ≡ Some x → HasRow m.rows q r x
    pub below : (a : ℕ) (row : Row) → row_at m.rows a ≡ Some row → a < m.arrival
    pub once : (a b : ℕ) (row other : Row) → row_at m.rows a ≡ Some row → row_at m.rows b ≡ Some other → row.origin ≡ other.origin → row.reference ≡ other.reference → a ≡ b

  record IsNumbered (x : Numbered) : Type 0 where
    given : (a : ℕ) (row : Row) → row_at x.rows a ≡ Some row → offered m row.origin row.reference ≡ Some row.offered
    below : (a : ℕ) (row : Row) → row_at x.rows a ≡ Some row → a < x.next
    once : (a b : ℕ) (row other : Row) → row_at x.rows a ≡ Some row → row_at x.rows b ≡ Some other → row.origin ≡ other.origin → row.reference ≡ other.reference → a ≡ b

  module _ (is : (r : Ref) → offered m o r ≡ offers r) where
    module _ (x : Numbered) (n : IsNumbered x) (r : Ref) (f : Offered) (e : offers r ≡ Some f) where
      abbrev added : Rows
      added = put nat_cmp x.next (record { origin = o; reference = r; offered = f }) x.rows

      added_at : (a : ℕ) (row : Row) → row_at added a ≡ Some row → (row ≡ record { origin = o; reference = r; offered = f }) × (a ≡ x.next) ⊎ (row_at x.rows a ≡ Some row)
      added_at a row h = go (eq_by_cmp nat_cmp a x.next) refl
        where
          go : (b : Bool) → eq_by_cmp nat_cmp a x.next ≡ b → (row ≡ record { origin = o; reference = r; offered = f }) × (a ≡ x.next) ⊎ (row_at x.rows a ≡ Some row)
          go true is = let same : a ≡ x.next = same_is nat_cmp_total nat_cmp-IsAntisymmetric a x.next is in
              inl (ap (λ v. unwrap_or v row) (sym h ∙ ap (row_at added) same ∙ find-put_same nat_cmp_total nat_cmp-IsAntisymmetric x.next (record { origin = o; reference = r; offered = f }) x.rows), same)
          go false is = inr (sym (find-put_other nat_cmp_total nat_cmp-IsAntisymmetric a x.next (record { origin = o; reference = r; offered = f }) x.rows is) ∙ h)

      added_numbered : has_row x.rows o r ≡ false → IsNumbered (record { rows = added; next = x.next + 1 })
      added_numbered none = record { once = λ a b row other h h' from names. once a b row other (added_at a row h) (added_at b other h') from names; given = λ a row h. given a row (added_at a row h); below = λ a row h. below a row (added_at a row h) }
        where
          given : (a : ℕ) (row : Row) → (row ≡ record { origin = o; reference = r; offered = f }) × (a ≡ x.next) ⊎ (row_at x.rows a ≡ Some row) → offered m row.origin row.reference ≡ Some row.offered
          given a row (inl h) = subst (λ (w : Row). offered m w.origin w.reference ≡ Some w.offered) (sym h.0) (is r ∙ e)
          given a row (inr h) = n.given a row h

          apart : (row : Row) → row ≡ record { origin = o; reference = r; offered = f } → (b : ℕ) (other : Row) → row_at x.rows b ≡ Some other → row.origin ≡ other.origin → row.reference ≡ other.reference → ⊥
          apart row is' b other h from names = true≢false (sym (is_row x.rows o r b other h (sym (ap (λ (v : Row). v.origin) is') ∙ from) (sym (ap (λ (v : Row). v.reference) is') ∙ names)) ∙ none)

          once : (a b : ℕ) (row other : Row) → (row ≡ record { origin = o; reference = r; offered = f }) × (a ≡ x.next) ⊎ (row_at x.rows a ≡ Some row)
              → (other ≡ record { origin = o; reference = r; offered = f }) × (b ≡ x.next) ⊎ (row_at x.rows b ≡ Some other) → row.origin ≡ other.origin → row.reference ≡ other.reference → a ≡ b
          once a b row other (inl h) (inl h') from names = h.1 ∙ sym h'.1
          once a b row other (inl h) (inr h') from names = absurd (apart row h.0 b other h' from names)
          once a b row other (inr h) (inl h') from names = absurd (apart other h'.0 a row h (sym from) (sym names))
          once a b row other (inr h) (inr h') from names = n.once a b row other h h' from names

          below : (a : ℕ) (row : Row) → (row ≡ record { origin = o; reference = r; offered = f }) × (a ≡ x.next) ⊎ (row_at x.rows a ≡ Some row) → a < x.next + 1
          below a row (inl h) = let e : a ≡ x.next = h.1 in omega arith
          below a row (inr h) = let l = n.below a row h in omega arith

      added_old : (a : ℕ) (row : Row) → row_at x.rows a ≡ Some row → row_at added a ≡ Some row
      added_old a row h = go (eq_by_cmp nat_cmp a x.next) refl
        where
          go : (b : Bool) → eq_by_cmp nat_cmp a x.next ≡ b → row_at added a ≡ Some row
          go true is = let same : a ≡ x.next = same_is nat_cmp_total nat_cmp-IsAntisymmetric a x.next is in let l = n.below a row h in absurd (omega arith)
          go false is = find-put_other nat_cmp_total nat_cmp-IsAntisymmetric a x.next (record { origin = o; reference = r; offered = f }) x.rows is ∙ h

      added_new : HasSome added o r
      added_new = record {
        arrival = x.next;
        row = record { origin = o; reference = r; offered = f };
        at = find-put_same nat_cmp_total nat_cmp-IsAntisymmetric x.next (record { origin = o; reference = r; offered = f }) x.rows;
        from = refl;
        names = refl;
      }

    -- what one more offer leaves
    record IsMore (x y : Numbered) : Type 0 where
      numbered : IsNumbered y
      old : (a : ℕ) (row : Row) → row_at x.rows a ≡ Some row → row_at y.rows a ≡ Some row
      fresh : (a : ℕ) (row : Row) → row_at y.rows a ≡ Some row → (row_at x.rows a ≡ Some row) ⊎ (x.next ≤ a)
      up : x.next ≤ y.next

    no_more : (x : Numbered) → IsNumbered x → IsMore x x
    no_more x n = record { numbered = n; old = λ a row h. h; fresh = λ a row h. inl h; up = le_refl _ }

    has_more : (x y : Numbered) → IsMore x y → (r : Ref) → HasSome x.rows o r → HasSome y.rows o r
    has_more x y more r h = record { arrival = h.arrival; row = h.row; at = more.old h.arrival h.row h.at; from = h.from; names = h.names }

    add_one : (x : Numbered) → IsNumbered x → (r : Ref) (v : Option Offered) → offers r ≡ v → IsMore x (add_offer o r v x) × ((f : Offered) → v ≡ Some f → HasSome (add_offer o r v x).rows o r)
    add_one x n r None e = (no_more x n, λ f h. absurd (true≢false (sym (ap is_some h))))
    add_one x n r (Some f) e = go (has_row x.rows o r) refl
      where
        go : (b : Bool) → has_row x.rows o r ≡ b
            → IsMore x (cond b x (record { rows = added x n r f e; next = x.next + 1 })) × ((g : Offered) → Some f ≡ Some g → HasSome (cond b x (record { rows = added x n r f e; next = x.next + 1 })).rows o r)
        go true h = (no_more x n, λ g _. has_row-is x.rows o r h)
        go false h = (record { numbered = added_numbered x n r f e h; old = added_old x n r f e; fresh = λ a row h. fresh a row (added_at x n r f e a row h); up = omega arith }, λ g _. added_new x n r f e)
          where
            fresh : (a : ℕ) (row : Row) → (row ≡ record { origin = o; reference = r; offered = f }) × (a ≡ x.next) ⊎ (row_at x.rows a ≡ Some row) → (row_at x.rows a ≡ Some row) ⊎ (x.next ≤ a)
            fresh a row (inl h) = let e : a ≡ x.next = h.1 in inr (omega arith)
            fresh a row (inr h) = inl h

    more_and_more : (x y z : Numbered) → IsMore x y → IsMore y z → IsMore x z
    more_and_more x y z a b = record { numbered = b.numbered; old = λ k row h. b.old k row (a.old k row h); fresh = λ k row h. fresh k row (b.fresh k row h); up = le_trans a.up b.up }
      where
        fresh : (k : ℕ) (row : Row) → (row_at y.rows k ≡ Some row) ⊎ (y.next ≤ k) → (row_at x.rows k ≡ Some row) ⊎ (x.next ≤ k)
        fresh k row (inl h) = a.fresh k row h
        fresh k row (inr h) = inr (le_trans a.up h)

    add_all : (order : List Ref) (x : Numbered) → IsNumbered x
        → IsMore x (add_offers o offers order x) × ((r : Ref) (f : Offered) → offers r ≡ Some f → list_any (same_text r) order ≡ true → HasSome (add_offers o offers order x).rows o r)
    add_all [] x n = (no_more x n, λ r f e h. absurd (true≢false (sym h)))
    add_all (q ∷ order) x n =
        let one = add_one x n q (offers q) refl in
        let rest = add_all order (add_offer o q (offers q) x) one.0.numbered in
        (more_and_more _ _ _ one.0 rest.0, λ r f e h. found one rest r f e (same_text r q) refl h)
      where
        found : IsMore x (add_offer o q (offers q) x) × ((f : Offered) → offers q ≡ Some f → HasSome (add_offer o q (offers q) x).rows o q)
            → IsMore (add_offer o q (offers q) x) (add_offers o offers order (add_offer o q (offers q) x))
            × ((r : Ref) (f : Offered) → offers r ≡ Some f → list_any (same_text r) order ≡ true → HasSome (add_offers o offers order (add_offer o q (offers q) x)).rows o r)
            → (r : Ref) (f : Offered) → offers r ≡ Some f → (b : Bool) → same_text r q ≡ b → (b || list_any (same_text r) order) ≡ true → HasSome (add_offers o offers order (add_offer o q (offers q) x)).rows o r
        found one rest r f e true is h =
            let same : r ≡ q = same_is text_total text_antisymmetric r q is in
            subst (λ p. HasSome (add_offers o offers order (add_offer o q (offers q) x)).rows o p) (sym same) (has_more _ _ rest.0 q (one.1 f (ap offers (sym same) ∙ e)))
        found one rest r f e false is h = rest.1 r f e h

    abbrev kept : Rows
    kept = over nat_cmp m.rows (λ a row. row_after o offers row)

    kept_at : (a : ℕ) → row_at kept a ≡ option_and_then (row_after o offers) (row_at m.rows a)
    kept_at a = find-over nat_cmp_total nat_cmp-IsAntisymmetric a m.rows (λ a row. row_after o offers row)

    module _ (others : AreOthers) where
      kept_numbered : IsNumbered (record { rows = kept; next = m.arrival })
      kept_numbered = record { once = λ a b row other h h' from names. once a b row other (row_at m.rows a) refl (sym (kept_at a) ∙ h) (row_at m.rows b) refl (sym (kept_at b) ∙ h') from names; given = λ a row h. given a row (row_at m.rows a) refl (sym (kept_at a) ∙ h); below = λ a row h. below a row (row_at m.rows a) refl (sym (kept_at a) ∙ h) }
        where
          kept_of_again : (x row : Row) (v : Option Offered) → offered_again x v ≡ Some row → (x.origin ≡ row.origin) × (x.reference ≡ row.reference)
          kept_of_again x row None h = absurd (true≢false (sym (ap is_some h)))
          kept_of_again x row (Some f) h = go (same_text f.key x.offered.key) h
            where
              go : (b : Bool) → cond b (Some (record x { offered = f })) None ≡ Some row → (x.origin ≡ row.origin) × (x.reference ≡ row.reference)
              go true h = (ap (λ v. (unwrap_or v x).origin) h, ap (λ v. (unwrap_or v x).reference) h)
              go false h = absurd (true≢false (sym (ap is_some h)))

          kept_of : (x row : Row) (b : Bool) → cond b (offered_again x (offers x.reference)) (Some x) ≡ Some row → (x.origin ≡ row.origin) × (x.reference ≡ row.reference)
          kept_of x row true h = kept_of_again x row (offers x.reference) h
          kept_of x row false h = (ap (λ v. (unwrap_or v x).origin) h, ap (λ v. (unwrap_or v x).reference) h)

          once : (a b : ℕ) (row other : Row) (v : Option Row) → row_at m.rows a ≡ v → option_and_then (row_after o offers) v ≡ Some row
              → (w : Option Row) → row_at m.rows b ≡ w → option_and_then (row_after o offers) w ≡ Some other → row.origin ≡ other.origin → row.reference ≡ other.reference → a ≡ b
          once a b row other None e h w f h' from names = absurd (true≢false (sym (ap is_some h)))
          once a b row other (Some x) e h None f h' from names = absurd (true≢false (sym (ap is_some h')))
          once a b row other (Some x) e h (Some y) f h' from names =
              let p = kept_of x row (same_origin o x.origin) h in
              let q = kept_of y other (same_origin o y.origin) h' in
              others.once a b x y e f (p.0 ∙ from ∙ sym q.0) (p.1 ∙ names ∙ sym q.1)

          again : (x row : Row) → x.origin ≡ o → (v : Option Offered) → offers x.reference ≡ v → offered_again x v ≡ Some row → offered m row.origin row.reference ≡ Some row.offered
          again x row is' None e h = absurd (true≢false (sym (ap is_some h)))
          again x row is' (Some f) e h = go (same_text f.key x.offered.key) h
            where
              go : (b : Bool) → cond b (Some (record x { offered = f })) None ≡ Some row → offered m row.origin row.reference ≡ Some row.offered
              go true h = subst (λ (w : Row). offered m w.origin w.reference ≡ Some w.offered) (ap (λ v. unwrap_or v (record x { offered = f })) h)
                  (ap (λ q. offered m q x.reference) is' ∙ is x.reference ∙ e)
              go false h = absurd (true≢false (sym (ap is_some h)))

          one : (a : ℕ) (x row : Row) → row_at m.rows a ≡ Some x → (b : Bool) → same_origin o x.origin ≡ b → cond b (offered_again x (offers x.reference)) (Some x) ≡ Some row
              → offered m row.origin row.reference ≡ Some row.offered
          one a x row e true is' h = again x row (sym (same_origin-is o x.origin is')) (offers x.reference) refl h
          one a x row e false is' h = subst (λ (w : Row). offered m w.origin w.reference ≡ Some w.offered) (ap (λ v. unwrap_or v x) h) (others.given a x e is')

          given : (a : ℕ) (row : Row) (v : Option Row) → row_at m.rows a ≡ v → option_and_then (row_after o offers) v ≡ Some row → offered m row.origin row.reference ≡ Some row.offered
          given a row None e h = absurd (true≢false (sym (ap is_some h)))
          given a row (Some x) e h = one a x row e (same_origin o x.origin) refl h

          below : (a : ℕ) (row : Row) (v : Option Row) → row_at m.rows a ≡ v → option_and_then (row_after o offers) v ≡ Some row → a < m.arrival
          below a row None e h = absurd (true≢false (sym (ap is_some h)))
          below a row (Some x) e h = others.below a x e

      kept_other : (a : ℕ) (row : Row) → row_at m.rows a ≡ Some row → same_origin o row.origin ≡ false → row_at kept a ≡ Some row
      kept_other a row e h = kept_at a ∙ ap (option_and_then (row_after o offers)) e ∙ ap (λ b. cond b (offered_again row (offers row.reference)) (Some row)) h

      -- a row of o whose reference is offered again with its key
      pub kept_own : (r : Ref) (f : Offered) → HasRow m.rows o r f → (x : Offered) → offers r ≡ Some x → x.key ≡ f.key → HasSome kept o r
      kept_own r f w x e k =
          record {
            arrival = w.arrival;
            row = record { origin = o; reference = r; offered = x };
            at = kept_at w.arrival ∙ ap (option_and_then (row_after o offers)) w.row ∙ ap (λ b. cond b (offered_again (record { origin = o; reference = r; offered = f }) (offers r)) (Some (record { origin = o; reference = r; offered = f }))) (same_origin-self o)
                ∙ ap (offered_again (record { origin = o; reference = r; offered = f })) e
                ∙ ap (λ b. cond b (Some (record { origin = o; reference = r; offered = x })) None) (ap (λ q. same_text q f.key) k ∙ same_self text_total text_antisymmetric f.key);
            from = refl;
            names = refl;
          }

      pub replaced_offers : (order : List Ref) → ((r : Ref) (x : Offered) → offers r ≡ Some x → (list_any (same_text r) order ≡ true) ⊎ HasSome kept o r) → AreOffers (with_offers o offers order m)
      replaced_offers order covered =
          let all = add_all order (record { rows = kept; next = m.arrival }) kept_numbered in
          record {
            given = all.0.numbered.given;
            shown = λ q r x e. shown all.0 all.1 q r x e (same_origin o q) refl;
            below = all.0.numbered.below;
            once = all.0.numbered.once;
          }
        where
          own_row : IsMore (record { rows = kept; next = m.arrival }) (add_offers o offers order (record { rows = kept; next = m.arrival })) → (q : Origin) (r : Ref) (x : Offered) → offered m q r ≡ Some x → o ≡ q
              → HasSome (add_offers o offers order (record { rows = kept; next = m.arrival })).rows o r → HasRow (add_offers o offers order (record { rows = kept; next = m.arrival })).rows q r x
          own_row more q r x e own w =
              let from : w.row.origin ≡ q = w.from ∙ own in
              let names : w.row.reference ≡ r = w.names in
              let given : Some w.row.offered ≡ Some x = sym (more.numbered.given w.arrival w.row w.at) ∙ (λ i. offered m (from i) (names i)) ∙ e in
              let same : w.row.offered ≡ x = ap (λ v. unwrap_or v x) given in
              let row : w.row ≡ record { origin = q; reference = r; offered = x } = (λ i. record { origin = from i; reference = names i; offered = same i }) in
              record { arrival = w.arrival; row = w.at ∙ ap Some row }

          shown : IsMore (record { rows = kept; next = m.arrival }) (add_offers o offers order (record { rows = kept; next = m.arrival }))
              → ((r : Ref) (f : Offered) → offers r ≡ Some f → list_any (same_text r) order ≡ true → HasSome (add_offers o offers order (record { rows = kept; next = m.arrival })).rows o r)
              → (q : Origin) (r : Ref) (x : Offered) → offered m q r ≡ Some x → (b : Bool) → same_origin o q ≡ b → HasRow (add_offers o offers order (record { rows = kept; next = m.arrival })).rows q r x
          shown more news q r x e false is' = let w = others.shown q r x is' e in record { arrival = w.arrival; row = more.old w.arrival _ (kept_other w.arrival _ w.row is') }
          shown more news q r x e true is' =
              let own : o ≡ q = same_origin-is o q is' in
              let offer : offers r ≡ Some x = sym (is r) ∙ ap (λ q. offered m q r) own ∙ e in
              own_row more q r x e own (⊎_elim (news r x offer) (has_more _ _ more r) (covered r x offer))

      module _ (order : List Ref) where
        its_more : IsMore (record { rows = kept; next = m.arrival }) (add_offers o offers order (record { rows = kept; next = m.arrival }))
        its_more = (add_all order (record { rows = kept; next = m.arrival }) kept_numbered).0

        -- the rows of other origins stay
        pub other_rows : (a : ℕ) (row : Row) → row_at m.rows a ≡ Some row → same_origin o row.origin ≡ false → row_at (with_offers o offers order m).rows a ≡ Some row
        other_rows a row e h = its_more.old a row (kept_other a row e h)

        -- a row that stays is of the same reference
        pub same_reference : (a : ℕ) (w row : Row) → row_at m.rows a ≡ Some w → row_at (with_offers o offers order m).rows a ≡ Some row → row.reference ≡ w.reference
        same_reference a w row e h = go (its_more.fresh a row h) (others.below a w e)
          where
            of_again : (v : Option Offered) → offered_again w v ≡ Some row → row.reference ≡ w.reference
            of_again None h = absurd (true≢false (sym (ap is_some h)))
            of_again (Some f) h = go (same_text f.key w.offered.key) h
              where
                go : (b : Bool) → cond b (Some (record w { offered = f })) None ≡ Some row → row.reference ≡ w.reference
                go true h = sym (ap (λ v. (unwrap_or v w).reference) h)
                go false h = absurd (true≢false (sym (ap is_some h)))

            of_after : (b : Bool) → cond b (offered_again w (offers w.reference)) (Some w) ≡ Some row → row.reference ≡ w.reference
            of_after true h = of_again (offers w.reference) h
            of_after false h = sym (ap (λ v. (unwrap_or v w).reference) h)

            go : (row_at kept a ≡ Some row) ⊎ (m.arrival ≤ a) → a < m.arrival → row.reference ≡ w.reference
            go (inl k) lt = of_after (same_origin o w.origin) (sym (kept_at a ∙ ap (option_and_then (row_after o offers)) e) ∙ k)
            go (inr k) lt = absurd (omega arith)
