-- The tickets of marks of which one is put or taken away.
use Rattle.std.proofs.Common.{◌≡◌, ℕ, Bool, true, false, cond, not, ◌&&◌, List, [], refl, sym, ap, subst, ◌∙◌, Ordering, Less, Equal, Greater, nat_cmp, is_some}
use Rattle.std.specs.declared.option.Option.{Option}
use Rattle.std.specs.declared.option.Option.TheVariants.{None, Some}
use Rattle.std.specs.Ordering.{eq_by_cmp, is_eq, ordering_then}
use Rattle.std.specs.Cmp.{IsTotalOrder, nat_cmp_total, eq_by_cmp_equiv}
use Rattle.std.specs.FinMap.{IsAntisymmetric, nat_cmp-IsAntisymmetric}
use Rattle.std.specs.FinMap.Entries.{find-put, find-where_key}
use Rattle.cat_collections.specs.Pairs.{pair_total, pair_antisymmetric}
use Rattle.cat_collections.specs.Rows.{without}
use Rattle.cat_collections.specs.Table.{Text, find, get, put, same_text, text_cmp}
use Rattle.cat_collections.proofs.Tables.{text_total, text_antisymmetric, same_is}
use Rattle.cat_state_parts.specs.Marks.{IsIndexed, Mark, Tickets, is_ticket, ticket_cmp, tickets_with, tickets_without}

pub ticket_total : IsTotalOrder ticket_cmp
ticket_total = pair_total nat_cmp_total text_total

pub ticket_antisymmetric : IsAntisymmetric ticket_cmp
ticket_antisymmetric = pair_antisymmetric nat_cmp-IsAntisymmetric text_antisymmetric

-- what a key finds in entries without another key
pub find-without : {K X : Type 0} {R : K → K → Ordering} (s : IsAntisymmetric R) (k q : K) (m : List (K × X)) → find R q (without R k m) ≡ cond (not (eq_by_cmp R k q)) (find R q m) None
find-without {R = R} s k q m = find-where_key R (λ x. not (eq_by_cmp R k x)) q (λ x tie. ap (λ y. not (eq_by_cmp R k y)) (sym (s q x tie))) m

-- pairs tie where both parts do
both_tie : (o p : Ordering) → is_eq (ordering_then o p) ≡ (is_eq o && is_eq p)
both_tie Less p = refl
both_tie Equal p = refl
both_tie Greater p = refl

pub same_ticket : (t u : ℕ) (r q : Text) → eq_by_cmp ticket_cmp (t, r) (u, q) ≡ (eq_by_cmp nat_cmp t u && same_text r q)
same_ticket t u r q = both_tie (nat_cmp t u) (text_cmp r q)

pub turned_number : (t u : ℕ) → eq_by_cmp nat_cmp t u ≡ eq_by_cmp nat_cmp u t
turned_number t u = let e = eq_by_cmp_equiv nat_cmp_total in e.symm t u

pub turned_text : (r q : Text) → same_text r q ≡ same_text q r
turned_text r q = let e = eq_by_cmp_equiv text_total in e.symm r q

module _ (marks : List Mark) (tickets : Tickets) (i : IsIndexed marks tickets) where
  -- without the ticket of a reference: the others are found as before
  left : (r : Text) (t : ℕ) (q : Text) → is_some (find ticket_cmp (t, q) (tickets_without r (get marks r) tickets)) ≡ cond (not (same_text r q)) (is_ticket t (get marks q)) false
  left r t q = go (get marks r) refl (same_text r q) refl
    where
      go : (old : Option ℕ) → get marks r ≡ old → (c : Bool) → same_text r q ≡ c → is_some (find ticket_cmp (t, q) (tickets_without r old tickets)) ≡ cond (not c) (is_ticket t (get marks q)) false
      go None e true s = i.same t q ∙ ap (is_ticket t) (ap (get marks) (sym (same_is text_total text_antisymmetric r q s)) ∙ e)
      go None e false s = i.same t q
      go (Some u) e c s = ap is_some (find-without ticket_antisymmetric (u, r) (t, q) tickets)
          ∙ (ap (λ b. is_some (cond (not b) (find ticket_cmp (t, q) tickets) None)) (same_ticket u t r q ∙ ap (λ b. eq_by_cmp nat_cmp u t && b) s) ∙ last (eq_by_cmp nat_cmp u t) refl c s)
        where
          last : (b : Bool) → eq_by_cmp nat_cmp u t ≡ b → (c : Bool) → same_text r q ≡ c → is_some (cond (not (b && c)) (find ticket_cmp (t, q) tickets) None) ≡ cond (not c) (is_ticket t (get marks q)) false
          last true n true s = refl
          last true n false s = i.same t q
          last false n false s = i.same t q
          last false n true s = i.same t q ∙ (ap (is_ticket t) (ap (get marks) (sym (same_is text_total text_antisymmetric r q s)) ∙ e) ∙ (turned_number t u ∙ n))

  pub without_indexed : (r : Text) → IsIndexed (without text_cmp r marks) (tickets_without r (get marks r) tickets)
  without_indexed r = record { same = λ t q. left r t q ∙ (go t q (same_text r q) ∙ sym (ap (is_ticket t) (find-without text_antisymmetric r q marks))) }
    where
      go : (t : ℕ) (q : Text) (c : Bool) → cond (not c) (is_ticket t (get marks q)) false ≡ is_ticket t (cond (not c) (get marks q) None)
      go t q true = refl
      go t q false = refl

  pub with_indexed : (r : Text) (t : ℕ) → IsIndexed (put text_cmp r t marks) (tickets_with t r (get marks r) tickets)
  with_indexed r t = record {
    same = λ u q.
        ap is_some (find-put ticket_cmp ticket_total (u, q) (t, r) tt (tickets_without r (get marks r) tickets))
        ∙ (ap (λ b. is_some (cond b (Some tt) (find ticket_cmp (u, q) (tickets_without r (get marks r) tickets)))) (same_ticket u t q r)
        ∙ (go u q (eq_by_cmp nat_cmp u t) refl (same_text q r) refl
        ∙ sym (ap (is_ticket u) (find-put text_cmp text_total q r t marks))));
  }
    where
      go : (u : ℕ) (q : Text) (b : Bool) → eq_by_cmp nat_cmp u t ≡ b → (c : Bool) → same_text q r ≡ c
          → is_some (cond (b && c) (Some tt) (find ticket_cmp (u, q) (tickets_without r (get marks r) tickets))) ≡ is_ticket u (cond c (Some t) (get marks q))
      go u q true n true s = sym n
      go u q true n false s = left r u q ∙ ap (λ c. cond (not c) (is_ticket u (get marks q)) false) (turned_text r q ∙ s)
      go u q false n true s = left r u q ∙ (ap (λ c. cond (not c) (is_ticket u (get marks q)) false) (turned_text r q ∙ s) ∙ sym n)
      go u q false n false s = left r u q ∙ ap (λ c. cond (not c) (is_ticket u (get marks q)) false) (turned_text r q ∙ s)

-- no marks have no tickets
pub none_indexed : IsIndexed [] []
none_indexed = record { same = λ t r. refl }

pub same_indexed : (marks marks' : List Mark) (tickets tickets' : Tickets) → marks' ≡ marks → tickets' ≡ tickets → IsIndexed marks tickets → IsIndexed marks' tickets'
same_indexed marks marks' tickets tickets' e f i = subst (λ m. IsIndexed m tickets') (sym e) (subst (λ t. IsIndexed marks t) (sym f) i)
