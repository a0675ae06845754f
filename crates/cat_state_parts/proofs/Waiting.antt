-- That a document which is noted may change, and that the lists are those of the documents where none waits.
use Rattle.std.proofs.Common.{◌≡◌, ℕ, suc, ◌==◌, length, arith, Bool, true, false, cond, not, ◌&&◌, ◌||◌, List, [], ◌∷◌, Option, Some, None, Ordering, refl, sym, ap, ◌∙◌, true≢false}
use Rattle.std.specs.Prelude.{is_some, option_map, unwrap_or}
use Rattle.std.specs.Ordering.{eq_by_cmp}
use Rattle.std.specs.FinMap.Entries.{find-put, find-where_key}
use Rattle.std.specs.Cmp.{IsTotalOrder}
use Rattle.std.specs.FinMap.{IsAntisymmetric}
use Rattle.std.proofs.lemmas.Bool.Decides.{nat_tests}
use Rattle.cat_tree.specs.Data.{Data}
use Rattle.cat_collections.specs.Rows.{without}
use Rattle.cat_collections.specs.Table.{Map, find, get, put, text_cmp, text_total, text_antisymmetric}
use Rattle.cat_collections.proofs.Tables.{same_is}
use Rattle.cat_state_parts.specs.Index.{Set, Lists, has, set_at, terms_at, has_term, AreLists, AgreeBeyond, with_document}
use Rattle.cat_state_parts.specs.Terms.{document_terms}

-- the texts are the same
abbrev pub same : List ℕ → List ℕ → Bool
same = eq_by_cmp text_cmp

pub text_is : (x y : List ℕ) → same x y ≡ true → x ≡ y
text_is = same_is text_total text_antisymmetric

-- ---- what `find` gives without a key

module _ {K : Type 0} {R : K → K → Ordering} (o : IsTotalOrder R) (s : IsAntisymmetric R) where
  turned : (x y : K) → eq_by_cmp R x y ≡ true → eq_by_cmp R x y ≡ eq_by_cmp R y x
  turned x y e = λ i. eq_by_cmp R (same_is o s x y e i) (sym (same_is o s x y e) i)

  pub eq-sym : (x y : K) → eq_by_cmp R x y ≡ eq_by_cmp R y x
  eq-sym x y = go (eq_by_cmp R x y) refl (eq_by_cmp R y x) refl
    where
      go : (a : Bool) → eq_by_cmp R x y ≡ a → (b : Bool) → eq_by_cmp R y x ≡ b → eq_by_cmp R x y ≡ eq_by_cmp R y x
      go true e b f = turned x y e
      go false e true f = sym (turned y x f)
      go false e false f = e ∙ sym f

  pub find-without : {X : Type 0} (q k : K) (m : List (K × X)) → find R q (without R k m) ≡ cond (not (eq_by_cmp R q k)) (find R q m) None
  find-without q k m =
      find-where_key R (λ x. not (eq_by_cmp R k x)) q (λ x e. ap (λ y. not (eq_by_cmp R k y)) (sym (s q x e))) m
      ∙ ap (λ b. cond (not b) (find R q m) None) (eq-sym k q)

pub longer : (n : ℕ) → (suc n == 0) ≡ false
longer n = grind (arith, nat_tests)

-- ---- sets

some_either : {X : Type 0} (b : Bool) (x : X) (y : Option X) → is_some (cond b (Some x) y) ≡ (b || is_some y)
some_either true x y = refl
some_either false x y = refl

some_unless : {X : Type 0} (b : Bool) (y : Option X) → is_some (cond (not b) y None) ≡ (not b && is_some y)
some_unless true y = refl
some_unless false y = refl

pub has-put : (r : List ℕ) (u : Unit {0}) (s : Set) (q : List ℕ) → has (put text_cmp r u s) q ≡ (same q r || has s q)
has-put r u s q = ap is_some (find-put text_cmp text_total q r u s) ∙ some_either (same q r) u (get s q)

pub has-without : (r : List ℕ) (s : Set) (q : List ℕ) → has (without text_cmp r s) q ≡ (not (same q r) && has s q)
has-without r s q = ap is_some (find-without text_total text_antisymmetric q r s) ∙ some_unless (same q r) (get s q)

-- ---- changes of a document

none_at : (b : Bool) (y : Option Data) → cond (not b) y None ≡ cond b None y
none_at true y = refl
none_at false y = refl

-- what a reference has after a change of a document
pub got : (r : List ℕ) (x : Option Data) (docs : Map Data) (q : List ℕ) → get (with_document r x docs) q ≡ cond (same q r) x (get docs q)
got r None docs q = find-without text_total text_antisymmetric q r docs ∙ none_at (same q r) (get docs q)
got r (Some d) docs q = find-put text_cmp text_total q r d docs

-- ---- the documents that wait

pub either_false : (a b : Bool) → (a || b) ≡ false → (a ≡ false) × (b ≡ false)
either_false true b e = absurd (true≢false e)
either_false false b e = (refl, e)

-- what holds of an index holds of one with the same parts
pub same_index : (docs docs' : Map Data) (pending pending' : Set) (listed listed' : Map Data) (lists lists' : Lists)
    → docs' ≡ docs → pending' ≡ pending → listed' ≡ listed → lists' ≡ lists
    → AreLists listed lists × AgreeBeyond pending docs listed → AreLists listed' lists' × AgreeBeyond pending' docs' listed'
same_index docs docs' pending pending' listed listed' lists lists' d p l s keep = (
  (λ t q. ap (λ x. has (set_at x t) q) s ∙ keep.0 t q ∙ ap (λ x. has_term t (terms_at x q)) (sym l)),
  (λ q h. ap (λ x. get x q) d ∙ keep.1 q (ap (λ x. has x q) (sym p) ∙ h) ∙ ap (λ x. get x q) (sym l)),
)

-- a document that is noted may change
pub agree_noted : (pending : Set) (docs listed : Map Data) (r : List ℕ) (x : Option Data) → AgreeBeyond pending docs listed
    → AgreeBeyond (put text_cmp r (tt {0}) pending) (with_document r x docs) listed
agree_noted pending docs listed r x agree q h =
    let apart = either_false (same q r) (has pending q) (sym (has-put r (tt {0}) pending q) ∙ h) in
    got r x docs q ∙ ap (λ b. cond b x (get docs q)) apart.0 ∙ agree q apart.1

-- where nothing waits, the lists are those of the documents
pub all_listed : (pending : Set) (docs listed : Map Data) (lists : Lists) → AreLists listed lists → AgreeBeyond pending docs listed
    → (length pending == 0) ≡ true → AreLists docs lists
all_listed [] docs listed lists are agree h t q = are t q ∙ ap (λ o. has_term t (unwrap_or (option_map document_terms o) [])) (sym (agree q refl))
all_listed (e ∷ es) docs listed lists are agree h t q = absurd (true≢false (sym h ∙ longer (length es)))
