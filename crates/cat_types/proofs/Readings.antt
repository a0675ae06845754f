-- The computed reading of a text is its one reading.
use Rattle.std.proofs.Common.{◌≡◌, ◌≢◌, ℕ, suc, ◌<◌, length, get_or, Bool, true, false, cond, eqb, List, [], ◌∷◌, ◌++◌, append_assoc, Option, Some, None, refl, sym, ap, ◌∙◌, arith}
use Rattle.std.specs.Prelude.{◌&&◌, not}
use Rattle.std.specs.List.{list_all}
use Rattle.std.proofs.lemmas.Bool.{false≢true}
use Rattle.std.proofs.lemmas.Bool.Decides.{Decides-eqb}
use Rattle.cat_types.specs.Reading.{Pieces, ReadsAs, is_piece_byte, is_piece, may_be_piece, ended_by, spelled, onto_cut, cut, pieces_at, are_pieces, reading}

pub left_of : (a b : Bool) → a && b ≡ true → a ≡ true
left_of true b h = refl
left_of false b h = h

pub right_of : (a b : Bool) → a && b ≡ true → b ≡ true
right_of true b h = h
right_of false b h = absurd (false≢true h)

pub both_of : (a b : Bool) → a ≡ true → b ≡ true → a && b ≡ true
both_of true b h k = k
both_of false b h k = h

-- c is not in the list
abbrev pub lacks : ℕ → List ℕ → Bool
lacks c s = list_all (λ b. not (eqb b c)) s

not_true : (a : Bool) → (a ≡ true → ⊥) → not a ≡ true
not_true true h = absurd (h refl)
not_true false h = refl

pub lacks_from_places : (c : ℕ) (s : List ℕ) → ((i : ℕ) → i < length s → get_or s i 0 ≢ c) → lacks c s ≡ true
lacks_from_places c [] h = refl
lacks_from_places c (b ∷ bs) h =
    both_of (not (eqb b c)) _ (not_true (eqb b c) (λ e. h 0 (omega arith) ((Decides-eqb b c).0 e))) (lacks_from_places c bs (λ i q. h (suc i) (omega arith)))

lacks-append : (c : ℕ) (s t : List ℕ) → lacks c s ≡ true → lacks c t ≡ true → lacks c (s ++ t) ≡ true
lacks-append c [] t h k = k
lacks-append c (b ∷ bs) t h k = both_of (not (eqb b c)) _ (left_of (not (eqb b c)) _ h) (lacks-append c bs t (right_of (not (eqb b c)) _ h) k)

no_colon : (s : List ℕ) → list_all is_piece_byte s ≡ true → lacks 58 s ≡ true
no_colon [] h = refl
no_colon (b ∷ bs) h =
    both_of (not (eqb b 58)) _ (left_of (not (eqb b 58)) _ (left_of (is_piece_byte b) _ h)) (no_colon bs (right_of (is_piece_byte b) _ h))

no_slash : (s : List ℕ) → list_all is_piece_byte s ≡ true → lacks 47 s ≡ true
no_slash [] h = refl
no_slash (b ∷ bs) h =
    both_of (not (eqb b 47)) _ (right_of (not (eqb b 58)) _ (left_of (is_piece_byte b) _ h)) (no_slash bs (right_of (is_piece_byte b) _ h))

piece_no_colon : (s : List ℕ) → is_piece s ≡ true → lacks 58 s ≡ true
piece_no_colon s h = no_colon s (right_of _ (list_all is_piece_byte s) h)

piece_no_slash : (s : List ℕ) → is_piece s ≡ true → lacks 47 s ≡ true
piece_no_slash s h = no_slash s (right_of _ (list_all is_piece_byte s) h)

-- ---- cuts

abbrev Cut : Type 0
Cut = Option (List ℕ) × List ℕ

free_step : (t l : Bool) (b : ℕ) (bs : List ℕ) (x : Cut) → not t && l ≡ true → (l ≡ true → x ≡ (None, bs)) → cond t (Some [], bs) (onto_cut b x) ≡ (None, b ∷ bs)
free_step true l b bs x h k = absurd (false≢true h)
free_step false l b bs x h k = ap (onto_cut b) (k h)

pub cut_free : (c : ℕ) (s : List ℕ) → lacks c s ≡ true → cut c s ≡ (None, s)
cut_free c [] h = refl
cut_free c (b ∷ bs) h = free_step (eqb b c) (lacks c bs) b bs (cut c bs) h (cut_free c bs)

at_step : (t l : Bool) (b : ℕ) (k all rest : List ℕ) (x : Cut) → not t && l ≡ true → (l ≡ true → x ≡ (Some k, rest)) → cond t (Some [], all) (onto_cut b x) ≡ (Some (b ∷ k), rest)
at_step true l b k all rest x h e = absurd (false≢true h)
at_step false l b k all rest x h e = ap (onto_cut b) (e h)

here : (t : Bool) (r : List ℕ) (x : Cut) → t ≡ true → cond t (Some [], r) x ≡ (Some [], r)
here true r x h = refl
here false r x h = absurd (false≢true h)

pub cut_at : (c : ℕ) (k r : List ℕ) → lacks c k ≡ true → cut c (k ++ c ∷ r) ≡ (Some k, r)
cut_at c [] r h = here (eqb c c) r (onto_cut c (cut c r)) ((Decides-eqb c c).1 refl)
cut_at c (b ∷ bs) r h = at_step (eqb b c) (lacks c bs) b bs (bs ++ c ∷ r) r (cut c (bs ++ c ∷ r)) h (cut_at c bs r)

back_step : (t : Bool) (b c : ℕ) (bs : List ℕ) (o : Option (List ℕ)) (r : List ℕ) → (t ≡ true → b ≡ c) → ended_by c o ++ r ≡ bs → ended_by c (cond t (Some [], bs) (onto_cut b (o, r))).0 ++ (cond t (Some [], bs) (onto_cut b (o, r))).1 ≡ b ∷ bs
back_step true b c bs o r h e = ap (λ x. x ∷ bs) (sym (h refl))
back_step false b c bs None r h e = ap (λ x. b ∷ x) e
back_step false b c bs (Some s) r h e = ap (λ x. b ∷ x) e

pub cut_back : (c : ℕ) (s : List ℕ) → ended_by c (cut c s).0 ++ (cut c s).1 ≡ s
cut_back c [] = refl
cut_back c (b ∷ bs) = back_step (eqb b c) b c bs (cut c bs).0 (cut c bs).1 (Decides-eqb b c).0 (cut_back c bs)

-- ---- readings

pub spelled-pieces_at : (s : List ℕ) → spelled (pieces_at s) ≡ s
spelled-pieces_at s = ap (λ r. ended_by 58 (cut 58 s).0 ++ r) (cut_back 47 (cut 58 s).1) ∙ cut_back 58 s

cut-ended_none : (c : ℕ) (r : List ℕ) → lacks c r ≡ true → cut c (ended_by c None ++ r) ≡ (None, r)
cut-ended_none c r h = cut_free c r h

cut-ended_some : (c : ℕ) (s r : List ℕ) → lacks c s ≡ true → cut c (ended_by c (Some s) ++ r) ≡ (Some s, r)
cut-ended_some c s r h = ap (cut c) (append_assoc s (c ∷ []) r) ∙ cut_at c s r h

slash_cut : (o : Option (List ℕ)) (n : List ℕ) → may_be_piece o ≡ true → is_piece n ≡ true → cut 47 (ended_by 47 o ++ n) ≡ (o, n)
slash_cut None n h k = cut-ended_none 47 n (piece_no_slash n k)
slash_cut (Some s) n h k = cut-ended_some 47 s n (piece_no_slash s h)

rest_no_colon : (o : Option (List ℕ)) (n : List ℕ) → may_be_piece o ≡ true → is_piece n ≡ true → lacks 58 (ended_by 47 o ++ n) ≡ true
rest_no_colon None n h k = piece_no_colon n k
rest_no_colon (Some s) n h k = lacks-append 58 (s ++ 47 ∷ []) n (lacks-append 58 s (47 ∷ []) (piece_no_colon s h) refl) (piece_no_colon n k)

colon_cut : (o : Option (List ℕ)) (r : List ℕ) → may_be_piece o ≡ true → lacks 58 r ≡ true → cut 58 (ended_by 58 o ++ r) ≡ (o, r)
colon_cut None r h k = cut-ended_none 58 r k
colon_cut (Some s) r h k = cut-ended_some 58 s r (piece_no_colon s h)

abbrev from_cut : Cut → Pieces
from_cut f = record { kind = f.0; namespace = (cut 47 f.1).0; name = (cut 47 f.1).1 }

pub pieces_at-spelled : (p : Pieces) → may_be_piece p.kind ≡ true → may_be_piece p.namespace ≡ true → is_piece p.name ≡ true → pieces_at (spelled p) ≡ p
pieces_at-spelled p k ns n =
    let first : cut 58 (spelled p) ≡ (p.kind, ended_by 47 p.namespace ++ p.name) = colon_cut p.kind _ k (rest_no_colon p.namespace p.name ns n) in
    let second : cut 47 (ended_by 47 p.namespace ++ p.name) ≡ (p.namespace, p.name) = slash_cut p.namespace p.name ns n in
    ap from_cut first ∙ ap (λ (g : Cut). let q : Pieces = record { kind = p.kind; namespace = g.0; name = g.1 } in q) second

some_if : (t : Bool) (p : Pieces) → t ≡ true → cond t (Some p) None ≡ Some p
some_if true p h = refl
some_if false p h = absurd (false≢true h)

none_if : (t : Bool) (p : Pieces) → t ≡ false → cond t (Some p) None ≡ None
none_if true p h = absurd (false≢true (sym h))
none_if false p h = refl

-- the text is spelled by the pieces that were cut out of it
pub reading_found : (s : List ℕ) (p : Pieces) → p ≡ pieces_at s → are_pieces p ≡ true → reading s ≡ Some p
unfolding reading
reading_found s p e h = some_if (are_pieces (pieces_at s)) (pieces_at s) (ap are_pieces (sym e) ∙ h) ∙ ap Some (sym e)

pub reading_missing : (s : List ℕ) (p : Pieces) → p ≡ pieces_at s → are_pieces p ≡ false → reading s ≡ None
unfolding reading
reading_missing s p e h = none_if (are_pieces (pieces_at s)) (pieces_at s) (ap are_pieces (sym e) ∙ h)

-- each reading is the computed one
pub reading-reads : (s : List ℕ) (p : Pieces) → ReadsAs s p → reading s ≡ Some p
reading-reads s p r =
    let at : pieces_at s ≡ p = ap pieces_at r.text_is ∙ pieces_at-spelled p r.kind r.namespace r.name in
    reading_found s p (sym at) (both_of _ _ r.kind (both_of _ _ r.namespace r.name))

-- what was cut out of a text is a reading of it, where it is made of pieces
pub reads_found : (s : List ℕ) (p : Pieces) → p ≡ pieces_at s → are_pieces p ≡ true → ReadsAs s p
reads_found s p e h = record {
  text_is = sym (spelled-pieces_at s) ∙ ap spelled (sym e);
  kind = left_of (may_be_piece p.kind) _ h;
  namespace = left_of (may_be_piece p.namespace) _ (right_of (may_be_piece p.kind) _ h);
  name = right_of (may_be_piece p.namespace) _ (right_of (may_be_piece p.kind) _ h);
}

pub some_is : {A : Type 0} (x y : A) → Some x ≡ Some y → x ≡ y
some_is x y e = cc

pub none_is_some : {A : Type 0} (x : A) → None ≡ Some x → ⊥
none_is_some x e = cc

pub one_reading : (s : List ℕ) (p q : Pieces) → ReadsAs s p → ReadsAs s q → p ≡ q
one_reading s p q a b = some_is p q (sym (reading-reads s p a) ∙ reading-reads s q b)

pub no_reading : (s : List ℕ) → reading s ≡ None → (p : Pieces) → ReadsAs s p → ⊥
no_reading s e p r = none_is_some p (sym e ∙ reading-reads s p r)

-- ---- what the code cuts

pub pieces_from_cuts : (s : List ℕ) (k ns : Option (List ℕ)) (r n : List ℕ) → (k, r) ≡ cut 58 s → (ns, n) ≡ cut 47 r → (let p : Pieces = record { kind = k; namespace = ns; name = n } in p) ≡ pieces_at s
pieces_from_cuts s k ns r n first second =
    ap (λ (g : Cut). let q : Pieces = record { kind = k; namespace = g.0; name = g.1 } in q) second ∙ ap from_cut first
