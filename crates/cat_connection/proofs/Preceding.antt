-- Messages that stand before the rest of the bytes.
use Rattle.std.proofs.Common.{◌≡◌, ℕ, ◌+◌, ◌≤◌, Bool, true, false, List, [], ◌∷◌, ◌++◌, length, drop, refl, sym, ap, ◌∙◌, subst, append_assoc, append-nil}
use Rattle.std.specs.Prelude.{⊤, MatchBool}
use Rattle.std.proofs.lemmas.List.{drop-append-le, drop-drop}
use Rattle.cat_http.specs.declared.message.Next.TheVariants.{Whole, More}
use Rattle.cat_http.specs.Lines.{blank}
use Rattle.cat_http.specs.Message.{Stands, refused}
use Rattle.cat_http.proofs.Stability.{stands_later, stands_once, blank-le-length}
use Rattle.cat_connection.specs.Items.{Item, message, refusal, is_last, StandsFirst, AreMessages, AreFirst, HasOneList}
use Rattle.cat_connection.specs.Connection.{Precede}
use Rattle.cat_connection.proofs.Fronts.{stands_blank}

-- what stands first stays first whatever follows
stands_more : (bytes more : List ℕ) (item : Item) (used : ℕ) → StandsFirst bytes item used → StandsFirst (bytes ++ more) item used
stands_more bytes more (message m) used s = stands_later bytes (Whole m used) more s (λ e. cc)
stands_more bytes more (refusal rule) used s = stands_later bytes (refused rule) more s (λ e. cc)

-- and behind empty lines
first_blank : (b more : List ℕ) (item : Item) (used : ℕ) → StandsFirst (drop (blank b) b ++ more) item used → StandsFirst (b ++ more) item (blank b + used)
first_blank b more (message m) used s = stands_blank b more (Whole m used) s
first_blank b more (refusal rule) used s = stands_blank b more (refused rule) s

-- the rest behind a message that follows empty lines
drop_blank : (b more : List ℕ) (used : ℕ) → drop (blank b + used) (b ++ more) ≡ drop used (drop (blank b) b ++ more)
drop_blank b more used =
    let joined : drop used (drop (blank b) (b ++ more)) ≡ drop (blank b + used) (b ++ more) = drop-drop used (blank b) (b ++ more) in
    sym joined ∙ ap (λ l. drop used l) (drop-append-le (blank b) b more (blank-le-length b))

pub all_blank : (b more : List ℕ) (items : List Item) → AreMessages (drop (blank b) b ++ more) items → AreMessages (b ++ more) items
all_blank b more [] h = stands_blank b more More h
all_blank b more (item ∷ items) h = (
  blank b + h.0,
  first_blank b more item h.0 h.1,
  subst (λ l. MatchBool (is_last item) (items ≡ []) (AreMessages l items)) (sym (drop_blank b more h.0)) h.2,
)

pub some_blank : (b more : List ℕ) (items : List Item) → AreFirst (drop (blank b) b ++ more) items → AreFirst (b ++ more) items
some_blank b more [] h = tt
some_blank b more (item ∷ items) h = (
  blank b + h.0,
  first_blank b more item h.0 h.1,
  subst (λ l. MatchBool (is_last item) (items ≡ []) (AreFirst l items)) (sym (drop_blank b more h.0)) h.2,
)

-- nothing stands before all of the bytes
pub precede_none : (bytes : List ℕ) → Precede bytes [] bytes
precede_none bytes = record { all = λ more others h. h; first = λ more others h. h }

-- nor before what follows the empty lines
pub precede_blank : (b : List ℕ) → Precede b [] (drop (blank b) b)
precede_blank b = record { all = λ more others h. all_blank b more others h; first = λ more others h. some_blank b more others h }

-- one message after which the connection goes on
pub precede_one : (bytes : List ℕ) (item : Item) (used : ℕ) → StandsFirst bytes item used → is_last item ≡ false → used ≤ length bytes → Precede bytes (item ∷ []) (drop used bytes)
precede_one bytes item used s goes inside = record {
  all = λ more others h. (
    used,
    stands_more bytes more item used s,
    subst (λ t. MatchBool t (others ≡ []) (AreMessages (drop used (bytes ++ more)) others)) (sym goes) (subst (λ l. AreMessages l others) (sym (drop-append-le used bytes more inside)) h),
  );
  first = λ more others h. (
    used,
    stands_more bytes more item used s,
    subst (λ t. MatchBool t (others ≡ []) (AreFirst (drop used (bytes ++ more)) others)) (sym goes) (subst (λ l. AreFirst l others) (sym (drop-append-le used bytes more inside)) h),
  );
}

-- some messages, and then others
pub precede_then : (a b c : List ℕ) (xs ys : List Item) → Precede a xs b → Precede b ys c → Precede a (xs ++ ys) c
precede_then a b c xs ys p q = record {
  all = λ more others h. subst (λ l. AreMessages (a ++ more) l) (sym (append_assoc xs ys others)) (p.all more (ys ++ others) (q.all more others h));
  first = λ more others h. subst (λ l. AreFirst (a ++ more) l) (sym (append_assoc xs ys others)) (p.first more (ys ++ others) (q.first more others h));
}

-- more bytes came
pub precede_more : (a b piece : List ℕ) (xs : List Item) → Precede a xs b → Precede (a ++ piece) xs (b ++ piece)
precede_more a b piece xs p = record {
  all = λ more others h. subst (λ l. AreMessages l (xs ++ others)) (sym (append_assoc a piece more)) (p.all (piece ++ more) others (subst (λ l. AreMessages l others) (append_assoc b piece more) h));
  first = λ more others h. subst (λ l. AreFirst l (xs ++ others)) (sym (append_assoc a piece more)) (p.first (piece ++ more) others (subst (λ l. AreFirst l others) (append_assoc b piece more) h));
}

-- the message that ends the connection
pub precede_last : (a b : List ℕ) (xs : List Item) (item : Item) (used : ℕ) → Precede a xs b → StandsFirst b item used → is_last item ≡ true → (more : List ℕ) → AreMessages (a ++ more) (xs ++ item ∷ [])
precede_last a b xs item used p s last more =
    let none : List Item = [] in
    p.all more (item ∷ []) (used, stands_more b more item used s, subst (λ t. MatchBool t (none ≡ none) (AreMessages (drop used (b ++ more)) [])) (sym last) refl)

-- one more message, whatever follows
pub precede_first : (a b : List ℕ) (xs : List Item) (item : Item) (used : ℕ) → Precede a xs b → StandsFirst b item used → (more : List ℕ) → AreFirst (a ++ more) (xs ++ item ∷ [])
precede_first a b xs item used p s more =
    let none : List Item = [] in
    p.first more (item ∷ []) (used, stands_more b more item used s, elim (is_last item) as (λ t. MatchBool t (none ≡ none) ⊤) [ true ↦ refl | false ↦ tt ])

-- the rest is no whole message
pub precede_end : (a b : List ℕ) (xs : List Item) → Precede a xs b → Stands b More → AreMessages a xs
precede_end a b xs p short =
    let there : AreMessages (a ++ []) (xs ++ []) = p.all [] [] (subst (λ l. Stands l More) (sym (append-nil b)) short) in
    subst (λ l. AreMessages l xs) (append-nil a) (subst (λ l. AreMessages (a ++ []) l) (append-nil xs) there)

-- ---- the bytes have one list of messages

not_first : (bytes : List ℕ) (item : Item) (used : ℕ) → Stands bytes More → StandsFirst bytes item used → ⊥
not_first bytes (message m) used short s = let e : More ≡ Whole m used = stands_once bytes More (Whole m used) short s in cc
not_first bytes (refusal rule) used short s = let e : More ≡ refused rule = stands_once bytes More (refused rule) short s in cc

first_once : (bytes : List ℕ) (x y : Item) (u v : ℕ) → StandsFirst bytes x u → StandsFirst bytes y v → (x ≡ y) × (is_last x ≡ false → u ≡ v)
first_once bytes (message m) (message n) u v s t =
    let e : Whole m u ≡ Whole n v = stands_once bytes (Whole m u) (Whole n v) s t in
    let same : m ≡ n = cc in
    let long : u ≡ v = cc in (ap message same, λ goes. long)
first_once bytes (message m) (refusal rule) u v s t = let e : Whole m u ≡ refused rule = stands_once bytes (Whole m u) (refused rule) s t in cc
first_once bytes (refusal rule) (message n) u v s t = let e : refused rule ≡ Whole n v = stands_once bytes (refused rule) (Whole n v) s t in cc
first_once bytes (refusal rule) (refusal other) u v s t =
    let e : refused rule ≡ refused other = stands_once bytes (refused rule) (refused other) s t in
    let same : rule ≡ other = cc in (ap refusal same, λ goes. cc)

pub one_list : (bytes : List ℕ) → HasOneList bytes
one_list bytes [] [] p q = refl
one_list bytes [] (y ∷ ys) p q = absurd (not_first bytes y q.0 p q.1)
one_list bytes (x ∷ xs) [] p q = absurd (not_first bytes x p.0 q p.1)
one_list bytes (x ∷ xs) (y ∷ ys) p q =
    let same = first_once bytes x y p.0 q.0 p.1 q.1 in
    let others : MatchBool (is_last x) (ys ≡ []) (AreMessages (drop q.0 bytes) ys) = subst (λ z. MatchBool (is_last z) (ys ≡ []) (AreMessages (drop q.0 bytes) ys)) (sym same.0) q.2 in
    let M : Bool → Type 0 = λ t. is_last x ≡ t → MatchBool t (xs ≡ []) (AreMessages (drop p.0 bytes) xs) → MatchBool t (ys ≡ []) (AreMessages (drop q.0 bytes) ys) → xs ≡ ys in
    let rest : xs ≡ ys = elim (is_last x) as M [
      | true ↦ (λ is a b. a ∙ sym b)
      | false ↦ (λ is a b. one_list (drop p.0 bytes) xs ys a (subst (λ n. AreMessages (drop n bytes) ys) (sym (same.1 is)) b))
    ] refl p.2 others in
    ap (λ z. z ∷ xs) same.0 ∙ ap (λ l. y ∷ l) rest
