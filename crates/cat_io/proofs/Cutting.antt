-- The lines of one list of bytes after another, and lines that are kept in part.
use Rattle.std.proofs.Common.{◌≡◌, ◌≢◌, ℕ, ◌+◌, ◌-◌, ◌<◌, ◌≤◌, ◌==◌, true, false, cond, List, [], ◌∷◌, ◌++◌, length, take, refl, sym, ◌∙◌, ap, inl, inr, arith, append_assoc, slice_index}
use Rattle.std.proofs.lemmas.List.{append-nil, take_all, take_at, take-append-le, length-take, nil_from_length}
use Rattle.std.proofs.lemmas.List.Elements.{All-head, All-tail}
use Rattle.std.proofs.lemmas.Bool.{lt-ltb, cases_lt, ne_eqb}
use Rattle.std.specs.Str.Lines.{strip_carriage_return}
use Rattle.cat_io.specs.declared.buffer.TheConstants.{ROOM}
use Rattle.cat_io.specs.Lines.{longest_line, whole_from, rest_from, last_line, lines, whole_lines, HasNoLf}
use Rattle.cat_io.specs.Word.{Word, plain, memory, cut, unkept, cut_unkept, After, Reply}
use Rattle.cat_io.specs.Runs.{line_after, line_reply}
use Rattle.cat_io.specs.Session.{IsKept}

pub rest_from-append : (begun a b : List ℕ) → rest_from begun (a ++ b) ≡ rest_from (rest_from begun a) b
rest_from-append begun [] b = refl
rest_from-append begun (x ∷ a) b =
    elim (x == 10) as (λ t. cond t (rest_from [] (a ++ b)) (rest_from (begun ++ x ∷ []) (a ++ b)) ≡ rest_from (cond t (rest_from [] a) (rest_from (begun ++ x ∷ []) a)) b)
    [ true ↦ rest_from-append [] a b | false ↦ rest_from-append (begun ++ x ∷ []) a b ]

pub whole_from-append : (begun a b : List ℕ) → whole_from begun (a ++ b) ≡ whole_from begun a ++ whole_from (rest_from begun a) b
whole_from-append begun [] b = refl
whole_from-append begun (x ∷ a) b =
    elim (x == 10) as (λ t. cond t (strip_carriage_return begun ∷ whole_from [] (a ++ b)) (whole_from (begun ++ x ∷ []) (a ++ b)) ≡ cond t (strip_carriage_return begun ∷ whole_from [] a) (whole_from (begun ++ x ∷ []) a) ++ whole_from (cond t (rest_from [] a) (rest_from (begun ++ x ∷ []) a)) b)
    [ true ↦ ap (λ l. strip_carriage_return begun ∷ l) (whole_from-append [] a b) | false ↦ whole_from-append (begun ++ x ∷ []) a b ]

-- the lines of all the bytes begin with those of the bytes taken
pub lines-append : (taken rest : List ℕ) → lines (taken ++ rest) ≡ whole_lines taken ++ (whole_from (rest_from [] taken) rest ++ last_line (rest_from [] (taken ++ rest)))
lines-append taken rest = ap (λ l. l ++ last_line (rest_from [] (taken ++ rest))) (whole_from-append [] taken rest) ∙ append_assoc (whole_lines taken) (whole_from (rest_from [] taken) rest) (last_line (rest_from [] (taken ++ rest)))

-- bytes without LF end no line
pub whole_from-no_lf : (begun bytes : List ℕ) → HasNoLf bytes → whole_from begun bytes ≡ []
whole_from-no_lf begun [] no_lf = refl
whole_from-no_lf begun (x ∷ bytes) no_lf = ap (λ t. cond t (strip_carriage_return begun ∷ whole_from [] bytes) (whole_from (begun ++ x ∷ []) bytes)) (ne_eqb x 10 (All-head (λ b. b ≢ 10) x bytes no_lf)) ∙ whole_from-no_lf (begun ++ x ∷ []) bytes (All-tail (λ b. b ≢ 10) x bytes no_lf)

pub rest_from-no_lf : (begun bytes : List ℕ) → HasNoLf bytes → rest_from begun bytes ≡ begun ++ bytes
rest_from-no_lf begun [] no_lf = sym (append-nil begun)
rest_from-no_lf begun (x ∷ bytes) no_lf =
    ap (λ t. cond t (rest_from [] bytes) (rest_from (begun ++ x ∷ []) bytes)) (ne_eqb x 10 (All-head (λ b. b ≢ 10) x bytes no_lf)) ∙ rest_from-no_lf (begun ++ x ∷ []) bytes (All-tail (λ b. b ≢ 10) x bytes no_lf) ∙ append_assoc begun (x ∷ []) bytes

-- the first LF ends one line
pub whole_from-line : (begun front behind : List ℕ) → HasNoLf front → whole_from begun (front ++ 10 ∷ behind) ≡ strip_carriage_return (begun ++ front) ∷ whole_from [] behind
whole_from-line begun front behind no_lf =
    whole_from-append begun front (10 ∷ behind) ∙ ap (λ l. l ++ strip_carriage_return (rest_from begun front) ∷ whole_from [] behind) (whole_from-no_lf begun front no_lf)
    ∙ ap (λ l. strip_carriage_return l ∷ whole_from [] behind) (rest_from-no_lf begun front no_lf)

pub last_line_some : (l : List ℕ) → 0 < length l → last_line l ≡ l ∷ []
last_line_some [] some = absurd (omega (arith, some))
last_line_some (b ∷ bs) some = refl

-- a machine does the same with both lines
pub record SameLine {A : Type 0} (after : After A) (reply : Reply A) (a b : List ℕ) : Type 0 where
  pub reply_is : (m : A) (word : Word) → line_reply reply m word a ≡ line_reply reply m word b
  pub after_is : (m : A) (word : Word) → line_after after m word a ≡ line_after after m word b

same_reply : {A : Type 0} (reply : Reply A) (a b : List ℕ) → longest_line < length a → longest_line < length b → (m : A) (word : Word) → line_reply reply m word a ≡ line_reply reply m word b
unfolding line_reply
same_reply reply a b la lb m plain = let ta = lt-ltb longest_line (length a) la in let tb = lt-ltb longest_line (length b) lb in rw (ta, tb)
same_reply reply a b la lb m memory = refl
same_reply reply a b la lb m (cut n) = let ta = lt-ltb longest_line (length a) la in let tb = lt-ltb longest_line (length b) lb in rw (ta, tb)
same_reply reply a b la lb m unkept = let ta = lt-ltb longest_line (length a) la in let tb = lt-ltb longest_line (length b) lb in rw (ta, tb)
same_reply reply a b la lb m (cut_unkept n) = let ta = lt-ltb longest_line (length a) la in let tb = lt-ltb longest_line (length b) lb in rw (ta, tb)

same_after : {A : Type 0} (after : After A) (a b : List ℕ) → longest_line < length a → longest_line < length b → (m : A) (word : Word) → line_after after m word a ≡ line_after after m word b
unfolding line_after
same_after after a b la lb m plain = let ta = lt-ltb longest_line (length a) la in let tb = lt-ltb longest_line (length b) lb in rw (ta, tb)
same_after after a b la lb m memory = refl
same_after after a b la lb m (cut n) = let ta = lt-ltb longest_line (length a) la in let tb = lt-ltb longest_line (length b) lb in rw (ta, tb)
same_after after a b la lb m unkept = let ta = lt-ltb longest_line (length a) la in let tb = lt-ltb longest_line (length b) lb in rw (ta, tb)
same_after after a b la lb m (cut_unkept n) = let ta = lt-ltb longest_line (length a) la in let tb = lt-ltb longest_line (length b) lb in rw (ta, tb)

both_long : {A : Type 0} (after : After A) (reply : Reply A) (a b : List ℕ) → longest_line < length a → longest_line < length b → SameLine after reply a b
both_long after reply a b la lb = record { reply_is = same_reply reply a b la lb; after_is = same_after after a b la lb }

the_same : {A : Type 0} (after : After A) (reply : Reply A) (a b : List ℕ) → a ≡ b → SameLine after reply a b
the_same after reply a b e = record { reply_is = λ m word. ap (line_reply reply m word) e; after_is = λ m word. ap (line_after after m word) e }

-- a machine can't tell a line from what is kept of it
pub kept_same : {A : Type 0} (after : After A) (reply : Reply A) (kept begun : List ℕ) → IsKept kept begun → SameLine after reply kept begun
kept_same after reply kept begun is =
    elim (cases_lt ROOM (length begun)) [
      | inl long ↦ both_long after reply kept begun (omega (arith, long, ap length is, length-take ROOM begun)) (omega (arith, long))
      | inr short ↦ the_same after reply kept begun (is ∙ take_all ROOM begun short)
    ]

length-strip : (l : List ℕ) → length l ≤ length (strip_carriage_return l) + 1
length-strip l =
    elim (slice_index l (length l - 1) == 13) as (λ t. length l ≤ length (cond t (take (length l - 1) l) l) + 1)
    [ true ↦ omega (arith, length-take (length l - 1) l) | false ↦ omega arith ]

pub ended_same : {A : Type 0} (after : After A) (reply : Reply A) (kept begun : List ℕ) → IsKept kept begun → SameLine after reply (strip_carriage_return kept) (strip_carriage_return begun)
ended_same after reply kept begun is =
    elim (cases_lt ROOM (length begun)) [
      | inl long ↦ both_long after reply (strip_carriage_return kept) (strip_carriage_return begun) (omega (arith, long, ap length is, length-take ROOM begun, length-strip kept)) (omega (arith, long, length-strip begun))
      | inr short ↦ the_same after reply _ _ (ap strip_carriage_return (is ∙ take_all ROOM begun short))
    ]

-- more of the line
pub kept_more : (kept begun more : List ℕ) → IsKept kept begun → IsKept (take ROOM (kept ++ more)) (begun ++ more)
kept_more kept begun more is =
    elim (cases_lt ROOM (length begun)) [
      | inl long ↦ take_at kept more ROOM (omega (arith, long, ap length is, length-take ROOM begun)) ∙ is ∙ sym (take-append-le ROOM begun more (omega (arith, long)))
      | inr short ↦ ap (λ l. take ROOM (l ++ more)) (is ∙ take_all ROOM begun short)
    ]

-- nothing is kept only of nothing
pub kept_none : (kept begun : List ℕ) → length kept ≡ 0 → IsKept kept begun → begun ≡ []
kept_none kept begun none is = nil_from_length begun (omega (arith, none, ap length is, length-take ROOM begun))

pub kept_some : (kept begun : List ℕ) → 0 < length kept → IsKept kept begun → last_line begun ≡ begun ∷ []
kept_some kept begun some is = last_line_some begun (omega (arith, some, ap length is, length-take ROOM begun))
