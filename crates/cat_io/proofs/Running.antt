-- Runs of a machine, one after another.
use Rattle.std.proofs.Common.{◌≡◌, ℕ, ◌+◌, ◌-◌, ◌<◌, ◌≤◌, List, [], ◌∷◌, ◌++◌, length, take, drop, length-drop, refl, sym, ◌∙◌, ap, arith, append_assoc, length-append}
use Rattle.std.proofs.lemmas.List.{append-nil, take-append-le, take-append-drop}
use Rattle.std.proofs.Math.Seq.{take-append-add}
use Rattle.cat_io.specs.Word.{Word, After, Reply}
use Rattle.cat_io.specs.Runs.{line_after, line_reply, after_lines, replies, Answers, BreaksOff}

pub after-append : {A : Type 0} (after : After A) (m : A) (ls ls' : List (List ℕ)) (ws ws' : List Word) → length ws ≡ length ls → after_lines after m (ls ++ ls') (ws ++ ws') ≡ after_lines after (after_lines after m ls ws) ls' ws'
after-append after m [] ls' [] ws' e = refl
after-append after m [] ls' (w ∷ ws) ws' e = absurd (omega (arith, e))
after-append after m (l ∷ ls) ls' [] ws' e = absurd (omega (arith, e))
after-append after m (l ∷ ls) ls' (w ∷ ws) ws' e = after-append after (line_after after m w l) ls ls' ws ws' (omega (arith, e))

pub replies-append : {A : Type 0} (after : After A) (reply : Reply A) (m : A) (ls ls' : List (List ℕ)) (ws ws' : List Word) → length ws ≡ length ls → replies after reply m (ls ++ ls') (ws ++ ws') ≡ replies after reply m ls ws ++ replies after reply (after_lines after m ls ws) ls' ws'
replies-append after reply m [] ls' [] ws' e = refl
replies-append after reply m [] ls' (w ∷ ws) ws' e = absurd (omega (arith, e))
replies-append after reply m (l ∷ ls) ls' [] ws' e = absurd (omega (arith, e))
replies-append after reply m (l ∷ ls) ls' (w ∷ ws) ws' e =
    ap (λ t. line_reply reply m w l ++ t) (replies-append after reply (line_after after m w l) ls ls' ws ws' (omega (arith, e))) ∙ sym (append_assoc (line_reply reply m w l) (replies after reply (line_after after m w l) ls ws) (replies after reply (after_lines after (line_after after m w l) ls ws) ls' ws'))

pub answers_none : {A : Type 0} (after : After A) (reply : Reply A) (m : A) → Answers after reply m [] [] m
answers_none after reply m = record { words = []; each = refl; out_is = refl; new_is = refl }

pub answers_one : {A : Type 0} (after : After A) (reply : Reply A) (m : A) (w : Word) (l : List ℕ) → Answers after reply m (l ∷ []) (line_reply reply m w l) (line_after after m w l)
answers_one after reply m w l = record { words = w ∷ []; each = refl; out_is = sym (append-nil (line_reply reply m w l)); new_is = refl }

pub answers_then : {A : Type 0} (after : After A) (reply : Reply A) (m mid new : A) (ls ls' : List (List ℕ)) (out out' : List ℕ) → Answers after reply m ls out mid → Answers after reply mid ls' out' new → Answers after reply m (ls ++ ls') (out ++ out') new
answers_then after reply m mid new ls ls' out out' p q = record {
  words = p.words ++ q.words;
  each = omega (arith, p.each, q.each, length-append p.words q.words, length-append ls ls');
  out_is =
      ap (λ l. l ++ out') p.out_is ∙ ap (λ l. replies after reply m ls p.words ++ l) (q.out_is ∙ ap (λ k. replies after reply k ls' q.words) p.new_is)
      ∙ sym (replies-append after reply m ls ls' p.words q.words p.each);
  new_is = q.new_is ∙ ap (λ k. after_lines after k ls' q.words) p.new_is ∙ sym (after-append after m ls ls' p.words q.words p.each);
}

-- what the parts of a run that breaks off say, once the number of lines is known
pub breaks_off : {A : Type 0} (after : After A) (reply : Reply A) (m new : A) (n : ℕ) (ls front before : List (List ℕ)) (words : List Word) (out part missing : List ℕ) → take n ls ≡ front → take (n - 1) ls ≡ before → 1 ≤ n → n ≤ length ls → length words ≡ n → out ≡ replies after reply m before words ++ part → 0 < length missing → replies after reply m front words ≡ out ++ missing → new ≡ after_lines after m front words → BreaksOff after reply m ls out new
breaks_off after reply m new n ls front before words out part missing ef eb first last each whole proper cut is = record {
  n = n;
  first = first;
  last = last;
  words = words;
  each = each;
  part = part;
  whole = whole ∙ ap (λ t. replies after reply m t words ++ part) (sym eb);
  missing = missing;
  proper = proper;
  cut_is = ap (λ t. replies after reply m t words) ef ∙ cut;
  new_is = is ∙ ap (λ t. after_lines after m t words) (sym ef);
}

pub breaks_one : {A : Type 0} (after : After A) (reply : Reply A) (m : A) (k : ℕ) (w : Word) (l : List ℕ) → k < length (line_reply reply m w l) → BreaksOff after reply m (l ∷ []) (take k (line_reply reply m w l)) (line_after after m w l)
breaks_one after reply m k w l short =
    breaks_off after reply m (line_after after m w l) 1 (l ∷ []) (l ∷ []) [] (w ∷ []) (take k (line_reply reply m w l)) (take k (line_reply reply m w l)) (drop k (line_reply reply m w l)) refl refl (omega arith) (omega arith) refl refl
    (omega (arith, short, length-drop k (line_reply reply m w l))) (append-nil (line_reply reply m w l) ∙ sym (take-append-drop k (line_reply reply m w l))) refl

-- lines that come after change nothing
pub breaks_more : {A : Type 0} (after : After A) (reply : Reply A) (m new : A) (ls more : List (List ℕ)) (out : List ℕ) → BreaksOff after reply m ls out new → BreaksOff after reply m (ls ++ more) out new
breaks_more after reply m new ls more out b =
    breaks_off after reply m new b.n (ls ++ more) (take b.n ls) (take (b.n - 1) ls) b.words out b.part b.missing
    (take-append-le b.n ls more b.last) (take-append-le (b.n - 1) ls more (omega (arith, b.last))) b.first (omega (arith, b.last, length-append ls more)) b.each b.whole b.proper b.cut_is b.new_is

pub breaks_then : {A : Type 0} (after : After A) (reply : Reply A) (m mid new : A) (ls ls' : List (List ℕ)) (out out' : List ℕ) → Answers after reply m ls out mid → BreaksOff after reply mid ls' out' new → BreaksOff after reply m (ls ++ ls') (out ++ out') new
breaks_then after reply m mid new ls ls' out out' p b =
    let n = length ls + b.n in
    let less : length ls + b.n - 1 ≡ length ls + (b.n - 1) = omega (arith, b.first) in
    let front = take b.n ls' in
    let before = take (b.n - 1) ls' in
    let at : (t : List (List ℕ)) → replies after reply m ls p.words ++ replies after reply mid t b.words ≡ replies after reply m (ls ++ t) (p.words ++ b.words) = λ t. ap (λ k. replies after reply m ls p.words ++ replies after reply k t b.words) p.new_is ∙ sym (replies-append after reply m ls t p.words b.words p.each) in
    breaks_off after reply m new n (ls ++ ls') (ls ++ front) (ls ++ before) (p.words ++ b.words) (out ++ out') b.part b.missing
    (take-append-add ls ls' b.n) (ap (λ k. take k (ls ++ ls')) less ∙ take-append-add ls ls' (b.n - 1)) (omega (arith, b.first)) (omega (arith, b.last, length-append ls ls'))
    (omega (arith, p.each, b.each, length-append p.words b.words))
    (ap (λ l. l ++ out') p.out_is ∙ ap (λ l. replies after reply m ls p.words ++ l) b.whole ∙ sym (append_assoc (replies after reply m ls p.words) (replies after reply mid before b.words) b.part) ∙ ap (λ l. l ++ b.part) (at before))
    b.proper
    (sym (at front) ∙ ap (λ l. l ++ replies after reply mid front b.words) (sym p.out_is) ∙ ap (λ l. out ++ l) b.cut_is ∙ sym (append_assoc out out' b.missing))
    (b.new_is ∙ ap (λ k. after_lines after k front b.words) p.new_is ∙ sym (after-append after m ls front p.words b.words p.each))
