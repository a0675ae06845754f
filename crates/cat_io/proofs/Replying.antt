-- What becomes of a line, by its length and its word.
use Rattle.std.proofs.Common.{◌≡◌, ℕ, ◌<◌, ◌≤◌, List, [], ◌∷◌, ◌++◌, length, codes, refl}
use Rattle.std.proofs.lemmas.Bool.{lt-ltb, le-ltb}
use Rattle.cat_io.specs.Lines.{longest_line}
use Rattle.cat_io.specs.Word.{Word, plain, memory, cut, unkept, cut_unkept, IsActing, After, Reply}
use Rattle.cat_io.specs.Runs.{line_after, line_reply}

pub long_reply : {A : Type 0} (reply : Reply A) (m : A) (line : List ℕ) → longest_line < length line → line_reply reply m plain line ≡ codes "refused long" ++ 10 ∷ []
unfolding line_reply
long_reply reply m line long = rw (lt-ltb longest_line (length line) long)

pub long_after : {A : Type 0} (after : After A) (m : A) (line : List ℕ) → longest_line < length line → line_after after m plain line ≡ m
unfolding line_after
long_after after m line long = rw (lt-ltb longest_line (length line) long)

pub memory_reply : {A : Type 0} (reply : Reply A) (m : A) (line : List ℕ) → line_reply reply m memory line ≡ codes "no memory" ++ 10 ∷ []
unfolding line_reply
memory_reply reply m line = refl

pub memory_after : {A : Type 0} (after : After A) (m : A) (line : List ℕ) → line_after after m memory line ≡ m
unfolding line_after
memory_after after m line = refl

pub short_reply : {A : Type 0} (reply : Reply A) (m : A) (word : Word) (line : List ℕ) → IsActing word → length line ≤ longest_line → line_reply reply m word line ≡ reply m word line
unfolding line_reply
short_reply reply m plain line acting short = rw (le-ltb longest_line (length line) short)
short_reply reply m memory line acting short = absurd acting
short_reply reply m (cut n) line acting short = rw (le-ltb longest_line (length line) short)
short_reply reply m unkept line acting short = rw (le-ltb longest_line (length line) short)
short_reply reply m (cut_unkept n) line acting short = rw (le-ltb longest_line (length line) short)

pub short_after : {A : Type 0} (after : After A) (m : A) (word : Word) (line : List ℕ) → IsActing word → length line ≤ longest_line → line_after after m word line ≡ after m word line
unfolding line_after
short_after after m plain line acting short = rw (le-ltb longest_line (length line) short)
short_after after m memory line acting short = absurd acting
short_after after m (cut n) line acting short = rw (le-ltb longest_line (length line) short)
short_after after m unkept line acting short = rw (le-ltb longest_line (length line) short)
short_after after m (cut_unkept n) line acting short = rw (le-ltb longest_line (length line) short)
