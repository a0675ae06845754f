-- What a machine does over the lines of a session.
use Rattle.std.specs.Prelude.{◌≡◌, ℕ, ◌-◌, ◌<◌, ◌≤◌, List, [], ◌∷◌, ◌++◌, nat_lt, if◌then◌else◌, length, take, codes}
use Rattle.cat_io.specs.Word.{Word, plain, memory, cut, unkept, cut_unkept, After, Reply}
use Rattle.cat_io.specs.Lines.{longest_line}

-- The state after a line: it stays at a line that lacks memory, and at one that is too long.
unfoldable pub line_after : {A : Type 0} → After A → A → Word → List ℕ → A
line_after after m plain line = if nat_lt longest_line (length line) then m else after m plain line
line_after after m memory line = m
line_after after m (cut n) line = if nat_lt longest_line (length line) then m else after m (cut n) line
line_after after m unkept line = if nat_lt longest_line (length line) then m else after m unkept line
line_after after m (cut_unkept n) line = if nat_lt longest_line (length line) then m else after m (cut_unkept n) line

-- The reply to a line, its LF at the end: a line that lacks memory and one that is too long have replies of their own.
unfoldable pub line_reply : {A : Type 0} → Reply A → A → Word → List ℕ → List ℕ
line_reply reply m plain line = if nat_lt longest_line (length line) then codes "refused long" ++ 10 ∷ [] else reply m plain line
line_reply reply m memory line = codes "no memory" ++ 10 ∷ []
line_reply reply m (cut n) line = if nat_lt longest_line (length line) then codes "refused long" ++ 10 ∷ [] else reply m (cut n) line
line_reply reply m unkept line = if nat_lt longest_line (length line) then codes "refused long" ++ 10 ∷ [] else reply m unkept line
line_reply reply m (cut_unkept n) line = if nat_lt longest_line (length line) then codes "refused long" ++ 10 ∷ [] else reply m (cut_unkept n) line

-- the state after the lines, each with its word
abbrev pub after_lines : {A : Type 0} → After A → A → List (List ℕ) → List Word → A
after_lines after m [] words = m
after_lines after m (line ∷ lines) [] = m
after_lines after m (line ∷ lines) (word ∷ words) = after_lines after (line_after after m word line) lines words

-- the replies to the lines, each with its word
abbrev pub replies : {A : Type 0} → After A → Reply A → A → List (List ℕ) → List Word → List ℕ
replies after reply m [] words = []
replies after reply m (line ∷ lines) [] = []
replies after reply m (line ∷ lines) (word ∷ words) = line_reply reply m word line ++ replies after reply (line_after after m word line) lines words

-- Each line was answered.
pub record Answers {A : Type 0} (after : After A) (reply : Reply A) (m : A) (lines : List (List ℕ)) (out : List ℕ) (new : A) : Type 0 where
  pub words : List Word
  pub each : length words ≡ length lines
  pub out_is : out ≡ replies after reply m lines words
  pub new_is : new ≡ after_lines after m lines words

-- The reply to the n-th line was being written: those before it stand whole, and that one doesn't.
pub record BreaksOff {A : Type 0} (after : After A) (reply : Reply A) (m : A) (lines : List (List ℕ)) (out : List ℕ) (new : A) : Type 0 where
  pub n : ℕ
  pub first : 1 ≤ n
  pub last : n ≤ length lines
  pub words : List Word
  pub each : length words ≡ n
  pub part : List ℕ
  pub whole : out ≡ replies after reply m (take (n - 1) lines) words ++ part
  pub missing : List ℕ
  pub proper : 0 < length missing
  pub cut_is : replies after reply m (take n lines) words ≡ out ++ missing
  pub new_is : new ≡ after_lines after m (take n lines) words
