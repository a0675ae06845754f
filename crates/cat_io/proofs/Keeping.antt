-- What every line of a session keeps holds after every line.
use Rattle.std.proofs.Common.{ℕ, true, false, cond, nat_lt, List, [], ◌∷◌, length}
use Rattle.cat_io.specs.Lines.{longest_line}
use Rattle.cat_io.specs.Word.{Word, plain, memory, cut, unkept, cut_unkept, After}
use Rattle.cat_io.specs.Runs.{line_after, after_lines}

-- the machine keeps it at every line that acts
abbrev pub Keeps : {A : Type 0} → After A → (A → Type 0) → Type 0
Keeps {A} after P = (m : A) (word : Word) (line : List ℕ) → P m → P (after m word line)

pub line_after-keeps : {A : Type 0} (after : After A) (P : A → Type 0) → Keeps after P → Keeps (line_after after) P
unfolding line_after
line_after-keeps after P keeps m plain line p = elim (nat_lt longest_line (length line)) as (λ t. P (cond t m (after m plain line))) [ true ↦ p | false ↦ keeps m plain line p ]
line_after-keeps after P keeps m memory line p = p
line_after-keeps after P keeps m (cut n) line p = elim (nat_lt longest_line (length line)) as (λ t. P (cond t m (after m (cut n) line))) [ true ↦ p | false ↦ keeps m (cut n) line p ]
line_after-keeps after P keeps m unkept line p = elim (nat_lt longest_line (length line)) as (λ t. P (cond t m (after m unkept line))) [ true ↦ p | false ↦ keeps m unkept line p ]
line_after-keeps after P keeps m (cut_unkept n) line p = elim (nat_lt longest_line (length line)) as (λ t. P (cond t m (after m (cut_unkept n) line))) [ true ↦ p | false ↦ keeps m (cut_unkept n) line p ]

-- It holds after any lines, and so after every prefix of the lines of a session.
pub after_lines-keeps : {A : Type 0} (after : After A) (P : A → Type 0) → Keeps after P → (m : A) → P m → (lines : List (List ℕ)) (words : List Word) → P (after_lines after m lines words)
after_lines-keeps after P keeps m p [] words = p
after_lines-keeps after P keeps m p (line ∷ lines) [] = p
after_lines-keeps after P keeps m p (line ∷ lines) (word ∷ words) = after_lines-keeps after P keeps (line_after after m word line) (line_after-keeps after P keeps m word line p) lines words
