-- What came of a line.
use Rattle.std.specs.Prelude.{◌≡◌, ℕ, List}

-- A line acts; or it lacks memory and acts not; or what it does was cut for want of memory after so many events; or what it would change
-- wasn't kept, and it acts not; or what it does was cut after so many events, since what follows them wasn't kept.
pub data Word : Type 0 where
  plain : Word
  memory : Word
  cut : ℕ → Word
  unkept : Word
  cut_unkept : ℕ → Word

-- the machine answers the line: it isn't answered for want of memory
abbrev pub IsActing : Word → Type 0
IsActing plain = Unit {0}
IsActing memory = ⊥
IsActing (cut n) = Unit {0}
IsActing unkept = Unit {0}
IsActing (cut_unkept n) = Unit {0}

-- the state of a machine after a line with its word
abbrev pub After : Type 0 → Type 0
After A = A → Word → List ℕ → A

-- the reply of a machine to a line with its word, its LF at the end
abbrev pub Reply : Type 0 → Type 0
Reply A = A → Word → List ℕ → List ℕ

-- A machine went from one state to another at a line, and this is its reply.
abbrev pub AnswersLine : {A : Type 0} → After A → Reply A → A → A → List ℕ → List ℕ → Type 0
AnswersLine after reply old new line text = (word : Word) × IsActing word × (new ≡ after old word line) × (text ≡ reply old word line)
