-- What was read and written while a mirror followed.
use Rattle.std.specs.Prelude.{◌≡◌, ℕ, ◌^◌, ◌≤◌, ◌⊎◌, List, [], Option, length, take}
use Rattle.std.specs.Io.KnownBytes.{Appends, Consumes, IsAtEnd, Keeps}
use Rattle.cat_io.specs.Sink.{AppendsFront}
use Rattle.cat_io.specs.Lines.{lines, rest_from, whole_lines}
use Rattle.cat_feed.specs.Mirror.{empty}
use Rattle.cat_feed.specs.declared.mirror.Mirror.{Mirror}
use Rattle.cat_mirror.specs.Answers.{answers, mirror_after, mirror_out}
use Rattle.cat_mirror.specs.declared.line.TheConstants.{ROOM}
use Rattle.cat_mirror.specs.declared.lines.Following.{Following}
use Rattle.cat_mirror.specs.declared.stop.Stop.{Stop}
use Rattle.cat_mirror.specs.declared.stop.Stop.TheVariants.{ReadFault, WriteFault, Bound, NoMemory}

-- ---- parts of a text

-- a front of the bytes was appended
abbrev pub AppendsSome : Option (List ℕ) → Option (List ℕ) → List ℕ → Type 0
AppendsSome old new bytes = (n : ℕ) × Appends old new (take n bytes)

-- A text wasn't written whole: the sink failed in it, or memory was wanted before it.
abbrev pub IsBroken : Stop → Option (List ℕ) → Option (List ℕ) → List ℕ → Type 0
IsBroken ReadFault old new text = ⊥
IsBroken WriteFault old new text = AppendsFront old new text
IsBroken Bound old new text = ⊥
IsBroken NoMemory old new text = Keeps old new

-- the answers to the first of these lines were written
abbrev pub AnswersSome : Option (List ℕ) → Option (List ℕ) → List (List ℕ) → Type 0
AnswersSome old new lines = (n : ℕ) × (n ≤ length lines) × Appends old new (answers empty (take n lines))

-- The text that begins with the answers to these lines wasn't written whole: the sink failed in it, or memory was wanted behind
-- some of the answers.
abbrev pub IsCut : Stop → Option (List ℕ) → Option (List ℕ) → List (List ℕ) → List ℕ → Type 0
IsCut ReadFault old new lines text = ⊥
IsCut WriteFault old new lines text = AppendsFront old new text
IsCut Bound old new lines text = ⊥
IsCut NoMemory old new lines text = AnswersSome old new lines

-- ---- what was followed

-- The bytes taken were followed: the whole lines among them are answered, and the buffer has what comes after the last of them, up
-- to its room.
pub record HasFollowed (old new : Option (List ℕ)) (taken : List ℕ) (f : Following) : Type 0 where
  pub writes : Appends old new (answers empty (whole_lines taken))
  pub mirror_is : f.mirror ≡ mirror_after empty (whole_lines taken)
  pub line_is : f.line ≡ take ROOM (rest_from [] taken)

-- All lines of the bytes taken are answered.
pub record HasAnswered (old new : Option (List ℕ)) (taken : List ℕ) (m : Mirror) : Type 0 where
  pub writes : Appends old new (answers empty (lines taken))
  pub mirror_is : m ≡ mirror_after empty (lines taken)

-- ---- the whole

-- All bytes were read, and what a mirror writes for them was written.
pub record IsWhole (left left' written written' : Option (List ℕ)) : Type 0 where
  pub taken : List ℕ
  pub reads : Consumes left left' taken
  pub ended : IsAtEnd left'
  pub writes : Appends written written' (mirror_out taken)

-- What was written of these bytes at a stop: at a fault of the source and at the bound the answers to the whole lines; at a fault
-- of the sink a front of what there was to write; and for want of memory the answers to some first lines.
abbrev pub Stops : Stop → List ℕ → Option (List ℕ) → Option (List ℕ) → Option (List ℕ) → Type 0
Stops ReadFault taken left' written written' = Appends written written' (answers empty (whole_lines taken))
Stops WriteFault taken left' written written' = AppendsFront written written' (answers empty (whole_lines taken)) ⊎ (IsAtEnd left' × AppendsFront written written' (mirror_out taken))
Stops Bound taken left' written written' = (length taken ≡ 2 ^ 40) × Appends written written' (answers empty (whole_lines taken))
Stops NoMemory taken left' written written' = AnswersSome written written' (whole_lines taken) ⊎ (IsAtEnd left' × AnswersSome written written' (lines taken))

-- Some bytes were read, and this was written of them.
pub record IsStopped (stop : Stop) (left left' written written' : Option (List ℕ)) : Type 0 where
  pub taken : List ℕ
  pub reads : Consumes left left' taken
  pub writes : Stops stop taken left' written written'
