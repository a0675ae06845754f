-- What a session does.
use Rattle.std.specs.Prelude.{◌≡◌, ℕ, ◌^◌, ◌≤◌, ◌⊎◌, List, [], ◌++◌, Option, length, take}
use Rattle.std.specs.Io.KnownBytes.{Appends, Consumes, IsAtEnd}
use Rattle.cat_io.specs.Sink.{AppendsFront}
use Rattle.cat_io.specs.declared.buffer.TheConstants.{ROOM}
use Rattle.cat_io.specs.declared.line_loop.SessionEnd.{SessionEnd}
use Rattle.cat_io.specs.declared.line_loop.SessionEnd.TheVariants.{Whole, ReadFault, WriteFault, Bound, NoMemory}
use Rattle.cat_io.specs.declared.source.ReadAnswer.{ReadAnswer}
use Rattle.cat_io.specs.declared.source.ReadAnswer.TheVariants.{Read, End, Failed}
use Rattle.cat_io.specs.Lines.{lines, whole_lines, whole_from, rest_from}
use Rattle.cat_io.specs.Word.{Word, After, Reply}
use Rattle.cat_io.specs.Runs.{line_after, line_reply, after_lines, replies, Answers, BreaksOff}

-- the replies to the lines were written
pub record WritesReplies {A : Type 0} (after : After A) (reply : Reply A) (before now : Option (List ℕ)) (m : A) (lines : List (List ℕ)) (new : A) : Type 0 where
  pub out : List ℕ
  pub writes : Appends before now out
  pub answers : Answers after reply m lines out new

-- the replies to the lines were written, up to a line whose reply doesn't stand whole
pub record WritesPart {A : Type 0} (after : After A) (reply : Reply A) (before now : Option (List ℕ)) (m : A) (lines : List (List ℕ)) (new : A) : Type 0 where
  pub out : List ℕ
  pub writes : Appends before now out
  pub breaks_off : BreaksOff after reply m lines out new

-- one line was answered
pub record Serves {A : Type 0} (after : After A) (reply : Reply A) (before now : Option (List ℕ)) (m : A) (line : List ℕ) (new : A) : Type 0 where
  pub word : Word
  pub writes : Appends before now (line_reply reply m word line)
  pub new_is : new ≡ line_after after m word line

-- a write failed in the reply to one line
pub record ServesPart {A : Type 0} (after : After A) (reply : Reply A) (before now : Option (List ℕ)) (m : A) (line : List ℕ) (new : A) : Type 0 where
  pub word : Word
  pub front : AppendsFront before now (line_reply reply m word line)
  pub new_is : new ≡ line_after after m word line

-- the buffer has what has come of a line, up to its room
abbrev pub IsKept : List ℕ → List ℕ → Type 0
IsKept kept begun = kept ≡ take ROOM begun

-- The replies to the lines that a piece ends were written, and the buffer has what comes after the last of them.
abbrev pub Feeds : {A : Type 0} → After A → Reply A → Option (List ℕ) → Option (List ℕ) → A → A → List ℕ → List ℕ → List ℕ → Type 0
Feeds after reply before now m new kept kept' piece = (begun : List ℕ) → IsKept kept begun → WritesReplies after reply before now m (whole_from begun piece) new × IsKept kept' (rest_from begun piece)

-- The replies to the lines that a piece ends were written, up to one that doesn't stand whole.
abbrev pub FeedsPart : {A : Type 0} → After A → Reply A → Option (List ℕ) → Option (List ℕ) → A → A → List ℕ → List ℕ → Type 0
FeedsPart after reply before now m new kept piece = (begun : List ℕ) → IsKept kept begun → WritesPart after reply before now m (whole_from begun piece) new

-- what was done of a piece, where `rest` is left of it
pub record Feeding {A : Type 0} (after : After A) (reply : Reply A) (before now : Option (List ℕ)) (m new : A) (begun kept piece rest : List ℕ) : Type 0 where
  pub ended : List (List ℕ)
  pub here : List ℕ
  pub kept_is : IsKept kept here
  pub writes : WritesReplies after reply before now m ended new
  pub ended_is : whole_from begun piece ≡ ended ++ whole_from here rest
  pub rest_is : rest_from begun piece ≡ rest_from here rest

-- no more bytes were read than that
abbrev pub IsAtMost : ℕ → ReadAnswer → Type 0
IsAtMost most (Read n) = n ≤ most
IsAtMost most End = Unit {0}
IsAtMost most Failed = Unit {0}

-- What a session did, by its end, between the bytes left before and after it, and the bytes written. It took the
-- bytes `taken`.
abbrev pub Outcome : {A : Type 0} → After A → Reply A → SessionEnd → Option (List ℕ) → Option (List ℕ) → Option (List ℕ) → Option (List ℕ) → A → A → Type 0
Outcome after reply Whole left left' written written' m new = (taken : List ℕ) × Consumes left left' taken × IsAtEnd left' × WritesReplies after reply written written' m (lines taken) new
Outcome after reply ReadFault left left' written written' m new = (taken : List ℕ) × Consumes left left' taken × WritesReplies after reply written written' m (whole_lines taken) new
Outcome after reply Bound left left' written written' m new = (taken : List ℕ) × Consumes left left' taken × (length taken ≡ 2 ^ 40) × WritesReplies after reply written written' m (whole_lines taken) new
Outcome after reply WriteFault left left' written written' m new = (taken : List ℕ) × Consumes left left' taken × (WritesPart after reply written written' m (whole_lines taken) new ⊎ (IsAtEnd left' × WritesPart after reply written written' m (lines taken) new))
Outcome after reply NoMemory left left' written written' m new = (left' ≡ left) × (written' ≡ written) × (new ≡ m)

-- what a session has done at the start of a turn
pub record SoFar {A : Type 0} (after : After A) (reply : Reply A) (left left' written written' : Option (List ℕ)) (m new : A) (kept : List ℕ) (count : ℕ) : Type 0 where
  pub taken : List ℕ
  pub reads : Consumes left left' taken
  pub count_is : count ≡ length taken
  pub kept_is : IsKept kept (rest_from [] taken)
  pub replies : WritesReplies after reply written written' m (whole_lines taken) new

-- the replies to the lines of the bytes, each line with its word
abbrev pub SessionOut : {A : Type 0} → After A → Reply A → A → List ℕ → List Word → List ℕ
SessionOut after reply m bytes words = replies after reply m (lines bytes) words

-- What stands written where the source told these bytes: at the end of the input the replies to all of their lines;
-- at a read fault and at the bound those to the whole lines among the bytes taken; at a write fault those to the
-- first lines of the bytes, up to one that doesn't stand whole; for want of memory nothing.
abbrev pub Transcript : {A : Type 0} → After A → Reply A → SessionEnd → Option (List ℕ) → Option (List ℕ) → A → A → List ℕ → Type 0
Transcript after reply Whole written written' m new bytes = (words : List Word) × (length words ≡ length (lines bytes)) × Appends written written' (SessionOut after reply m bytes words) × (new ≡ after_lines after m (lines bytes) words)
Transcript after reply ReadFault written written' m new bytes = (taken : List ℕ) × (rest : List ℕ) × (bytes ≡ taken ++ rest) × WritesReplies after reply written written' m (whole_lines taken) new
Transcript after reply Bound written written' m new bytes = (taken : List ℕ) × (rest : List ℕ) × (bytes ≡ taken ++ rest) × (length taken ≡ 2 ^ 40) × WritesReplies after reply written written' m (whole_lines taken) new
Transcript after reply WriteFault written written' m new bytes = WritesPart after reply written written' m (lines bytes) new
Transcript after reply NoMemory written written' m new bytes = (written' ≡ written) × (new ≡ m)
