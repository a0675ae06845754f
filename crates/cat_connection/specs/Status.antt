-- The statuses of the program, and what a run has done.
use Rattle.std.specs.Prelude.{◌≡◌, ℕ, ◌≤◌, List, [], ◌∷◌, ◌++◌, codes, Option, IfSome, ◌⊎◌}
use Rattle.std.specs.Io.KnownBytes.{Appends}
use Rattle.cat_io.specs.Causes.{Rose}
use Rattle.cat_io.specs.Sink.{AppendsFront}
use Rattle.cat_io.specs.Word.{After, Reply}
use Rattle.cat_io.specs.Session.{Outcome, Transcript}
use Rattle.cat_io.specs.declared.line_loop.SessionEnd.{SessionEnd}
use Rattle.cat_io.specs.declared.line_loop.SessionEnd.TheVariants as lines
use Rattle.cat_connection.specs.Connection as connection
use Rattle.cat_connection.specs.declared.message_loop.ConnEnd.{ConnEnd}
use Rattle.cat_connection.specs.declared.message_loop.ConnEnd.TheVariants as messages
use Rattle.cat_connection.specs.declared.command.Status.{Status}
use Rattle.cat_connection.specs.declared.command.Status.TheVariants.{Whole, Usage, ReadFault, WriteFault, StoreFault, BadRow, DoorsFault, NoMemory, Bound}

-- the number with which the program ends
abbrev pub exit_number : Status → ℕ
exit_number Whole = 0
exit_number Usage = 2
exit_number ReadFault = 3
exit_number WriteFault = 4
exit_number StoreFault = 5
exit_number BadRow = 6
exit_number DoorsFault = 7
exit_number NoMemory = 9
exit_number Bound = 10

-- the line that says how the program is called, its LF at the end
abbrev pub usage_line : List ℕ
usage_line = codes "usage: catalogue session|wire|serve|sample|mirror" ++ 10 ∷ []

-- the status for each end of a session
abbrev pub status_of : SessionEnd → Status
status_of lines.Whole = Whole
status_of lines.ReadFault = ReadFault
status_of lines.WriteFault = WriteFault
status_of lines.NoMemory = NoMemory
status_of lines.Bound = Bound

-- the status for each end of a connection
abbrev pub connection_status : ConnEnd → Status
connection_status messages.Whole = Whole
connection_status messages.ReadFault = ReadFault
connection_status messages.WriteFault = WriteFault
connection_status messages.NoMemory = NoMemory
connection_status messages.Bound = Bound

-- A session ran, from one machine to another, and ended with this status: it took bytes from the source, and wrote the replies to
-- their lines. Where the source tells its bytes, what stands written is said of all of them.
abbrev pub HasRun : {A : Type 0} → After A → Reply A → Status → Option (List ℕ) → Option (List ℕ) → Option (List ℕ) → Option (List ℕ) → A → A → Type 0
HasRun after reply status left left' written written' m new =
    (end : SessionEnd) × (status ≡ status_of end) × Outcome after reply end left left' written written' m new
    × IfSome left (Transcript after reply end written written' m new)

-- A connection was answered, and ended with this status: the same of the messages of the bytes.
abbrev pub HasServed : {A : Type 0} → connection.Run A → Status → Option (List ℕ) → Option (List ℕ) → Option (List ℕ) → Option (List ℕ) → A → A → Type 0
HasServed run status left left' written written' m new =
    (end : ConnEnd) × (status ≡ connection_status end) × connection.Outcome run end left left' written written' m new
    × IfSome left (connection.Transcript run end written written' m new)

-- A line was written whole; or the sink failed in it; or memory was wanted.
abbrev pub HasTold : List ℕ → Status → Option (List ℕ) → Option (List ℕ) → ℕ → ℕ → Type 0
HasTold line status written written' faults faults' =
    ((status ≡ Whole) × Appends written written' line)
    ⊎ (((status ≡ WriteFault) × AppendsFront written written' line × Rose faults faults') ⊎ (status ≡ NoMemory))

-- ---- how a command ends

-- the status is one of these
abbrev pub IsOneOf : Status → List Status → Type 0
IsOneOf status [] = ⊥
IsOneOf status (one ∷ []) = status ≡ one
IsOneOf status (one ∷ other ∷ statuses) = (status ≡ one) ⊎ IsOneOf status (other ∷ statuses)

-- A command that reads a source and writes to a sink: it tells a fault only where that end counted one, no count of faults falls, and memory is wanted only
-- before anything is read or written.
pub record HasCauses {S O : Type 0} (read_faults : S → ℕ) (write_faults : O → ℕ) (status : Status) (source source' : S) (sink sink' : O) : Type 0 where
  pub read_fault : status ≡ ReadFault → Rose (read_faults source) (read_faults source')
  pub write_fault : status ≡ WriteFault → Rose (write_faults sink) (write_faults sink')
  pub memory : status ≡ NoMemory → (source' ≡ source) × (sink' ≡ sink)
  pub read_later : read_faults source ≤ read_faults source'
  pub write_later : write_faults sink ≤ write_faults sink'

-- The words were no command: the usage line was written once, or the sink failed in it.
pub record EndsAsUsage {O : Type 0} (written : O → Option (List ℕ)) (write_faults : O → ℕ) (status : Status) (sink sink' : O) : Type 0 where
  pub status_is : status ≡ Usage
  pub line : Appends (written sink) (written sink') usage_line ⊎ (AppendsFront (written sink) (written sink') usage_line × Rose (write_faults sink) (write_faults sink'))
  pub write_later : write_faults sink ≤ write_faults sink'
