-- How the commands over a catalogue that nothing keeps end, and what they leave of the source and the sink.
use Rattle.std.specs.Prelude.{◌≡◌, ℕ, ◌≤◌, List, [], ◌∷◌, Option}
use Rattle.cat_api.specs.Wire.{Wired, wire_after, wire_reply}
use Rattle.cat_connection.specs.Status.{HasCauses, HasRun, HasServed, HasTold, IsOneOf}
use Rattle.cat_connection.specs.Worded.{HasWords}
use Rattle.cat_connection.specs.declared.command.Status.{Status}
use Rattle.cat_connection.specs.declared.command.Status.TheVariants.{Whole, ReadFault, WriteFault, NoMemory, Bound}
use Rattle.cat_in_memory.specs.Mirrors.{HasMirrored, MirrorsSome}
use Rattle.cat_in_memory.specs.Wires.{wire_start}
use Rattle.cat_io.specs.Causes.{Rose}
use Rattle.cat_layers.specs.Layered.{layered}
use Rattle.cat_mirror.specs.declared.stop.Stop.TheVariants as stop
use Rattle.cat_model.specs.declared.types.OrphanRule.{OrphanRule}
use Rattle.cat_model.specs.declared.types.OrphanRule.TheVariants.{Keep}
use Rattle.cat_sample.specs.Summary.{sample_line}
use Rattle.cat_session_model.specs.Program.{program_settings, session_start}
use Rattle.cat_session_model.specs.Session.{session_after, session_reply}
use Rattle.cat_session_model.specs.declared.state.SessionState.{SessionState}

-- A session over an empty catalogue, under a rule for orphans: the bytes written are its replies to the lines of the bytes that the source told, up to what the
-- status says.
pub record EndsAsSession {S O : Type 0} (left : S → Option (List ℕ)) (read_faults : S → ℕ) (written : O → Option (List ℕ)) (write_faults : O → ℕ) (rule : OrphanRule) (status : Status) (source source' : S) (sink sink' : O) : Type 0 where
  pub end : SessionState
  pub ran : HasRun (session_after layered (program_settings rule)) (session_reply layered (program_settings rule)) status (left source) (left source') (written sink) (written sink') session_start end
  pub causes : HasCauses read_faults write_faults status source source' sink sink'
  pub statuses : IsOneOf status (Whole ∷ ReadFault ∷ WriteFault ∷ NoMemory ∷ Bound ∷ [])

-- A connection over an empty catalogue, whose moment is 0, with the catalogue's feed: the same of the messages of the bytes.
pub record EndsAsConnection {S O : Type 0} (left : S → Option (List ℕ)) (read_faults : S → ℕ) (written : O → Option (List ℕ)) (write_faults : O → ℕ) (rule : OrphanRule) (status : Status) (source source' : S) (sink sink' : O) : Type 0 where
  pub end : Wired
  pub served : HasServed (HasWords (wire_after layered) (wire_reply layered)) status (left source) (left source') (written sink) (written sink') (wire_start rule) end
  pub causes : HasCauses read_faults write_faults status source source' sink sink'
  pub statuses : IsOneOf status (Whole ∷ ReadFault ∷ WriteFault ∷ NoMemory ∷ Bound ∷ [])

-- A mirror: it wrote the answers to its lines, and at the end the list of its documents; where it stopped before, a front of that. It alone may want memory at
-- any line.
pub record EndsAsMirror {S O : Type 0} (left : S → Option (List ℕ)) (read_faults : S → ℕ) (written : O → Option (List ℕ)) (write_faults : O → ℕ) (status : Status) (source source' : S) (sink sink' : O) : Type 0 where
  pub mirrored : HasMirrored status (left source) (left source') (written sink) (written sink')
  pub read_fault : status ≡ ReadFault → Rose (read_faults source) (read_faults source')
  pub write_fault : status ≡ WriteFault → Rose (write_faults sink) (write_faults sink')
  pub memory : status ≡ NoMemory → MirrorsSome stop.NoMemory (left source) (left source') (written sink) (written sink')
  pub read_later : read_faults source ≤ read_faults source'
  pub write_later : write_faults sink ≤ write_faults sink'
  pub statuses : IsOneOf status (Whole ∷ ReadFault ∷ WriteFault ∷ NoMemory ∷ Bound ∷ [])

-- A sample of a seed, with so many Components: its line is that of the abstract catalogue under the rule that keeps orphans.
pub record EndsAsSample {O : Type 0} (written : O → Option (List ℕ)) (write_faults : O → ℕ) (seed count : ℕ) (status : Status) (sink sink' : O) : Type 0 where
  pub told : HasTold (sample_line layered (program_settings Keep) seed count) status (written sink) (written sink') (write_faults sink) (write_faults sink')
  pub memory : status ≡ NoMemory → sink' ≡ sink
  pub write_fault : status ≡ WriteFault → Rose (write_faults sink) (write_faults sink')
  pub write_later : write_faults sink ≤ write_faults sink'
  pub statuses : IsOneOf status (Whole ∷ WriteFault ∷ NoMemory ∷ [])
