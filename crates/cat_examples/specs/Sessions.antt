-- Sessions of the program over the real lower layers, from an empty catalogue on.
use Rattle.std.specs.Prelude.{ℕ, List, [], ◌∷◌, ◌++◌, map, codes}
use Rattle.cat_collections.specs.Table.{Text}
use Rattle.cat_layers.specs.Layered.{layered}
use Rattle.cat_io.specs.Lines.{lines as lines_of}
use Rattle.cat_io.specs.Runs.{after_lines, replies}
use Rattle.cat_io.specs.Word.{Word, plain}
use Rattle.cat_model.specs.declared.types.OrphanRule.{OrphanRule}
use Rattle.cat_model.specs.declared.types.OrphanRule.TheVariants.{Keep}
use Rattle.cat_session_model.specs.Program.{program_settings, session_start}
use Rattle.cat_session_model.specs.Session.{session_after, session_reply}
use Rattle.cat_session_model.specs.declared.state.SessionState.{SessionState}

-- no line lacks memory
abbrev pub plainly : List Text → List Word
plainly lines = map (λ line. plain) lines

-- what the program says under a rule for orphans to the lines, of which none lacks memory
abbrev pub said_under : OrphanRule → List Text → List ℕ
said_under rule lines = replies (session_after layered (program_settings rule)) (session_reply layered (program_settings rule)) session_start lines (plainly lines)

-- what the program says to the lines, each with its word
abbrev pub said_with : List Word → List Text → List ℕ
said_with words lines = replies (session_after layered (program_settings Keep)) (session_reply layered (program_settings Keep)) session_start lines words

-- what the program says to the lines, of which none lacks memory
abbrev pub said : List Text → List ℕ
said lines = said_with (plainly lines) lines

-- what the program says to the lines of the bytes, of which none lacks memory
abbrev pub said_by : List ℕ → List ℕ
said_by bytes = said (lines_of bytes)

-- the session after the lines, of which none lacks memory
abbrev pub reached : List Text → SessionState
reached lines = after_lines (session_after layered (program_settings Keep)) session_start lines (plainly lines)

-- the texts one after the other, each with an LF at its end
abbrev pub printed : List Text → List ℕ
printed [] = []
printed (line ∷ lines) = line ++ 10 ∷ printed lines

-- the mutation of the first example, which gives one component
abbrev pub first_line : Text
first_line = codes "full git {\"serial\":1,\"entities\":[{\"entity\":{\"apiVersion\":\"backstage.io/v1alpha1\",\"kind\":\"Component\",\"metadata\":{\"name\":\"Web\"},\"spec\":{\"type\":\"service\",\"lifecycle\":\"production\",\"owner\":\"Team-A\"}}}]}"
