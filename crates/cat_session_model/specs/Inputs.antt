-- What a catalogue was given: the serial and items of each provider and the shelf, as the commands that were accepted fold it.
use Rattle.std.specs.Prelude.{ℕ, cond, nat_lt, is_none, List, [], ◌∷◌, ◌++◌}
use Rattle.std.specs.declared.option.Option.{Option}
use Rattle.std.specs.declared.option.Option.TheVariants.{None, Some}
use Rattle.std.specs.declared.result.Result.{Result}
use Rattle.std.specs.declared.result.Result.TheVariants.{Ok, Err}
use Rattle.cat_collections.specs.Table.{Map, Text, get, put, text_cmp}
use Rattle.cat_session_lines.specs.Lines.{line_of}
use Rattle.cat_session_lines.specs.declared.fault.LineFault.{LineFault}
use Rattle.cat_session_lines.specs.declared.line.Line.{Line}
use Rattle.cat_session_lines.specs.declared.line.Line.TheVariants as asks
use Rattle.cat_io.specs.Runs.{line_after}
use Rattle.cat_io.specs.Word.{Word, plain, memory, cut, unkept, cut_unkept}
use Rattle.cat_model.specs.Catalogue.{Rules}
use Rattle.cat_model.specs.Given.{given}
use Rattle.cat_model.specs.Step.{Event, items_after, refusal, source_at, without_key}
use Rattle.cat_model.specs.Step.Event.{Mutate, ShelfPut, ShelfDrop}
use Rattle.cat_model.specs.declared.types.Given.{Given}
use Rattle.cat_model.specs.declared.types.ProviderInputs.{ProviderInputs}
use Rattle.cat_model.specs.declared.types.Settings.{Settings}
use Rattle.cat_model.specs.declared.types.State.{State}
use Rattle.cat_session_model.specs.Session.{session_after}
use Rattle.cat_session_model.specs.declared.state.SessionState.{SessionState}

-- the serial and items of each provider, and the shelf
pub record Inputs : Type 0 where
  pub providers : Map ProviderInputs
  pub shelf : Map Text

-- the inputs that a catalogue has
abbrev pub inputs_of : State → Inputs
inputs_of m = record { providers = m.providers; shelf = m.shelf }

-- a provider's inputs are those after a mutation, which acts where its serial is above the last one
abbrev pub mutated_inputs : Text → Given → ProviderInputs → Inputs → Inputs
mutated_inputs p x source i =
    cond (nat_lt source.serial x.serial)
    (record i { providers = put text_cmp p (record { serial = x.serial; items = items_after x source.items }) i.providers })
    i

-- the inputs after a command that is accepted; all but mutations and what is put and dropped leaves them
abbrev pub inputs_after : Event → Inputs → Inputs
inputs_after (Mutate p x) i = mutated_inputs p x (source_at (get i.providers p)) i
inputs_after (ShelfPut name text) i = record i { shelf = put text_cmp name text i.shelf }
inputs_after (ShelfDrop name) i = record i { shelf = without_key name i.shelf }
inputs_after e i = i

-- the inputs after commands, one after the other
abbrev pub inputs_fold : List Event → Inputs → Inputs
inputs_fold [] i = i
inputs_fold (e ∷ es) i = inputs_fold es (inputs_after e i)

-- ---- the commands that are accepted

-- the mutation, or the change of the shelf, that a line is
abbrev pub command_of : Line → Option Event
command_of (asks.Mutate provider mutation) = Some (Mutate provider (given provider mutation))
command_of (asks.ShelfPut name text) = Some (ShelfPut name text)
command_of (asks.ShelfDrop name) = Some (ShelfDrop name)
command_of line = None

-- a command is accepted where the catalogue doesn't refuse it
abbrev pub unrefused : Rules → Settings → State → Option Event → List Event
unrefused rules s m None = []
unrefused rules s m (Some e) = cond (is_none (refusal rules s e m)) (e ∷ []) []

-- the accepted command of a line that has a reading
abbrev pub accepted_of : Rules → Settings → State → Result Line LineFault → List Event
accepted_of rules s m (Ok line) = unrefused rules s m (command_of line)
accepted_of rules s m (Err fault) = []

-- the command of a line, if it is accepted: a line that lacks memory isn't
abbrev pub accepted_at : Rules → Settings → State → Word → List ℕ → List Event
accepted_at rules s m plain line = accepted_of rules s m (line_of line)
accepted_at rules s m memory line = []
accepted_at rules s m (cut n) line = accepted_of rules s m (line_of line)
accepted_at rules s m unkept line = accepted_of rules s m (line_of line)
accepted_at rules s m (cut_unkept n) line = accepted_of rules s m (line_of line)

-- the accepted commands of lines, each with its word
abbrev pub accepted_commands : Rules → Settings → SessionState → List (List ℕ) → List Word → List Event
accepted_commands rules s m [] words = []
accepted_commands rules s m (line ∷ lines) [] = []
accepted_commands rules s m (line ∷ lines) (word ∷ words) =
    accepted_at rules s m.state word line ++ accepted_commands rules s (line_after (session_after rules s) m word line) lines words
