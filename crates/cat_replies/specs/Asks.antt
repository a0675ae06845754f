-- What a question to the catalogue is answered.
use Rattle.std.specs.Prelude.{ℕ, List, [], ◌∷◌}
use Rattle.std.specs.declared.option.Option.{Option}
use Rattle.std.specs.declared.option.Option.TheVariants.{None, Some}
use Rattle.std.specs.declared.result.Result.{Result}
use Rattle.std.specs.declared.result.Result.TheVariants.{Ok, Err}
use Rattle.std.specs.Option.{option_and_then}
use Rattle.cat_tree.specs.Data.{Data}
use Rattle.cat_tree.specs.Text.{text_of}
use Rattle.cat_collections.specs.Table.{get}
use Rattle.cat_query.specs.Answers.{facets_answer, list_data, many_data, page_data}
use Rattle.cat_query.specs.declared.ask.Ask.{Ask}
use Rattle.cat_query.specs.declared.ask.Ask.TheVariants as ask
use Rattle.cat_model.specs.declared.types.Fault.TheVariants.{NotFound}
use Rattle.cat_model.specs.declared.types.State.{State}
use Rattle.cat_model.specs.Reply.{is_quiet, state_counts}
use Rattle.cat_model.specs.Step.{ref_at}
use Rattle.cat_replies.specs.Events.{counted, quiet, refused}
use Rattle.cat_replies.specs.Faults as faults
use Rattle.cat_replies.specs.Line.{line}
use Rattle.cat_replies.specs.Lists.{conflicts_listed, failures_listed, orphans_listed}

-- why a question has no answer: what it names has no document, or its query names no facet
pub data AskFault : Type 0 where
  not_found : AskFault
  no_facet : AskFault

-- the document of a number, which is the one of the reference that has it
abbrev pub document_numbered : ℕ → State → Option Data
document_numbered number m = option_and_then (get m.documents) (ref_at m number)

-- the text of a tree, or why there is none
abbrev pub text_or : AskFault → Option Data → Result (List ℕ) AskFault
text_or fault None = Err fault
text_or fault (Some tree) = Ok (text_of tree)

-- the answer at a moment, as a text without LF
abbrev pub ask_text : Ask → ℕ → State → Result (List ℕ) AskFault
ask_text (ask.Get reference) now m = text_or not_found (get m.documents reference)
ask_text (ask.Number number) now m = text_or not_found (document_numbered number m)
ask_text (ask.List query) now m = Ok (text_of (list_data query m.documents))
ask_text (ask.Page query) now m = Ok (text_of (page_data query m.documents))
ask_text (ask.Facets query) now m = text_or no_facet (facets_answer query m.documents)
ask_text (ask.Many references fields) now m = Ok (text_of (many_data references fields m.documents))
ask_text ask.Conflicts now m = Ok (text_of (conflicts_listed m))
ask_text ask.Failed now m = Ok (text_of (failures_listed m.records))
ask_text ask.Orphans now m = Ok (text_of (orphans_listed m.orphans))
ask_text ask.State now m = Ok (counted (state_counts m now))
ask_text ask.Quiet now m = Ok (quiet (is_quiet m now))

-- the line of an answer: its text and LF, or the refusal
abbrev pub answered : Result (List ℕ) AskFault → List ℕ
answered (Ok text) = line (text ∷ [])
answered (Err not_found) = refused NotFound
answered (Err no_facet) = faults.no_facet
