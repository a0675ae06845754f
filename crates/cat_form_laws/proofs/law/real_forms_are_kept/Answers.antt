use Rattle.std.proofs.Common.{◌≡◌, ℕ, List, Ok}
use Rattle.cat_layers.specs.Layered.{layered}
use Rattle.cat_session_lines.specs.Lines.{line_of}
use Rattle.cat_session_lines.specs.declared.line.Line.{Line}
use Rattle.cat_session_lines.specs.declared.line.Line.TheVariants as line
use Rattle.cat_session_model.specs.Program.{session_start}
use Rattle.cat_form_laws.specs.Real.{real_forms}
use Rattle.cat_form_laws.proofs.Given.{given_formed}
use Rattle.cat_form_laws.proofs.Ready.{IsReadLine, line_ready}
use Rattle.cat_form_laws.proofs.Sessions.{IsFormedLine, lines_stand}
use Rattle.cat_form_laws.proofs.Stored.{Holds, start_holds}
use Rattle.cat_io.specs.Runs.{after_lines}
use Rattle.cat_io.specs.Word.{Word}
use Rattle.cat_model.specs.declared.types.Settings.{Settings}
use Rattle.cat_layers.proofs.Forms.{entity_is}
use Rattle.cat_session_model.specs.Session.{session_after}
use Rattle.cat_form_laws.proofs.law.real_forms_are_kept.Goals as goal

pub returns-clause-given : goal.returns-clause-given
returns-clause-given c p m ready proper = given_formed p m ready.0 ready.1 proper

read_is_formed : (l : Line) → IsReadLine l → IsFormedLine real_forms l
read_is_formed (line.Mutate p m) h = given_formed p m h.ready.0 h.ready.1 h.proper
read_is_formed (line.ShelfPut name text) h = h.ready
read_is_formed (line.ShelfDrop name) h = tt
read_is_formed (line.Refresh r) h = tt
read_is_formed (line.Forget r) h = tt
read_is_formed (line.Clock n) h = tt
read_is_formed line.Take h = tt
read_is_formed (line.Finish n) h = tt
read_is_formed (line.Stitch n) h = tt
read_is_formed (line.Place n) h = tt
read_is_formed line.Settle h = tt
read_is_formed (line.Ask ask) h = tt

line_is_formed : (bytes : List ℕ) (l : Line) → line_of bytes ≡ Ok l → IsFormedLine real_forms l
line_is_formed bytes l e = read_is_formed l (line_ready bytes l e)

every_line : (settings : Settings) (lines : List (List ℕ)) (words : List Word) → Holds layered real_forms (after_lines (session_after layered settings) session_start lines words).state
every_line settings lines words = lines_stand layered real_forms settings line_is_formed session_start lines words (start_holds layered real_forms settings)

pub returns-clause-sessions : goal.returns-clause-sessions
returns-clause-sessions c settings lines words = (every_line settings lines words).formed

pub returns-clause-small : goal.returns-clause-small
returns-clause-small c settings lines words = (every_line settings lines words).small

pub returns-clause-documents : goal.returns-clause-documents
returns-clause-documents c settings lines words r d e =
    let x = (every_line settings lines words).documents r d e in
    record { parts = x.parts; entity = entity_is x.parts.entity r x.are.entity; number = x.are.number; document_is = x.document }
