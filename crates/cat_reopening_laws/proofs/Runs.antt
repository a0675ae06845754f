-- What is asked of a state before its rows must open goes on holding over the lines of a session that is kept.
use Rattle.std.proofs.Common.{◌≡◌, ℕ, Bool, true, false, if◌then◌else◌, List, refl}
use Rattle.std.specs.declared.option.Option.{Option}
use Rattle.std.specs.declared.option.Option.TheVariants.{None, Some}
use Rattle.std.specs.declared.result.Result.{Result}
use Rattle.std.specs.declared.result.Result.TheVariants.{Ok, Err}
use Rattle.std.specs.Ordering.{nat_cmp}
use Rattle.cat_collections.specs.Table.{find}
use Rattle.cat_session_lines.specs.Lines.{line_of}
use Rattle.cat_session_lines.specs.declared.fault.LineFault.{LineFault}
use Rattle.cat_session_lines.specs.declared.line.Line.{Line}
use Rattle.cat_session_lines.specs.declared.line.Line.TheVariants as asks
use Rattle.cat_form_laws.proofs.Given.{given_formed}
use Rattle.cat_form_laws.proofs.Ready.{IsReadLine, line_ready}
use Rattle.cat_stored_session.specs.Kept.{kept_after, may_be_cut, may_be_refused, one_refused}
use Rattle.cat_stored_session.specs.declared.state.KeptState.{KeptState}
use Rattle.cat_layers.specs.Layered.{layered}
use Rattle.cat_io.proofs.Keeping.{Keeps, after_lines-keeps}
use Rattle.cat_io.specs.Runs.{after_lines}
use Rattle.cat_io.specs.Word.{Word, plain, memory, cut, unkept, cut_unkept}
use Rattle.cat_model.specs.Given.{given}
use Rattle.cat_model.specs.Reply.{next_stitch}
use Rattle.cat_model.specs.Step.Event.{Mutate, ShelfPut, ShelfDrop, Refresh, Forget, Take, Finish, PutStitch}
use Rattle.cat_model.specs.declared.types.Order.{Order}
use Rattle.cat_model.specs.declared.types.OrphanRule.{OrphanRule}
use Rattle.cat_model.specs.declared.types.Settings.{Settings}
use Rattle.cat_model.specs.declared.types.StitchOrder.{StitchOrder}
use Rattle.cat_session_model.specs.Program.{program_settings, ruled_after}
use Rattle.cat_session_model.specs.Session.{after_finish, after_place, after_reading, after_result, limit_of, order_numbered, session_after, with_stitch}
use Rattle.cat_session_model.specs.declared.state.SessionState.{SessionState}
use Rattle.cat_reopening_laws.proofs.Lasts.{Lasts, event_lasts, settle_lasts}

module _ (rule : OrphanRule) where
  abbrev settings : Settings
  settings = program_settings rule

  handed : (o : Option StitchOrder) (m : SessionState) → Lasts m.state → Lasts (with_stitch o m).state
  handed None m h = h
  handed (Some x) m h = h

  brought : (o : Option Order) (m : SessionState) → Lasts m.state → Lasts (after_finish layered settings o m).state
  brought None m h = h
  brought (Some x) m h = event_lasts rule (Finish x m.now) m.state tt h

  placed : (o : Option StitchOrder) (m : SessionState) → Lasts m.state → Lasts (after_place layered settings o m).state
  placed None m h = h
  placed (Some x) m h = event_lasts rule (PutStitch x) m.state tt h

  carried : (w : Word) (line : Line) (m : SessionState) → IsReadLine line → Lasts m.state → Lasts (after_reading layered settings w line m).state
  carried w (asks.Mutate p x) m g h = event_lasts rule (Mutate p (given p x)) m.state (given_formed p x g.ready.0 g.ready.1 g.proper) h
  carried w (asks.ShelfPut name text) m g h = event_lasts rule (ShelfPut name text) m.state g.ready h
  carried w (asks.ShelfDrop name) m g h = event_lasts rule (ShelfDrop name) m.state tt h
  carried w (asks.Refresh r) m g h = event_lasts rule (Refresh r) m.state tt h
  carried w (asks.Forget r) m g h = event_lasts rule (Forget r) m.state tt h
  carried w (asks.Clock now) m g h = h
  carried w asks.Take m g h = event_lasts rule (Take m.now) m.state tt h
  carried w (asks.Finish token) m g h = brought (order_numbered token m.orders) m h
  carried w (asks.Stitch after) m g h = handed (next_stitch layered m.state after) m h
  carried w (asks.Place ticket) m g h = placed (find nat_cmp ticket m.stitches) m h
  carried w asks.Settle m g h = settle_lasts rule m.now (limit_of w) m.state h
  carried w (asks.Ask ask) m g h = h

  resulted : (w : Word) (bytes : List ℕ) (o : Result Line LineFault) (m : SessionState) → line_of bytes ≡ o → Lasts m.state → Lasts (after_result layered settings w o m).state
  resulted w bytes (Ok line) m e h = carried w line m (line_ready bytes line e) h
  resulted w bytes (Err fault) m e h = h

  line_lasts : (m : SessionState) (w : Word) (bytes : List ℕ) → Lasts m.state → Lasts (session_after layered settings m w bytes).state
  unfolding session_after
  line_lasts m w bytes h = resulted w bytes (line_of bytes) m refl h

-- ---- a session that is kept

abbrev KeptLasts : KeptState → Type 0
KeptLasts m = Lasts m.ruled.session.state

keeps : Keeps (kept_after layered) KeptLasts
keeps m plain line h = line_lasts m.ruled.orphans m.ruled.session plain line h
keeps m memory line h = line_lasts m.ruled.orphans m.ruled.session memory line h
keeps m (cut n) line h = line_lasts m.ruled.orphans m.ruled.session (cut n) line h
keeps m unkept line h = go (may_be_refused (line_of line))
  where
    go : (b : Bool) → KeptLasts (if b then one_refused m.ruled m else record m { ruled = ruled_after layered m.ruled plain line })
    go true = h
    go false = line_lasts m.ruled.orphans m.ruled.session plain line h
keeps m (cut_unkept n) line h = go (may_be_cut (line_of line))
  where
    go : (b : Bool) → KeptLasts (if b then one_refused (ruled_after layered m.ruled (cut 1) line) m else record m { ruled = ruled_after layered m.ruled plain line })
    go true = line_lasts m.ruled.orphans m.ruled.session (cut 1) line h
    go false = line_lasts m.ruled.orphans m.ruled.session plain line h

pub lines_last : (m : KeptState) (lines : List (List ℕ)) (words : List Word) → KeptLasts m → KeptLasts (after_lines (kept_after layered) m lines words)
lines_last m lines words h = after_lines-keeps (kept_after layered) KeptLasts keeps m h lines words
