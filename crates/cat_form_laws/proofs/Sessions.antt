-- What a session's catalogue keeps has its form.
use Rattle.std.proofs.Common.{◌≡◌, ℕ, Bool, true, false, nat_lt, if◌then◌else◌, List, [], ◌∷◌, length, refl}
use Rattle.std.specs.declared.option.Option.{Option}
use Rattle.std.specs.declared.option.Option.TheVariants.{None, Some}
use Rattle.std.specs.declared.result.Result.{Result}
use Rattle.std.specs.declared.result.Result.TheVariants.{Ok, Err}
use Rattle.std.specs.Ordering.{nat_cmp}
use Rattle.cat_collections.specs.Table.{find}
use Rattle.cat_io.specs.Word.{Word, plain, memory, cut, unkept, cut_unkept}
use Rattle.cat_io.specs.Runs.{line_after, after_lines}
use Rattle.cat_io.specs.Lines.{longest_line}
use Rattle.cat_session_lines.specs.Lines.{line_of}
use Rattle.cat_session_lines.specs.declared.line.Line.{Line}
use Rattle.cat_session_lines.specs.declared.line.Line.TheVariants as asks
use Rattle.cat_session_lines.specs.declared.fault.LineFault.{LineFault}
use Rattle.cat_model.specs.Catalogue.{Rules}
use Rattle.cat_model.specs.Formed.{FormRules, IsFormedGiven}
use Rattle.cat_model.specs.Given.{given}
use Rattle.cat_model.specs.Reply.{next_stitch}
use Rattle.cat_model.specs.Step.Event.{Mutate, ShelfPut, ShelfDrop, Refresh, Forget, Take, Finish, PutStitch}
use Rattle.cat_model.specs.declared.types.Order.{Order}
use Rattle.cat_model.specs.declared.types.Settings.{Settings}
use Rattle.cat_model.specs.declared.types.StitchOrder.{StitchOrder}
use Rattle.cat_session_model.specs.Session.{after_finish, after_place, after_reading, after_result, limit_of, order_numbered, session_after, with_stitch}
use Rattle.cat_session_model.specs.declared.state.SessionState.{SessionState}
use Rattle.cat_form_laws.proofs.Stored.{Holds, step_holds, settle_holds}

-- what a command gives has its form
abbrev pub IsFormedLine : {rules : Rules} → FormRules rules → Line → Type 0
IsFormedLine form (asks.Mutate p x) = IsFormedGiven form p (given p x)
IsFormedLine form (asks.ShelfPut name text) = form.is_shelf_name name ≡ true
IsFormedLine form _ = Unit {0}

module _ (rules : Rules) (form : FormRules rules) (s : Settings) where
  -- all that is kept has its form
  abbrev pub Stands : SessionState → Type 0
  Stands m = Holds rules form m.state

  handed : (o : Option StitchOrder) (m : SessionState) → Stands m → Stands (with_stitch o m)
  handed None m h = h
  handed (Some x) m h = h

  brought : (o : Option Order) (m : SessionState) → Stands m → Stands (after_finish rules s o m)
  brought None m h = h
  brought (Some x) m h = step_holds rules form s (Finish x m.now) m.state tt h

  placed : (o : Option StitchOrder) (m : SessionState) → Stands m → Stands (after_place rules s o m)
  placed None m h = h
  placed (Some x) m h = step_holds rules form s (PutStitch x) m.state tt h

  carried : (w : Word) (line : Line) (m : SessionState) → IsFormedLine form line → Stands m → Stands (after_reading rules s w line m)
  carried w (asks.Mutate p x) m g h = step_holds rules form s (Mutate p (given p x)) m.state g h
  carried w (asks.ShelfPut name text) m g h = step_holds rules form s (ShelfPut name text) m.state g h
  carried w (asks.ShelfDrop name) m g h = step_holds rules form s (ShelfDrop name) m.state tt h
  carried w (asks.Refresh r) m g h = step_holds rules form s (Refresh r) m.state tt h
  carried w (asks.Forget r) m g h = step_holds rules form s (Forget r) m.state tt h
  carried w (asks.Clock now) m g h = h
  carried w asks.Take m g h = step_holds rules form s (Take m.now) m.state tt h
  carried w (asks.Finish token) m g h = brought (order_numbered token m.orders) m h
  carried w (asks.Stitch after) m g h = handed (next_stitch rules m.state after) m h
  carried w (asks.Place ticket) m g h = placed (find nat_cmp ticket m.stitches) m h
  carried w asks.Settle m g h = settle_holds rules form s m.now (limit_of w) m.state h
  carried w (asks.Ask ask) m g h = h

  module _ (gives : (bytes : List ℕ) (line : Line) → line_of bytes ≡ Ok line → IsFormedLine form line) where
    resulted : (w : Word) (bytes : List ℕ) (o : Result Line LineFault) (m : SessionState) → line_of bytes ≡ o → Stands m → Stands (after_result rules s w o m)
    resulted w bytes (Ok line) m e h = carried w line m (gives bytes line e) h
    resulted w bytes (Err fault) m e h = h

    after_stands : (m : SessionState) (w : Word) (bytes : List ℕ) → Stands m → Stands (session_after rules s m w bytes)
    unfolding session_after
    after_stands m w bytes h = resulted w bytes (line_of bytes) m refl h

    either_stands : (b : Bool) (m n : SessionState) → Stands m → Stands n → Stands (if b then m else n)
    either_stands true m n h k = h
    either_stands false m n h k = k

    line_stands : (m : SessionState) (w : Word) (bytes : List ℕ) → Stands m → Stands (line_after (session_after rules s) m w bytes)
    unfolding line_after
    line_stands m plain bytes h = either_stands (nat_lt longest_line (length bytes)) m _ h (after_stands m plain bytes h)
    line_stands m memory bytes h = h
    line_stands m (cut n) bytes h = either_stands (nat_lt longest_line (length bytes)) m _ h (after_stands m (cut n) bytes h)
    line_stands m unkept bytes h = either_stands (nat_lt longest_line (length bytes)) m _ h (after_stands m unkept bytes h)
    line_stands m (cut_unkept i) bytes h = either_stands (nat_lt longest_line (length bytes)) m _ h (after_stands m (cut_unkept i) bytes h)

    pub lines_stand : (m : SessionState) (lines : List (List ℕ)) (words : List Word) → Stands m → Stands (after_lines (session_after rules s) m lines words)
    lines_stand m [] words h = h
    lines_stand m (line ∷ lines) [] h = h
    lines_stand m (line ∷ lines) (w ∷ words) h = lines_stand (line_after (session_after rules s) m w line) lines words (line_stands m w line h)
