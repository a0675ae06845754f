-- The inputs of a catalogue are the fold of the commands that it accepts.
use Rattle.std.proofs.Common.{◌≡◌, ℕ, Bool, true, false, cond, ◌||◌, nat_lt, is_none, is_some, if◌then◌else◌, List, [], ◌∷◌, ◌++◌, length, refl, sym, ap, ◌∙◌}
use Rattle.std.specs.declared.option.Option.{Option}
use Rattle.std.specs.declared.option.Option.TheVariants.{None, Some}
use Rattle.std.specs.declared.result.Result.{Result}
use Rattle.std.specs.declared.result.Result.TheVariants.{Ok, Err}
use Rattle.std.specs.Ordering.{nat_cmp}
use Rattle.cat_collections.specs.Table.{Text, find, get}
use Rattle.cat_model.specs.Catalogue.{Ref, Rules}
use Rattle.cat_model.specs.Given.{given}
use Rattle.cat_model.specs.Reply.{next_stitch}
use Rattle.cat_model.specs.Settle.{AreSettleEvents, IsSettleEvent, not_begun, try_settle, width}
use Rattle.cat_model.specs.Step.{Event, change, finish, forget, forget_at, is_present, is_present_stitch, next_taken, or_else, ref_at, refresh, refusal, run, source_at, step, take, take_next}
use Rattle.cat_model.specs.Step.Event.{Mutate, ShelfPut, ShelfDrop, Refresh, Forget, ForgetNumber, Take, TakeAt, Finish, PutStitch}
use Rattle.cat_model.specs.declared.types.Fault.{Fault}
use Rattle.cat_model.specs.declared.types.Order.{Order}
use Rattle.cat_model.specs.declared.types.Progress.{Progress}
use Rattle.cat_model.specs.declared.types.Record.{Record}
use Rattle.cat_model.specs.declared.types.Settings.{Settings}
use Rattle.cat_model.specs.declared.types.State.{State}
use Rattle.cat_model.specs.declared.types.StitchOrder.{StitchOrder}
use Rattle.cat_laws.proofs.Cut.{Extends, exec_extends, fits_settle}
use Rattle.cat_laws.proofs.Plan.{exec_settle, settle_plan}
use Rattle.cat_session_lines.specs.Lines.{line_of}
use Rattle.cat_session_lines.specs.declared.fault.LineFault.{LineFault}
use Rattle.cat_session_lines.specs.declared.fault.LineFault.TheVariants.{LongLine}
use Rattle.cat_session_lines.specs.declared.line.Line.{Line}
use Rattle.cat_session_lines.specs.declared.line.Line.TheVariants as asks
use Rattle.cat_io.specs.Lines.{longest_line}
use Rattle.cat_io.specs.Runs.{line_after, after_lines}
use Rattle.cat_io.specs.Word.{Word, plain, memory, cut, unkept, cut_unkept}
use Rattle.cat_session_model.specs.Inputs.{Inputs, accepted_at, accepted_commands, accepted_of, command_of, inputs_after, inputs_fold, inputs_of, unrefused}
use Rattle.cat_session_model.specs.Session.{after_finish, after_place, after_reading, after_result, limit_of, order_numbered, session_after, with_stitch}
use Rattle.cat_session_model.specs.declared.state.SessionState.{SessionState}

-- the inputs of m are those of n
abbrev Same : State → State → Type 0
Same m n = inputs_of n ≡ inputs_of m

either_same : (b : Bool) (m n : State) → Same m n → Same m (cond b n m)
either_same true m n h = h
either_same false m n h = refl

-- one list of commands after another
inputs_fold-append : (es fs : List Event) (i : Inputs) → inputs_fold (es ++ fs) i ≡ inputs_fold fs (inputs_fold es i)
inputs_fold-append [] fs i = refl
inputs_fold-append (e ∷ es) fs i = inputs_fold-append es fs (inputs_after e i)

-- a line that is too long says nothing
long_reads : (line : List ℕ) → nat_lt longest_line (length line) ≡ true → line_of line ≡ Err LongLine
unfolding line_of
long_reads line long = rw long refl

module _ (rules : Rules) (s : Settings) where
  -- ---- one event

  mutate_fold : (b : Bool) (m n : State) (i : Inputs) → inputs_of n ≡ i → inputs_of (cond b n m) ≡ cond b i (inputs_of m)
  mutate_fold true m n i h = h
  mutate_fold false m n i h = refl

  drop_acts : (v : Option Text) (m n : State) (fault : Fault) (other : Option Fault) → or_else (cond (is_none v) (Some fault) None) other ≡ None → cond (is_some v) n m ≡ n
  drop_acts (Some x) m n fault other h = refl
  drop_acts None m n fault other h = absurd cc

  refresh_same : (r : Ref) (m : State) (v : Option Record) → Same m (refresh r m v)
  refresh_same r m None = refl
  refresh_same r m (Some x) = refl

  take_same : (r : Ref) (now : ℕ) (m : State) (v : Option Record) → Same m (take s r now m v)
  take_same r now m None = refl
  take_same r now m (Some x) = refl

  take_next_same : (now : ℕ) (m : State) (v : Option Ref) → Same m (take_next s now m v)
  take_next_same now m None = refl
  take_next_same now m (Some r) = take_same r now m (get m.records r)

  forget_same : (r : Ref) (m : State) → Same m (forget rules r m)
  forget_same r m = either_same (is_some (get m.records r) || is_some (get m.orphans r)) m _ refl

  forget_at_same : (m : State) (v : Option Ref) → Same m (forget_at rules m v)
  forget_at_same m None = refl
  forget_at_same m (Some r) = forget_same r m

  finish_same : (order : Order) (now : ℕ) (m : State) (v : Option Record) → Same m (finish rules s order now m v)
  finish_same order now m None = refl
  finish_same order now m (Some x) = either_same (is_present rules m order x) m _ refl

  -- an event that isn't refused leads to the inputs after it
  change_fold : (e : Event) (m : State) → refusal rules s e m ≡ None → inputs_of (change rules s e m) ≡ inputs_after e (inputs_of m)
  change_fold (Mutate p x) m h = mutate_fold (nat_lt (source_at (get m.providers p)).serial x.serial) m _ _ refl
  change_fold (ShelfPut name text) m h = refl
  change_fold (ShelfDrop name) m h = ap inputs_of (drop_acts (get m.shelf name) m _ _ _ h)
  change_fold (Refresh r) m h = refresh_same r m (get m.records r)
  change_fold (Forget r) m h = forget_same r m
  change_fold (ForgetNumber number) m h = forget_at_same m (ref_at m number)
  change_fold (Take now) m h = take_next_same now m (next_taken now m)
  change_fold (TakeAt r now) m h = take_same r now m (get m.records r)
  change_fold (Finish order now) m h = finish_same order now m (get m.records order.reference)
  change_fold (PutStitch order) m h = either_same (is_present_stitch rules m order) m _ refl

  step_fold : (e : Event) (m : State) → inputs_of (step rules s e m) ≡ inputs_fold (unrefused rules s m (Some e)) (inputs_of m)
  unfolding step
  step_fold e m = go (refusal rules s e m) refl
    where
      go : (v : Option Fault) → refusal rules s e m ≡ v → inputs_of (cond (is_some v) m (change rules s e m)) ≡ inputs_fold (cond (is_none v) (e ∷ []) []) (inputs_of m)
      go None h = change_fold e m h
      go (Some fault) h = refl

  -- an event that is no command leaves the inputs
  left : (e : Event) (m : State) → ((i : Inputs) → inputs_after e i ≡ i) → Same m (step rules s e m)
  left e m stays = step_fold e m ∙ go (refusal rules s e m)
    where
      go : (v : Option Fault) → inputs_fold (cond (is_none v) (e ∷ []) []) (inputs_of m) ≡ inputs_of m
      go None = stays (inputs_of m)
      go (Some fault) = refl

  -- ---- a settle

  settle_event_same : (now : ℕ) (e : Event) (m : State) → IsSettleEvent rules now m e → Same m (step rules s e m)
  settle_event_same now (Mutate p x) m is = absurd is
  settle_event_same now (ShelfPut name text) m is = absurd is
  settle_event_same now (ShelfDrop name) m is = absurd is
  settle_event_same now (Refresh r) m is = absurd is
  settle_event_same now (Forget r) m is = absurd is
  settle_event_same now (ForgetNumber number) m is = absurd is
  settle_event_same now (Take moment) m is = absurd is
  settle_event_same now (TakeAt r moment) m is = left (TakeAt r moment) m (λ i. refl)
  settle_event_same now (Finish x moment) m is = left (Finish x moment) m (λ i. refl)
  settle_event_same now (PutStitch x) m is = left (PutStitch x) m (λ i. refl)

  settle_events_same : (now : ℕ) (es : List Event) (m : State) → AreSettleEvents rules s now m es → Same m (run rules s es m)
  settle_events_same now [] m are = refl
  settle_events_same now (e ∷ es) m are = settle_events_same now es (step rules s e m) are.2 ∙ settle_event_same now e m are.0

  settle_same : (now : ℕ) (limit : Option ℕ) (m : State) → Same m (try_settle rules s now limit m).state
  settle_same now limit m =
      ap (λ (p : Progress). inputs_of p.state) (sym (exec_settle rules s now limit m))
      ∙ extended (exec_extends rules s now limit (settle_plan rules s now (width rules m)) (fits_settle rules s now (width rules m)) (not_begun m))
    where
      extended : {p : Progress} → Extends rules s now (not_begun m) p → Same m p.state
      extended x = ap inputs_of x.state ∙ settle_events_same now x.events m x.are

  -- ---- a line

  handed : (o : Option StitchOrder) (m : SessionState) → Same m.state (with_stitch o m).state
  handed None m = refl
  handed (Some x) m = refl

  brought : (o : Option Order) (m : SessionState) → Same m.state (after_finish rules s o m).state
  brought None m = refl
  brought (Some x) m = left (Finish x m.now) m.state (λ i. refl)

  placed : (o : Option StitchOrder) (m : SessionState) → Same m.state (after_place rules s o m).state
  placed None m = refl
  placed (Some x) m = left (PutStitch x) m.state (λ i. refl)

  carried : (w : Word) (line : Line) (m : SessionState) → inputs_of (after_reading rules s w line m).state ≡ inputs_fold (unrefused rules s m.state (command_of line)) (inputs_of m.state)
  carried w (asks.Mutate p x) m = step_fold (Mutate p (given p x)) m.state
  carried w (asks.ShelfPut name text) m = step_fold (ShelfPut name text) m.state
  carried w (asks.ShelfDrop name) m = step_fold (ShelfDrop name) m.state
  carried w (asks.Refresh r) m = left (Refresh r) m.state (λ i. refl)
  carried w (asks.Forget r) m = left (Forget r) m.state (λ i. refl)
  carried w (asks.Clock now) m = refl
  carried w asks.Take m = left (Take m.now) m.state (λ i. refl)
  carried w (asks.Finish token) m = brought (order_numbered token m.orders) m
  carried w (asks.Stitch after) m = handed (next_stitch rules m.state after) m
  carried w (asks.Place ticket) m = placed (find nat_cmp ticket m.stitches) m
  carried w asks.Settle m = settle_same m.now (limit_of w) m.state
  carried w (asks.Ask ask) m = refl

  resulted : (w : Word) (o : Result Line LineFault) (m : SessionState) → inputs_of (after_result rules s w o m).state ≡ inputs_fold (accepted_of rules s m.state o) (inputs_of m.state)
  resulted w (Ok line) m = carried w line m
  resulted w (Err fault) m = refl

  after_fold : (m : SessionState) (w : Word) (line : List ℕ) → inputs_of (session_after rules s m w line).state ≡ inputs_fold (accepted_of rules s m.state (line_of line)) (inputs_of m.state)
  unfolding session_after
  after_fold m w line = resulted w (line_of line) m

  -- a line that is too long is no command
  long_fold : (m : SessionState) (line : List ℕ) → nat_lt longest_line (length line) ≡ true → inputs_of m.state ≡ inputs_fold (accepted_of rules s m.state (line_of line)) (inputs_of m.state)
  long_fold m line long = ap (λ o. inputs_fold (accepted_of rules s m.state o) (inputs_of m.state)) (sym (long_reads line long))

  either_fold : (m : SessionState) (w : Word) (line : List ℕ) (b : Bool) → nat_lt longest_line (length line) ≡ b
      → inputs_of (if b then m else session_after rules s m w line).state ≡ inputs_fold (accepted_of rules s m.state (line_of line)) (inputs_of m.state)
  either_fold m w line true long = long_fold m line long
  either_fold m w line false short = after_fold m w line

  line_fold : (m : SessionState) (w : Word) (line : List ℕ) → inputs_of (line_after (session_after rules s) m w line).state ≡ inputs_fold (accepted_at rules s m.state w line) (inputs_of m.state)
  unfolding line_after
  line_fold m plain line = either_fold m plain line (nat_lt longest_line (length line)) refl
  line_fold m memory line = refl
  line_fold m (cut n) line = either_fold m (cut n) line (nat_lt longest_line (length line)) refl
  line_fold m unkept line = either_fold m unkept line (nat_lt longest_line (length line)) refl
  line_fold m (cut_unkept i) line = either_fold m (cut_unkept i) line (nat_lt longest_line (length line)) refl

  pub lines_fold : (m : SessionState) (lines : List (List ℕ)) (words : List Word) → inputs_of (after_lines (session_after rules s) m lines words).state ≡ inputs_fold (accepted_commands rules s m lines words) (inputs_of m.state)
  lines_fold m [] words = refl
  lines_fold m (line ∷ lines) [] = refl
  lines_fold m (line ∷ lines) (w ∷ words) =
      let n = line_after (session_after rules s) m w line in
      lines_fold n lines words
      ∙ (ap (inputs_fold (accepted_commands rules s n lines words)) (line_fold m w line)
      ∙ sym (inputs_fold-append (accepted_at rules s m.state w line) (accepted_commands rules s n lines words) (inputs_of m.state)))
