-- What events and settles keep, sessions keep.
use Rattle.std.proofs.Common.{◌≡◌, refl, ℕ, Bool, true, false, nat_lt, if◌then◌else◌, List, [], ◌∷◌, length}
use Rattle.std.specs.declared.option.Option.{Option}
use Rattle.std.specs.declared.option.Option.TheVariants.{None, Some}
use Rattle.std.specs.declared.result.Result.{Result}
use Rattle.std.specs.declared.result.Result.TheVariants.{Ok, Err}
use Rattle.std.specs.Ordering.{nat_cmp}
use Rattle.cat_collections.specs.Table.{find}
use Rattle.cat_io.specs.Word.{Word, plain, memory, cut, unkept, cut_unkept}
use Rattle.cat_io.specs.Runs.{line_after, after_lines}
use Rattle.cat_io.specs.Lines.{longest_line}
use Rattle.cat_session_lines.specs.Lines.{line_of}
use Rattle.cat_session_lines.specs.declared.line.Line.{Line}
use Rattle.cat_session_lines.specs.declared.line.Line.TheVariants as asks
use Rattle.cat_session_lines.specs.declared.fault.LineFault.{LineFault}
use Rattle.cat_model.specs.Catalogue.{Rules}
use Rattle.cat_model.specs.Given.{given}
use Rattle.cat_model.specs.Reply.{next_stitch}
use Rattle.cat_model.specs.declared.types.Settings.{Settings}
use Rattle.cat_model.specs.declared.types.State.{State}
use Rattle.cat_model.specs.declared.types.Order.{Order}
use Rattle.cat_model.specs.declared.types.StitchOrder.{StitchOrder}
use Rattle.cat_model.specs.Settle.{try_settle}
use Rattle.cat_model.specs.Step.{Event, step}
use Rattle.cat_model.specs.Step.Event.{Mutate, ShelfPut, ShelfDrop, Refresh, Forget, Take, Finish, PutStitch}
use Rattle.cat_model.specs.Fresh.{facts_of, fresh_docs}
use Rattle.cat_model.specs.Sound.{AreOrdered, Quiet, Sound}
use Rattle.cat_model.specs.declared.types.OrphanRule.TheVariants.{Delete}
use Rattle.cat_laws.proofs.Ordered.{start_ordered, step_ordered}
use Rattle.cat_laws.proofs.Orphans.{just_fresh, settle_makes, settle_ordered, step_makes, still_none}
use Rattle.cat_laws.proofs.Stands.{settle_keeps}
use Rattle.cat_laws.proofs.Steps.{start_kept, step_kept}
use Rattle.cat_session_model.specs.Program.{session_start}
use Rattle.cat_session_model.specs.declared.state.SessionState.{SessionState}
use Rattle.cat_session_model.specs.Session.{after_finish, after_place, after_reading, after_result, limit_of, order_numbered, session_after, with_stitch}

module _ (rules : Rules) (s : Settings) (P : State → Type 0) (steps : (e : Event) (m : State) → P m → P (step rules s e m)) (settles : (now : ℕ) (limit : Option ℕ) (m : State) → P m → P (try_settle rules s now limit m).state) where
  handed : (o : Option StitchOrder) (m : SessionState) → P m.state → P (with_stitch o m).state
  handed None m kept = kept
  handed (Some x) m kept = kept

  brought : (o : Option Order) (m : SessionState) → P m.state → P (after_finish rules s o m).state
  brought None m kept = kept
  brought (Some x) m kept = steps (Finish x m.now) m.state kept

  placed : (o : Option StitchOrder) (m : SessionState) → P m.state → P (after_place rules s o m).state
  placed None m kept = kept
  placed (Some x) m kept = steps (PutStitch x) m.state kept

  carried : (w : Word) (line : Line) (m : SessionState) → P m.state → P (after_reading rules s w line m).state
  carried w (asks.Mutate p x) m kept = steps (Mutate p (given p x)) m.state kept
  carried w (asks.ShelfPut name text) m kept = steps (ShelfPut name text) m.state kept
  carried w (asks.ShelfDrop name) m kept = steps (ShelfDrop name) m.state kept
  carried w (asks.Refresh r) m kept = steps (Refresh r) m.state kept
  carried w (asks.Forget r) m kept = steps (Forget r) m.state kept
  carried w (asks.Clock now) m kept = kept
  carried w asks.Take m kept = steps (Take m.now) m.state kept
  carried w (asks.Finish token) m kept = brought (order_numbered token m.orders) m kept
  carried w (asks.Stitch after) m kept = handed (next_stitch rules m.state after) m kept
  carried w (asks.Place ticket) m kept = placed (find nat_cmp ticket m.stitches) m kept
  carried w asks.Settle m kept = settles m.now (limit_of w) m.state kept
  carried w (asks.Ask ask) m kept = kept

  resulted : (w : Word) (o : Result Line LineFault) (m : SessionState) → P m.state → P (after_result rules s w o m).state
  resulted w (Ok line) m kept = carried w line m kept
  resulted w (Err fault) m kept = kept

  pub after_kept : (m : SessionState) (w : Word) (line : List ℕ) → P m.state → P (session_after rules s m w line).state
  unfolding session_after
  after_kept m w line kept = resulted w (line_of line) m kept

  either_kept : (b : Bool) (m n : SessionState) → P m.state → P n.state → P (if b then m else n).state
  either_kept true m n h k = h
  either_kept false m n h k = k

  line_kept : (m : SessionState) (w : Word) (line : List ℕ) → P m.state → P (line_after (session_after rules s) m w line).state
  unfolding line_after
  line_kept m plain line kept = either_kept (nat_lt longest_line (length line)) m _ kept (after_kept m plain line kept)
  line_kept m memory line kept = kept
  line_kept m (cut n) line kept = either_kept (nat_lt longest_line (length line)) m _ kept (after_kept m (cut n) line kept)
  line_kept m unkept line kept = either_kept (nat_lt longest_line (length line)) m _ kept (after_kept m unkept line kept)
  line_kept m (cut_unkept i) line kept = either_kept (nat_lt longest_line (length line)) m _ kept (after_kept m (cut_unkept i) line kept)

  pub lines_kept : (m : SessionState) (lines : List (List ℕ)) (words : List Word) → P m.state → P (after_lines (session_after rules s) m lines words).state
  lines_kept m [] words kept = kept
  lines_kept m (line ∷ lines) [] kept = kept
  lines_kept m (line ∷ lines) (w ∷ words) kept = lines_kept (line_after (session_after rules s) m w line) lines words (line_kept m w line kept)

module _ (rules : Rules) (s : Settings) where
  -- a session's catalogue stays sound
  pub lines_sound : (m : SessionState) (lines : List (List ℕ)) (words : List Word) → Sound rules m.state → Sound rules (after_lines (session_after rules s) m lines words).state
  lines_sound m lines words sound = lines_kept rules s (Sound rules) (step_kept rules s) (λ now limit m sound. (settle_keeps rules s now limit m).sound sound) m lines words sound

  -- its tables stay in order
  lines_ordered : (m : SessionState) (lines : List (List ℕ)) (words : List Word) → AreOrdered m.state → AreOrdered (after_lines (session_after rules s) m lines words).state
  lines_ordered m lines words ordered = lines_kept rules s AreOrdered (step_ordered rules s) (settle_ordered rules s) m lines words ordered

  -- under the rule that deletes, no session has an orphan
  pub lines_have_none : s.orphans ≡ Delete → (lines : List (List ℕ)) (words : List Word) → (after_lines (session_after rules s) session_start lines words).state.orphans ≡ []
  lines_have_none deletes lines words = lines_kept rules s (λ m. m.orphans ≡ [])
      (λ e m none. still_none m (step rules s e m) (step_makes rules s deletes e m) none)
      (λ now limit m none. still_none m (try_settle rules s now limit m).state (settle_makes rules s deletes now limit m) none) session_start lines words refl

  -- and where it is quiet, its documents are just those computed afresh
  pub lines_just_fresh : s.orphans ≡ Delete → (lines : List (List ℕ)) (words : List Word) (now : ℕ) → Quiet (after_lines (session_after rules s) session_start lines words).state now
      → (after_lines (session_after rules s) session_start lines words).state.documents ≡ fresh_docs rules (facts_of rules (after_lines (session_after rules s) session_start lines words).state)
  lines_just_fresh deletes lines words now quiet =
      just_fresh rules (after_lines (session_after rules s) session_start lines words).state now
      (lines_sound session_start lines words (start_kept rules s)) (lines_ordered session_start lines words start_ordered) (lines_have_none deletes lines words) quiet
