-- What a repeated line does.
use Rattle.std.proofs.Common.{◌≡◌, ℕ, suc, ◌≤◌, Bool, true, false, cond, nat_lt, if◌then◌else◌, List, [], ◌∷◌, ◌++◌, length, refl, sym, ap, ◌∙◌, subst, le_refl, arith}
use Rattle.std.proofs.lemmas.Bool.Decides.{nat_tests}
use Rattle.std.specs.declared.option.Option.{Option}
use Rattle.std.specs.declared.option.Option.TheVariants.{None, Some}
use Rattle.std.specs.declared.result.Result.{Result}
use Rattle.std.specs.declared.result.Result.TheVariants.{Ok, Err}
use Rattle.std.specs.Ordering.{nat_cmp}
use Rattle.cat_collections.specs.Table.{Text, find, get, put, text_cmp}
use Rattle.cat_types.specs.declared.input.Mutation.{Mutation}
use Rattle.cat_collections.proofs.Tables.{text_total, text_antisymmetric, find-put_same}
use Rattle.cat_session_lines.specs.Lines.{line_of}
use Rattle.cat_session_lines.specs.declared.line.Line.{Line}
use Rattle.cat_session_lines.specs.declared.line.Line.TheVariants as asks
use Rattle.cat_session_lines.specs.declared.fault.LineFault.{LineFault}
use Rattle.cat_io.specs.Word.{Word, plain, memory, cut, unkept, cut_unkept}
use Rattle.cat_io.specs.Runs.{line_after, after_lines}
use Rattle.cat_io.specs.Lines.{longest_line}
use Rattle.cat_model.specs.Catalogue.{Rules}
use Rattle.cat_model.specs.Given.{given}
use Rattle.cat_model.specs.Reply.{next_stitch}
use Rattle.cat_model.specs.Settle.{not_begun, try_settle, width}
use Rattle.cat_model.specs.Step.{items_after, last_serial, refusal, source_at, step}
use Rattle.cat_model.specs.Step.Event.{Mutate, ShelfPut, ShelfDrop, Refresh, Forget, Take, Finish, PutStitch}
use Rattle.cat_model.specs.declared.types.Given.{Given}
use Rattle.cat_model.specs.declared.types.Order.{Order}
use Rattle.cat_model.specs.declared.types.Progress.{Progress}
use Rattle.cat_model.specs.declared.types.Settings.{Settings}
use Rattle.cat_model.specs.declared.types.State.{State}
use Rattle.cat_model.specs.declared.types.StitchOrder.{StitchOrder}
use Rattle.cat_laws.proofs.Cut.{Extends, exec_extends, fits_settle, step_acts}
use Rattle.cat_laws.proofs.Plan.{exec_settle, settle_plan}
use Rattle.cat_laws.proofs.Repeats.{old_mutation, run_above}
use Rattle.cat_session_model.specs.declared.state.SessionState.{SessionState}
use Rattle.cat_session_model.specs.Session.{after_finish, after_place, after_reading, after_result, limit_of, order_numbered, session_after, with_stitch}

is_not_above : (k l : ℕ) → nat_lt l k ≡ false → k ≤ l
is_not_above k l h = grind (arith, nat_tests)

module _ (rules : Rules) (s : Settings) where
  -- after a mutation that isn't refused its serial is old
  acted_old : (m : State) (p : Text) (x : Given) → refusal rules s (Mutate p x) m ≡ None → x.serial ≤ last_serial (step rules s (Mutate p x) m) p
  acted_old m p x h = subst (λ n. x.serial ≤ last_serial n p) (sym (step_acts rules s (Mutate p x) m h)) (at (nat_lt (last_serial m p) x.serial) _ (λ _. put_is) (λ no. is_not_above x.serial (last_serial m p) no))
    where
      put_is : x.serial ≤ (source_at (get (put text_cmp p (record { serial = x.serial; items = items_after x (source_at (get m.providers p)).items }) m.providers) p)).serial
      put_is = subst (λ v. x.serial ≤ (source_at v).serial) (sym (find-put_same text_total text_antisymmetric p (record { serial = x.serial; items = items_after x (source_at (get m.providers p)).items }) m.providers)) (le_refl _)

      at : (b : Bool) (n : State) → (b ≡ true → x.serial ≤ last_serial n p) → (b ≡ false → x.serial ≤ last_serial m p) → x.serial ≤ last_serial (cond b n m) p
      at true n f g = f refl
      at false n f g = g refl

  -- a line that isn't above the last serial changes nothing
  pub old_line : (m : SessionState) (line : List ℕ) (p : Text) (x : Mutation) → line_of line ≡ Ok (asks.Mutate p x) → (given p x).serial ≤ last_serial m.state p → session_after rules s m plain line ≡ m
  unfolding session_after
  old_line m line p x reads le = ap (λ o. after_result rules s plain o m) reads ∙ (λ i. record m { state = old_mutation rules s m.state p (given p x) le i })

  -- a line that acts has an old serial afterwards
  pub acted_line : (m : SessionState) (line : List ℕ) (p : Text) (x : Mutation) → line_of line ≡ Ok (asks.Mutate p x) → refusal rules s (Mutate p (given p x)) m.state ≡ None → (given p x).serial ≤ last_serial (session_after rules s m plain line).state p
  unfolding session_after
  acted_line m line p x reads h = subst (λ o. (given p x).serial ≤ last_serial (after_result rules s plain o m).state p) (sym reads) (acted_old m.state p (given p x) h)

  -- ---- serials don't fall

  module _ (q : Text) where
    abbrev Above : State → State → Type 0
    Above m n = last_serial m q ≤ last_serial n q

    settle_above : (now : ℕ) (limit : Option ℕ) (m : State) → Above m (try_settle rules s now limit m).state
    settle_above now limit m = subst (λ (p : Progress). Above m p.state) (exec_settle rules s now limit m) (extended (exec_extends rules s now limit (settle_plan rules s now (width rules m)) (fits_settle rules s now (width rules m)) (not_begun m)))
      where
        extended : {p : Progress} → Extends rules s now (not_begun m) p → Above m p.state
        extended x = subst (Above m) (sym x.state) (run_above rules s q x.events m)

    handed : (o : Option StitchOrder) (m : SessionState) → Above m.state (with_stitch o m).state
    handed None m = le_refl _
    handed (Some x) m = le_refl _

    brought : (o : Option Order) (m : SessionState) → Above m.state (after_finish rules s o m).state
    brought None m = le_refl _
    brought (Some x) m = run_above rules s q (Finish x m.now ∷ []) m.state

    placed : (o : Option StitchOrder) (m : SessionState) → Above m.state (after_place rules s o m).state
    placed None m = le_refl _
    placed (Some x) m = run_above rules s q (PutStitch x ∷ []) m.state

    carried : (w : Word) (line : Line) (m : SessionState) → Above m.state (after_reading rules s w line m).state
    carried w (asks.Mutate p x) m = run_above rules s q (Mutate p (given p x) ∷ []) m.state
    carried w (asks.ShelfPut name text) m = run_above rules s q (ShelfPut name text ∷ []) m.state
    carried w (asks.ShelfDrop name) m = run_above rules s q (ShelfDrop name ∷ []) m.state
    carried w (asks.Refresh r) m = run_above rules s q (Refresh r ∷ []) m.state
    carried w (asks.Forget r) m = run_above rules s q (Forget r ∷ []) m.state
    carried w (asks.Clock now) m = le_refl _
    carried w asks.Take m = run_above rules s q (Take m.now ∷ []) m.state
    carried w (asks.Finish token) m = brought (order_numbered token m.orders) m
    carried w (asks.Stitch after) m = handed (next_stitch rules m.state after) m
    carried w (asks.Place ticket) m = placed (find nat_cmp ticket m.stitches) m
    carried w asks.Settle m = settle_above m.now (limit_of w) m.state
    carried w (asks.Ask ask) m = le_refl _

    resulted : (w : Word) (o : Result Line LineFault) (m : SessionState) → Above m.state (after_result rules s w o m).state
    resulted w (Ok line) m = carried w line m
    resulted w (Err fault) m = le_refl _

    after_above : (m : SessionState) (w : Word) (line : List ℕ) → Above m.state (session_after rules s m w line).state
    unfolding session_after
    after_above m w line = resulted w (line_of line) m

    either_above : (b : Bool) (m n : SessionState) → Above m.state n.state → Above m.state (if b then m else n).state
    either_above true m n h = le_refl _
    either_above false m n h = h

    line_above : (m : SessionState) (w : Word) (line : List ℕ) → Above m.state (line_after (session_after rules s) m w line).state
    unfolding line_after
    line_above m plain line = either_above (nat_lt longest_line (length line)) m _ (after_above m plain line)
    line_above m memory line = le_refl _
    line_above m (cut n) line = either_above (nat_lt longest_line (length line)) m _ (after_above m (cut n) line)
    line_above m unkept line = either_above (nat_lt longest_line (length line)) m _ (after_above m unkept line)
    line_above m (cut_unkept i) line = either_above (nat_lt longest_line (length line)) m _ (after_above m (cut_unkept i) line)

    pub lines_above : (m : SessionState) (lines : List (List ℕ)) (words : List Word) → Above m.state (after_lines (session_after rules s) m lines words).state
    lines_above m [] words = le_refl _
    lines_above m (line ∷ lines) [] = le_refl _
    lines_above m (line ∷ lines) (w ∷ words) =
        let a = line_above m w line in
        let b = lines_above (line_after (session_after rules s) m w line) lines words in
        omega arith

  -- ---- repeats

  same_line : (n : SessionState) (line : List ℕ) → session_after rules s n plain line ≡ n → line_after (session_after rules s) n plain line ≡ n
  unfolding line_after
  same_line n line same = either (nat_lt longest_line (length line))
    where
      either : (b : Bool) → (if b then n else session_after rules s n plain line) ≡ n
      either true = refl
      either false = same

  -- a line that changes nothing after the first lines can be left out
  left_out : (line : List ℕ) (second : List (List ℕ)) (rest : List Word) (n : SessionState) (first : List (List ℕ)) (words : List Word) → length words ≡ length first
      → line_after (session_after rules s) (after_lines (session_after rules s) n first words) plain line ≡ after_lines (session_after rules s) n first words
      → after_lines (session_after rules s) n (first ++ line ∷ second) (words ++ plain ∷ rest) ≡ after_lines (session_after rules s) n (first ++ second) (words ++ rest)
  left_out line second rest n [] [] each same = ap (λ m. after_lines (session_after rules s) m second rest) same
  left_out line second rest n [] (w ∷ words) each same = absurd (no each)
    where
      no : {k : ℕ} → suc k ≡ 0 → ⊥
      no h = omega arith
  left_out line second rest n (l ∷ first) [] each same = absurd (no each)
    where
      no : {k : ℕ} → 0 ≡ suc k → ⊥
      no h = omega arith
  left_out line second rest n (l ∷ first) (w ∷ words) each same = left_out line second rest (line_after (session_after rules s) n w l) first words (pred each) same
    where
      pred : {j k : ℕ} → suc j ≡ suc k → j ≡ k
      pred h = omega arith

  pub once : (m : SessionState) (line : List ℕ) (p : Text) (x : Mutation) (first second : List (List ℕ)) (words rest : List Word)
      → line_of line ≡ Ok (asks.Mutate p x) → refusal rules s (Mutate p (given p x)) m.state ≡ None → length words ≡ length first
      → after_lines (session_after rules s) (session_after rules s m plain line) (first ++ line ∷ second) (words ++ plain ∷ rest) ≡ after_lines (session_after rules s) (session_after rules s m plain line) (first ++ second) (words ++ rest)
  once m line p x first second words rest reads h each =
      let n = session_after rules s m plain line in
      let a = acted_line m line p x reads h in
      let b = lines_above p n first words in
      left_out line second rest n first words each (same_line (after_lines (session_after rules s) n first words) line (old_line (after_lines (session_after rules s) n first words) line p x reads (omega arith)))
