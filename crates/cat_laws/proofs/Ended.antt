-- A settle is the first number of rounds after which none is due or it is stopped, and then the stitches.
use Rattle.std.proofs.Common.{◌≡◌, ℕ, zero, suc, ◌+◌, ◌-◌, ◌^◌, ◌<◌, ◌≤◌, Bool, true, false, cond, ◌||◌, ◌⊎◌, ⊎_elim, List, [], ◌∷◌, refl, sym, ap, ◌∙◌, is_some, min, true≢false, arith}
use Rattle.std.specs.declared.option.Option.{Option}
use Rattle.std.specs.declared.option.Option.TheVariants.{None, Some}
use Rattle.cat_model.specs.declared.types.State.{State}
use Rattle.cat_model.specs.declared.types.Settings.{Settings}
use Rattle.cat_model.specs.declared.types.Stop.{Stop}
use Rattle.cat_model.specs.declared.types.Progress.{Progress}
use Rattle.cat_model.specs.Catalogue.{Ref, Rules}
use Rattle.cat_model.specs.Sound.{Sound}
use Rattle.cat_model.specs.Step.{Event}
use Rattle.cat_model.specs.Settle.{due_refs, by_ticket, width, counted, is_ended, begun_round, try_event, try_turns, try_round, try_rounds, try_marks, not_begun, try_settle, is_empty, IsSettle}
use Rattle.cat_laws.proofs.Plan.{Tries, at_event, try_some, exec, take_event, finish_event, stitch_event, turns_plan, stitches_plan, exec_turns, exec_round, exec_stitches, exec_stopped, round_plan}
use Rattle.cat_laws.proofs.Plan.Plan.{act}
use Rattle.cat_laws.proofs.Plan.Tries.{stopped, full, refused, acts}
use Rattle.cat_laws.proofs.Settled.{rounds_settle}
use Rattle.cat_laws.proofs.Tried.{tried_rounds}

-- n more
abbrev pub counted_by : ℕ → ℕ → ℕ
counted_by zero k = k
counted_by (suc n) k = counted_by n (counted k)

pub counted_by-min : (n k : ℕ) → k ≤ 2 ^ 64 - 1 → counted_by n k ≡ min (n + k) (2 ^ 64 - 1)
counted_by-min zero k h = omega arith
counted_by-min (suc n) k h = let ih = counted_by-min n (counted k) (le k) in omega arith
  where
    le : (k : ℕ) → min (k + 1) (2 ^ 64 - 1) ≤ 2 ^ 64 - 1
    le k = omega arith

empty_is : {A : Type 0} (v : List A) → is_empty v ≡ true → v ≡ []
empty_is [] h = refl
empty_is (x ∷ xs) h = absurd (true≢false (sym h))

module _ (rules : Rules) (s : Settings) (now : ℕ) (limit : Option ℕ) where
  -- a round after the end changes nothing
  pub ended_round : (p : Progress) → is_ended now p ≡ true → try_round rules s now limit p ≡ p
  ended_round p h = go p.stop refl
    where
      go : (v : Option Stop) → p.stop ≡ v → try_round rules s now limit p ≡ p
      go (Some x) f = sym (exec_round rules s now limit p) ∙ exec_stopped rules s now limit (round_plan rules s now) p x f
      go None f =
          ap (λ rs. try_turns rules s now limit rs (begun_round now p)) (empty_is (due_refs now p.state) (ap (λ v. is_some v || is_empty (due_refs now p.state)) (sym f) ∙ h))
          ∙ ap (λ b. record p { rounds = cond b p.rounds (counted p.rounds) }) h

  ended_rounds : (n : ℕ) (p : Progress) → is_ended now p ≡ true → try_rounds rules s now limit n p ≡ p
  ended_rounds zero p h = refl
  ended_rounds (suc n) p h = ap (try_rounds rules s now limit n) (ended_round p h) ∙ ended_rounds n p h

  -- nor do more rounds
  pub after_end : (k n : ℕ) (p : Progress) → k ≤ n → is_ended now (try_rounds rules s now limit k p) ≡ true → try_rounds rules s now limit n p ≡ try_rounds rules s now limit k p
  after_end zero n p le h = ended_rounds n p h
  after_end (suc k) zero p le h = absurd (omega arith)
  after_end (suc k) (suc n) p le h = after_end k n (try_round rules s now limit p) (omega arith) h

  -- where w rounds end, one more before them changes nothing
  pub round_before : (w : ℕ) (p : Progress) → is_ended now (try_rounds rules s now limit w p) ≡ true → try_rounds rules s now limit w (try_round rules s now limit p) ≡ try_rounds rules s now limit w p
  round_before w p h = after_end w (suc w) p (omega arith) h

  -- how many rounds are left until the end, if it comes within w: what a loop over rounds falls by
  abbrev pub rounds_left : ℕ → Progress → ℕ
  rounds_left zero p = 0
  rounds_left (suc w) p = cond (is_ended now p) 0 (suc (rounds_left w (try_round rules s now limit p)))

  left_same : (w : ℕ) (p : Progress) → is_ended now (try_rounds rules s now limit w p) ≡ true → rounds_left (suc w) p ≡ rounds_left w p
  left_same zero p h = ap (λ b. cond b 0 1) h
  left_same (suc w) p h = ap (λ k. cond (is_ended now p) 0 (suc k)) (left_same w (try_round rules s now limit p) h)

  pub left_falls : (w : ℕ) (p : Progress) → is_ended now (try_rounds rules s now limit w p) ≡ true → is_ended now p ≡ false → rounds_left w (try_round rules s now limit p) < rounds_left w p
  left_falls w p h e =
      let a = left_same w p h in
      let b : rounds_left (suc w) p ≡ suc (rounds_left w (try_round rules s now limit p)) = ap (λ b. cond b 0 (suc (rounds_left w (try_round rules s now limit p)))) e in
      omega arith

  -- the first end within w rounds
  record FirstEnd (w : ℕ) (p : Progress) : Type 0 where
    rounds : ℕ
    within : rounds ≤ w
    ended : is_ended now (try_rounds rules s now limit rounds p) ≡ true
    first : (n : ℕ) → n < rounds → is_ended now (try_rounds rules s now limit n p) ≡ false

  first_end : (w : ℕ) (p : Progress) → is_ended now (try_rounds rules s now limit w p) ≡ true → FirstEnd w p
  first_end zero p h = record { rounds = 0; within = omega arith; ended = h; first = λ n lt. absurd (omega arith) }
  first_end (suc w) p h = go (is_ended now p) refl (first_end w (try_round rules s now limit p) h)
    where
      go : (b : Bool) → is_ended now p ≡ b → FirstEnd w (try_round rules s now limit p) → FirstEnd (suc w) p
      go true e f = record { rounds = 0; within = omega arith; ended = e; first = λ n lt. absurd (omega arith) }
      go false e f = record { rounds = suc f.rounds; within = let le = f.within in omega arith; ended = f.ended; first = at }
        where
          at : (n : ℕ) → n < suc f.rounds → is_ended now (try_rounds rules s now limit n p) ≡ false
          at zero lt = e
          at (suc n) lt = f.first n (omega arith)

  -- events count no rounds
  act_rounds : (f : State → Option Event) (p : Progress) → (exec rules s now limit (act f) p).rounds ≡ p.rounds
  act_rounds f p = some (f p.state)
    where
      at : (e : Event) (q : Progress) → Tries rules s now limit e p q → q.rounds ≡ p.rounds
      at e q (stopped x f) = refl
      at e q (full f g) = refl
      at e q (refused x f g h) = refl
      at e q (acts f g h) = refl

      some : (v : Option Event) → (try_some rules s now limit v p).rounds ≡ p.rounds
      some None = refl
      some (Some e) = at e (try_event rules s limit e p) (at_event rules s now limit e p)

  turns_rounds : (rs : List Ref) (p : Progress) → (exec rules s now limit (turns_plan rules s now rs) p).rounds ≡ p.rounds
  turns_rounds [] p = refl
  turns_rounds (r ∷ rs) p =
      let t = exec rules s now limit (act (take_event rules s now r)) p in
      turns_rounds rs (exec rules s now limit (act (finish_event rules s now r)) t) ∙ act_rounds (finish_event rules s now r) t ∙ act_rounds (take_event rules s now r) p

  stitches_rounds : (rs : List Ref) (p : Progress) → (exec rules s now limit (stitches_plan rules s now rs) p).rounds ≡ p.rounds
  stitches_rounds [] p = refl
  stitches_rounds (r ∷ rs) p = stitches_rounds rs (exec rules s now limit (act (stitch_event rules s now r)) p) ∙ act_rounds (stitch_event rules s now r) p

  pub marks_rounds : (p : Progress) → (try_marks rules s limit p).rounds ≡ p.rounds
  marks_rounds p = ap (λ (q : Progress). q.rounds) (sym (exec_stitches rules s now limit (by_ticket p.state.marks) p)) ∙ stitches_rounds (by_ticket p.state.marks) p

  pub round_rounds : (p : Progress) → (try_round rules s now limit p).rounds ≡ cond (is_ended now p) p.rounds (counted p.rounds)
  round_rounds p = ap (λ (q : Progress). q.rounds) (sym (exec_turns rules s now limit (due_refs now p.state) (begun_round now p))) ∙ turns_rounds (due_refs now p.state) (begun_round now p)

  counted_rounds : (k : ℕ) (p : Progress) → ((n : ℕ) → n < k → is_ended now (try_rounds rules s now limit n p) ≡ false) → (try_rounds rules s now limit k p).rounds ≡ counted_by k p.rounds
  counted_rounds zero p first = refl
  counted_rounds (suc k) p first =
      counted_rounds k (try_round rules s now limit p) (λ n lt. first (suc n) (omega arith))
      ∙ ap (counted_by k) (round_rounds p ∙ ap (λ b. cond b p.rounds (counted p.rounds)) (first zero (omega arith)))

  module _ (later : 1 ≤ s.interval) (m : State) (sound : Sound rules m) where
    pub width_ends : is_ended now (try_rounds rules s now limit (width rules m) (not_begun m)) ≡ true
    width_ends = go (try_rounds rules s now limit (width rules m) (not_begun m)).stop refl
      where
        q : Progress
        q = try_rounds rules s now limit (width rules m) (not_begun m)

        go : (v : Option Stop) → q.stop ≡ v → is_ended now q ≡ true
        go (Some x) f = ap (λ v. is_some v || is_empty (due_refs now q.state)) f
        go None f =
            ap (λ v. is_some v || is_empty (due_refs now q.state)) f
            ∙ ap (λ n. is_empty (due_refs now n)) (tried_rounds rules s limit now (width rules m) (not_begun m) f).state
            ∙ ap is_empty (rounds_settle rules s now later m sound)

    -- what is not ended has fewer rounds than the state is wide
    pub rounds_within : (n : ℕ) → is_ended now (try_rounds rules s now limit n (not_begun m)) ≡ false → n < width rules m
    rounds_within n h = ⊎_elim (λ le. absurd (true≢false (sym width_ends ∙ ap (is_ended now) (sym (after_end (width rules m) n (not_begun m) le width_ends)) ∙ h))) (λ lt. lt) (cases (width rules m))
      where
        cases : (w : ℕ) → (w ≤ n) ⊎ (n < w)
        cases w = grind arith

    pub is_settle : IsSettle rules s now limit m (try_settle rules s now limit m)
    unfolding try_settle
    is_settle =
        let f = first_end (width rules m) (not_begun m) width_ends in
        let e = after_end f.rounds (width rules m) (not_begun m) f.within f.ended in
        record {
          rounds = f.rounds;
          ended = f.ended;
          first = f.first;
          counted =
              marks_rounds (try_rounds rules s now limit (width rules m) (not_begun m)) ∙ ap (λ (q : Progress). q.rounds) e
              ∙ counted_rounds f.rounds (not_begun m) f.first ∙ counted_by-min f.rounds 0 (omega arith) ∙ plus f.rounds;
          stitched = ap (try_marks rules s limit) e;
        }
      where
        plus : (k : ℕ) → min (k + 0) (2 ^ 64 - 1) ≡ min k (2 ^ 64 - 1)
        plus k = omega arith
