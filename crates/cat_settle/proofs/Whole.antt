-- The rounds that a settle runs are as many as the settle of the abstract catalogue has.
use Rattle.std.proofs.Common.{◌≡◌, ℕ, zero, suc, ◌+◌, ◌-◌, ◌<◌, ◌≤◌, true, false, sym, ap, ◌∙◌, arith}
use Rattle.std.specs.declared.option.Option.{Option}
use Rattle.std.specs.declared.option.Option.TheVariants.{None, Some}
use Rattle.std.specs.declared.result.Result.{Result}
use Rattle.cat_model.specs.declared.types.Progress.{Progress}
use Rattle.cat_model.specs.declared.types.Settings.{Settings}
use Rattle.cat_model.specs.declared.types.State.{State}
use Rattle.cat_model.specs.Catalogue.{Rules}
use Rattle.cat_model.specs.Settle.{is_ended, not_begun, try_marks, try_round, try_rounds, try_settle, width}
use Rattle.cat_model.specs.Sound.{Sound}
use Rattle.cat_laws.proofs.Ended.{after_end, rounds_within}
use Rattle.cat_settle.specs.Part.{Came, CutRounds, EndRounds, Goes, IsCut, IsDone}
use Rattle.cat_settle.proofs.Parts.{cut_then, done_then, same_cut}
use Rattle.cat_settle.proofs.Stays.{marks_stays, rounds_stays}

module _ (rules : Rules) (s : Settings) (now : ℕ) where
  rounds_sum : (limit : Option ℕ) (k j : ℕ) (p : Progress) → try_rounds rules s now limit (k + j) p ≡ try_rounds rules s now limit j (try_rounds rules s now limit k p)
  rounds_sum limit zero j p = ap (λ n. try_rounds rules s now limit n p) (plus j)
    where
      plus : (j : ℕ) → 0 + j ≡ j
      plus j = omega arith
  rounds_sum limit (suc k) j p = ap (λ n. try_rounds rules s now limit n p) (plus k j) ∙ rounds_sum limit k j (try_round rules s now limit p)
    where
      plus : (k j : ℕ) → suc k + j ≡ suc (k + j)
      plus k j = omega arith

  -- after a cut, more rounds change nothing
  cut_more : (k w : ℕ) → k ≤ w → (p new : Progress) → IsCut (λ limit. try_rounds rules s now limit k p) new → IsCut (λ limit. try_rounds rules s now limit w p) new
  cut_more k w le p new h =
      let e : k + (w - k) ≡ w = omega arith in
      same_cut (λ limit. try_rounds rules s now limit (w - k) (try_rounds rules s now limit k p)) (λ limit. try_rounds rules s now limit w p)
      (λ limit. sym (rounds_sum limit k (w - k) p) ∙ ap (λ n. try_rounds rules s now limit n p) e) new
      (cut_then (λ limit. try_rounds rules s now limit k p) (λ limit q. try_rounds rules s now limit (w - k) q) (rounds_stays rules s now (w - k)) new h)

  -- after an end too
  done_more : (k w : ℕ) → k ≤ w → (p new : Progress) → is_ended now new ≡ true → IsDone (λ limit. try_rounds rules s now limit k p) new → IsDone (λ limit. try_rounds rules s now limit w p) new
  done_more k w le p new end h = record {
    whole = after_end rules s now None k w p le (ap (is_ended now) h.whole ∙ end) ∙ h.whole;
    within = λ small going n l. let e = h.within small going n l in after_end rules s now (Some n) k w p le (ap (is_ended now) e ∙ end) ∙ e;
    first = cut_more k w le p new h.first;
  }

  module _ (later : 1 ≤ s.interval) (m : State) (sound : Sound rules m) where
    few : (k : ℕ) → ((n : ℕ) → n < k → is_ended now (try_rounds rules s now None n (not_begun m)) ≡ false) → k ≤ width rules m
    few zero first = omega arith
    few (suc k) first = let l = rounds_within rules s now None later m sound k (first k (omega arith)) in omega arith

    -- the settle that was cut in its rounds
    pub cut_whole : (new : Progress) → CutRounds rules s now (not_begun m) new → IsCut (λ limit. try_settle rules s now limit m) new
    unfolding try_settle
    cut_whole new h =
        cut_then (λ limit. try_rounds rules s now limit (width rules m) (not_begun m)) (λ limit q. try_marks rules s limit q) (marks_stays rules s) new
        (cut_more h.rounds (width rules m) (few h.rounds h.first) (not_begun m) new h.cut)

    -- and the one whose rounds were done
    pub marks_whole : {A E : Type 0} (r : Result A E) (mid new : Progress) → EndRounds rules s now (not_begun m) mid → Goes rules mid new → Came r (λ limit. try_marks rules s limit mid) new → Came r (λ limit. try_settle rules s now limit m) new
    unfolding try_settle
    marks_whole r mid new h goes c =
        done_then rules (λ limit. try_rounds rules s now limit (width rules m) (not_begun m)) (λ limit q. try_marks rules s limit q) (marks_stays rules s) mid
        (done_more h.have.rounds (width rules m) (few h.have.rounds h.have.first) (not_begun m) mid h.ended h.have.done) new goes r c
