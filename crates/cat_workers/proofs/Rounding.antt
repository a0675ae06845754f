-- Rounds that follow one another.
use Rattle.std.proofs.Common.{◌≡◌, ℕ, Bool, false, List, [], ◌∷◌, ◌++◌, refl, sym, ap, ◌∙◌, subst, append_assoc}
use Rattle.std.specs.declared.option.Option.{Option}
use Rattle.std.specs.declared.option.Option.TheVariants.{None, Some}
use Rattle.cat_desk.specs.Deed.{Deed}
use Rattle.cat_desk.specs.declared.command.Reply.{Reply}
use Rattle.cat_workers.specs.Rounds.{BringsBack, GoesOn, IsRound, Kind, Loops, Round, WentOn, all_steps, bringing, is_back, is_busy, is_done, next_after, steps}
use Rattle.cat_workers.specs.Steps.{DoesGated, Leads, Step}
use Rattle.cat_workers.specs.declared.gate.GateCall.{GateCall}
use Rattle.cat_workers.specs.declared.gate.Go.{Go}
use Rattle.cat_workers.specs.declared.gate.Go.TheVariants.{On, Stop}

-- ---- one round more

module _ (kind : Kind) where
  steps_append : (after : ℕ) (rounds : List Round) (r : Round) → all_steps kind after (rounds ++ r ∷ []) ≡ all_steps kind after rounds ++ all_steps kind (next_after kind after rounds) (r ∷ [])
  steps_append after [] r = refl
  steps_append after (x ∷ rounds) r =
      ap (λ l. steps kind after x ++ l) (steps_append (kind.next after x.taken x.brought) rounds r)
      ∙ sym (append_assoc (steps kind after x) (all_steps kind (kind.next after x.taken x.brought) rounds) (all_steps kind (next_after kind (kind.next after x.taken x.brought) rounds) (r ∷ [])))

  next_append : (after : ℕ) (rounds : List Round) (r : Round) → next_after kind after (rounds ++ r ∷ []) ≡ kind.next (next_after kind after rounds) r.taken r.brought
  next_append after [] r = refl
  next_append after (x ∷ rounds) r = next_append (kind.next after x.taken x.brought) rounds r

  on_append : (said : Go → Type 0) (after : ℕ) (rounds : List Round) (r : Round) → WentOn kind said after rounds
      → (is_busy kind (next_after kind after rounds) r ≡ false → said On) → WentOn kind said after (rounds ++ r ∷ [])
  on_append said after [] r went on = (on, tt)
  on_append said after (x ∷ rounds) r went on = (went.0, on_append said (kind.next after x.taken x.brought) rounds r went.1 on)

module _ {D : Type 0} (acts : D → Deed → D → Reply → Type 0) (told : GateCall → Type 0) where
  -- steps and then more steps
  pub leads_append : (first second : List Step) (old mid new : D) → Leads acts told first old mid → Leads acts told second mid new → Leads acts told (first ++ second) old new
  leads_append [] second old mid new a b = subst (λ d. Leads acts told second d new) a b
  leads_append (s ∷ first) second old mid new a b = (a.0, a.1, leads_append first second a.0 mid new a.2 b)

  module _ (kind : Kind) where
    leads_round : (after next : ℕ) (rounds : List Round) (old mid new : D) (r : Round) → next ≡ next_after kind after rounds → Leads acts told (all_steps kind after rounds) old mid
        → Leads acts told (steps kind next r) mid new → Leads acts told (all_steps kind after (rounds ++ r ∷ [])) old new
    leads_round after next rounds old mid new r place a b =
        subst (λ l. Leads acts told l old new) (sym (steps_append kind after rounds r))
        (leads_append (all_steps kind after rounds) (all_steps kind (next_after kind after rounds) (r ∷ [])) old mid new a
        (leads_append (steps kind (next_after kind after rounds) r) [] mid new new (subst (λ n. Leads acts told (steps kind n r) mid new) place b) refl))

    module _ (said : Go → Type 0) where
      -- no round yet
      pub begins : (d : D) → GoesOn kind acts told said 0 d d
      begins d = record { rounds = []; leads = refl; next = refl; on = tt }

      -- after one round more the worker goes on
      pub goes_on : (next next' : ℕ) (busy : Bool) (old mid new : D) → GoesOn kind acts told said next old mid → IsRound kind acts told next next' busy mid new → (busy ≡ false → said On)
          → GoesOn kind acts told said next' old new
      goes_on next next' busy old mid new so_far round on = record {
        rounds = so_far.rounds ++ round.round ∷ [];
        leads = leads_round 0 next so_far.rounds old mid new round.round so_far.next so_far.leads round.leads;
        next = round.next ∙ (ap (λ n. kind.next n round.round.taken round.round.brought) so_far.next ∙ sym (next_append kind 0 so_far.rounds round.round));
        on = on_append kind said 0 so_far.rounds round.round so_far.on (λ idle. on (round.is_busy ∙ (ap (λ n. is_busy kind n round.round) so_far.next ∙ idle)));
      }

      -- after one round more the worker ends
      pub ends : (next next' : ℕ) (busy : Bool) (old mid new : D) → GoesOn kind acts told said next old mid → IsRound kind acts told next next' busy mid new → busy ≡ false → said Stop
          → Loops kind acts told said old new
      ends next next' busy old mid new so_far round idle stop = record {
        earlier = so_far.rounds;
        last = round.round;
        leads = leads_round 0 next so_far.rounds old mid new round.round so_far.next so_far.leads round.leads;
        on = so_far.on;
        idle = ap (λ n. is_busy kind n round.round) (sym so_far.next) ∙ (sym round.is_busy ∙ idle);
        stop = stop;
      }

    -- ---- what a round is made of

    -- a take that gave an order, and what came of that order
    pub taken : (after next : ℕ) (busy : Bool) (old mid new : D) (reply : Reply) (d : Deed) (brought : Option Reply) → DoesGated acts told old (kind.take after) mid reply → kind.bring reply ≡ Some d
        → next ≡ kind.next after reply brought → BringsBack acts told d brought mid new → busy ≡ is_back kind.has_come brought → IsRound kind acts told after next busy old new
    taken after next busy old mid new reply d brought does order is brings is_busy = record {
      round = record { taken = reply; brought = brought };
      leads = (mid, does, subst (λ o. Leads acts told (bringing o brought) mid new) (sym order) brings);
      next = is;
      is_busy = is_busy ∙ sym (ap (λ o. is_done kind.has_come (kind.begins_anew after reply) o brought) order);
    }

    -- a take that gave no order
    pub untaken : (after next : ℕ) (busy : Bool) (old new : D) (reply : Reply) → DoesGated acts told old (kind.take after) new reply → kind.bring reply ≡ None → next ≡ kind.next after reply None
        → busy ≡ kind.begins_anew after reply → IsRound kind acts told after next busy old new
    untaken after next busy old new reply does order is anew = record {
      round = record { taken = reply; brought = None };
      leads = (new, does, subst (λ o. Leads acts told (bringing o None) new new) (sym order) refl);
      next = is;
      is_busy = anew ∙ sym (ap (λ o. is_done kind.has_come (kind.begins_anew after reply) o None) order);
    }
