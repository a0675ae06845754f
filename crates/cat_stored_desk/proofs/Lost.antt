-- What was done, or wasn't kept, from where the catalogue was put back to.
use Rattle.std.proofs.Common.{◌≡◌, ◌≤◌, ◌+◌, ◌-◌, ◌^◌, ℕ, min, refl, sym, ap, subst, ◌∙◌, inl, inr, arith}
use Rattle.std.specs.declared.option.Option.TheVariants.{Some}
use Rattle.cat_io.specs.Causes.{Rose}
use Rattle.cat_io.specs.Word.{memory}
use Rattle.cat_core.specs.declared.fault.CoreFault.TheVariants.{Keeper, NoMemory}
use Rattle.cat_core.specs.declared.ledger.Ledger.{Ledger}
use Rattle.cat_desk.specs.Acts.{Acts}
use Rattle.cat_desk.specs.Deed.{Deed}
use Rattle.cat_desk.specs.Deed.Deed.{Settle}
use Rattle.cat_desk.specs.declared.command.Reply.{Reply}
use Rattle.cat_desk.specs.declared.command.Reply.TheVariants.{Cut, Refused}
use Rattle.cat_model.specs.Catalogue.{Rules}
use Rattle.cat_model.specs.Settle.{try_settle}
use Rattle.cat_desk.specs.Kept.{IsCutUnkept, KeptActs}

-- what was done to a ledger, or wasn't kept, was so of one that is the same
pub kept_from : (rules : Rules) (now : ℕ) (d : Deed) (old back new : Ledger) (count count' : ℕ) (reply : Reply) → back.settings ≡ old.settings → back.state ≡ old.state
    → KeptActs rules now d back new count count' reply → KeptActs rules now d old new count count' reply
kept_from rules now d old back new count count' reply settings state h = subst (λ l. KeptActs rules now d l new count count' reply) (λ i. record { settings = settings i; state = state i }) h

-- the same of deeds that are the same
pub kept_of : (rules : Rules) (now : ℕ) (d e : Deed) (old new : Ledger) (count count' : ℕ) (reply : Reply) → d ≡ e → KeptActs rules now e old new count count' reply
    → KeptActs rules now d old new count count' reply
kept_of rules now d e old new count count' reply same h = subst (λ k. KeptActs rules now k old new count count' reply) (sym same) h

-- as many faults were counted as deeds weren't kept, where there were and one more was counted
pub kept_counts : (rules : Rules) (now : ℕ) (d : Deed) (old new : Ledger) (count count' faults faults' : ℕ) (reply : Reply) → KeptActs rules now d old new count count' reply
    → faults ≤ faults' → Rose faults faults' → count ≤ faults → count' ≤ faults'
kept_counts rules now d old new count count' faults faults' reply (inl acts) later rose few = let same : count' ≡ count = acts.1 in omega arith
kept_counts rules now d old new count count' faults faults' reply (inr lost) later rose few = let more : count' ≡ min (count + 1) (2 ^ 64 - 1) = lost.1 in omega arith

-- ---- a settle of which at most the first event was done

only_one : (k : ℕ) → k ≤ 1 → (k ≡ 0 → ⊥) → k ≡ 1
only_one k most some = omega arith

module _ (rules : Rules) (now : ℕ) (old new : Ledger) (events : ℕ) (settings : new.settings ≡ old.settings) where
  -- where none was, memory lacked for it
  pub none_acts : (events ≡ 0 → new.state ≡ old.state) → events ≡ 0 → Acts rules now Settle old new (Refused NoMemory)
  none_acts same none = record {
    word = memory;
    state = same none;
    settings = settings;
    answer = refl;
    spare = λ needs. absurd needs;
    exact = tt;
  }

  -- and else the settle was cut behind it
  pub one_cut : events ≤ 1 → (events ≡ 0 → ⊥) → new.state ≡ (try_settle rules old.settings now (Some events) old.state).state
      → (try_settle rules old.settings now (Some events) old.state).events ≡ events → IsCutUnkept rules now Settle old new (Cut (record { events = events; fault = Keeper }))
  one_cut most some state exact =
      let one : events ≡ 1 = only_one events most some in
      record {
        settles = refl;
        state = state ∙ ap (λ k. (try_settle rules old.settings now (Some k) old.state).state) one;
        exact = ap (λ k. (try_settle rules old.settings now (Some k) old.state).events) (sym one) ∙ (exact ∙ one);
        settings = settings;
        answer = ap (λ k. Cut (record { events = k; fault = Keeper })) one;
      }
