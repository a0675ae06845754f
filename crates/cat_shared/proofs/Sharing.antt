-- What a share has seen after its turn.
use Rattle.std.proofs.Common.{◌≡◌, ◌⊎◌, inl, inr, ℕ, List, sym, ap, subst, ◌∙◌}
use Rattle.std.specs.declared.option.Option.TheVariants.{Some}
use Rattle.cat_core.specs.declared.ledger.Ledger.{Ledger}
use Rattle.cat_desk.specs.Deed.{Deed}
use Rattle.cat_desk.specs.declared.command.Reply.{Reply}
use Rattle.cat_model.specs.Catalogue.{Rules}
use Rattle.cat_model.specs.declared.types.Settings.{Settings}
use Rattle.cat_model.specs.declared.types.State.{State}
use Rattle.cat_shared.specs.Book.{Does, Lacks}
use Rattle.cat_shared.specs.Replay.{replay}
use Rattle.cat_shared.specs.Shared.{IsDone, ledger}
use Rattle.cat_shared.specs.declared.entry.Entry.{Entry}

-- what a book does with a deed under a number that is the pass's own, as what the share does
pub shared_done : {X : Type 0} (rules : Rules) (s : Settings) (opening : State) (pass number now : ℕ) (d : Deed) (old new : Ledger) (from to : X) (before after seen : List Entry) (reply : Reply)
    → number ≡ pass → old.settings ≡ s → new.settings ≡ s → seen ≡ after → replay rules s opening after ≡ Some new.state
    → Does rules number now d old new before after reply ⊎ Lacks d from to before after reply → IsDone rules s opening pass d old.state before seen reply
shared_done rules s opening pass number now d old new from to before after seen reply own first then same led_to (inl does) =
    let a : Does rules pass now d old new before after reply = subst (λ n. Does rules n now d old new before after reply) own does in
    let b : Does rules pass now d (ledger s old.state) new before after reply = subst (λ l. Does rules pass now d l new before after reply) (λ i. record { settings = first i; state = old.state }) a in
    let c : Does rules pass now d (ledger s old.state) (ledger s new.state) before after reply = subst (λ l. Does rules pass now d (ledger s old.state) l before after reply) (λ i. record { settings = then i; state = new.state }) b in
    inl (now, new.state, subst (λ es. Does rules pass now d (ledger s old.state) (ledger s new.state) before es reply) (sym same) c, ap (replay rules s opening) same ∙ led_to)
shared_done rules s opening pass number now d old new from to before after seen reply own first then same led_to (inr lacks) = inr (same ∙ lacks.journal, lacks.answer)
