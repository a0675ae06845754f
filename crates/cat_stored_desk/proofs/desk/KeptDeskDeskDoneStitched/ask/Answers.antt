use Rattle.std.proofs.Common.{sym, subst}
use Rattle.cat_core.specs.declared.ledger.Ledger.{Ledger}
use Rattle.cat_stored_desk.specs.Followed.{IsFollowed}
use Rattle.cat_desk.specs.Spare.{IsSpare}
use Rattle.cat_stored_desk.proofs.desk.KeptDeskDeskDoneStitched.ask.Goals as goal

pub invariant_of-self : goal.invariant_of-self
invariant_of-self g c =
    let desk = c.args.self.now in
    record {
      counted = desk.counted;
      followed = subst (λ (l : Ledger). ∥ IsFollowed (g.K.Keeper.tables desk.store.place desk.store.keeper) desk.store.orphans desk.store.rows l.settings.orphans l.state ∥₁) (sym c.prepare.ensures) desk.followed;
      spared = subst (λ (l : Ledger). ∥ IsSpare desk.spare l.state ∥₁) (sym c.prepare.ensures) desk.spared;
    }
