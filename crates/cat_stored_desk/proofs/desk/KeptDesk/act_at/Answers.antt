use Rattle.std.proofs.Common.{refl, sym, ap, ◌∙◌}
use Rattle.cat_stored_rows.specs.Stored.{stored}
use Rattle.cat_desk.proofs.Again.{spare_is}
use Rattle.cat_stored_desk.proofs.Followed.{followed}
use Rattle.cat_stored_desk.proofs.desk.KeptDesk.act_at.Goals as goal

pub invariant_of-self : goal.invariant_of-self
invariant_of-self g c =
    let settings = sym c.pass.ensures.acts.settings in
    record {
      counted = c.args.self.now.counted;
      followed = followed _ _ _ _ _ _ _ _ _ _ refl (ap (λ s. s.orphans) settings) (λ are. are)
          (λ rule rows. rows ∙ (sym c.pass.ensures.rows ∙ ap (λ s. stored s.orphans c.pass.new.catalogue.state) settings)) c.args.self.now.followed;
      spared = ∣ c.pass.ensures.spared ∣₁;
    }

pub pass-requires-clause-spared : goal.pass-requires-clause-spared
pass-requires-clause-spared g c = spare_is c.args.self.now.spare c.args.self.now.catalogue.state c.args.self.now.spared

pub follow-reply-requires-clause-spared : goal.follow-reply-requires-clause-spared
follow-reply-requires-clause-spared g c = spare_is c.args.self.now.spare c.args.self.now.catalogue.state c.args.self.now.spared
