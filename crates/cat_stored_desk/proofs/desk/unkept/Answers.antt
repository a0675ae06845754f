use Rattle.std.proofs.Common.{refl, sym, ◌∙◌, inl, inr}
use Rattle.cat_desk.specs.Deed.{deed_of}
use Rattle.cat_desk.specs.Deed.Deed.{Settle}
use Rattle.cat_desk.proofs.Answered.{settle_is}
use Rattle.cat_stored_desk.proofs.Lost.{kept_of}
use Rattle.cat_stored_desk.proofs.desk.unkept.Goals as goal

pub returns-then-is_settle-clause-acts : goal.returns-then-is_settle-clause-acts
returns-then-is_settle-clause-acts g c =
    let d = deed_of c.args.command.now in
    kept_of g.L.Layers.rules c.args.now d Settle c.args.catalogue.now c.cut_short.new.catalogue c.args.refusals.now c.cut_short.new.refusals c.cut_short.result (settle_is d (sym c.is_settle.ensures ∙ c.if-is_settle.true)) c.cut_short.ensures.acts

pub returns-else-is_settle-clause-acts : goal.returns-else-is_settle-clause-acts
returns-else-is_settle-clause-acts g c = inr (
  inl (record {
    changes = c.requires.changes;
    single = sym c.is_settle.ensures ∙ c.if-is_settle.false;
    state = refl;
    settings = refl;
    answer = refl;
  }),
  c.saturating_add.ensures,
)
