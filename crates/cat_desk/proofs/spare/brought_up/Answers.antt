use Rattle.std.proofs.Common.{sym, ◌∙◌}
use Rattle.cat_desk.specs.Deed.{deed_of}
use Rattle.cat_desk.proofs.Again.{acts_stays}
use Rattle.cat_desk.proofs.spare.brought_up.Goals as goal

pub shared-requires : goal.shared-requires
shared-requires g c =
    sym (acts_stays g.L.Layers.rules c.args.now (deed_of c.args.command.now) (record c.args.catalogue.now { state = c.args.saved }) c.args.catalogue.now c.args.reply.now c.requires.acts (sym c.leaves_records.ensures ∙ c.if-leaves_records.true))
