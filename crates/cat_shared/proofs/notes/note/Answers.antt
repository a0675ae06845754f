use Rattle.std.proofs.Common.{sym, ◌∙◌}
use Rattle.cat_desk.specs.Deed.{deed_of}
use Rattle.cat_shared.proofs.Losing.{lost_noted}
use Rattle.cat_shared.proofs.notes.note.Goals as goal

pub returns-then-is_lost : goal.returns-then-is_lost
returns-then-is_lost g c = lost_noted g.L.Layers.rules c.args.now (deed_of c.args.command) c.args.reply.now c.requires.acts (sym c.is_lost.ensures ∙ c.if-is_lost.true) c.unkept.result c.unkept.ensures
