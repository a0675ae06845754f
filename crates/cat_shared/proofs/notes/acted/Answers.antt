use Rattle.std.proofs.Common.{◌≡◌, ap}
use Rattle.cat_desk.specs.Deed.{deed_of}
use Rattle.cat_desk.specs.Deed.Deed.{Forget}
use Rattle.cat_shared.proofs.Noting.{forget_noted}
use Rattle.cat_shared.proofs.notes.acted.Goals as goal

pub returns-in-Forget : goal.returns-in-Forget
returns-in-Forget g c =
    let same : deed_of c.args.command ≡ Forget c.in-Forget.reference = ap deed_of c.in-Forget.is in
    forget_noted g.L.Layers.rules c.args.now (deed_of c.args.command) c.in-Forget.reference c.requires.acts.0 c.requires.acts.1 c.args.reply.now same c.requires.noted c.requires.acts.2 c.changed-in-Forget.result
    c.changed-in-Forget.ensures
