use Rattle.std.proofs.Common.{◌∙◌, ap, sym}
use Rattle.cat_collections.specs.Places.{before}
use Rattle.cat_collections.proofs.Places.{before_at, before_between}
use Rattle.cat_collections.proofs.map.Map.seek_place.Goals as goal

pub returns-in-Ok : goal.returns-in-Ok
returns-in-Ok g c =
    sym (before_at g.K.Key.order (g.S.Seek.sought c.args.key.now) c.self.inside.tree c.in-Ok.place c.in-Ok.ensures) ∙ ap (before g.K.Key.order (g.S.Seek.sought c.args.key.now)) c.self.view_is

pub returns-in-Err : goal.returns-in-Err
returns-in-Err g c =
    sym (before_between g.K.Key.order (g.S.Seek.sought c.args.key.now) c.self.inside.tree c.in-Err.place c.in-Err.ensures) ∙ ap (before g.K.Key.order (g.S.Seek.sought c.args.key.now)) c.self.view_is
