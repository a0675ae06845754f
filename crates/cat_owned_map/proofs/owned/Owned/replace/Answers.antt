use Rattle.std.proofs.Common.{◌∙◌, ap}
use Rattle.std.specs.Prelude.{is_some}
use Rattle.std.specs.FinMap.Entries.{is_sorted}
use Rattle.cat_collections.proofs.Rising.{put_if_rises}
use Rattle.cat_collections.specs.Table.{find}
use Rattle.cat_owned_map.proofs.owned.Owned.replace.Goals as goal

pub invariant_of-self : goal.invariant_of-self
invariant_of-self g c =
    let m = c.self.inside.tree in
    ap (is_sorted g.K.Key.order) c.replace.ensures.entries ∙ put_if_rises g.met.K.Key.total (is_some (find g.K.Key.order c.args.key.now m)) c.args.key.now c.args.value m c.self.invariant
