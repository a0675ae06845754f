use Rattle.std.proofs.Common.{map, bytes_eq, ap, sym, subst, ◌∙◌}
use Rattle.std.specs.Map.{remove_entry}
use Rattle.cat_tree.specs.Data.{IsRising}
use Rattle.cat_tree.specs.View.{entry_of}
use Rattle.cat_tree.proofs.Edits.{map-remove, rising-remove}
use Rattle.cat_tree.proofs.tree.Pairs.remove.Goals as goal

pub invariant_of-self : goal.invariant_of-self
invariant_of-self c =
    let es = c.self.inside.items.items in
    subst IsRising (sym (map-remove c.args.key.now es) ∙ ap (map entry_of) (sym c.take_out.ensures)) (rising-remove c.args.key.now (map entry_of es) c.self.invariant)

pub returns : goal.returns
returns c =
    ap (map entry_of) c.take_out.ensures
    ∙ (map-remove c.args.key.now c.self.inside.items.items ∙ ap (remove_entry (bytes_eq c.args.key.now)) c.self.view_is)
