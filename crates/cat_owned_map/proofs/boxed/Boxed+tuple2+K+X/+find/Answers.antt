use Rattle.std.proofs.Common.{◌≡◌, ◌∙◌, ap, sym, arith, true}
use Rattle.std.specs.FinMap.Entries.{is_sorted}
use Rattle.cat_collections.specs.Table.{find}
use Rattle.cat_owned_map.proofs.Nodes.{at_node}
use Rattle.cat_collections.proofs.Searched.{find_left, find_here, find_right, sorted_left, sorted_right}
use Rattle.cat_owned_map.proofs.boxed.Boxed+tuple2+K+X.+find.Goals as goal

pub find-requires : goal.find-requires
find-requires g t c =
    let f = at_node c.self.view_is c.in-Fork.is c.deref-fork.ensures c.in-Some.is c.requires in
    let s : is_sorted g.K.Key.order c.deref-fork.result.now.left ≡ true = sorted_left g.met.K.Key.total g.met.K.Key.apart _ _ _ f.sorted in
    λ κs w. (omega arith, (w.0, (w.1.0, (w.1.1, s))))

pub find-requires-in-Greater : goal.find-requires-in-Greater
find-requires-in-Greater g t c =
    let f = at_node c.self.view_is c.in-Fork.is c.deref-fork.ensures c.in-Some.is c.requires in
    let s : is_sorted g.K.Key.order c.deref-fork.result.now.right ≡ true = sorted_right g.met.K.Key.total g.met.K.Key.apart _ _ _ f.sorted in
    λ κs w. (omega arith, (w.0, (w.1.0, (w.1.1, s))))

pub returns-in-Less : goal.returns-in-Less
returns-in-Less g t c =
    let f = at_node c.self.view_is c.in-Fork.is c.deref-fork.ensures c.in-Some.is c.requires in
    c.find.ensures
    ∙ sym (ap (find g.K.Key.order (g.S.Seek.sought c.args.key.now)) f.is ∙ find_left g.met.K.Key.total g.met.K.Key.apart _ _ _ _ f.sorted (sym c.compare_with.ensures ∙ c.in-Less.is))

pub returns-in-Equal : goal.returns-in-Equal
returns-in-Equal g t c =
    let f = at_node c.self.view_is c.in-Fork.is c.deref-fork.ensures c.in-Some.is c.requires in
    sym (ap (find g.K.Key.order (g.S.Seek.sought c.args.key.now)) f.is ∙ find_here g.met.K.Key.total g.met.K.Key.apart _ _ _ _ f.sorted (sym c.compare_with.ensures ∙ c.in-Equal.is))

pub returns-in-Greater : goal.returns-in-Greater
returns-in-Greater g t c =
    let f = at_node c.self.view_is c.in-Fork.is c.deref-fork.ensures c.in-Some.is c.requires in
    c.find-in-Greater.ensures
    ∙ sym (ap (find g.K.Key.order (g.S.Seek.sought c.args.key.now)) f.is ∙ find_right g.met.K.Key.total g.met.K.Key.apart _ _ _ _ f.sorted (sym c.compare_with.ensures ∙ c.in-Greater.is))
