use Rattle.std.proofs.Common.{◌≡◌, ◌∙◌, ap, sym, true, arith}
use Rattle.std.specs.FinMap.Entries.{is_sorted}
use Rattle.std.specs.declared.option.Option.TheVariants.{Some}
use Rattle.cat_owned_map.specs.Boxed.{items}
use Rattle.cat_collections.specs.Table.{find}
use Rattle.cat_owned_map.specs.declared.boxed.Fork.{Fork}
use Rattle.cat_owned_map.proofs.Nodes.{at_node}
use Rattle.cat_collections.proofs.Searched.{find_left, find_here, find_right, sorted_left, sorted_right, swapped, swapped_left, swapped_here, swapped_right}
use Rattle.cat_owned_map.proofs.boxed.Boxed+tuple2+K+X.+replace.Goals as goal
use Rattle.cat_owned_map.proofs.boxed.Boxed+tuple2+K+X.+replace.Goals.{in-Leaf, in-Fork+in-Some+in-Less, in-Fork+in-Some+in-Equal, in-Fork+in-Some+in-Greater}

pub replace-requires : goal.replace-requires
replace-requires g t c =
    let e = c.deref_mut.ensures.value ∙ sym c.deref.ensures in
    let it = ap (λ (d : Fork (g.row.K.Denot × g.row.X.Denot)). d.item) e ∙ c.in-Some.is in
    let f = at_node c.self.view_is c.in-Fork.is c.deref_mut.ensures.value it c.requires in
    let s : is_sorted g.K.Key.order c.deref_mut.result.now.left ≡ true = sorted_left g.met.K.Key.total g.met.K.Key.apart _ _ _ f.sorted in
    λ κs w. (omega arith, (w.0, (w.1.0, (w.1.1, s))))

pub replace-requires-in-Greater : goal.replace-requires-in-Greater
replace-requires-in-Greater g t c =
    let e = c.deref_mut-in-Greater.ensures.value ∙ sym c.deref.ensures in
    let it = ap (λ (d : Fork (g.row.K.Denot × g.row.X.Denot)). d.item) e ∙ c.in-Some.is in
    let f = at_node c.self.view_is c.in-Fork.is c.deref_mut-in-Greater.ensures.value it c.requires in
    let s : is_sorted g.K.Key.order c.deref_mut-in-Greater.result.now.right ≡ true = sorted_right g.met.K.Key.total g.met.K.Key.apart _ _ _ f.sorted in
    λ κs w. (omega arith, (w.0, (w.1.0, (w.1.1, s))))

pub returns-clause-value : goal.returns-clause-value
returns-clause-value g t c =
    let r = g.K.Key.order in
    let k = g.S.Seek.sought c.args.key.now in
    elim c.match-self.branch [
      | in-Leaf w ↦ w.result-is ∙ ap (find r k) (sym (ap items w.in-Leaf.is) ∙ c.self.view_is)
      | in-Fork+in-Some+in-Less w ↦
          let f = at_node c.self.view_is w.in-Fork.is w.deref.ensures w.in-Some.is c.requires in
          let e = w.deref_mut.ensures.value ∙ sym w.deref.ensures in
          w.result-is ∙ (w.replace.ensures.value ∙ (ap (λ (d : Fork (g.row.K.Denot × g.row.X.Denot)). find r k d.left) e ∙ sym (ap (find r k) f.is ∙ find_left g.met.K.Key.total g.met.K.Key.apart _ _ _ _ f.sorted (sym w.compare_with-order.ensures ∙ w.in-Less.is))))
      | in-Fork+in-Some+in-Equal w ↦
          let f = at_node c.self.view_is w.in-Fork.is w.deref.ensures w.in-Some.is c.requires in
          let e = w.deref_mut-in-Equal.ensures.value ∙ sym w.deref.ensures in
          let before = (w.revalue.ensures w.in-Some.entry (ap (λ (d : Fork (g.row.K.Denot × g.row.X.Denot)). d.item) e ∙ w.in-Some.is)).0 in
          w.result-is ∙ (ap Some before ∙ sym (ap (find r k) f.is ∙ find_here g.met.K.Key.total g.met.K.Key.apart _ _ _ _ f.sorted (sym w.compare_with-order.ensures ∙ w.in-Equal.is)))
      | in-Fork+in-Some+in-Greater w ↦
          let f = at_node c.self.view_is w.in-Fork.is w.deref.ensures w.in-Some.is c.requires in
          let e = w.deref_mut-in-Greater.ensures.value ∙ sym w.deref.ensures in
          w.result-is ∙ (w.replace-in-Greater.ensures.value ∙ (ap (λ (d : Fork (g.row.K.Denot × g.row.X.Denot)). find r k d.right) e ∙ sym (ap (find r k) f.is ∙ find_right g.met.K.Key.total g.met.K.Key.apart _ _ _ _ f.sorted (sym w.compare_with-order.ensures ∙ w.in-Greater.is))))
    ]

pub returns-clause-entries : goal.returns-clause-entries
returns-clause-entries g t c =
    let r = g.K.Key.order in
    let k = g.S.Seek.sought c.args.key.now in
    let v = c.args.value in
    elim c.match-self.branch [
      | in-Leaf w ↦
          let none = sym (ap items w.in-Leaf.is) ∙ c.self.view_is in
          ap (λ s. items s.link) w.self-inside-is ∙ (ap items w.in-Leaf.is ∙ ap (swapped r k v) none)
      | in-Fork+in-Some+in-Less w ↦
          let f = at_node c.self.view_is w.in-Fork.is w.deref.ensures w.in-Some.is c.requires in
          let is = swapped_left g.met.K.Key.total g.met.K.Key.apart k v _ _ _ f.sorted (sym w.compare_with-order.ensures ∙ w.in-Less.is) in
          grind (arith, f.is, is, w.self-inside-is, w.deref.ensures, w.deref_mut.ensures.value, w.replace.ensures.entries, w.in-Some.is)
      | in-Fork+in-Some+in-Equal w ↦
          let f = at_node c.self.view_is w.in-Fork.is w.deref.ensures w.in-Some.is c.requires in
          let e = w.deref_mut-in-Equal.ensures.value ∙ sym w.deref.ensures in
          let after = (w.revalue.ensures w.in-Some.entry (ap (λ (d : Fork (g.row.K.Denot × g.row.X.Denot)). d.item) e ∙ w.in-Some.is)).1 in
          let is = swapped_here g.met.K.Key.total g.met.K.Key.apart k v _ _ _ f.sorted (sym w.compare_with-order.ensures ∙ w.in-Equal.is) in
          grind (arith, f.is, is, after, w.self-inside-is, w.deref.ensures, w.deref_mut-in-Equal.ensures.value)
      | in-Fork+in-Some+in-Greater w ↦
          let f = at_node c.self.view_is w.in-Fork.is w.deref.ensures w.in-Some.is c.requires in
          let is = swapped_right g.met.K.Key.total g.met.K.Key.apart k v _ _ _ f.sorted (sym w.compare_with-order.ensures ∙ w.in-Greater.is) in
          grind (arith, f.is, is, w.self-inside-is, w.deref.ensures, w.deref_mut-in-Greater.ensures.value, w.replace-in-Greater.ensures.entries, w.in-Some.is)
    ]
