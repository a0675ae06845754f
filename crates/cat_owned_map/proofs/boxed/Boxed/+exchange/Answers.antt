use Rattle.std.proofs.Common.{◌≡◌, ◌-◌, ◌<◌, ◌++◌, ◌∙◌, ap, sym, subst, length, arith}
use Rattle.std.specs.Prelude.{slice_get}
use Rattle.std.specs.declared.option.Option.TheVariants.{Some}
use Rattle.cat_owned_map.specs.Boxed.{IsKept, held, items}
use Rattle.cat_owned_map.specs.declared.boxed.Fork.{Fork}
use Rattle.cat_owned_map.proofs.Nodes.{item_here, item_left, item_right, set_held, set_left, set_right}
use Rattle.cat_owned_map.proofs.boxed.Boxed.+exchange.Goals as goal
use Rattle.cat_owned_map.proofs.boxed.Boxed.+exchange.Goals.{in-Leaf, in-Fork+then-place-before, in-Fork+else-place-before+then-place-before-2+in-Some, in-Fork+else-place-before+else-place-before-2}

pub returns-clause-items : goal.returns-clause-items
returns-clause-items g t c =
    elim c.match-self.branch [
      | in-Leaf w ↦ let n = ap length (sym c.self.view_is ∙ ap items w.in-Leaf.is) in absurd (omega (arith, n))
      | in-Fork+then-place-before w ↦
          let all = sym c.self.view_is ∙ ap items w.in-Fork.is in
          let same = ap (λ (d : Fork g.row.E.Denot). length d.left) w.deref.ensures in
          let within : c.args.place < length w.in-Fork.fork.value.left = omega (arith, w.len-before.ensures.items, same) in
          grind (arith, all, within, w.self-inside-is, w.deref_mut.ensures.value, w.exchange.ensures.items, set_left)
      | in-Fork+else-place-before+then-place-before-2+in-Some w ↦
          let all = sym c.self.view_is ∙ ap items w.in-Fork.is in
          let some = (subst IsKept w.in-Fork.is c.self.invariant).0 in
          let same = ap (λ (d : Fork g.row.E.Denot). length d.left) w.deref.ensures in
          let at : c.args.place ≡ length w.in-Fork.fork.value.left = omega (arith, w.len-before.ensures.items, same, w.if-place-before-2.true) in
          let is = set_held w.in-Fork.fork.value.left w.in-Fork.fork.value.item w.in-Fork.fork.value.right c.args.place c.args.item some at in
          grind (arith, all, is, w.self-inside-is, w.deref_mut-then-place-before-2.ensures.value, w.replace.ensures.after)
      | in-Fork+else-place-before+else-place-before-2 w ↦
          let all = sym c.self.view_is ∙ ap items w.in-Fork.is in
          let some = (subst IsKept w.in-Fork.is c.self.invariant).0 in
          let same = ap (λ (d : Fork g.row.E.Denot). length d.left) w.deref.ensures in
          let at : w.len-before.result ≡ length w.in-Fork.fork.value.left = omega (arith, w.len-before.ensures.items, same) in
          let past : w.len-before.result < c.args.place = omega (arith, w.if-place-before.false, w.if-place-before-2.false) in
          let is = set_right w.in-Fork.fork.value.left w.in-Fork.fork.value.item w.in-Fork.fork.value.right c.args.place w.len-before.result c.args.item some at past in
          grind (arith, all, is, w.self-inside-is, w.deref_mut-else-place-before-2.ensures.value, w.exchange-else-place-before-2.ensures.items)
    ]

pub returns-clause-item : goal.returns-clause-item
returns-clause-item g t c =
    elim c.match-self.branch [
      | in-Leaf w ↦ let n = ap length (sym c.self.view_is ∙ ap items w.in-Leaf.is) in absurd (omega (arith, n))
      | in-Fork+then-place-before w ↦
          let f = w.in-Fork.fork.value in
          let all = ap items (sym w.in-Fork.is) ∙ c.self.view_is in
          let same = ap (λ (d : Fork g.row.E.Denot). length d.left) w.deref.ensures in
          let within : c.args.place < length f.left = omega (arith, w.len-before.ensures.items, same) in
          let e = ap (λ (d : Fork g.row.E.Denot). slice_get d.left c.args.place) (sym w.deref_mut.ensures.value) ∙ w.exchange.ensures.item in
          item_left f.left (held f.item ++ f.right) c.args.self.now c.args.place w.exchange.result all within e ∙ ap Some (sym w.result-is)
      | in-Fork+else-place-before+then-place-before-2+in-Some w ↦
          let f = w.in-Fork.fork.value in
          let all = ap items (sym w.in-Fork.is) ∙ c.self.view_is in
          let same = ap (λ (d : Fork g.row.E.Denot). length d.left) w.deref.ensures in
          let at : c.args.place ≡ length f.left = omega (arith, w.len-before.ensures.items, same, w.if-place-before-2.true) in
          let e = sym (w.replace.ensures.value ∙ ap (λ (d : Fork g.row.E.Denot). d.item) w.deref_mut-then-place-before-2.ensures.value) ∙ w.in-Some.is in
          item_here f.left f.item f.right c.args.self.now c.args.place w.in-Some.old all at e ∙ ap Some (sym w.result-is)
      | in-Fork+else-place-before+else-place-before-2 w ↦
          let f = w.in-Fork.fork.value in
          let all = ap items (sym w.in-Fork.is) ∙ c.self.view_is in
          let some = (subst IsKept w.in-Fork.is c.self.invariant).0 in
          let same = ap (λ (d : Fork g.row.E.Denot). length d.left) w.deref.ensures in
          let n = w.len-before.result in
          let at : n ≡ length f.left = omega (arith, w.len-before.ensures.items, same) in
          let past : n < c.args.place = omega (arith, w.if-place-before.false, w.if-place-before-2.false) in
          let e = ap (λ (d : Fork g.row.E.Denot). slice_get d.right (c.args.place - n - 1)) (sym w.deref_mut-else-place-before-2.ensures.value) ∙ w.exchange-else-place-before-2.ensures.item in
          item_right f.left f.item f.right c.args.self.now c.args.place n w.exchange-else-place-before-2.result all some at past e ∙ ap Some (sym w.result-is)
    ]
