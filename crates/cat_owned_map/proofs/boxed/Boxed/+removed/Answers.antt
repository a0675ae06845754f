use Rattle.std.proofs.Common.{◌≡◌, ◌-◌, ◌<◌, length, arith}
use Rattle.cat_collections.specs.declared.tree.TheConstants.{MOST}
use Rattle.cat_owned_map.proofs.Nodes.{item_here, item_left, item_right, on_right, room_left, room_right}
use Rattle.cat_owned_map.proofs.boxed.Boxed.+removed.Goals as goal

pub join-requires-clause-room : goal.join-requires-clause-room
join-requires-clause-room g t c =
    let p = c.in-Some.parts in
    let within : c.args.place < length p.left = omega (arith, c.len-before.ensures.items) in
    room_left p.left p.fork.value.item p.right c.args.self c.removed-node.result.1 c.args.place MOST c.in-Some.ensures.whole.0 c.in-Some.ensures.items c.in-Some.ensures.most within c.removed-node.ensures.rest

pub join-requires-else-place-before-2-clause-room : goal.join-requires-else-place-before-2-clause-room
join-requires-else-place-before-2-clause-room g t c =
    let p = c.in-Some.parts in
    let n = c.len-before.result in
    let past : n < c.args.place = omega arith in
    let within = on_right p.left p.fork.value.item p.right c.args.self c.args.place n c.in-Some.ensures.whole.0 c.in-Some.ensures.items c.requires c.len-before.ensures.items past in
    room_right p.left p.fork.value.item p.right c.args.self c.removed-node-else-place-before-2.result.1 (c.args.place - n - 1) MOST c.in-Some.ensures.whole.0 c.in-Some.ensures.items c.in-Some.ensures.most within c.removed-node-else-place-before-2.ensures.rest

pub returns-then-place-before-clause-item : goal.returns-then-place-before-clause-item
returns-then-place-before-clause-item g t c =
    let p = c.in-Some.parts in
    let within : c.args.place < length p.left = omega (arith, c.len-before.ensures.items) in
    item_left p.left _ c.args.self c.args.place c.removed-node.result.0 c.in-Some.ensures.items within c.removed-node.ensures.item

pub returns-then-place-before-2-clause-item : goal.returns-then-place-before-2-clause-item
returns-then-place-before-2-clause-item g t c =
    let p = c.in-Some.parts in
    let at : c.args.place ≡ length p.left = omega (arith, c.len-before.ensures.items, c.if-place-before-2.true) in
    item_here p.left p.fork.value.item p.right c.args.self c.args.place c.taken_out-node.result c.in-Some.ensures.items at c.taken_out-node.ensures

pub returns-else-place-before-2-clause-item : goal.returns-else-place-before-2-clause-item
returns-else-place-before-2-clause-item g t c =
    let p = c.in-Some.parts in
    let n = c.len-before.result in
    let past : n < c.args.place = omega arith in
    item_right p.left p.fork.value.item p.right c.args.self c.args.place n c.removed-node-else-place-before-2.result.0 c.in-Some.ensures.items c.in-Some.ensures.whole.0 c.len-before.ensures.items past c.removed-node-else-place-before-2.ensures.item
