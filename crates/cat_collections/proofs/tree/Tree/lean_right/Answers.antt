use Rattle.cat_collections.proofs.Leans.{in_parts, high_turn, high_turns}
use Rattle.cat_collections.proofs.tree.Tree.lean_right.Goals as goal

pub fork_high-requires : goal.fork_high-requires
fork_high-requires g c =
    let o = in_parts c.in_ok-outer.ensures.items c.in_ok-outer.ensures.balanced c.in-Some.is in
    let w = high_turn _ _ _ _ _ _ _ c.requires.room c.requires.large c.requires.near o.long o.sides c.len.ensures.items c.len-2.ensures.items c.if-len.true in
    record { room = w.0; high = w.1; sides = w.2 }

pub fork_both-requires : goal.fork_both-requires
fork_both-requires g c =
    let o = in_parts c.in_ok-outer.ensures.items c.in_ok-outer.ensures.balanced c.in-Some.is in
    let i = in_parts c.in_ok-inner.ensures.items c.in_ok-inner.ensures.balanced c.in-Some-2.is in
    let w = high_turns _ _ _ _ _ _ _ _ _ c.requires.room c.requires.large c.requires.near o.long o.sides c.len.ensures.items c.len-2.ensures.items c.if-len.false i.long i.sides in
    record { room = w.0; low = w.1; high = w.2; sides = w.3 }
