use Rattle.std.proofs.Common.{length, sym}
use Rattle.cat_stored_rows.proofs.Walking.{arrived, fewer_both, fewer_new, fewer_old, further, left_above, none_above, tied, turned_round}
use Rattle.cat_stored_rows.proofs.walk.step.Goals as goal

pub returns-in-None-None-clause-end : goal.returns-in-None-None-clause-end
returns-in-None-None-clause-end g c =
    let walk = c.args.walk.now in
    λ _. arrived g.X.Told.told c.args.old.now c.args.new.now walk.from walk.to walk.batch walk.batch c.requires.leads (sym c.in-None-None.ensures) (sym c.in-None-None.ensures')

pub enter-requires-clause-above : goal.enter-requires-clause-above
enter-requires-clause-above g c = none_above c.args.old.now c.args.walk.now.from c.in-None-Some.is'.now.0 (sym c.in-None-Some.ensures)

pub leave-requires-clause-above : goal.leave-requires-clause-above
leave-requires-clause-above g c = none_above c.args.new.now c.args.walk.now.to c.in-Some-None.was.now.0 (sym c.in-Some-None.ensures')

pub leave-requires-in-Less-clause-above : goal.leave-requires-in-Less-clause-above
leave-requires-in-Less-clause-above g c =
    left_above c.args.new.now c.args.walk.now.to c.in-Some-Some.is'.now c.in-Some-Some.was.now.0 c.in_order-2.ensures (sym c.in-Some-Some.ensures') (sym c.in-Less.ensures)

pub enter-requires-in-Greater-clause-above : goal.enter-requires-in-Greater-clause-above
enter-requires-in-Greater-clause-above g c =
    left_above c.args.old.now c.args.walk.now.from c.in-Some-Some.was.now c.in-Some-Some.is'.now.0 c.in_order.ensures (sym c.in-Some-Some.ensures)
    (turned_round c.in-Some-Some.was.now.0 c.in-Some-Some.is'.now.0 (sym c.in-Greater.ensures))

pub keep-requires-clause-key : goal.keep-requires-clause-key
keep-requires-clause-key g c = tied c.in-Some-Some.was.now.0 c.in-Some-Some.is'.now.0 (sym c.in-Equal.ensures)

pub turn-requires-clause-key : goal.turn-requires-clause-key
turn-requires-clause-key g c = tied c.in-Some-Some.was.now.0 c.in-Some-Some.is'.now.0 (sym c.in-Equal.ensures)

pub returns-in_ok-enter-in-None-Some-clause-further : goal.returns-in_ok-enter-in-None-Some-clause-further
returns-in_ok-enter-in-None-Some-clause-further g c =
    λ _. fewer_new (length c.args.old.now) (length c.args.new.now) c.args.walk.now.from c.args.walk.now.to c.enter.new.walk.from c.enter.new.walk.to
    (further c.args.new.now c.args.walk.now.to c.in-None-Some.is'.now (sym c.in-None-Some.ensures')) c.in_ok-enter-in-None-Some.ensures.from c.in_ok-enter-in-None-Some.ensures.to

pub returns-in_ok-leave-in-Some-None-clause-further : goal.returns-in_ok-leave-in-Some-None-clause-further
returns-in_ok-leave-in-Some-None-clause-further g c =
    λ _. fewer_old (length c.args.old.now) (length c.args.new.now) c.args.walk.now.from c.args.walk.now.to c.leave.new.walk.from c.leave.new.walk.to
    (further c.args.old.now c.args.walk.now.from c.in-Some-None.was.now (sym c.in-Some-None.ensures)) c.in_ok-leave-in-Some-None.ensures.from c.in_ok-leave-in-Some-None.ensures.to

pub returns-in_ok-leave-in-Less-clause-further : goal.returns-in_ok-leave-in-Less-clause-further
returns-in_ok-leave-in-Less-clause-further g c =
    λ _. fewer_old (length c.args.old.now) (length c.args.new.now) c.args.walk.now.from c.args.walk.now.to c.leave-in-Less.new.walk.from c.leave-in-Less.new.walk.to
    (further c.args.old.now c.args.walk.now.from c.in-Some-Some.was.now (sym c.in-Some-Some.ensures)) c.in_ok-leave-in-Less.ensures.from c.in_ok-leave-in-Less.ensures.to

pub returns-in_ok-enter-in-Greater-clause-further : goal.returns-in_ok-enter-in-Greater-clause-further
returns-in_ok-enter-in-Greater-clause-further g c =
    λ _. fewer_new (length c.args.old.now) (length c.args.new.now) c.args.walk.now.from c.args.walk.now.to c.enter-in-Greater.new.walk.from c.enter-in-Greater.new.walk.to
    (further c.args.new.now c.args.walk.now.to c.in-Some-Some.is'.now (sym c.in-Some-Some.ensures')) c.in_ok-enter-in-Greater.ensures.from c.in_ok-enter-in-Greater.ensures.to

pub returns-then-is_same-clause-further : goal.returns-then-is_same-clause-further
returns-then-is_same-clause-further g c =
    λ _. fewer_both (length c.args.old.now) (length c.args.new.now) c.args.walk.now.from c.args.walk.now.to c.keep.new.walk.from c.keep.new.walk.to
    (further c.args.old.now c.args.walk.now.from c.in-Some-Some.was.now (sym c.in-Some-Some.ensures)) (further c.args.new.now c.args.walk.now.to c.in-Some-Some.is'.now (sym c.in-Some-Some.ensures')) c.keep.ensures.from c.keep.ensures.to

pub returns-in_ok-turn-in-Equal-clause-further : goal.returns-in_ok-turn-in-Equal-clause-further
returns-in_ok-turn-in-Equal-clause-further g c =
    λ _. fewer_both (length c.args.old.now) (length c.args.new.now) c.args.walk.now.from c.args.walk.now.to c.turn.new.walk.from c.turn.new.walk.to
    (further c.args.old.now c.args.walk.now.from c.in-Some-Some.was.now (sym c.in-Some-Some.ensures)) (further c.args.new.now c.args.walk.now.to c.in-Some-Some.is'.now (sym c.in-Some-Some.ensures')) c.in_ok-turn-in-Equal.ensures.from c.in_ok-turn-in-Equal.ensures.to
