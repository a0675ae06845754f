use Rattle.std.proofs.Common.{inl, inr, refl}
use Rattle.cat_open_errors.proofs.Shut.{shut}
use Rattle.cat_server.proofs.server.run_server.Goals as goal

pub returns-in-None : goal.returns-in-None
returns-in-None g c = rw c.in-None.is (refl, refl, c.run_serve.ensures)

pub returns-in-Ok : goal.returns-in-Ok
returns-in-Ok g c = rw c.in-Some.is (inl (refl, refl, c.serve_opened.ensures))

-- the store wasn't opened
pub returns-in-Err : goal.returns-in-Err
returns-in-Err g c =
    let tables = g.K.Keeper.tables c.in-Some.place in
    let e = c.in-Err.ensures in
    let u = c.unopened.ensures in
    rw c.in-Some.is (inr (
      c.in-Err.keeper,
      refl,
      refl,
      shut g.O.Sink.written g.O.Sink.faults tables g.K.Keeper.faults c.unopened.result c.args.sink.now c.unopened.new.sink c.args.keeper c.in-Err.keeper u.ended u.unwritten e.same
          (λ is. e.cause (u.keeper is)) (λ is. u.unopenable is (tables c.args.keeper) e.opens) (λ is. u.refused is (tables c.args.keeper) e.named),
    ))
