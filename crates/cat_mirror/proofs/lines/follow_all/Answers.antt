use Rattle.std.proofs.Common.{arith, sym, subst, take}
use Rattle.std.proofs.lemmas.Result.{err_from_is_err_and}
use Rattle.std.specs.Io.KnownBytes.{Consumes}
use Rattle.cat_mirror.proofs.Followed.{so_far_cut, so_far_none}
use Rattle.cat_mirror.proofs.lines.follow_all.Goals.{in-Read, in-End}
use Rattle.cat_mirror.proofs.lines.follow_all.Goals as goal

pub loop-taken-init : goal.loop-taken-init
loop-taken-init g c = record {
  so_far = so_far_none _ _ _ c.requires.begun;
  bound = omega arith;
  read_later = omega arith;
  write_later = omega arith;
}

pub returns-in_err-feed-clause-err : goal.returns-in_err-feed-clause-err
returns-in_err-feed-clause-err g c =
    let p = err_from_is_err_and c.from_residual.result c.from_residual.ensures.1 in
    rw (p.1, p.2) (elim c.match-read_piece.branch [
      | in-Read w ↦
          let left1 = g.S.Source.left c.loop-taken.source in
          let left2 = g.S.Source.left c.read_piece.new.source in
          let reads = subst (λ k. Consumes left1 left2 (take k c.read_piece.new.buffer)) (sym w.count-is) w.in-Read.ensures.bytes.1 in
          so_far_cut c.in_err-feed.field-0.0 (g.S.Source.left c.args.source.now) left1 left2 (g.O.Sink.written c.args.sink.now) (g.O.Sink.written c.loop-taken.sink) (g.O.Sink.written c.feed.new.sink) c.loop-taken.following c.loop-taken.taken (take c.match-read_piece.count c.read_piece.new.buffer) c.loop-taken.invariant.so_far reads c.in_err-feed.ensures.err
      | in-End w ↦ absurd (c.if-count-eq0.false w.count-is)
    ])
