use Rattle.std.proofs.Common.{◌≡◌, ◌∙◌, ◌+◌, arith, sym, subst, length, take}
use Rattle.std.specs.Io.KnownBytes.{Keeps, IsAtEnd, Consumes}
use Rattle.std.proofs.lemmas.List.{length-take-le}
use Rattle.cat_io.specs.Session.{SoFar}
use Rattle.cat_io.proofs.Sessions.{so_far_more, so_far_part, so_far_whole, so_far_last, read_nothing, at_err, at_ok}
use Rattle.cat_io.proofs.line_loop.answer_all.Goals as goal
use Rattle.cat_io.proofs.line_loop.answer_all.Goals.{in-Read, in-End}

pub returns-in-Ok-clause-outcome : goal.returns-in-Ok-clause-outcome
returns-in-Ok-clause-outcome g c =
    let end : Keeps (g.S.Source.left c.loop-taken.source) (g.S.Source.left c.read_piece.new.source) × IsAtEnd (g.S.Source.left c.read_piece.new.source) =
    elim c.match-read_piece.branch [ in-Read w ↦ read_nothing _ _ w.in-Read.count c.read_piece.new.buffer (sym w.count-is ∙ c.if-count-eq0.true) (omega arith) w.in-Read.ensures.bytes | in-End w ↦ w.in-End.ensures.bytes ] in
    so_far_whole _ _ _ _ _ _ _ _ _ _ _ _ _ c.loop-taken.invariant.so_far end.0 end.1 c.in-Ok.ensures.ok

pub returns-in-Err-clause-outcome : goal.returns-in-Err-clause-outcome
returns-in-Err-clause-outcome g c =
    let end : Keeps (g.S.Source.left c.loop-taken.source) (g.S.Source.left c.read_piece.new.source) × IsAtEnd (g.S.Source.left c.read_piece.new.source) =
    elim c.match-read_piece.branch [ in-Read w ↦ read_nothing _ _ w.in-Read.count c.read_piece.new.buffer (sym w.count-is ∙ c.if-count-eq0.true) (omega arith) w.in-Read.ensures.bytes | in-End w ↦ w.in-End.ensures.bytes ] in
    so_far_last _ _ _ _ _ _ _ _ _ _ _ _ _ c.loop-taken.invariant.so_far end.0 end.1 c.in-Err.ensures.err

pub returns-then-is_err-clause-outcome : goal.returns-then-is_err-clause-outcome
returns-then-is_err-clause-outcome g c =
    elim c.match-read_piece.branch [
      | in-Read w ↦
          let reads = subst (λ k. Consumes (g.S.Source.left c.loop-taken.source) (g.S.Source.left c.read_piece.new.source) (take k c.read_piece.new.buffer)) (sym w.count-is) w.in-Read.ensures.bytes.1 in
          so_far_part _ _ _ _ _ _ _ _ _ _ _ _ _ _ c.loop-taken.invariant.so_far reads (at_err c.feed.result c.if-is_err.ensures.value c.feed.ensures.err)
      | in-End w ↦ absurd (c.if-count-eq0.false w.count-is)
    ]

pub loop-taken-preserved : goal.loop-taken-preserved
loop-taken-preserved g c = record {
  so_far = elim c.match-read_piece.branch [
    | in-Read w ↦
        let reads = subst (λ k. Consumes (g.S.Source.left c.loop-taken.source) (g.S.Source.left c.read_piece.new.source) (take k c.read_piece.new.buffer)) (sym w.count-is) w.in-Read.ensures.bytes.1 in
        let long : length (take c.match-read_piece.count c.read_piece.new.buffer) ≡ c.match-read_piece.count = length-take-le c.match-read_piece.count c.read_piece.new.buffer (omega (arith, w.count-is, w.in-Read.ensures.bytes.0)) in
        subst (λ k. SoFar g.M.Machine.after g.M.Machine.reply (g.S.Source.left c.args.source.now) (g.S.Source.left c.read_piece.new.source) (g.O.Sink.written c.args.sink.now) (g.O.Sink.written c.feed.new.sink) c.args.machine.now c.feed.new.machine c.feed.new.line (c.loop-taken.taken + k)) long
        (so_far_more _ _ _ _ _ _ _ _ _ _ _ _ _ _ _ c.loop-taken.invariant.so_far reads (at_ok c.feed.result c.if-is_err.ensures.value c.feed.ensures.ok))
    | in-End w ↦ absurd (c.if-count-eq0.false w.count-is)
  ];
  bound = elim c.match-read_piece.branch [
    | in-Read w ↦ omega (arith, w.count-is, w.in-Read.ensures.at_most, c.min-most.ensures, c.loop-taken.invariant.bound)
    | in-End w ↦ absurd (c.if-count-eq0.false w.count-is)
  ];
  read_later = omega (arith, c.loop-taken.invariant.read_later, c.read_piece.ensures.later);
  write_later = omega (arith, c.loop-taken.invariant.write_later, c.feed.ensures.later);
}
