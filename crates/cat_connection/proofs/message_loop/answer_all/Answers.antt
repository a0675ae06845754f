use Rattle.std.proofs.Common.{◌≡◌, ◌∙◌, ◌+◌, ◌++◌, arith, ap, sym, subst, drop, length, take}
use Rattle.std.specs.Io.KnownBytes.{Keeps, IsAtEnd, Consumes}
use Rattle.std.proofs.lemmas.List.{length-take-le}
use Rattle.cat_io.proofs.Sessions.{read_nothing}
use Rattle.cat_connection.specs.Connection.{SoFar, Feeds, FeedsPart}
use Rattle.cat_connection.proofs.Connections.{Consumes_none, so_far_none, so_far_room, so_far_more, so_far_closed, so_far_part, so_far_end, so_far_fault, so_far_bound}
use Rattle.cat_connection.proofs.message_loop.answer_all.Goals as goal
use Rattle.cat_connection.proofs.message_loop.answer_all.Goals.{in-Read, in-End}

pub loop-taken-init : goal.loop-taken-init
loop-taken-init g c = record {
  so_far = so_far_none g.M.Machine.answers g.M.Machine.lacks _ _ _ _ c.args.window.now c.requires.empty (Consumes_none _);
  bound = omega arith;
  read_later = omega arith;
  write_later = omega arith;
}

pub read_piece-requires-clause-some : goal.read_piece-requires-clause-some
read_piece-requires-clause-some g c =
    let room = so_far_room _ _ _ _ _ _ _ _ c.loop-taken.window c.loop-taken.taken c.loop-taken.invariant.so_far in
    omega (arith, room, c.loop-taken-test.true, c.room.ensures, c.min.ensures, c.min-most.ensures)

pub returns-in-Failed-clause-outcome : goal.returns-in-Failed-clause-outcome
returns-in-Failed-clause-outcome g c =
    so_far_fault _ _ _ _ _ _ _ _ _ c.loop-taken.window c.loop-taken.taken c.loop-taken.invariant.so_far c.in-Failed.ensures.bytes

pub returns-then-count-eq0-clause-outcome : goal.returns-then-count-eq0-clause-outcome
returns-then-count-eq0-clause-outcome g c =
    let end : Keeps (g.S.Source.left c.loop-taken.source) (g.S.Source.left c.read_piece.new.source) × IsAtEnd (g.S.Source.left c.read_piece.new.source) =
    elim c.match-read_piece.branch [ in-Read w ↦ read_nothing _ _ w.in-Read.count c.read_piece.new.buffer (sym w.count-is ∙ c.if-count-eq0.true) (omega arith) w.in-Read.ensures.bytes | in-End w ↦ w.in-End.ensures.bytes ] in
    so_far_end _ _ _ _ _ _ _ _ _ c.loop-taken.window c.loop-taken.taken c.loop-taken.invariant.so_far end.0 end.1

pub loop-taken-preserved : goal.loop-taken-preserved
loop-taken-preserved g c =
    let piece = take c.match-read_piece.count c.read_piece.new.buffer in
    let is : c.bytes.result.now ≡ c.loop-taken.window ++ piece = c.bytes.ensures ∙ c.extend.ensures in
    let fed = subst (λ s. Feeds g.M.Machine.answers g.M.Machine.lacks (g.O.Sink.written c.loop-taken.sink) (g.O.Sink.written c.feed.new.sink) c.loop-taken.machine c.feed.new.machine (c.loop-taken.window ++ piece) s) c.in-Ok-Open.field-0-is
    (subst (λ l. Feeds g.M.Machine.answers g.M.Machine.lacks (g.O.Sink.written c.loop-taken.sink) (g.O.Sink.written c.feed.new.sink) c.loop-taken.machine c.feed.new.machine l c.in-Ok-Open.field-0) is c.in-Ok-Open.ensures.ok) in
    let kept : c.skip.new.self ≡ drop c.in-Ok-Open.gone (c.loop-taken.window ++ piece) = c.skip.ensures ∙ ap (λ l. drop c.in-Ok-Open.gone l) c.extend.ensures in
    record {
      so_far = elim c.match-read_piece.branch [
        | in-Read w ↦
            let reads = subst (λ k. Consumes (g.S.Source.left c.loop-taken.source) (g.S.Source.left c.read_piece.new.source) (take k c.read_piece.new.buffer)) (sym w.count-is) w.in-Read.ensures.bytes.1 in
            let long : length piece ≡ c.match-read_piece.count = length-take-le c.match-read_piece.count c.read_piece.new.buffer (omega (arith, w.count-is, w.in-Read.ensures.bytes.0)) in
            subst (λ k. SoFar g.M.Machine.answers g.M.Machine.lacks (g.S.Source.left c.args.source.now) (g.S.Source.left c.read_piece.new.source) (g.O.Sink.written c.args.sink.now) (g.O.Sink.written c.feed.new.sink) c.args.machine.now c.feed.new.machine c.skip.new.self (c.loop-taken.taken + k)) long
            (so_far_more _ _ _ _ _ _ _ _ _ _ _ c.loop-taken.taken c.in-Ok-Open.gone c.loop-taken.window c.skip.new.self piece c.loop-taken.invariant.so_far reads fed kept)
        | in-End w ↦ absurd (c.if-count-eq0.false w.count-is)
      ];
      bound = elim c.match-read_piece.branch [
        | in-Read w ↦ omega (arith, w.count-is, w.in-Read.ensures.at_most, c.min-most.ensures, c.loop-taken.invariant.bound)
        | in-End w ↦ absurd (c.if-count-eq0.false w.count-is)
      ];
      read_later = omega (arith, c.loop-taken.invariant.read_later, c.read_piece.ensures.later);
      write_later = omega (arith, c.loop-taken.invariant.write_later, c.feed.ensures.later);
    }

pub returns-in-Ok-Closed-clause-outcome : goal.returns-in-Ok-Closed-clause-outcome
returns-in-Ok-Closed-clause-outcome g c =
    let piece = take c.match-read_piece.count c.read_piece.new.buffer in
    let is : c.bytes.result.now ≡ c.loop-taken.window ++ piece = c.bytes.ensures ∙ c.extend.ensures in
    let fed = subst (λ s. Feeds g.M.Machine.answers g.M.Machine.lacks (g.O.Sink.written c.loop-taken.sink) (g.O.Sink.written c.feed.new.sink) c.loop-taken.machine c.feed.new.machine (c.loop-taken.window ++ piece) s) c.in-Ok-Closed.field-0-is
    (subst (λ l. Feeds g.M.Machine.answers g.M.Machine.lacks (g.O.Sink.written c.loop-taken.sink) (g.O.Sink.written c.feed.new.sink) c.loop-taken.machine c.feed.new.machine l c.in-Ok-Closed.field-0) is c.in-Ok-Closed.ensures.ok) in
    elim c.match-read_piece.branch [
      | in-Read w ↦
          let reads = subst (λ k. Consumes (g.S.Source.left c.loop-taken.source) (g.S.Source.left c.read_piece.new.source) (take k c.read_piece.new.buffer)) (sym w.count-is) w.in-Read.ensures.bytes.1 in
          so_far_closed _ _ _ _ _ _ _ _ _ _ _ c.loop-taken.taken c.loop-taken.window piece c.loop-taken.invariant.so_far reads fed
      | in-End w ↦ absurd (c.if-count-eq0.false w.count-is)
    ]

pub returns-in-Err-clause-outcome : goal.returns-in-Err-clause-outcome
returns-in-Err-clause-outcome g c =
    let piece = take c.match-read_piece.count c.read_piece.new.buffer in
    let is : c.bytes.result.now ≡ c.loop-taken.window ++ piece = c.bytes.ensures ∙ c.extend.ensures in
    let part = subst (λ l. FeedsPart g.M.Machine.answers g.M.Machine.lacks (g.O.Sink.written c.loop-taken.sink) (g.O.Sink.written c.feed.new.sink) c.loop-taken.machine c.feed.new.machine l) is c.in-Err.ensures.err in
    elim c.match-read_piece.branch [
      | in-Read w ↦
          let reads = subst (λ k. Consumes (g.S.Source.left c.loop-taken.source) (g.S.Source.left c.read_piece.new.source) (take k c.read_piece.new.buffer)) (sym w.count-is) w.in-Read.ensures.bytes.1 in
          so_far_part _ _ _ _ _ _ _ _ _ _ _ c.loop-taken.taken c.loop-taken.window piece c.loop-taken.invariant.so_far reads part
      | in-End w ↦ absurd (c.if-count-eq0.false w.count-is)
    ]

pub returns-clause-outcome : goal.returns-clause-outcome
returns-clause-outcome g c =
    so_far_bound _ _ _ _ _ _ _ _ c.loop-taken.window c.loop-taken.taken c.loop-taken.invariant.so_far (omega (arith, c.loop-taken-test.false, c.loop-taken.invariant.bound))
