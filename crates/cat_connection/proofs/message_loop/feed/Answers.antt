use Rattle.std.proofs.Common.{◌≡◌, ◌∙◌, ◌+◌, arith, ap, sym, subst, drop, length, length-drop}
use Rattle.std.proofs.lemmas.List.{drop-drop}
use Rattle.cat_http.specs.Lines.{blank}
use Rattle.cat_http.proofs.LineLemmas.{tail-is}
use Rattle.cat_connection.specs.Connection.{Steps, StepsPart, Feeding}
use Rattle.cat_connection.proofs.Connections.{feeding_more, feeding_last, feeding_part, feeding_end}
use Rattle.cat_connection.proofs.message_loop.feed.Goals as goal

pub loop-used-preserved : goal.loop-used-preserved
loop-used-preserved g c =
    let rest = drop c.loop-used.at c.args.bytes.now in
    let step = subst (λ s. Steps g.M.Machine.answers g.M.Machine.lacks (g.O.Sink.written c.loop-used.sink) (g.O.Sink.written c.serve_next.new.sink) c.loop-used.machine c.serve_next.new.machine rest s) c.in-Ok-On.field-0-is
    (subst (λ l. Steps g.M.Machine.answers g.M.Machine.lacks (g.O.Sink.written c.loop-used.sink) (g.O.Sink.written c.serve_next.new.sink) c.loop-used.machine c.serve_next.new.machine l c.in-Ok-On.field-0) (tail-is c.args.bytes.now c.loop-used.at) c.in-Ok-On.ensures.ok) in
    let joined : drop c.in-Ok-On.used rest ≡ drop (c.loop-used.at + c.in-Ok-On.used) c.args.bytes.now = drop-drop c.in-Ok-On.used c.loop-used.at c.args.bytes.now in
    record {
      inside = omega (arith, step.4, length-drop c.loop-used.at c.args.bytes.now, c.loop-used.invariant.inside);
      feeding = subst (λ l. Feeding g.M.Machine.answers g.M.Machine.lacks (g.O.Sink.written c.args.sink.now) (g.O.Sink.written c.serve_next.new.sink) c.args.machine.now c.serve_next.new.machine c.args.bytes.now l) joined
          (feeding_more _ _ _ _ _ _ _ _ c.args.bytes.now rest c.in-Ok-On.used c.loop-used.invariant.feeding step);
      later = omega (arith, c.loop-used.invariant.later, c.serve_next.ensures.later);
    }

pub returns-in-Ok-Last-clause-ok : goal.returns-in-Ok-Last-clause-ok
returns-in-Ok-Last-clause-ok g c =
    let rest = drop c.loop-used.at c.args.bytes.now in
    let step = subst (λ s. Steps g.M.Machine.answers g.M.Machine.lacks (g.O.Sink.written c.loop-used.sink) (g.O.Sink.written c.serve_next.new.sink) c.loop-used.machine c.serve_next.new.machine rest s) c.in-Ok-Last.field-0-is
    (subst (λ l. Steps g.M.Machine.answers g.M.Machine.lacks (g.O.Sink.written c.loop-used.sink) (g.O.Sink.written c.serve_next.new.sink) c.loop-used.machine c.serve_next.new.machine l c.in-Ok-Last.field-0) (tail-is c.args.bytes.now c.loop-used.at) c.in-Ok-Last.ensures.ok) in
    feeding_last _ _ _ _ _ _ _ _ c.args.bytes.now rest c.loop-used.invariant.feeding step

pub returns-in-Ok-Short-clause-ok : goal.returns-in-Ok-Short-clause-ok
returns-in-Ok-Short-clause-ok g c =
    let rest = drop c.loop-used.at c.args.bytes.now in
    let step = subst (λ s. Steps g.M.Machine.answers g.M.Machine.lacks (g.O.Sink.written c.loop-used.sink) (g.O.Sink.written c.serve_next.new.sink) c.loop-used.machine c.serve_next.new.machine rest s) c.in-Ok-Short.field-0-is
    (subst (λ l. Steps g.M.Machine.answers g.M.Machine.lacks (g.O.Sink.written c.loop-used.sink) (g.O.Sink.written c.serve_next.new.sink) c.loop-used.machine c.serve_next.new.machine l c.in-Ok-Short.field-0) (tail-is c.args.bytes.now c.loop-used.at) c.in-Ok-Short.ensures.ok) in
    let joined : drop c.blank_length.result rest ≡ drop (c.loop-used.at + c.blank_length.result) c.args.bytes.now = drop-drop c.blank_length.result c.loop-used.at c.args.bytes.now in
    feeding_end _ _ _ _ _ _ _ _ c.args.bytes.now rest (c.loop-used.at + c.blank_length.result) c.loop-used.invariant.feeding step
    (sym joined ∙ ap (λ k. drop k rest) (c.blank_length.ensures.value ∙ ap blank (tail-is c.args.bytes.now c.loop-used.at)))
    (omega (arith, c.blank_length.ensures.within, ap length (tail-is c.args.bytes.now c.loop-used.at), length-drop c.loop-used.at c.args.bytes.now, c.loop-used.invariant.inside))

pub returns-in-Err-clause-err : goal.returns-in-Err-clause-err
returns-in-Err-clause-err g c =
    let rest = drop c.loop-used.at c.args.bytes.now in
    let part = subst (λ l. StepsPart g.M.Machine.answers g.M.Machine.lacks (g.O.Sink.written c.loop-used.sink) (g.O.Sink.written c.serve_next.new.sink) c.loop-used.machine c.serve_next.new.machine l) (tail-is c.args.bytes.now c.loop-used.at) c.in-Err.ensures.err in
    feeding_part _ _ _ _ _ _ _ _ c.args.bytes.now rest c.loop-used.invariant.feeding part
