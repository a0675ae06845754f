use Rattle.std.proofs.Common.{◌∷◌, ◌++◌, [], refl, sym, subst, ◌∙◌, arith, append_assoc}
use Rattle.std.proofs.lemmas.Result.{err_from_is_err_and}
use Rattle.cat_mirror.proofs.Followed.{CutShort, Fed, fed_cut, fed_more, fed_none, fed_short, fed_then, split_on}
use Rattle.cat_mirror.proofs.lines.Following.feed.Goals as goal
use Rattle.cat_mirror.specs.declared.lines.Following.{Following}
use Rattle.cat_mirror.specs.declared.stop.Stop.TheVariants.{NoMemory}

pub loop-front-init : goal.loop-front-init
loop-front-init g c = record {
  fed = ([], refl, fed_none _ _);
  later = omega arith;
}

pub loop-front-preserved : goal.loop-front-preserved
loop-front-preserved g c =
    let fed = c.loop-front.invariant.fed in
    let before = g.O.Sink.written c.args.sink.now in
    let now = g.O.Sink.written c.loop-front.sink in
    let after = g.O.Sink.written c.answer_line.new.sink in
    let with_front : Following = record c.loop-front.self { line = c.extend.new.self } in
    record {
      fed = (
        (fed.0 ++ c.in-Some.front.now) ++ 10 ∷ [],
        split_on c.args.piece.now fed.0 c.loop-front.rest.now c.in-Some.front.now c.in-Some.behind.now fed.1 c.in-Some.ensures.some.0 ∙ sym (append_assoc (fed.0 ++ c.in-Some.front.now) (10 ∷ []) c.in-Some.behind.now),
        fed_then before now after c.args.self.now with_front c.answer_line.new.self (fed.0 ++ c.in-Some.front.now) (10 ∷ [])
            (fed_more before now c.args.self.now c.loop-front.self with_front fed.0 c.in-Some.front.now c.in-Some.ensures.some.1 refl c.in_ok-extend.ensures fed.2) c.in_ok-answer_line.ensures.ok,
      );
      later = omega (arith, c.loop-front.invariant.later, c.answer_line.ensures.later);
    }

pub returns-in_err-extend-clause-err : goal.returns-in_err-extend-clause-err
returns-in_err-extend-clause-err g c =
    let p = err_from_is_err_and c.from_residual.result c.from_residual.ensures.1 in
    let fed = c.loop-front.invariant.fed in
    let before = g.O.Sink.written c.args.sink.now in
    let now = g.O.Sink.written c.loop-front.sink in
    rw (p.1, p.2) (subst (λ l. CutShort NoMemory before now c.args.self.now l) (sym fed.1) (fed_short before now c.args.self.now c.loop-front.self fed.0 c.loop-front.rest.now fed.2))

pub returns-in_err-answer_line-clause-err : goal.returns-in_err-answer_line-clause-err
returns-in_err-answer_line-clause-err g c =
    let p = err_from_is_err_and c.from_residual-in_err-answer_line.result c.from_residual-in_err-answer_line.ensures.1 in
    let fed = c.loop-front.invariant.fed in
    let before = g.O.Sink.written c.args.sink.now in
    let now = g.O.Sink.written c.loop-front.sink in
    let after = g.O.Sink.written c.answer_line.new.sink in
    let with_front : Following = record c.loop-front.self { line = c.extend.new.self } in
    let split = split_on c.args.piece.now fed.0 c.loop-front.rest.now c.in-Some.front.now c.in-Some.behind.now fed.1 c.in-Some.ensures.some.0 in
    rw (p.1, p.2) (subst (λ l. CutShort c.in_err-answer_line.field-0.0 before after c.args.self.now l) (sym split)
    (fed_cut c.in_err-answer_line.field-0.0 before now after c.args.self.now with_front (fed.0 ++ c.in-Some.front.now) (10 ∷ []) c.in-Some.behind.now
    (fed_more before now c.args.self.now c.loop-front.self with_front fed.0 c.in-Some.front.now c.in-Some.ensures.some.1 refl c.in_ok-extend.ensures fed.2) c.in_err-answer_line.ensures.err))

pub returns-in_err-extend-2-clause-err : goal.returns-in_err-extend-2-clause-err
returns-in_err-extend-2-clause-err g c =
    let p = err_from_is_err_and c.from_residual-in_err-extend-2.result c.from_residual-in_err-extend-2.ensures.1 in
    let fed = c.loop-front.invariant.fed in
    let before = g.O.Sink.written c.args.sink.now in
    let now = g.O.Sink.written c.loop-front.sink in
    rw (p.1, p.2) (subst (λ l. CutShort NoMemory before now c.args.self.now l) (sym fed.1) (fed_short before now c.args.self.now c.loop-front.self fed.0 c.loop-front.rest.now fed.2))

pub returns-clause-ok : goal.returns-clause-ok
returns-clause-ok g c =
    let fed = c.loop-front.invariant.fed in
    let before = g.O.Sink.written c.args.sink.now in
    let now = g.O.Sink.written c.loop-front.sink in
    let with_rest : Following = record c.loop-front.self { line = c.extend-2.new.self } in
    subst (λ l. Fed before now c.args.self.now with_rest l) (sym fed.1)
    (fed_more before now c.args.self.now c.loop-front.self with_rest fed.0 c.loop-front.rest.now c.in_default.ensures.none refl c.in_ok-extend-2.ensures fed.2)
