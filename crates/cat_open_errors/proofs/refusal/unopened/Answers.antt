use Rattle.std.proofs.Common.{subst}
use Rattle.std.specs.Prelude.{IfSome}
use Rattle.cat_model.specs.declared.types.OrphanRule.TheVariants.{Keep}
use Rattle.cat_store.specs.Refused.{IsNamed}
use Rattle.cat_session_model.specs.Program.{program_settings}
use Rattle.cat_open_errors.specs.Unopened.{IsLineOf}
use Rattle.cat_open_errors.proofs.refusal.unopened.Goals as goal

pub returns-in-Row-clause-refused : goal.returns-in-Row-clause-refused
returns-in-Row-clause-refused g c = λ is told named.
    let table = c.in-Row.table in (
      table,
      c.in-Row.key,
      subst (λ fault. IfSome told (λ rows. IsNamed (program_settings Keep).input_limit rows fault)) c.in-Row.is named,
      subst (λ key. IsLineOf table key (g.O.Sink.written c.args.sink.now) (g.O.Sink.written c.refuse.new.sink) (g.O.Sink.faults c.args.sink.now) (g.O.Sink.faults c.refuse.new.sink))
          c.as_str.ensures (c.refuse.ensures.refused is),
    )
