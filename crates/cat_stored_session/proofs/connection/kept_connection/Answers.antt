use Rattle.std.proofs.Common.{refl}
use Rattle.cat_stored_session.proofs.Serving.{outcome_kept, transcript_kept}
use Rattle.cat_stored_session.proofs.connection.kept_connection.Goals as goal

pub returns-clause-outcome : goal.returns-clause-outcome
returns-clause-outcome g c =
    outcome_kept g.L.Layers.rules (λ d. d.catalogue) (λ d. d.clock) (λ t. t.moment) (λ t. t.readings) (λ d. d.feed) (λ d. d.store.place) (λ d. d.refusals) (λ s. s.desk) c.connection.result
    (g.S.Source.left c.args.source.now) (g.S.Source.left c.connection.new.source) (g.O.Sink.written c.args.sink.now) (g.O.Sink.written c.connection.new.sink)
    c.args.service.now c.connection.new.machine c.args.service.now.desk c.connection.new.machine.desk refl refl c.requires c.connection.ensures.outcome

pub returns-clause-transcript : goal.returns-clause-transcript
returns-clause-transcript g c =
    transcript_kept g.L.Layers.rules (λ d. d.catalogue) (λ d. d.clock) (λ t. t.moment) (λ t. t.readings) (λ d. d.feed) (λ d. d.store.place) (λ d. d.refusals) (λ s. s.desk) c.connection.result
    (g.S.Source.left c.args.source.now) (g.S.Source.left c.connection.new.source) (g.O.Sink.written c.args.sink.now) (g.O.Sink.written c.connection.new.sink)
    c.args.service.now c.connection.new.machine c.args.service.now.desk c.connection.new.machine.desk refl refl c.requires c.connection.ensures.transcript
