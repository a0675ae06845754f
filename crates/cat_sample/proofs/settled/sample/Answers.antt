use Rattle.std.proofs.Common.{◌≡◌, IfOk, ap, subst, ◌∙◌}
use Rattle.std.specs.declared.option.Option.TheVariants.{None}
use Rattle.cat_model.specs.Reply.{counts}
use Rattle.cat_model.specs.Settle.{try_settle}
use Rattle.cat_model.specs.declared.types.Progress.{Progress}
use Rattle.cat_model.specs.declared.types.State.{State}
use Rattle.cat_sample.specs.Sample.{sample_settled, sample_state}
use Rattle.cat_sample.specs.Summary.{summary}
use Rattle.cat_sample.proofs.settled.sample.Goals as goal

pub returns : goal.returns
unfolding sample_settled
returns g c =
    let rules = g.L.Layers.rules in
    let m = c.fill.new.catalogue in
    let settings : m.settings ≡ c.args.settings = c.fill.ensures.settings ∙ c.empty-catalogue.ensures.settings in
    let state : m.state ≡ sample_state rules c.args.settings c.args.seed c.args.count = c.in_ok-fill.ensures.state ∙ ap (λ s. sample_state rules s c.args.seed c.args.count) c.empty-catalogue.ensures.settings in
    let p : try_settle rules m.settings 0 None m.state ≡ try_settle rules c.args.settings 0 None (sample_state rules c.args.settings c.args.seed c.args.count) = λ i. try_settle rules (settings i) 0 None (state i) in
    let told = c.in_ok-settled.ensures.counts ∙ ap counts p in
    let documents = c.docs.ensures.docs ∙ (ap (λ (m : State). m.documents) c.in_ok-settled.ensures.state ∙ ap (λ (q : Progress). q.state.documents) p) in
    subst (λ s. IfOk c.summary.result (λ text. text.items ≡ s)) (λ i. summary c.args.count (told i) (documents i)) c.summary.ensures
