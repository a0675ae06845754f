use Rattle.std.proofs.Common.{◌∙◌}
use Rattle.std.proofs.lemmas.Result.{IfOk-weaker}
use Rattle.cat_state_check.proofs.Stitching.{documents_are}
use Rattle.cat_state_check.proofs.documents.documents_of.Goals as goal

pub returns : goal.returns
returns g c =
    IfOk-weaker c.indexed.result _ _
    (λ documents is. documents_are g.L.Layers.rules c.args.links.now c.args.m.now c.requires.linked c.requires.recorded c.as_slice.result.now (c.as_slice.ensures ∙ c.in_ok-all.ensures) documents is)
    c.indexed.ensures
