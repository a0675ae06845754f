use Rattle.std.proofs.Common.{◌∙◌, ap, codes}
use Rattle.std.proofs.lemmas.Result.{IfOk-weaker}
use Rattle.clap.specs.Simple.{App, with_rule}
use Rattle.cat_command_line.specs.Given.{positional, sample_words}
use Rattle.cat_command_line.proofs.given.sample_command.Goals as goal

pub returns : goal.returns
unfolding sample_words
returns c =
    IfOk-weaker c.with_word-2.result _ _
    (λ r e. e ∙ ap (λ (a : App). with_rule a (positional (codes "count")))
    (c.in_ok-command.ensures ∙ ap (λ (a : App). with_rule a (positional (codes "seed"))) c.without_options-command.ensures)) c.with_word-2.ensures
