use Rattle.std.proofs.Common.{◌∙◌, ap, codes}
use Rattle.std.proofs.lemmas.Result.{IfOk-weaker}
use Rattle.clap.specs.Simple.{App, with_rule}
use Rattle.cat_command_line.specs.Given.{option, positional, server_words}
use Rattle.cat_command_line.proofs.given.server_command.Goals as goal

pub returns : goal.returns
unfolding server_words
returns c =
    IfOk-weaker c.with_word.result _ _
    (λ r e. e ∙ ap (λ (a : App). with_rule a (positional (codes "address")))
    (c.in_ok-command-3.ensures ∙ ap (λ (a : App). with_rule a (option (codes "connections"))) (c.in_ok-command-2.ensures ∙ ap (λ (a : App). with_rule a (option (codes "workers"))) c.in_ok-command.ensures))) c.with_word.ensures
