use Rattle.std.proofs.Common.{◌∙◌, ap, codes}
use Rattle.std.proofs.lemmas.Result.{IfOk-weaker}
use Rattle.clap.specs.Simple.{App, with_rule}
use Rattle.cat_command_line.specs.Given.{catalogue_words, option}
use Rattle.cat_command_line.proofs.given.catalogue_command.Goals as goal

pub returns : goal.returns
unfolding catalogue_words
returns c =
    IfOk-weaker c.with_option-3.result _ _
    (λ r e. e ∙ ap (λ (a : App). with_rule a (option (codes "journal")))
    (c.in_ok-command-2.ensures ∙ ap (λ (a : App). with_rule a (option (codes "store"))) (c.in_ok-command.ensures ∙ ap (λ (a : App). with_rule a (option (codes "orphans"))) c.without_options-command.ensures))) c.with_option-3.ensures
