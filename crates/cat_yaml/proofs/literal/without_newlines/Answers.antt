use Rattle.std.proofs.Common.{length, take, ap, ◌∙◌}
use Rattle.cat_yaml.specs.Scan.{trimmed}
use Rattle.cat_yaml.proofs.Ends.{trimmed_front}
use Rattle.cat_yaml.proofs.literal.without_newlines.Goals as goal

pub returns : goal.returns
returns c =
    c.truncate.ensures.items
    ∙ (ap (λ t. take (length t) c.args.text.items) (c.trimmed-end.ensures ∙ ap (trimmed 10) c.as_slice.ensures.value)
    ∙ trimmed_front 10 c.args.text.items)
