use Rattle.std.proofs.Common.{ap, sym, ◌∙◌}
use Rattle.serde_json.specs.Read.{read as read_text}
use Rattle.cat_tree.specs.Text.{json_of}
use Rattle.cat_tree.specs.View.{data_of}
use Rattle.cat_tree.proofs.Back.{no_float, tree_of-json_of}
use Rattle.cat_tree.proofs.read.read.Goals as goal

pub returns-in-Ok-read_tokens-clause-ok : goal.returns-in-Ok-read_tokens-clause-ok
returns-in-Ok-read_tokens-clause-ok c =
    let d = data_of c.in-Ok-read_tokens.tree in
    (json_of d, (c.in-Ok.ensures.cases.1, ap read_text (sym c.in-Ok.ensures.cases.0) ∙ c.in-Ok-read_tokens.ensures.ok), no_float d, tree_of-json_of d)
