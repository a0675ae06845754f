use Rattle.std.proofs.Common.{lit<, sym, ◌∙◌}
use Rattle.std.specs.Prelude.{None}
use Rattle.std.proofs.lemmas.Str.Pattern.{split_once_first}
use Rattle.cat_types.proofs.Forms.{key_without_slash}
use Rattle.cat_types.proofs.names.is_key.Goals as goal

pub returns-in-None : goal.returns-in-None
returns-in-None c = key_without_slash c.args.text.now (sym c.is_name.ensures ∙ c.if-is_name.false) (split_once_first 47 c.args.text.now None c.in-None.ensures.cases (lit< tt))
