use Rattle.std.proofs.Common.{◌∙◌, bytes_eq}
use Rattle.cat_schema.proofs.Among.{any_of_map}
use Rattle.cat_schema.proofs.rules.is_among.Goals as goal

pub returns : goal.returns
returns c = c.has_key.ensures ∙ any_of_map (λ k. bytes_eq k c.args.key.now) (λ k. k.now) c.args.keys.now
