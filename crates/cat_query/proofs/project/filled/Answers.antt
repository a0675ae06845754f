use Rattle.std.proofs.Common.{ap, sym, ◌∙◌}
use Rattle.std.specs.Prelude.{Some}
use Rattle.cat_tree.specs.Data.{dict, members_of}
use Rattle.cat_query.proofs.Kept.{filled_more}
use Rattle.cat_query.proofs.project.filled.Goals as goal

pub returns-else-is_empty : goal.returns-else-is_empty
returns-else-is_empty c =
    ap (λ ps. Some (dict (members_of ps))) c.from_vec.ensures
    ∙ sym (filled_more c.is_empty.result c.args.items.items c.as_slice.result.now c.is_empty.ensures c.if-is_empty.false c.as_slice.ensures.value)
