use Rattle.std.proofs.Common.{ap, sym, ◌∙◌}
use Rattle.cat_tree.specs.Data.{dict, members_of}
use Rattle.cat_tree.specs.Edit.{without_key}
use Rattle.cat_tree.specs.View.{data_of}
use Rattle.cat_tree.proofs.Edits.{members_of-remove}
use Rattle.cat_tree.proofs.edit.without_key.Goals as goal

pub returns-in-Map : goal.returns-in-Map
returns-in-Map c =
    ap (λ ps. dict (members_of ps)) c.remove.ensures
    ∙ (ap dict (members_of-remove c.args.key.now c.in-Map.pairs) ∙ ap (λ t. without_key c.args.key.now (data_of t)) (sym c.in-Map.is))
