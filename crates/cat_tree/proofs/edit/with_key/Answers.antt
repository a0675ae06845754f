use Rattle.std.proofs.Common.{ap, sym, ◌∙◌}
use Rattle.cat_tree.specs.Data.{dict, members_of}
use Rattle.cat_tree.specs.Edit.{with_key}
use Rattle.cat_tree.specs.View.{data_of}
use Rattle.cat_tree.proofs.Edits.{members_of-put}
use Rattle.cat_tree.proofs.edit.with_key.Goals as goal

pub returns-in_ok-insert-in-Map : goal.returns-in_ok-insert-in-Map
returns-in_ok-insert-in-Map c =
    let v = data_of c.args.value in
    ap (λ ps. dict (members_of ps)) c.in_ok-insert-in-Map.ensures
    ∙ (ap dict (members_of-put c.in_ok-key-in-Map.key v c.in-Map.pairs)
    ∙ (ap (λ k. with_key k v (dict (members_of c.in-Map.pairs))) c.in_ok-key-in-Map.ensures
    ∙ ap (λ t. with_key c.args.key.now v (data_of t)) (sym c.in-Map.is)))
