use Rattle.std.proofs.Common.{◌≡◌, ap, codes, ◌∙◌}
use Rattle.std.proofs.lemmas.Result.{IfOk-weaker}
use Rattle.cat_tree.specs.Ask.{child_of}
use Rattle.cat_tree.specs.Edit.{with_key}
use Rattle.cat_tree.specs.View.{data_of}
use Rattle.cat_stitch.specs.Document.{annotations_in, orphan_annotations}
use Rattle.cat_stitch.proofs.document.with_orphan_mark.Goals as goal

pub returns : goal.returns
returns c =
    let m = data_of c.args.metadata in
    let had : data_of c.in_ok-annotations.annotations ≡ annotations_in (child_of (codes "annotations") m) = c.in_ok-annotations.ensures in
    let marked : data_of c.in_ok-annotations-2.annotations ≡ orphan_annotations (annotations_in (child_of (codes "annotations") m)) = c.in_ok-annotations-2.ensures ∙ ap orphan_annotations had in
    IfOk-weaker c.with_key.result _ _ (λ t e. e ∙ ap (λ a. with_key (codes "annotations") a m) marked) c.with_key.ensures
