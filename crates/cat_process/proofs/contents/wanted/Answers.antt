use Rattle.std.proofs.Common.{◌≡◌, [], sym, ◌∙◌}
use Rattle.std.proofs.lemmas.Result.{IfOk-weaker}
use Rattle.cat_tree.specs.View.{data_of}
use Rattle.cat_process.specs.Process.{wanted_of}
use Rattle.cat_process.proofs.Wanted.{wanted_of_location, wanted_of_other}
use Rattle.cat_process.proofs.contents.wanted.Goals as goal

pub returns-then-is_location : goal.returns-then-is_location
returns-then-is_location c =
    IfOk-weaker c.faultless_targets.result _ _
    (λ v k. k ∙ sym (wanted_of_location (data_of c.args.tree.now) (sym c.is_location.ensures ∙ c.if-is_location.true)))
    c.faultless_targets.ensures

pub returns-else-is_location : goal.returns-else-is_location
returns-else-is_location c =
    let none : wanted_of (data_of c.args.tree.now) ≡ [] = wanted_of_other (data_of c.args.tree.now) (sym c.is_location.ensures ∙ c.if-is_location.false) in
    cc
