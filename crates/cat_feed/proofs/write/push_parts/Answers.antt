use Rattle.std.proofs.Common.{◌++◌, ap, ◌∙◌}
use Rattle.cat_tree.specs.View.{data_of}
use Rattle.cat_query.proofs.Texts.{after_ok}
use Rattle.cat_feed.proofs.Texts.{gone_text, set_text}
use Rattle.cat_feed.proofs.write.push_parts.Goals as goal

pub returns-in-Some-clause-ok : goal.returns-in-Some-clause-ok
returns-in-Some-clause-ok c =
    rw c.in-Some.is (after_ok c.push_set.result _ _ (λ e. e ∙ ap (λ l. c.args.out.now.items ++ l) (set_text (data_of c.args.reference.now) (data_of c.in-Some.document.now))) c.push_set.ensures.ok)

pub returns-in-None-clause-ok : goal.returns-in-None-clause-ok
returns-in-None-clause-ok c =
    rw c.in-None.is (after_ok c.push_between.result _ _ (λ e. e ∙ ap (λ l. c.args.out.now.items ++ l) (gone_text (data_of c.args.reference.now))) c.push_between.ensures.ok)
