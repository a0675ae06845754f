use Rattle.std.proofs.Common.{◌++◌, ap, ◌∙◌}
use Rattle.cat_query.specs.Answers.{looked_up}
use Rattle.cat_query.proofs.Texts.{three_texts, many_text}
use Rattle.cat_query.proofs.answers.push_many_text.Goals as goal

pub returns-clause-ok : goal.returns-clause-ok
returns-clause-ok g c =
    three_texts c.args.out.now.items c.extend_from_slice.new.self.items c.push_looked_up.new.out.items c.push.new.self.items _ _ _ c.in_ok-extend_from_slice.ensures.items c.in_ok-push_looked_up.ensures.ok c.in_ok-push.ensures.items
    ∙ ap (λ l. c.args.out.now.items ++ l) (many_text (looked_up c.args.fields.now (g.D.Documents.pairs c.args.docs.now) c.args.references.now))
