use Rattle.std.proofs.Common.{◌∙◌, ap, sym, arith}
use Rattle.std.specs.Option.{option_map}
use Rattle.std.proofs.lemmas.Option.{slice_get_within}
use Rattle.cat_collections.proofs.Steps.{step_past, step_small}
use Rattle.cat_collections.proofs.tree.Tree.small_step.Goals as goal

pub overflow_add-result : goal.overflow_add-result
overflow_add-result g c =
    let e = sym c.get.ensures ∙ ap (option_map (λ x. x.now)) c.in-Some.is in
    let h = slice_get_within c.args.self.now c.args.place c.in-Some.item.now e in
    omega (arith, h, c.len-behind.ensures.items, c.len-behind.ensures.most)

pub returns-in-None-clause-items : goal.returns-in-None-clause-items
returns-in-None-clause-items g c = step_past c.args.self.now c.args.place (sym c.get.ensures ∙ ap (option_map (λ x. x.now)) c.in-None.is)

pub returns-in-Some-clause-items : goal.returns-in-Some-clause-items
returns-in-Some-clause-items g c =
    step_small c.args.self.now c.args.place c.len-behind.result c.in-Some.item.now (sym c.get.ensures ∙ ap (option_map (λ x. x.now)) c.in-Some.is) c.len-behind.ensures.items
