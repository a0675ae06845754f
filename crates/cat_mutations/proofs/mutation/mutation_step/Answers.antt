use Rattle.cat_mutations.proofs.mutation.mutation_step.Goals as goal

pub returns-clause-linked : goal.returns-clause-linked
returns-clause-linked g c = c.unless-o.ensures.linked g.L.Layers.rules c.args.m.now c.in_ok-plan.ensures.linked
