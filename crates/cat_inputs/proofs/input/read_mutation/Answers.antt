use Rattle.cat_tree.specs.View.{data_of}
use Rattle.cat_inputs.proofs.Formed.{formed_result}
use Rattle.cat_inputs.proofs.input.read_mutation.Goals as goal

pub returns-in-Ok-clause-well_formed : goal.returns-in-Ok-clause-well_formed
returns-in-Ok-clause-well_formed c =
    formed_result c.args.form (data_of c.in-Ok.tree) c.mutation_from.result c.in-Ok.ensures.narrow c.mutation_from.ensures.ok
