use Rattle.cat_types.proofs.Lowered.{kind_there, namespace_there, has_reading}
use Rattle.cat_types.proofs.reference.parts_of.Goals as goal

pub unreachable-requires : goal.unreachable-requires
unreachable-requires c = has_reading c.args.text.now c.requires c.in-Err.ensures.reading

pub returns-clause-all : goal.returns-clause-all
returns-clause-all c =
    (kind_there c.args.text.now c.requires c.in-Ok.parts c.in-Ok.ensures.reading, namespace_there c.args.text.now c.requires c.in-Ok.parts c.in-Ok.ensures.reading)
