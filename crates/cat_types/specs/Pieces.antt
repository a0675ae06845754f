-- The pieces that the code lends.
use Rattle.std.specs.Option.{option_copied}
use Rattle.cat_types.specs.Reading.{Pieces}
use Rattle.cat_types.specs.declared.split.RefParts.{RefParts}

-- the pieces behind the references
abbrev pub pieces_of : RefParts → Pieces
pieces_of p = record { kind = option_copied p.kind; namespace = option_copied p.namespace; name = p.name.now }
