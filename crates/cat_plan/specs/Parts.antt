-- Which references have parts.
use Rattle.std.specs.Prelude.{Bool, is_some}
use Rattle.std.specs.declared.option.Option.{Option}
use Rattle.std.specs.declared.option.Option.TheVariants.{None, Some}
use Rattle.cat_model.specs.declared.types.Orphan.{Orphan}
use Rattle.cat_model.specs.declared.types.Record.{Record}

-- a reference has parts where it is an orphan, or its record has an output
abbrev pub has_parts : Option Orphan → Option Record → Bool
has_parts orphan None = is_some orphan
has_parts orphan (Some x) = is_some x.output
