-- What holds of every command that a line gives.
use Rattle.std.specs.Prelude.{◌^◌, ◌<◌, ⊤, IsTrue}
use Rattle.cat_types.specs.Names.{is_name, is_shelf_name}
use Rattle.cat_inputs.specs.WellFormed.{IsWellFormed}
use Rattle.cat_session_lines.specs.declared.line.Line.{Line}
use Rattle.cat_session_lines.specs.declared.line.Line.TheVariants.{Mutate, ShelfPut, ShelfDrop, Clock}

-- a provider has a provider's name and a well-formed mutation, a shelf name is one, and a moment is below 2^53
abbrev pub IsReady : Line → Type 0
IsReady (Mutate provider m) = IsTrue (is_name provider) × IsWellFormed m
IsReady (ShelfPut name text) = IsTrue (is_shelf_name name)
IsReady (ShelfDrop name) = IsTrue (is_shelf_name name)
IsReady (Clock n) = n < 2 ^ 53
IsReady _ = ⊤
