-- How a call answers that reads what words say.
use Rattle.std.specs.Prelude.{◌≡◌, ⊤, Option, Some, None}
use Rattle.std.specs.declared.result.Result.{Result}
use Rattle.std.specs.declared.result.Result.TheVariants.{Ok, Err}
use Rattle.cat_command_line.specs.declared.words.WordFault.{WordFault}
use Rattle.cat_command_line.specs.declared.words.WordFault.TheVariants.{Usage, NoMemory}

-- What is read is this; or there is none of it, and the answer is `Usage`. Only want of memory is free.
abbrev pub Reads : {T : Type 0} → Option T → Result T WordFault → Type 0
Reads wanted (Ok found) = wanted ≡ Some found
Reads wanted (Err Usage) = wanted ≡ None
Reads wanted (Err NoMemory) = ⊤
