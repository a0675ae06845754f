use Rattle.std.proofs.Common.{◌≡◌, ◌⊎◌, Some, None, inl, inr, map, refl, string_bytes}
use Rattle.std.specs.Prelude.{MatchOption}
use Rattle.std.specs.declared.option.Option.{Option}
use Rattle.std.specs.declared.result.Result.TheVariants.{Err}
use Rattle.cat_command_line.specs.Reads.{Reads}
use Rattle.cat_command_line.specs.Words.{command_of}
use Rattle.cat_command_line.specs.declared.words.Command.{Command}
use Rattle.cat_command_line.specs.declared.words.WordFault.{WordFault}
use Rattle.cat_command_line.specs.declared.words.WordFault.TheVariants.{Usage, NoMemory}
use Rattle.cat_tool.proofs.top.run_words.Goals as goal

pub carry_out-requires-clause-within : goal.carry_out-requires-clause-within
carry_out-requires-clause-within g c κs is_well = c.in-Ok.ensures.within

pub returns-in-Ok : goal.returns-in-Ok
returns-in-Ok g c = rw c.in-Ok.ensures.value (inr c.carry_out.ensures)

-- words that gave no command
refused : (wanted : Option Command) (fault : WordFault) (Memory Line : Type 0) (Others : Command → Type 0) → Reads wanted (Err fault) → (fault ≡ Usage → Line) → (fault ≡ NoMemory → Memory) → Memory ⊎ MatchOption wanted Line Others
refused wanted Usage Memory Line Others none line memory = rw none (inr (line refl))
refused wanted NoMemory Memory Line Others none line memory = inl (memory refl)

pub returns-in-Err : goal.returns-in-Err
returns-in-Err g c =
    refused (command_of (map string_bytes c.args.words.now)) c.in-Err.fault _ _ _ c.in-Err.ensures.value
    (λ is. (refl, refl, refl, c.refuse.ensures.usage is))
    (λ is. let e = c.refuse.ensures.memory is in (e.0, refl, e.1, refl, refl))
