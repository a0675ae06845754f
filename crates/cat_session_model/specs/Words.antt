-- The words of lines.
use Rattle.std.specs.Prelude.{◌^◌, ◌<◌, ⊤}
use Rattle.std.specs.declared.result.Result.{Result}
use Rattle.std.specs.declared.result.Result.TheVariants.{Ok}
use Rattle.cat_session_lines.specs.declared.fault.LineFault.{LineFault}
use Rattle.cat_session_lines.specs.declared.line.Line.{Line}
use Rattle.cat_session_lines.specs.declared.line.Line.TheVariants as asks
use Rattle.cat_io.specs.Word.{Word, plain, memory, cut, unkept, cut_unkept}

-- a settle that is cut counts its events in 64 bits
abbrev pub IsCounted : Word → Type 0
IsCounted plain = ⊤
IsCounted memory = ⊤
IsCounted (cut n) = n < 2 ^ 64
IsCounted unkept = ⊤
IsCounted (cut_unkept n) = ⊤

-- the line is a settle, or a question, whose answer may be any text
abbrev pub MayBeCut : Result Line LineFault → Type 0
MayBeCut (Ok asks.Settle) = ⊤
MayBeCut (Ok (asks.Ask ask)) = ⊤
MayBeCut _ = ⊥
