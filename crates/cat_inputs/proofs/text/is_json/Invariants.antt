use Rattle.std.proofs.Common.{◌≡◌, drop}
use Rattle.cat_inputs.specs.Reading.{is_json}
use Rattle.cat_inputs.proofs.text.is_json.Given as goal

-- the bytes so far may stand between the tokens of a JSON text
abbrev pub invariant-loop-byte : goal.invariant-loop-byte
invariant-loop-byte l = is_json (drop l.byte-index l.bytes) ≡ is_json l.bytes
