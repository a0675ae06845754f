use Rattle.std.proofs.Common.{rules}
use Rattle.std.proofs.lemmas.List.{take_rest}
use Rattle.cat_session_lines.proofs.Cuts.{cut_first, cut_none}
use Rattle.cat_session_lines.proofs.argument.parted.Goals as goal

pub returns-in-Some : goal.returns-in-Some
returns-in-Some c =
    let found = cut_first 32 c.args.line.now c.in-Some.i (search rules) (search rules) (search rules) in
    rw (found, take_rest)

pub returns-in-None : goal.returns-in-None
returns-in-None c = let none = cut_none 32 c.args.line.now (search rules) in rw none
