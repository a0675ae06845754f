use Rattle.std.proofs.Common.{◌∙◌, map, string_bytes}
use Rattle.clap.specs.Simple.{app_of}
use Rattle.clap.specs.Matches.{found_of}
use Rattle.clap.specs.Values.{kind_of}
use Rattle.clap.specs.Walk.{rows_of}
use Rattle.cat_command_line.proofs.Taken.{refused, simple_alone, taken}
use Rattle.cat_command_line.proofs.given.found.Goals as goal

pub returns-in-Ok : goal.returns-in-Ok
returns-in-Ok c =
    let app = app_of c.args.command in
    let words = map string_bytes c.args.words.now in
    taken app words (rows_of (found_of c.in-Ok.matches)) (c.in-Ok.ensures.kinds c.requires) (c.in-Ok.ensures.matches (simple_alone app c.requires)).0

pub returns : goal.returns
returns c =
    let app = app_of c.args.command in
    let words = map string_bytes c.args.words.now in
    refused app words (kind_of c.in-Err.error) (c.in-Err.ensures.kinds c.requires) (λ is. c.in_default.not-OutOfMemory (c.kind.ensures ∙ is))
