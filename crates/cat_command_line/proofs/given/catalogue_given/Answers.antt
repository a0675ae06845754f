use Rattle.std.proofs.Common.{◌≡◌, map, string_bytes, sym, subst, true}
use Rattle.clap.specs.Faults.{is_simple_and_free}
use Rattle.clap.specs.Simple.{App}
use Rattle.cat_command_line.specs.Given.{read}
use Rattle.cat_command_line.specs.Reads.{Reads}
use Rattle.cat_command_line.proofs.Taken.{catalogue_simple}
use Rattle.cat_command_line.proofs.given.catalogue_given.Goals as goal

pub found-requires : goal.found-requires
found-requires c = subst (λ (a : App). is_simple_and_free a ≡ true) (sym c.in_ok-catalogue_command.ensures) (catalogue_simple c.args.name.now)

pub returns : goal.returns
returns c = subst (λ (a : App). Reads (read a (map string_bytes c.args.words.now)) c.found.result) c.in_ok-catalogue_command.ensures c.found.ensures
