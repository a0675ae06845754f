use Rattle.std.proofs.Common.{◌≡◌, map, string_bytes, sym, subst, true}
use Rattle.clap.specs.Faults.{is_simple_and_free}
use Rattle.clap.specs.Simple.{App}
use Rattle.cat_command_line.specs.Given.{mirror_words, read}
use Rattle.cat_command_line.specs.Reads.{Reads}
use Rattle.cat_command_line.proofs.Taken.{mirror_simple}
use Rattle.cat_command_line.proofs.given.mirror_given.Goals as goal

pub found-requires : goal.found-requires
unfolding mirror_words
found-requires c = subst (λ (a : App). is_simple_and_free a ≡ true) (sym c.without_options.ensures) (mirror_simple c.args.name.now)

pub returns : goal.returns
unfolding mirror_words
returns c = subst (λ (a : App). Reads (read a (map string_bytes c.args.words.now)) c.found.result) c.without_options.ensures c.found.ensures
