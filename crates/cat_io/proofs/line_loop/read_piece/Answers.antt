use Rattle.std.proofs.Common.{rules}
use Rattle.cat_io.proofs.Sessions.{reads_front, at_most}
use Rattle.cat_io.proofs.line_loop.read_piece.Goals as goal

pub returns-clause-bytes : goal.returns-clause-bytes
returns-clause-bytes g c = reads_front _ _ c.read.result c.read.new.buffer _ (search rules) c.read.ensures.bytes

pub returns-clause-at_most : goal.returns-clause-at_most
returns-clause-at_most g c = at_most _ _ c.read.result c.read.new.buffer c.args.most (search rules) c.read.ensures.bytes
