use Rattle.cat_io.proofs.Splitting.{lines_is}
use Rattle.cat_io.proofs.buffer.lines_are_those_of_std.Goals as goal

pub returns : goal.returns
returns c = lines_is
