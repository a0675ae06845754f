use Rattle.std.proofs.Common.{ap, map}
use Rattle.cat_replies.specs.Piece.{piece_text}
use Rattle.cat_sample.proofs.summary.counted.Goals as goal

pub returns : goal.returns
returns c = ap (map piece_text) c.in_ok-pieces.ensures.items
