use Rattle.cat_row_updates.proofs.Texts.{one_text}
use Rattle.cat_row_updates.proofs.law.texts_tell_trees.Goals as goal

pub returns : goal.returns
returns c d e g h same = one_text d e g h same
