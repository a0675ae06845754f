use Rattle.cat_journal.proofs.Scanning.{left_given}
use Rattle.cat_journal.proofs.history.what_is_left_is_given.Goals as goal

pub returns : goal.returns
returns c = λ base more content new rows ready left given. left_given base more content new rows ready left given
