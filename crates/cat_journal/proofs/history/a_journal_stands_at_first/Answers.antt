use Rattle.cat_journal.proofs.Histories.{at_first}
use Rattle.cat_journal.proofs.history.a_journal_stands_at_first.Goals as goal

pub returns : goal.returns
returns c = λ s whole journal. at_first s whole journal
