use Rattle.cat_journal.proofs.Laws.{only_text}
use Rattle.cat_journal.proofs.records.one_text.Goals as goal

pub returns : goal.returns
returns c = λ body a b p q. only_text body a b p q
