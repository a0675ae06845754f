use Rattle.std.proofs.Common.{sym}
use Rattle.cat_journal.proofs.Texts.{table_none}
use Rattle.cat_journal.proofs.body.table_at.Goals as goal

pub returns-in-None : goal.returns-in-None
returns-in-None c = sym (table_none c.args.number c.in-None.ensures)
