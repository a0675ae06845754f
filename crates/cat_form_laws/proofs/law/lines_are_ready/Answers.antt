use Rattle.cat_session_lines.specs.declared.line.Line.TheVariants.{Mutate}
use Rattle.cat_form_laws.proofs.Ready.{line_ready}
use Rattle.cat_form_laws.proofs.law.lines_are_ready.Goals as goal

pub returns-clause-ready : goal.returns-clause-ready
returns-clause-ready c bytes line e = (line_ready bytes line e).ready

pub returns-clause-proper : goal.returns-clause-proper
returns-clause-proper c bytes p m e = (line_ready bytes (Mutate p m) e).proper
