use Rattle.cat_session_model.proofs.Fed.{lines_fold}
use Rattle.cat_session_model.proofs.law.inputs_are_those_of_accepted_commands.Goals as goal

pub returns : goal.returns
returns c = record { inputs = λ rules settings m lines words. lines_fold rules settings m lines words }
