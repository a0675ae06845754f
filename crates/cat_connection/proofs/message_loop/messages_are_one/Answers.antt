use Rattle.cat_connection.proofs.Preceding.{one_list}
use Rattle.cat_connection.proofs.message_loop.messages_are_one.Goals as goal

pub returns : goal.returns
returns c = one_list
