use Rattle.cat_api.proofs.Brevity.{brief_if}
use Rattle.cat_api.proofs.answer.act.Goals as goal

pub returns-clause-brief : goal.returns-clause-brief
returns-clause-brief g c = brief_if c.args.message.now c.act_answer-answer.result c.reply_to.result c.act_answer-answer.ensures.short c.numbers_fit.ensures c.reply_to.ensures.ok
