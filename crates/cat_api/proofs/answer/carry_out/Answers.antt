use Rattle.std.proofs.Common.{subst}
use Rattle.std.specs.Prelude.{IfOk, OnErr}
use Rattle.cat_api.specs.Answering.{Carries, LacksIn}
use Rattle.cat_api.specs.Room.{IsBriefTo}
use Rattle.cat_api.proofs.Always.{if_any, if_still}
use Rattle.cat_api.proofs.answer.carry_out.Goals as goal

pub returns-in-Act-clause-brief : goal.returns-in-Act-clause-brief
returns-in-Act-clause-brief g c = subst (λ o. IfOk c.act.result (IsBriefTo o)) (c.in-Act.ensures g.D.Desk.order g.D.Desk.stitch_order) c.act.ensures.brief

pub returns-in-Act-clause-ok : goal.returns-in-Act-clause-ok
returns-in-Act-clause-ok g c =
    subst (λ o. IfOk c.act.result (λ r. Carries g.D.Desk.acts g.D.Desk.asks g.D.FeedDesk.tells c.args.desk.now c.act.new.desk o c.args.message.now r)) (c.in-Act.ensures g.D.Desk.order g.D.Desk.stitch_order) c.act.ensures.ok

pub returns-in-Act-clause-err : goal.returns-in-Act-clause-err
returns-in-Act-clause-err g c =
    subst (λ o. OnErr c.act.result (LacksIn g.D.Desk.acts g.D.Desk.asks g.D.FeedDesk.tells c.args.desk.now c.act.new.desk o)) (c.in-Act.ensures g.D.Desk.order g.D.Desk.stitch_order) c.act.ensures.err

pub returns-in-Ask-clause-brief : goal.returns-in-Ask-clause-brief
returns-in-Ask-clause-brief g c = subst (λ o. IfOk c.ask.result (IsBriefTo o)) (c.in-Ask.ensures g.D.Desk.order g.D.Desk.stitch_order) (if_any c.ask.result)

pub returns-in-Ask-clause-ok : goal.returns-in-Ask-clause-ok
returns-in-Ask-clause-ok g c =
    subst (λ o. IfOk c.ask.result (λ r. Carries g.D.Desk.acts g.D.Desk.asks g.D.FeedDesk.tells c.args.desk.now c.ask.new.desk o c.args.message.now r)) (c.in-Ask.ensures g.D.Desk.order g.D.Desk.stitch_order) c.ask.ensures.ok

pub returns-in-Ask-clause-err : goal.returns-in-Ask-clause-err
returns-in-Ask-clause-err g c =
    subst (λ o. OnErr c.ask.result (LacksIn g.D.Desk.acts g.D.Desk.asks g.D.FeedDesk.tells c.args.desk.now c.ask.new.desk o)) (c.in-Ask.ensures g.D.Desk.order g.D.Desk.stitch_order) c.ask.ensures.err

pub returns-in-Tell-clause-brief : goal.returns-in-Tell-clause-brief
returns-in-Tell-clause-brief g c = subst (λ o. IfOk c.tell.result (IsBriefTo o)) (c.in-Tell.ensures g.D.Desk.order g.D.Desk.stitch_order) (if_any c.tell.result)

pub returns-in-Tell-clause-ok : goal.returns-in-Tell-clause-ok
returns-in-Tell-clause-ok g c =
    subst (λ o. IfOk c.tell.result (λ r. Carries g.D.Desk.acts g.D.Desk.asks g.D.FeedDesk.tells c.args.desk.now c.tell.new.desk o c.args.message.now r)) (c.in-Tell.ensures g.D.Desk.order g.D.Desk.stitch_order) c.tell.ensures.ok

pub returns-in-Tell-clause-err : goal.returns-in-Tell-clause-err
returns-in-Tell-clause-err g c =
    subst (λ o. OnErr c.tell.result (LacksIn g.D.Desk.acts g.D.Desk.asks g.D.FeedDesk.tells c.args.desk.now c.tell.new.desk o)) (c.in-Tell.ensures g.D.Desk.order g.D.Desk.stitch_order) c.tell.ensures.err

pub returns-in-Show-clause-brief : goal.returns-in-Show-clause-brief
returns-in-Show-clause-brief g c = subst (λ o. IfOk c.reply_to.result (IsBriefTo o)) (c.in-Show.ensures g.D.Desk.order g.D.Desk.stitch_order) (if_any c.reply_to.result)

pub returns-in-Show-clause-ok : goal.returns-in-Show-clause-ok
returns-in-Show-clause-ok g c =
    subst (λ o. IfOk c.reply_to.result (λ r. Carries g.D.Desk.acts g.D.Desk.asks g.D.FeedDesk.tells c.args.desk.now c.args.desk.now o c.args.message.now r)) (c.in-Show.ensures g.D.Desk.order g.D.Desk.stitch_order)
    (if_still c.args.desk.now _ c.reply_to.result c.reply_to.ensures.ok)
