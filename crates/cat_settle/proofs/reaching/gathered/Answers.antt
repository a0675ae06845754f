use Rattle.cat_settle.proofs.Gathering.{more_gathered}
use Rattle.cat_settle.proofs.reaching.gathered.Goals as goal

pub returns-in-Ok : goal.returns-in-Ok
returns-in-Ok c =
    more_gathered c.args.reached c.args.before.now c.in-Some-Some.refs c.in-Ok.more.items c.in-Some-Some.before c.args.reference.now c.deref.result.now c.args.after.now c.with_more.result
    c.in-Some-Some.is-0 c.in-Some-Some.is-1 c.deref.ensures c.in-Ok.ensures c.with_more.ensures
