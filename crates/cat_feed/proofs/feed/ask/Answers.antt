use Rattle.cat_feed.proofs.Asked.{refused_as, refused_keeps}
use Rattle.cat_feed.proofs.feed.ask.Goals as goal

pub returns-in-Err-clause-err : goal.returns-in-Err-clause-err
returns-in-Err-clause-err c = refused_as c.args.documents.now c.args.since c.args.ledger.now c.in-Err.fault c.in-Err.ensures.err

pub returns-in-Err-clause-feed : goal.returns-in-Err-clause-feed
returns-in-Err-clause-feed c = refused_keeps c.args.documents.now c.args.ledger.now c.in-Err.fault c.in-Err.ensures.err
