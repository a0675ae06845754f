use Rattle.cat_history.proofs.Kept.{end_at}
use Rattle.cat_history.proofs.history.History.at.Goals as goal

pub returns : goal.returns
returns g c = end_at (λ k. k.entry) c.args.self.now.kept.items c.args.self.now.all.items c.args.self.now.gone c.args.place c.in_ok-kept.kept.now c.args.self.now.end
    c.in_ok-kept.ensures.item.3.0 c.in_ok-kept.ensures.lookup
