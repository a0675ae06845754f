use Rattle.std.proofs.Common.{sym, ap, subst}
use Rattle.cat_model.specs.declared.types.Numbered.{Numbered}
use Rattle.cat_model.specs.Catalogue.{Rows}
use Rattle.cat_model.specs.Mend.{AreOpen, IsReplaced}
use Rattle.cat_model.proofs.Changed.{after_open, rows_after}
use Rattle.cat_events.proofs.claims.claimed.Goals as goal

pub reclaimed-requires : goal.reclaimed-requires
reclaimed-requires g c =
    let o = c.args.origin.now in
    let offers = g.O.Offering.offers c.args.offers.now in
    let m = c.args.m.now in
    let rows = ap (λ (x : Numbered). x.rows) c.in_ok-replaced.ensures.rows in
    record {
      origin = o;
      before = m.rows;
      next = m.arrival;
      were = c.requires.ready.holders;
      replaced = subst (IsReplaced o m.rows m.arrival) (sym rows) (rows_after o offers m c.args.order.now c.requires.ready);
      opens = subst (λ (x : Rows). AreOpen x m.holders) (sym rows) (after_open o offers m c.args.order.now c.requires.ready c.requires.open);
      lost = c.in_ok-replaced.ensures.lost;
      new = c.in_ok-replaced.ensures.new;
    }
