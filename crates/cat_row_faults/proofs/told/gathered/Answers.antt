use Rattle.std.proofs.Common.{refl, ◌∙◌, ◌||◌}
use Rattle.cat_row_faults.proofs.Telling.{told_is}
use Rattle.cat_row_faults.proofs.told.gathered.Goals as goal

pub returns : goal.returns
returns c =
    told_is _ c.args.readings.now (record {
      rows_is = refl;
      arrival = c.in_ok-arrival.ensures;
      number = c.in_ok-number.ensures;
      is_second = c.either.ensures ∙ (λ i. c.in_ok-has_rule.ensures i || c.in_ok-has_trees.ensures i);
      has_rule = c.in_ok-has_rule.ensures;
      serial = c.in_ok-named.ensures.serials;
      given = c.in_ok-arrived.ensures.given;
      arrives_once = c.in_ok-arrived.ensures.arrivals;
      drawn_once = c.in_ok-arrived.ensures.numbers;
      holder = c.in_ok-named.ensures.holders;
      records = c.in_ok-records.ensures;
      orphan = c.in_ok-named.ensures.orphans;
      tree = c.in_ok-trees.ensures;
    })
