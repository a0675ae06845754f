use Rattle.cat_process.proofs.Repeats.{firsts_step, repeats_step, seen_step}
use Rattle.cat_process.proofs.offers.each_once.Goals as goal

pub loop-reference-preserved : goal.loop-reference-preserved
loop-reference-preserved c =
    let l = c.loop-reference in
    let is_new = c.in_ok-is_new.is_new in
    let key = c.in_ok-copy.field-0 in
    let inserted = c.in_ok-is_new.ensures in
    let added = c.in_ok-add.ensures in
    record {
      first = firsts_step is_new l.seen.keys key l.yielded l.found.first.items _ (c.in-Some.reference, c.in-Some.offered) c.in_ok-copy.ensures l.invariant.first l.invariant.seen inserted.added added.first;
      warnings = repeats_step is_new l.seen.keys key l.yielded l.found.first.items l.found.warnings.items _ (c.in-Some.reference, c.in-Some.offered) c.in_ok-copy.ensures l.invariant.first l.invariant.warnings l.invariant.seen inserted.added added.warnings;
      seen = seen_step is_new l.seen.keys c.insert.new.self.keys key l.found.first.items _ (c.in-Some.reference, c.in-Some.offered) c.in_ok-copy.ensures l.invariant.seen inserted.updates.0 inserted.unchanged added.first;
    }
