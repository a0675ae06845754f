use Rattle.std.proofs.Common.{◌≡◌, ◌++◌, ap, subst, sym, ◌∙◌}
use Rattle.cat_collections.specs.Left.{items_left}
use Rattle.cat_row_faults.specs.Readings.{AreReadings}
use Rattle.cat_row_faults.proofs.Reading.{all_read, rest_read}
use Rattle.cat_row_faults.proofs.readings.readings.Goals as goal

pub loop-entry-init : goal.loop-entry-init
loop-entry-init c =
    let start : items_left c.into_iter-entry-iterator.result ≡ c.args.texts.now = ap items_left c.into_iter-entry-iterator.ensures.into_iter_gives ∙ c.iter-entry-items.ensures in (
      tt,
      tt,
      (λ os h. subst (λ made. AreReadings c.args.texts.now (made ++ os)) (sym c.new-readings.ensures.items) (subst (λ l. AreReadings l os) start h)),
    )

pub loop-entry-preserved : goal.loop-entry-preserved
loop-entry-preserved c =
    let all = c.args.texts.now in
    let left = items_left c.loop-entry.entry-iterator in
    let e = c.in-Some.entry.now in
    let es = items_left c.next.new.self in (
      tt,
      tt,
      (λ os h. subst (λ made. AreReadings all (made ++ os)) (sym c.in_ok-push.ensures.items)
          (rest_read all left e es c.loop-entry.readings.items c.in_ok-reading.field-0 c.in-Some.ensures.steps c.loop-entry.invariant.2 c.in_ok-reading.ensures os h)),
    )

pub returns : goal.returns
returns c = all_read c.args.texts.now (items_left c.loop-entry.entry-iterator) c.loop-entry.readings.items c.in-None.ensures.steps.0 c.loop-entry.invariant.2
