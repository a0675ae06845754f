use Rattle.std.proofs.Common.{◌++◌, List, ap, subst, ◌∙◌}
use Rattle.std.specs.declared.option.Option.TheVariants.{Some}
use Rattle.cat_collections.specs.Table.{Text, get}
use Rattle.cat_model.specs.declared.types.Origin.TheVariants.{Entity}
use Rattle.cat_model.specs.Step.{replaced}
use Rattle.cat_claims.specs.Claimed.{IsClaimed}
use Rattle.cat_events.specs.declared.plan.Inputs.TheVariants.{Same}
use Rattle.cat_events.specs.declared.plan.OwnChange.{OwnChange}
use Rattle.cat_events.proofs.finish.change_of_rows.Goals as goal

pub returns : goal.returns
returns c issues =
    let claimed = c.in_ok-claimed.claimed in
    let change : List Text → OwnChange = λ touched. record { how = c.args.how; own = Some c.args.own; inputs = Same; claims = Some claimed; touched = touched } in
    let order = c.as_slice.ensures ∙ c.in_ok-order.ensures in
    record {
      claimed = claimed;
      are = subst (λ l. IsClaimed claimed.value c.args.m.now.holders (replaced (Entity c.args.own.reference) (get c.args.output.now.offers) l c.args.m.now)) order c.in_ok-claimed.ensures;
      is = ap change (c.in_ok-touched.ensures ∙ (λ i. (c.deref.ensures i).moved ++ (c.as_slice-2.ensures ∙ c.in_ok-order.ensures) i));
    }
