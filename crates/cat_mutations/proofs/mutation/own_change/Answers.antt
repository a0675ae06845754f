use Rattle.std.proofs.Common.{◌++◌, List, ap, subst, ◌∙◌}
use Rattle.std.specs.declared.option.Option.TheVariants.{None, Some}
use Rattle.cat_collections.specs.Table.{Map, Text, get}
use Rattle.cat_model.specs.declared.types.Leaving.TheVariants.{Deleted}
use Rattle.cat_model.specs.declared.types.Origin.TheVariants.{Provider}
use Rattle.cat_model.specs.declared.types.ProviderInputs.{ProviderInputs}
use Rattle.cat_model.specs.Step.{replaced}
use Rattle.cat_claims.specs.Claimed.{IsClaimed}
use Rattle.cat_events.specs.declared.plan.Inputs.TheVariants.{Providers}
use Rattle.cat_events.specs.declared.plan.OwnChange.{OwnChange}
use Rattle.cat_mutations.proofs.mutation.own_change.Goals as goal

pub returns : goal.returns
returns c =
    let claimed = c.in_ok-claimed.claimed in
    let change : Map ProviderInputs → List Text → OwnChange =
    λ providers touched. record { how = Deleted; own = None; inputs = Providers providers; claims = Some claimed; touched = touched } in
    let order = c.as_slice.ensures ∙ c.in_ok-order.ensures in
    record {
      claimed = claimed;
      are = subst (λ l. IsClaimed claimed.value c.args.m.now.holders (replaced (Provider c.args.p.now) (get c.args.items) l c.args.m.now)) order c.in_ok-claimed.ensures;
      is = λ i. change (c.in_ok-providers.ensures i) ((c.in_ok-touched.ensures ∙ (λ j. (c.deref.ensures j).moved ++ (c.as_slice-2.ensures ∙ c.in_ok-order.ensures) j)) i);
    }
