-- What a plan makes of a state.
use Rattle.std.proofs.Common.{◌≡◌, sym}
use Rattle.cat_model.specs.declared.types.State.{State}
use Rattle.cat_model.specs.Catalogue.{reheld}
use Rattle.cat_plan.specs.Followed.{followed}
use Rattle.cat_plan.specs.declared.following.Following.{Following}
use Rattle.cat_events.specs.Planned.{IsOwned, given_by}
use Rattle.cat_events.specs.declared.plan.OwnChange.{OwnChange}

-- what follows is put into the state with the inputs and the claims, as into the state that holding makes of an event's own change
pub planned_is : (x : OwnChange) (f : Following) (m n : State) → IsOwned x m n → followed f m (given_by x.inputs x.claims m) ≡ followed f m (reheld n)
planned_is x f m n o =
    let c = o.change in
    λ i. followed f m (record m {
      providers = sym o.providers i;
      shelf = sym c.same_shelf i;
      rows = sym c.same_rows i;
      holders = sym c.same_holders i;
      arrival = sym o.arrival i;
      token = sym o.token i;
    })
