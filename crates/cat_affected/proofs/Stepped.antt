-- What holds of a state holds after an event that is refused, is late or finds nothing.
use Rattle.std.proofs.Common.{Bool, true, false, cond, List, refl, is_some, arith}
use Rattle.cat_model.specs.Catalogue.{Ref, Rules}
use Rattle.cat_model.specs.Step.{Event, change, refusal, step}
use Rattle.cat_model.specs.declared.types.Origin.{Origin}
use Rattle.cat_model.specs.declared.types.Settings.{Settings}
use Rattle.cat_model.specs.declared.types.State.{State}
use Rattle.cat_model.specs.Mend.{IsReady, IsReplaced}
use Rattle.cat_affected.specs.Reach.{AreSameBeyond, AreSameInputs}

pub unchanged : (refs : List Ref) (m : State) → AreSameBeyond refs m m
unchanged refs m = record { rows = λ a row e out. e; none_new = λ a row e out. e; holders = λ r out. refl; records = λ r out. refl; orphans = λ r out. refl }

pub inputs_unchanged : (m : State) → AreSameInputs m m
inputs_unchanged m = record { providers = refl; shelf = refl }

-- rows that stay as they are, as those of any origin replaced
pub rows_stay : (o : Origin) (m : State) → IsReady m → IsReplaced o m.rows m.arrival m.rows
rows_stay o m ready = record {
  below = ready.below;
  others = λ a row e s. e;
  were = λ a row e l. record { was = row; at = e; same_origin = refl; same_reference = refl };
  fresh = λ a row e l. let k = ready.below a row e in absurd (omega arith);
}

-- what holds at both branches of a test
pub at_cond : (P : State → Type 0) (b : Bool) (x y : State) → P x → P y → P (cond b x y)
at_cond P true x y p q = p
at_cond P false x y p q = q

pub stepped : (rules : Rules) (s : Settings) (e : Event) (m : State) (P : State → Type 0) → P m → P (change rules s e m) → P (step rules s e m)
unfolding step
stepped rules s e m P before after = at_cond P (is_some (refusal rules s e m)) m (change rules s e m) before after
