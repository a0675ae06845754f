-- What several events reach, gathered one after the other.
use Rattle.std.specs.Prelude.{◌≡◌, ◌++◌, ⊤, List}
use Rattle.std.specs.declared.option.Option.{Option}
use Rattle.std.specs.declared.option.Option.TheVariants.{None, Some}
use Rattle.cat_model.specs.Catalogue.{Ref}
use Rattle.cat_model.specs.declared.types.State.{State}
use Rattle.cat_affected.specs.Reach.{AreSameBeyond, AreSameInputs, own_refs, reached}

-- Beyond the references that were gathered two states are the same in all that a store keeps of them but the counters; nothing is said where none were
-- gathered.
abbrev pub IsWithin : Option (List Ref) → State → State → Type 0
IsWithin None m n = ⊤
IsWithin (Some refs) m n = AreSameBeyond refs m n × AreSameInputs m n

-- Between two moments all that was reached was gathered: what lay within the references gathered before lies within those gathered after.
pub record Gathers (before : Option (List Ref)) (p : State) (after : Option (List Ref)) (q : State) : Type 0 where
  pub within : (m : State) → IsWithin before m p → IsWithin after m q

-- These are the references gathered before, and those that an event about one of them reached between two states. Nothing is said where none are
-- gathered any more.
abbrev pub IsGathered : Option (List Ref) → State → Ref → State → Option (List Ref) → Type 0
IsGathered before m r n None = ⊤
IsGathered None m r n (Some refs) = ⊥
IsGathered (Some before) m r n (Some refs) = refs ≡ before ++ reached (own_refs r m n) m n
