-- What an event plans, and what the plan makes of a state.
use Rattle.std.specs.Prelude.{◌≡◌, ℕ, List, []}
use Rattle.std.specs.declared.alloc.Global.{Global}
use Rattle.std.specs.declared.boxed.Box.{Box}
use Rattle.std.specs.declared.option.Option.{Option}
use Rattle.std.specs.declared.option.Option.TheVariants.{None, Some}
use Rattle.cat_collections.specs.Table.{Map}
use Rattle.cat_model.specs.declared.types.ProviderInputs.{ProviderInputs}
use Rattle.cat_model.specs.declared.types.Record.{Record}
use Rattle.cat_model.specs.declared.types.Orphan.{Orphan}
use Rattle.cat_model.specs.declared.types.State.{State}
use Rattle.cat_model.specs.Catalogue.{Holders, Ref, Rows, Rules, Shelf}
use Rattle.cat_plan.specs.Amended.{amended}
use Rattle.cat_plan.specs.Followed.{followed}
use Rattle.cat_plan.specs.Following.{IsOwnChange, IsReach, held_state}
use Rattle.cat_plan.specs.declared.amended.Amendment.{Amendment}
use Rattle.cat_claims.specs.declared.types.Claimed.{Claimed}
use Rattle.cat_events.specs.declared.plan.Inputs.{Inputs}
use Rattle.cat_events.specs.declared.plan.Inputs.TheVariants.{Same, Providers, Shelf as ShelfInputs}
use Rattle.cat_events.specs.declared.plan.OwnChange.{OwnChange}
use Rattle.cat_events.specs.declared.plan.Plan.{Plan}

-- ---- the inputs and the claims after an event

-- the providers' inputs after an event
abbrev pub providers_after : Inputs → Map ProviderInputs → Map ProviderInputs
providers_after Same providers = providers
providers_after (Providers after) providers = after
providers_after (ShelfInputs after) providers = providers

-- the shelf after an event
abbrev pub shelf_after : Inputs → Shelf → Shelf
shelf_after Same shelf = shelf
shelf_after (Providers after) shelf = shelf
shelf_after (ShelfInputs after) shelf = after

-- the rows after an event
abbrev pub rows_after : Option (Box Claimed Global) → Rows → Rows
rows_after None rows = rows
rows_after (Some x) rows = x.value.rows

-- the holders after an event
abbrev pub holders_after : Option (Box Claimed Global) → Holders → Holders
holders_after None holders = holders
holders_after (Some x) holders = x.value.holders

-- the next arrival after an event
abbrev pub arrival_after : Option (Box Claimed Global) → ℕ → ℕ
arrival_after None arrival = arrival
arrival_after (Some x) arrival = x.value.arrival

-- the references that an event makes newly held
abbrev pub fresh_of : Option (Box Claimed Global) → List Ref
fresh_of None = []
fresh_of (Some x) = x.value.fresh

-- the references that an event makes no longer held
abbrev pub leaving_of : Option (Box Claimed Global) → List Ref
leaving_of None = []
leaving_of (Some x) = x.value.leaving

-- ---- an event's own change

-- a state with the shelf, the rows and the holders after an event's own change
abbrev pub held_after : OwnChange → State → State
held_after x m = held_state (shelf_after x.inputs m.shelf) (rows_after x.claims m.rows) (holders_after x.claims m.holders) m

-- what an event's own change touches is what it reaches
abbrev pub IsReached : Rules → OwnChange → State → Type 0
IsReached rules x m = IsReach rules m (held_after x m) (fresh_of x.claims) (leaving_of x.claims) x.touched

-- n is m with an event's own change, of which holding makes the rows and the holders that are claimed
pub record IsOwned (x : OwnChange) (m n : State) : Type 0 where
  pub change : IsOwnChange x.own (shelf_after x.inputs m.shelf) (rows_after x.claims m.rows) (holders_after x.claims m.holders) m n
  pub providers : n.providers ≡ providers_after x.inputs m.providers
  pub arrival : n.arrival ≡ arrival_after x.claims m.arrival
  pub token : n.token ≡ m.token

-- ---- what a plan makes of a state

-- a state with the inputs and the claims of a plan
abbrev pub given_by : Inputs → Option (Box Claimed Global) → State → State
given_by inputs claims m =
    record m {
      providers = providers_after inputs m.providers;
      shelf = shelf_after inputs m.shelf;
      rows = rows_after claims m.rows;
      holders = holders_after claims m.holders;
      arrival = arrival_after claims m.arrival;
    }

-- the state that a plan leads to
abbrev pub planned : Plan → State → State
planned x m = followed x.following m (given_by x.inputs x.claims m)

-- ---- its tables, one after the other

-- a state in which these documents went
abbrev pub without_documents : List Ref → State → State
without_documents gone m = record m { documents = amended [] gone m.documents }

-- a state with its marks amended, in which these documents went
abbrev pub with_marks : Amendment ℕ → List Ref → State → State
with_marks marks gone m = record (without_documents gone m) { marks = amended marks.put.items marks.gone m.marks }

-- a state with its orphans and marks amended, in which these documents went
abbrev pub with_orphans : Amendment Orphan → Amendment ℕ → List Ref → State → State
with_orphans orphans marks gone m = record (with_marks marks gone m) { orphans = amended orphans.put.items orphans.gone m.orphans }

-- a state with its records, orphans and marks amended, in which these documents went
abbrev pub with_records : Amendment Record → Amendment Orphan → Amendment ℕ → List Ref → State → State
with_records records orphans marks gone m = record (with_orphans orphans marks gone m) { records = amended records.put.items records.gone m.records }
