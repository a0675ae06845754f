-- What a keeper for each place tells.
use Rattle.std.specs.Prelude.{ℕ, List, []}
use Rattle.std.specs.declared.option.Option.{Option}
use Rattle.std.specs.declared.option.Option.TheVariants.{None, Some}
use Rattle.cat_keeper.specs.Store.{Rows}
use Rattle.cat_keeper.specs.declared.keeper.Place.{Place}
use Rattle.cat_keeper.specs.declared.keeper.Place.TheVariants.{Nowhere, File as AtFile, Journal}
use Rattle.cat_backends.specs.declared.place.Store.{Store}
use Rattle.cat_backends.specs.declared.place.Store.TheVariants.{Memory, File, Closed}

-- the rows that are kept in memory, where no file was loaded since, and the count of faults
pub record PlaceState : Type 0 where
  pub rows : Option Rows
  pub faults : ℕ

-- rows in memory are told, and those of a file aren't
abbrev pub rows_in : {K : Type 0} → Store K → Option Rows
rows_in (Memory keeper) = Some keeper.rows
rows_in (File keeper) = None
rows_in Closed = None

-- the numbers of the calls that fail of themselves
abbrev pub failing_in : {K : Type 0} → Store K → List ℕ
failing_in (Memory keeper) = keeper.calls.failing
failing_in (File keeper) = []
failing_in Closed = []

-- what is told of the rows of a place
abbrev pub told : Place → PlaceState → Option Rows
told Nowhere k = k.rows
told (AtFile path) k = None
told (Journal path) k = None
