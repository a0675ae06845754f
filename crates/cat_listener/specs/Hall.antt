-- Doors that several helpers share.
use Rattle.std.specs.Prelude.{ℕ, Bool}
use Rattle.std.specs.declared.option.Option.{Option}
use Rattle.cat_io.specs.Causes.{Rose}
use Rattle.cat_listener.specs.Doors.{HaveClosed}
use Rattle.cat_listener.specs.declared.hall.Ended.{Ended}
use Rattle.cat_listener.specs.declared.hall.Ended.TheVariants.{Closed, Failed}

-- Why the doors let in no more: they have closed, where they tell it; or their count of faults rose.
abbrev pub HasCause : Ended → ℕ → ℕ → Option Bool → Type 0
HasCause Closed before now told = HaveClosed told
HasCause Failed before now told = Rose before now
