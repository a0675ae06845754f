-- Doors that close after so many connections.
use Rattle.std.specs.Prelude.{◌≡◌, ℕ, ◌+◌, Bool, true, ◌==◌, if◌then◌else◌}
use Rattle.std.specs.declared.option.Option.{Option}
use Rattle.std.specs.declared.option.Option.TheVariants.{Some}
use Rattle.cat_listener.specs.declared.doors.Accepted.{Accepted}
use Rattle.cat_listener.specs.declared.doors.Accepted.TheVariants.{Conn, Ready, Rest, Short, Closed, Failed}

-- They have closed once no connection is left to come, and else as the doors below tell.
abbrev pub closed_by : ℕ → Option Bool → Option Bool
closed_by left told = if left == 0 then Some true else told

-- a connection is one less to come
abbrev pub IsCountedOff : {T : Type 0} → Accepted T → ℕ → ℕ → Type 0
IsCountedOff (Conn conn) old new = old ≡ new + 1
IsCountedOff (Ready number) old new = new ≡ old
IsCountedOff Rest old new = new ≡ old
IsCountedOff Short old new = new ≡ old
IsCountedOff Closed old new = new ≡ old
IsCountedOff Failed old new = new ≡ old
