-- What doors answer.
use Rattle.std.specs.Prelude.{◌≡◌, ◌≢◌, ⊤, Bool, true}
use Rattle.std.specs.Option.{ForSome}
use Rattle.std.specs.declared.option.Option.{Option}
use Rattle.std.specs.declared.option.Option.TheVariants.{Some}
use Rattle.cat_listener.specs.declared.doors.Accepted.{Accepted}
use Rattle.cat_listener.specs.declared.doors.Accepted.TheVariants.{Conn, Ready, Rest, Short, Closed, Failed}

-- the doors have closed, where they tell whether they have
abbrev pub HaveClosed : Option Bool → Type 0
HaveClosed told = ForSome told (λ closed. closed ≡ true)

-- doors that have closed stay so
abbrev pub StayClosed : Option Bool → Option Bool → Type 0
StayClosed old new = old ≡ Some true → new ≡ Some true

-- the accept failed
abbrev pub HasFailed : {T : Type 0} → Accepted T → Type 0
HasFailed (Conn conn) = ⊥
HasFailed (Ready number) = ⊥
HasFailed Rest = ⊥
HasFailed Short = ⊥
HasFailed Closed = ⊥
HasFailed Failed = ⊤

-- What an accept says of the doors: a connection came, so they hadn't closed; no more come, so they have.
abbrev pub Admits : {T : Type 0} → Option Bool → Option Bool → Accepted T → Type 0
Admits old new (Conn conn) = old ≢ Some true
Admits old new (Ready number) = new ≡ old
Admits old new Rest = new ≡ old
Admits old new Short = new ≡ old
Admits old new Closed = HaveClosed new
Admits old new Failed = new ≡ old
