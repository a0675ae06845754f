-- Deeds of a catalogue that is kept, and those that leave its stored rows as they are.
use Rattle.std.specs.Prelude.{◌≡◌, ◌⊎◌, ◌+◌, ◌-◌, ◌^◌, ℕ, Bool, true, false, min, nat_le, is_none}
use Rattle.std.specs.declared.option.Option.TheVariants.{Some}
use Rattle.cat_core.specs.declared.fault.CoreFault.{CoreFault}
use Rattle.cat_core.specs.declared.fault.CoreFault.TheVariants.{Keeper}
use Rattle.cat_core.specs.declared.ledger.Ledger.{Ledger}
use Rattle.cat_desk.specs.Acts.{Acts}
use Rattle.cat_desk.specs.Deed.{Deed}
use Rattle.cat_desk.specs.Deed.Deed.{Mutate, ShelfPut, ShelfDrop, Refresh, Forget, ForgetNumber, Take, Finish, TakeStitch, PutStitch, Settle}
use Rattle.cat_desk.specs.declared.command.Reply.{Reply}
use Rattle.cat_desk.specs.declared.command.Reply.TheVariants.{Cut, Refused}
use Rattle.cat_model.specs.Catalogue.{Rules}
use Rattle.cat_model.specs.Settle.{try_settle}
use Rattle.cat_model.specs.Sound.{its_number}
use Rattle.cat_model.specs.Step.{ref_at, source_at}
use Rattle.cat_model.specs.declared.types.State.{State}
use Rattle.cat_collections.specs.Table.{get}

-- Whether a deed leaves the stored rows as they are: a mutation whose serial isn't above the last one; a refresh, a take and what is done with
-- stitch orders, since due moments, leases, marks and documents aren't stored; and what names a text, a reference or a number that isn't there.
abbrev pub leaves_rows : Deed → State → Bool
leaves_rows (Mutate provider x) m = nat_le x.serial (source_at (get m.providers provider)).serial
leaves_rows (ShelfPut name text) m = false
leaves_rows (ShelfDrop name) m = is_none (get m.shelf name)
leaves_rows (Refresh r) m = true
leaves_rows (Forget r) m = is_none (its_number m r)
leaves_rows (ForgetNumber number) m = is_none (ref_at m number)
leaves_rows Take m = true
leaves_rows (Finish order) m = false
leaves_rows (TakeStitch after) m = true
leaves_rows (PutStitch order) m = true
leaves_rows Settle m = false

-- Whether a fault is the keeper's.
abbrev pub is_keeper : CoreFault → Bool
is_keeper Keeper = true
is_keeper _ = false

-- Whether a reply says that a deed wasn't kept, or not all of it.
abbrev pub is_lost : Reply → Bool
is_lost (Refused fault) = is_keeper fault
is_lost (Cut short) = is_keeper short.fault
is_lost _ = false

-- Whether a deed is a settle.
abbrev pub is_settle : Deed → Bool
is_settle Settle = true
is_settle _ = false

-- A deed that may change the stored rows wasn't kept: it is answered so, and the catalogue is as before.
pub record IsUnkept (d : Deed) (old new : Ledger) (reply : Reply) : Type 0 where
  pub changes : leaves_rows d old.state ≡ false
  pub single : is_settle d ≡ false
  pub state : new.state ≡ old.state
  pub settings : new.settings ≡ old.settings
  pub answer : reply ≡ Refused Keeper

-- A settle was cut behind its first event, since what follows it wasn't kept: just this event stands, and it is answered so.
pub record IsCutUnkept (rules : Rules) (now : ℕ) (d : Deed) (old new : Ledger) (reply : Reply) : Type 0 where
  pub settles : d ≡ Settle
  pub state : new.state ≡ (try_settle rules old.settings now (Some 1) old.state).state
  pub exact : (try_settle rules old.settings now (Some 1) old.state).events ≡ 1
  pub settings : new.settings ≡ old.settings
  pub answer : reply ≡ Cut (record { events = 1; fault = Keeper })

-- A deed wasn't kept, or of a settle just the first event was.
abbrev pub IsLost : Rules → ℕ → Deed → Ledger → Ledger → Reply → Type 0
IsLost rules now d old new reply = IsUnkept d old new reply ⊎ IsCutUnkept rules now d old new reply

-- a count of one more, which stays at the last value of a u64
abbrev pub one_more : ℕ → ℕ
one_more n = min (n + 1) (2 ^ 64 - 1)

-- A deed was done to a catalogue at this moment as to one that isn't kept; or it wasn't kept, and the count of such deeds is one more.
abbrev pub KeptActs : Rules → ℕ → Deed → Ledger → Ledger → ℕ → ℕ → Reply → Type 0
KeptActs rules now d old new count count' reply = (Acts rules now d old new reply × (count' ≡ count)) ⊎ (IsLost rules now d old new reply × (count' ≡ one_more count))
