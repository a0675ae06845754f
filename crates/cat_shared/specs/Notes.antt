-- What is noted of a deed.
use Rattle.std.specs.Prelude.{◌≡◌, ◌⊎◌, ℕ, ◌+◌, Bool, true, false, not, ◌&&◌, ◌||◌, nat_lt, is_some, List, [], ◌∷◌}
use Rattle.std.specs.declared.option.Option.{Option}
use Rattle.std.specs.declared.option.Option.TheVariants.{None, Some}
use Rattle.cat_core.specs.declared.fault.CoreFault.{CoreFault}
use Rattle.cat_core.specs.declared.fault.CoreFault.TheVariants.{Keeper, NoMemory}
use Rattle.cat_desk.specs.Deed.{Deed}
use Rattle.cat_desk.specs.Deed.Deed.{Mutate, ShelfPut, ShelfDrop, Refresh, Forget, ForgetNumber, Take, Finish, PutStitch, Settle}
use Rattle.cat_desk.specs.declared.command.Reply.{Reply}
use Rattle.cat_desk.specs.declared.command.Reply.TheVariants as replies
use Rattle.cat_desk.specs.Kept.{is_keeper, is_lost}
use Rattle.cat_model.specs.Catalogue.{Ref}
use Rattle.cat_model.specs.Given.{given}
use Rattle.cat_model.specs.declared.types.Acted.{Acted}
use Rattle.cat_model.specs.declared.types.Acted.TheVariants.{Now, Again}
use Rattle.cat_model.specs.declared.types.Finished.{Finished}
use Rattle.cat_model.specs.declared.types.Finished.TheVariants.{Good, Bad, Late}
use Rattle.cat_model.specs.declared.types.Order.{Order}
use Rattle.cat_model.specs.declared.types.Placed.{Placed}
use Rattle.cat_model.specs.declared.types.Placed.TheVariants.{Counted, Late as LateStitch}
use Rattle.cat_model.specs.declared.types.StitchOrder.{StitchOrder}
use Rattle.cat_shared.specs.declared.entry.Entry.{Entry}
use Rattle.cat_shared.specs.declared.entry.Input.{Input}
use Rattle.cat_shared.specs.declared.entry.Input.TheVariants as inputs
use Rattle.cat_shared.specs.declared.entry.Noted.{Noted}
use Rattle.cat_shared.specs.declared.entry.Noted.TheVariants as notes

-- ---- which deeds are noted

-- Whether a mutation acted.
abbrev pub is_now : Acted → Bool
is_now Now = true
is_now Again = false

-- Whether a result counted.
abbrev pub has_counted : Finished → Bool
has_counted Good = true
has_counted Bad = true
has_counted (Late token) = false

-- Whether a document counted.
abbrev pub is_counted : Placed → Bool
is_counted Counted = true
is_counted (LateStitch ticket) = false

-- Whether a reply says that a deed is to be noted: that an input command acted, a take gave an order, a result or a document counted, or
-- some event of a settle stands that the keeper's fault didn't cut.
abbrev pub is_noted : Reply → Bool
is_noted (replies.Mutated acted) = is_now acted
is_noted replies.Changed = true
is_noted (replies.Taken order) = is_some order
is_noted (replies.Finished finished) = has_counted finished
is_noted (replies.StitchTaken order) = false
is_noted (replies.Placed placed) = is_counted placed
is_noted (replies.Settled counts) = nat_lt 0 counts.leases || nat_lt 0 counts.stitched
is_noted (replies.Cut short) = not (is_keeper short.fault) && nat_lt 0 short.events
is_noted (replies.Refused fault) = false

-- ---- what is noted of them

-- What an input command does.
abbrev pub deed_in : Input → Deed
deed_in (inputs.Mutate provider mutation) = Mutate provider (given provider mutation)
deed_in (inputs.ShelfPut name text) = ShelfPut name text
deed_in (inputs.ShelfDrop name) = ShelfDrop name
deed_in (inputs.Refresh reference) = Refresh reference
deed_in (inputs.Forget reference) = Forget reference
deed_in (inputs.ForgetNumber number) = ForgetNumber number

-- Whether a fault is want of memory.
abbrev pub is_want : CoreFault → Bool
is_want NoMemory = true
is_want _ = false

-- Whether a settle was cut for want of memory.
abbrev pub is_cut_short : Reply → Bool
is_cut_short (replies.Cut short) = is_want short.fault
is_cut_short _ = false

-- The reference of the order that a deed brings back, if it brings one back.
abbrev pub worked : Deed → Option Ref
worked (Finish order) = Some order.reference
worked (PutStitch order) = Some order.reference
worked _ = None

-- What is noted of a settle with events that stand, by the fault that cut it.
abbrev pub cut_note : ℕ → ℕ → CoreFault → Noted
cut_note now events NoMemory = notes.Cut now events
cut_note now events _ = notes.Settled now

-- What is noted of a settle that was answered so at this moment.
abbrev pub settled_note : ℕ → Reply → Noted
settled_note now (replies.Cut short) = cut_note now short.events short.fault
settled_note now _ = notes.Settled now

-- What is noted of a deed that wasn't kept and was answered so at this moment: of a settle, how many events stand.
abbrev pub unkept_note : ℕ → Reply → Noted
unkept_note now (replies.Cut short) = notes.CutUnkept now short.events
unkept_note now _ = notes.Unkept

-- A note is of a deed that acted and was answered so at this moment.
abbrev pub IsNoteOf : ℕ → Deed → Reply → Noted → Type 0
IsNoteOf now d reply (notes.Acted input said) = (deed_in input ≡ d) × (said ≡ reply)
IsNoteOf now d reply (notes.Taken moment) = (d ≡ Take) × (moment ≡ now)
IsNoteOf now d reply (notes.Finished reference token moment) = (order : Order) × (d ≡ Finish order) × (reference ≡ order.reference) × (token ≡ order.token) × (moment ≡ now)
IsNoteOf now d reply (notes.Stitched reference ticket) = (order : StitchOrder) × (d ≡ PutStitch order) × (reference ≡ order.reference) × (ticket ≡ order.ticket)
IsNoteOf now d reply (notes.Settled moment) = (d ≡ Settle) × (moment ≡ now) × (is_cut_short reply ≡ false)
IsNoteOf now d reply (notes.Cut moment events) = (d ≡ Settle) × (moment ≡ now) × (reply ≡ replies.Cut (record { events = events; fault = NoMemory }))
IsNoteOf now d reply notes.Unkept = ⊥
IsNoteOf now d reply (notes.CutUnkept moment events) = ⊥

-- A note is of a deed that wasn't kept and was answered so at this moment: all was as before it, or it is a settle, of which just the first event
-- stands.
abbrev pub IsLossOf : ℕ → Deed → Reply → Noted → Type 0
IsLossOf now d reply notes.Unkept = reply ≡ replies.Refused Keeper
IsLossOf now d reply (notes.CutUnkept moment events) = (d ≡ Settle) × (moment ≡ now) × (events ≡ 1) × (reply ≡ replies.Cut (record { events = 1; fault = Keeper }))
IsLossOf now d reply _ = ⊥

-- What is noted of a deed that was answered so at this moment: just what its reply says is to be noted, and that it or the rest of it wasn't kept
-- just where its reply has the keeper's fault.
abbrev pub IsNoted : ℕ → Deed → Reply → Option Noted → Type 0
IsNoted now d reply None = (is_noted reply ≡ false) × (is_lost reply ≡ false)
IsNoted now d reply (Some noted) = ((is_noted reply ≡ true) × IsNoteOf now d reply noted) ⊎ ((is_lost reply ≡ true) × IsLossOf now d reply noted)

-- ---- how many weren't kept

-- one, if a note says that a command or the rest of it wasn't kept
abbrev pub lost_in : Noted → ℕ
lost_in notes.Unkept = 1
lost_in (notes.CutUnkept moment events) = 1
lost_in _ = 0

-- how many commands of a journal weren't kept, or not all of them
abbrev pub lost : List Entry → ℕ
lost [] = 0
lost (entry ∷ entries) = lost_in entry.noted + lost entries
