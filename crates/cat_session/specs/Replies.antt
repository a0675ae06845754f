-- The replies of a desk as lines.
use Rattle.std.specs.Prelude.{◌≡◌, ⊤, ℕ, List, ◌∷◌, [], ◌++◌, length}
use Rattle.std.specs.declared.option.Option.{Option}
use Rattle.std.specs.declared.option.Option.TheVariants.{None, Some}
use Rattle.std.specs.Ordering.{nat_cmp}
use Rattle.cat_collections.specs.Table.{put}
use Rattle.cat_session_lines.specs.declared.fault.LineFault.{LineFault}
use Rattle.cat_session_lines.specs.declared.fault.LineFault.TheVariants.{LongLine, BadWord, BadArguments, Input, Reference, Query, NoMemory as LineNoMemory}
use Rattle.cat_core.specs.declared.fault.CoreFault.{CoreFault}
use Rattle.cat_core.specs.declared.fault.CoreFault.TheVariants as core
use Rattle.cat_core.specs.declared.fault.Cut.{Cut}
use Rattle.cat_desk.specs.declared.command.Asked.{Asked}
use Rattle.cat_desk.specs.declared.command.Asked.TheVariants as asked
use Rattle.cat_desk.specs.declared.command.Reply.{Reply}
use Rattle.cat_desk.specs.declared.command.Reply.TheVariants as replies
use Rattle.cat_model.specs.declared.types.Order.{Order}
use Rattle.cat_model.specs.declared.types.StitchOrder.{StitchOrder}
use Rattle.cat_model.specs.declared.types.Fault.TheVariants.{OldSerial, NotFound, TooLarge, Spent}
use Rattle.cat_replies.specs.Events as say
use Rattle.cat_replies.specs.Faults as faults
use Rattle.cat_session_model.specs.Session.{line_fault, order_reply, ticket_reply}

-- ---- the line of a reply

-- the line of a refusal
abbrev pub fault_line : CoreFault → List ℕ
fault_line (core.OldSerial last) = say.refused (OldSerial last)
fault_line core.NotFound = say.refused NotFound
fault_line (core.TooLarge sum) = say.refused (TooLarge sum)
fault_line (core.Spent counter) = say.refused (Spent counter)
fault_line core.Keeper = say.no_memory
fault_line core.NoMemory = say.no_memory

-- the line of a settle that was cut after so many events
abbrev pub cut_text : ℕ → CoreFault → List ℕ
cut_text events (core.OldSerial last) = say.cut_by_memory events
cut_text events core.NotFound = say.cut_by_memory events
cut_text events (core.TooLarge sum) = say.cut_by_memory events
cut_text events (core.Spent counter) = say.cut_by_counter events counter
cut_text events core.Keeper = say.cut_by_keeper events
cut_text events core.NoMemory = say.cut_by_memory events

-- the line of a settle that was cut
abbrev pub cut_line : Cut → List ℕ
cut_line cut = cut_text cut.events cut.fault

-- the line of a reply
abbrev pub reply_line : Reply → List ℕ
reply_line (replies.Mutated acted) = say.acted acted
reply_line replies.Changed = say.changed
reply_line (replies.Taken order) = order_reply order
reply_line (replies.Finished finished) = say.finished finished
reply_line (replies.StitchTaken order) = ticket_reply order
reply_line (replies.Placed placed) = say.placed placed
reply_line (replies.Settled counts) = say.settled counts
reply_line (replies.Cut cut) = cut_line cut
reply_line (replies.Refused fault) = fault_line fault

-- ---- which replies are said, and how long they are

-- a refusal is said, but want of memory is left to the loop, and a session's own catalogue is never refused by a keeper
abbrev pub IsFaultSaid : CoreFault → Type 0
IsFaultSaid core.Keeper = ⊥
IsFaultSaid core.NoMemory = ⊥
IsFaultSaid (core.OldSerial last) = ⊤
IsFaultSaid core.NotFound = ⊤
IsFaultSaid (core.TooLarge sum) = ⊤
IsFaultSaid (core.Spent counter) = ⊤

-- a reply is said, where it isn't want of memory
abbrev pub IsSaid : Reply → Type 0
IsSaid (replies.Refused fault) = IsFaultSaid fault
IsSaid (replies.Mutated acted) = ⊤
IsSaid replies.Changed = ⊤
IsSaid (replies.Taken order) = ⊤
IsSaid (replies.Finished finished) = ⊤
IsSaid (replies.StitchTaken order) = ⊤
IsSaid (replies.Placed placed) = ⊤
IsSaid (replies.Settled counts) = ⊤
IsSaid (replies.Cut cut) = ⊤

-- how many bytes a reference has, if there is one
abbrev pub order_length : Option (List ℕ) → ℕ
order_length None = 0
order_length (Some r) = length r

-- how many bytes the reference of an order has
abbrev pub order_shown : Option Order → ℕ
order_shown None = 0
order_shown (Some x) = length x.reference

-- how many bytes the reference of a stitch order has
abbrev pub stitch_shown : Option StitchOrder → ℕ
stitch_shown None = 0
stitch_shown (Some x) = length x.reference

-- how many bytes the reference has that a reply shows
abbrev pub shown : Reply → ℕ
shown (replies.Mutated acted) = 0
shown replies.Changed = 0
shown (replies.Taken order) = order_shown order
shown (replies.Finished finished) = 0
shown (replies.StitchTaken order) = stitch_shown order
shown (replies.Placed placed) = 0
shown (replies.Settled counts) = 0
shown (replies.Cut cut) = 0
shown (replies.Refused fault) = 0

-- ---- what a reply hands out

-- the order that a reply gives
abbrev pub order_in : Reply → Option Order
order_in (replies.Taken order) = order
order_in (replies.Mutated acted) = None
order_in replies.Changed = None
order_in (replies.Finished finished) = None
order_in (replies.StitchTaken order) = None
order_in (replies.Placed placed) = None
order_in (replies.Settled counts) = None
order_in (replies.Cut cut) = None
order_in (replies.Refused fault) = None

-- the stitch order that a reply gives
abbrev pub stitch_in : Reply → Option StitchOrder
stitch_in (replies.StitchTaken order) = order
stitch_in (replies.Mutated acted) = None
stitch_in replies.Changed = None
stitch_in (replies.Taken order) = None
stitch_in (replies.Finished finished) = None
stitch_in (replies.Placed placed) = None
stitch_in (replies.Settled counts) = None
stitch_in (replies.Cut cut) = None
stitch_in (replies.Refused fault) = None

-- a stitch order is kept under its ticket
abbrev pub with_order : Option StitchOrder → List (ℕ × StitchOrder) → List (ℕ × StitchOrder)
with_order None stitches = stitches
with_order (Some x) stitches = put nat_cmp x.ticket x stitches

-- ---- questions, and lines that are none

-- the line of an answer whose text is given
abbrev pub IsEnded : Asked → List ℕ → List ℕ → Type 0
IsEnded asked.Written text line = line ≡ text ++ 10 ∷ []
IsEnded asked.NotFound text line = line ≡ text ++ say.refused NotFound
IsEnded asked.NoFacet text line = line ≡ text ++ faults.no_facet
IsEnded asked.NoMemory text line = ⊥

-- the reply to a line that is no command; want of memory has none
abbrev pub IsLineRefusal : LineFault → List ℕ → Type 0
IsLineRefusal LongLine text = text ≡ line_fault LongLine
IsLineRefusal BadWord text = text ≡ line_fault BadWord
IsLineRefusal BadArguments text = text ≡ line_fault BadArguments
IsLineRefusal (Input fault) text = text ≡ line_fault (Input fault)
IsLineRefusal (Reference place) text = text ≡ line_fault (Reference place)
IsLineRefusal (Query fault) text = text ≡ line_fault (Query fault)
IsLineRefusal LineNoMemory text = ⊥
