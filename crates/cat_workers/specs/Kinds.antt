-- The two kinds of workers.
use Rattle.std.specs.Prelude.{ℕ, ◌==◌, ◌+◌, ◌-◌, ◌^◌, Bool, true, false, min, not, option_map}
use Rattle.std.specs.declared.option.Option.{Option}
use Rattle.std.specs.declared.option.Option.TheVariants.{None, Some}
use Rattle.cat_desk.specs.Deed.Deed.{Take, Finish, TakeStitch, PutStitch}
use Rattle.cat_desk.specs.declared.command.Reply.{Reply}
use Rattle.cat_desk.specs.declared.command.Reply.TheVariants.{Taken, Finished, StitchTaken, Placed}
use Rattle.cat_model.specs.declared.types.Order.{Order}
use Rattle.cat_model.specs.declared.types.Placed.TheVariants.{Late}
use Rattle.cat_model.specs.declared.types.StitchOrder.{StitchOrder}
use Rattle.cat_workers.specs.Rounds.{Kind}

-- ---- results

-- the order that a reply gives
abbrev pub order_in : Reply → Option Order
order_in (Taken order) = order
order_in _ = None

-- a result counts or is late
abbrev pub is_finished : Reply → Bool
is_finished (Finished finished) = true
is_finished _ = false

-- Takes whatever is due and brings back its result.
abbrev pub worker : Kind
worker = record {
  take = λ after. Take;
  bring = λ taken. option_map Finish (order_in taken);
  next = λ after taken brought. after;
  begins_anew = λ after taken. false;
  has_come = is_finished;
}

-- ---- documents

-- the stitch order that a reply gives
abbrev pub stitch_order_in : Reply → Option StitchOrder
stitch_order_in (StitchTaken order) = order
stitch_order_in _ = None

-- the ticket of the stitch order that a take gave, or 0 where no mark has a higher one
abbrev pub next_ticket : ℕ → Reply → ℕ
next_ticket after (StitchTaken (Some order)) = order.ticket
next_ticket after (StitchTaken None) = 0
next_ticket after _ = after

-- A stitcher whose document came late meets another one there, and goes this many tickets further.
abbrev pub leap : ℕ
leap = 64

-- the ticket above which the next take is: a leap further where a document came late, as far as tickets go
abbrev pub leapt : ℕ → Option Reply → ℕ
leapt ticket (Some (Placed (Late present))) = min (ticket + leap) (2 ^ 64 - 1)
leapt ticket _ = ticket

-- where no mark has a higher ticket, marks may have lower ones
abbrev pub begins_anew : ℕ → Reply → Bool
begins_anew after (StitchTaken None) = not (after == 0)
begins_anew after _ = false

-- a document counts or is late
abbrev pub is_placed : Reply → Bool
is_placed (Placed placed) = true
is_placed _ = false

-- Goes round the marks by their tickets, and brings back their documents; where another was quicker, it goes a leap further.
abbrev pub stitcher : Kind
stitcher = record {
  take = TakeStitch;
  bring = λ taken. option_map PutStitch (stitch_order_in taken);
  next = λ after taken brought. leapt (next_ticket after taken) brought;
  begins_anew = begins_anew;
  has_come = is_placed;
}
