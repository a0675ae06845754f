use Rattle.std.proofs.Common.{◌≡◌, ℕ, ◌%◌, ◌^◌, []}
use Rattle.cat_turns.specs.declared.law.Stage.TheVariants.{Waiting}
use Rattle.cat_turns.specs.Law.{view}
use Rattle.cat_turns.proofs.turns.Turns.enter.Given as goal

abbrev pub invariant-loop : goal.invariant-loop
invariant-loop g l = (l.seat.table_id ≡ l.fn.seat.table_id) × (l.seat.id ≡ l.fn.seat.id)
    × ((t : ℕ) × (l.seat.me ≡ (view (Waiting t) l.fn.seat.me.0.number l.fn.seat.me.0.seen l.fn.seat.me.0.came l.fn.seat.me.0.gone l.fn.seat.me.0.noted l.fn.seat.me.0.met, [])) × (l.ticket ≡ t % 2 ^ 64))
