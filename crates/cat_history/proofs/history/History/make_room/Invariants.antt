use Rattle.std.proofs.Common.{◌≡◌, ◌+◌, ◌≤◌, ℕ, length, map}
use Rattle.std.specs.VecDeque.{deque_len, deque_capacity}
use Rattle.cat_history.specs.Kept.{leaving}
use Rattle.cat_history.proofs.history.History.make_room.Given as goal

abbrev pub invariant-loop-self : goal.invariant-loop-self
invariant-loop-self g l = record {
  all : l.self.all.items ≡ l.initial.self.all.items;
  gone : l.self.gone + leaving l.initial.self.limits.entries l.initial.self.limits.weight l.weight (map (λ k. k.weight) l.self.kept.items)
      ≡ l.initial.self.gone + leaving l.initial.self.limits.entries l.initial.self.limits.weight l.weight (map (λ k. k.weight) l.initial.self.kept.items);
  capacity : deque_capacity l.self.kept ≡ deque_capacity l.initial.self.kept;
  less : deque_len l.self.kept ≤ deque_len l.initial.self.kept;
  limits : l.self.limits ≡ l.initial.self.limits;
}

abbrev pub decreases-loop-self : goal.decreases-loop-self
decreases-loop-self g l = deque_len l.self.kept
