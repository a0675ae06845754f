use Rattle.std.proofs.Common.{◌≡◌, ◌+◌, drop, option_map}
use Rattle.cat_http.specs.Lines.{head_length}
use Rattle.cat_http.proofs.head.find_head.Given as goal

abbrev pub invariant-loop-i : goal.invariant-loop-i
invariant-loop-i l = head_length l.bytes ≡ option_map (λ n. l.i + n) (head_length (drop l.i l.bytes))
