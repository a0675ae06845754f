use Rattle.std.proofs.Common.{◌≡◌, drop}
use Rattle.cat_http.specs.Head.{after_authority}
use Rattle.cat_http.proofs.request_target.authority_end.Given as goal

abbrev pub invariant-loop-i : goal.invariant-loop-i
invariant-loop-i l = after_authority (drop l.fn.start l.bytes) ≡ after_authority (drop l.i l.bytes)
