use Rattle.std.proofs.Common.{◌≡◌, ◌<◌, ◌≤◌, ℕ, false, get_or, length, sym, arith, eq-eqb}
use Rattle.std.specs.Prelude.{◌==◌}
use Rattle.cat_access.proofs.Names.{named_at, named_whole}
use Rattle.cat_access.proofs.browser.name_of.Goals as goal

pub returns-then-host-i-eq58 : goal.returns-then-host-i-eq58
returns-then-host-i-eq58 c = sym (named_at c.args.host.now c.loop-i.i c.loop-i-test.true c.loop-i.invariant (eq-eqb (get_or c.args.host.now c.loop-i.i 0) 58 c.if-host-i-eq58.true))

pub returns : goal.returns
returns c =
    let all : (k : ℕ) → k < length c.args.host.now → (get_or c.args.host.now k 0 == 58) ≡ false = λ k h. c.loop-i.invariant k (omega arith) in
    sym (named_whole c.args.host.now all)
