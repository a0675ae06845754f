use Rattle.std.proofs.Common.{get_or, refl, sym, ◌∙◌}
use Rattle.cat_inputs.proofs.Seen.{no_text, repeats_at, goes_on, was_seen, was_new}
use Rattle.cat_inputs.proofs.refs.first_repeated.Goals as goal

pub returns-then-not-branch : goal.returns-then-not-branch
returns-then-not-branch c =
    sym (sym c.loop-i.invariant
    ∙ repeats_at c.loop-i.seen.keys c.args.texts.now c.loop-i.i (get_or c.args.texts.now c.loop-i.i no_text) no_text c.loop-i-test.true refl (was_seen _ _ c.in_ok-insert.ensures.added c.if-not-branch.true))

pub loop-i-preserved : goal.loop-i-preserved
loop-i-preserved c =
    goes_on c.loop-i.seen.keys c.insert.new.self.keys c.args.texts.now c.loop-i.i (get_or c.args.texts.now c.loop-i.i no_text) no_text c.loop-i-test.true refl (was_new _ _ c.in_ok-insert.ensures.added c.if-not-branch.false) c.in_ok-insert.ensures.updates.0
    ∙ c.loop-i.invariant
