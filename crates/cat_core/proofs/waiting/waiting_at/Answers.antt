use Rattle.std.proofs.Common.{arith, ◌≡◌, ◌≤◌, ℕ, not, ap, subst, ◌∙◌, option_map, slice_get}
use Rattle.cat_model.specs.Reply.{waiting}
use Rattle.cat_core.proofs.Walks.{none_map, walk_begun, walk_ended, walk_more, walk_row}
use Rattle.cat_core.proofs.waiting.waiting_at.Goals as goal

pub loop-before-init : goal.loop-before-init
loop-before-init c = (omega arith, walk_begun c.args.m.now _ c.next_waiting-found.ensures)

pub returns-then-is_none : goal.returns-then-is_none
returns-then-is_none c =
    let i = c.loop-before.invariant in
    walk_ended c.args.m.now c.loop-before.before c.args.place i.0 (none_map _ c.loop-before.found (c.is_none.ensures ∙ ap not c.if-is_none.true) ∙ i.1)

pub loop-before-preserved : goal.loop-before-preserved
loop-before-preserved c =
    let i = c.loop-before.invariant in
    let test = c.loop-before-test.true in
    (omega arith, walk_more c.args.m.now c.loop-before.before _ _ i.1 c.next_after-found.ensures)

pub returns : goal.returns
returns c =
    let i = c.loop-before.invariant in
    let low : c.loop-before.before ≤ c.args.place = i.0 in
    let test = c.loop-before-test.false in
    let same : c.loop-before.before ≡ c.args.place = omega arith in
    subst (λ (n : ℕ). option_map (λ x. x.now) c.row_found.result ≡ option_map (λ e. e.1) (slice_get (waiting c.args.m.now) n)) same (walk_row c.args.m.now c.loop-before.before _ _ i.1 c.row_found.ensures)
