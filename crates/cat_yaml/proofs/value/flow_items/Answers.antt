use Rattle.std.proofs.Common.{◌∷◌, [], map, ap, sym, ◌∙◌, inl}
use Rattle.std.proofs.lemmas.List.{map-append}
use Rattle.std.proofs.lemmas.Result.{err_from_is_err_and}
use Rattle.cat_tree.specs.View.{data_of}
use Rattle.cat_yaml.proofs.Flow.{turn_refused, turn_goes_on, turn_ends, turn_fails}
use Rattle.cat_yaml.proofs.value.flow_items.Goals as goal

pub returns-in_err-item_at-clause-err : goal.returns-in_err-item_at-clause-err
returns-in_err-item_at-clause-err c =
    let p = err_from_is_err_and c.from_residual.result c.from_residual.ensures.1 in
    rw (p.1, p.2) (turn_refused c.args.bytes.now c.loop-turn._turn-index (map data_of c.loop-turn.items.items) c.loop-turn.rest.now _ _ c.loop-turn-test.true c.loop-turn.invariant c.in_err-item_at.ensures.err)

pub returns-then-begins_with-2-clause-ok : goal.returns-then-begins_with-2-clause-ok
returns-then-begins_with-2-clause-ok c =
    let grown = ap (map data_of) c.in_ok-push.ensures.items ∙ map-append data_of c.loop-turn.items.items (c.in_ok-item_at.field-0 ∷ []) in
    let e = turn_ends c.args.bytes.now c.loop-turn._turn-index (map data_of c.loop-turn.items.items) c.loop-turn.rest.now _ (data_of c.in_ok-item_at.field-0) (map data_of c.push.new.self.items) c.after_item-after.result.now c.loop-turn-test.true c.loop-turn.invariant c.in_ok-item_at.ensures.ok grown c.after_item-after.ensures c.next-then-begins_with-2.result.now c.next-then-begins_with-2.ensures (sym c.begins_with.ensures ∙ c.if-begins_with.false) (sym c.begins_with-else-begins_with.ensures ∙ c.if-begins_with-2.true) in
    rw e c.closed.ensures.ok

pub returns-then-begins_with-2-clause-err : goal.returns-then-begins_with-2-clause-err
returns-then-begins_with-2-clause-err c =
    let grown = ap (map data_of) c.in_ok-push.ensures.items ∙ map-append data_of c.loop-turn.items.items (c.in_ok-item_at.field-0 ∷ []) in
    let e = turn_ends c.args.bytes.now c.loop-turn._turn-index (map data_of c.loop-turn.items.items) c.loop-turn.rest.now _ (data_of c.in_ok-item_at.field-0) (map data_of c.push.new.self.items) c.after_item-after.result.now c.loop-turn-test.true c.loop-turn.invariant c.in_ok-item_at.ensures.ok grown c.after_item-after.ensures c.next-then-begins_with-2.result.now c.next-then-begins_with-2.ensures (sym c.begins_with.ensures ∙ c.if-begins_with.false) (sym c.begins_with-else-begins_with.ensures ∙ c.if-begins_with-2.true) in
    rw e c.closed.ensures.err

pub returns-else-begins_with-2-clause-err : goal.returns-else-begins_with-2-clause-err
returns-else-begins_with-2-clause-err c =
    let grown = ap (map data_of) c.in_ok-push.ensures.items ∙ map-append data_of c.loop-turn.items.items (c.in_ok-item_at.field-0 ∷ []) in
    inl (turn_fails c.args.bytes.now c.loop-turn._turn-index (map data_of c.loop-turn.items.items) c.loop-turn.rest.now _ (data_of c.in_ok-item_at.field-0) (map data_of c.push.new.self.items) c.after_item-after.result.now c.loop-turn-test.true c.loop-turn.invariant c.in_ok-item_at.ensures.ok grown c.after_item-after.ensures (sym c.begins_with.ensures ∙ c.if-begins_with.false) (sym c.begins_with-else-begins_with.ensures ∙ c.if-begins_with-2.false))

pub loop-turn-preserved : goal.loop-turn-preserved
loop-turn-preserved c =
    let grown = ap (map data_of) c.in_ok-push.ensures.items ∙ map-append data_of c.loop-turn.items.items (c.in_ok-item_at.field-0 ∷ []) in
    turn_goes_on c.args.bytes.now c.loop-turn._turn-index (map data_of c.loop-turn.items.items) c.loop-turn.rest.now _ (data_of c.in_ok-item_at.field-0) (map data_of c.push.new.self.items) c.after_item-after.result.now c.loop-turn-test.true c.loop-turn.invariant c.in_ok-item_at.ensures.ok grown c.after_item-after.ensures c.next.result.now c.stripped-rest.result.now c.next.ensures c.stripped-rest.ensures.value (sym c.begins_with.ensures ∙ c.if-begins_with.true)
