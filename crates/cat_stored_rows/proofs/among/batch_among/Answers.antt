use Rattle.std.proofs.Common.{◌≡◌, ◌+◌, List, ◌∷◌, drop, sym, ap, subst, ◌∙◌}
use Rattle.std.proofs.lemmas.List.{drop_all, drop_more}
use Rattle.cat_keeper.specs.Store.{RowKey}
use Rattle.cat_stored_rows.proofs.LeadingKeys.{Leads, arrives, goes_on}
use Rattle.cat_stored_rows.proofs.among.batch_among.Goals as goal

pub loop-key-preserved : goal.loop-key-preserved
loop-key-preserved c =
    let keys = c.args.keys.now in
    let old = c.args.old.now in
    let new = c.args.new.now in
    let i = c.loop-key.key-index in
    let key = c.key-item.result in
    let batch = c.loop-key.batch in
    let split : drop i keys ≡ key ∷ drop (i + 1) keys = drop_more keys i key c.loop-key-test.true ∙ ap (λ k. k ∷ drop (i + 1) keys) (sym c.key-item.is) in
    goes_on key (drop (i + 1) keys) old new batch (subst (λ (left : List RowKey). Leads old new left batch) split c.loop-key.invariant) c.change_at.new.batch c.in_ok-change_at.ensures

pub returns-clause-leads : goal.returns-clause-leads
returns-clause-leads c =
    let old = c.args.old.now in
    let new = c.args.new.now in
    let batch = c.loop-key.batch in
    arrives old new batch c.in_order.ensures c.in_order-2.ensures c.in_order-3.ensures
    (subst (λ (left : List RowKey). Leads old new left batch) (drop_all c.loop-key.key-index c.args.keys.now c.loop-key-test.false) c.loop-key.invariant)

pub returns-clause-needed : goal.returns-clause-needed
returns-clause-needed c = c.loop-key.invariant.needed
