use Rattle.std.proofs.Common.{◌≡◌, subst, sym}
use Rattle.std.proofs.lemmas.Result.{IfOk-weaker}
use Rattle.cat_keeper.specs.Store.{RowKey}
use Rattle.cat_row_faults.specs.First.{IsFirstFault, IsFirstMissing, IsMissing}
use Rattle.cat_row_faults.specs.Told.{answers, asked}
use Rattle.cat_row_faults.proofs.Firsts.{none_missing, one_missing}
use Rattle.cat_row_faults.proofs.first.fault_of.Goals as goal

pub returns-in-None : goal.returns-in-None
returns-in-None c =
    let texts = c.args.texts.now in
    let rs = c.args.readings.now in
    let told : asked c.in_ok-told.told ≡ answers rs = c.in_ok-told.ensures in
    IfOk-weaker c.wrong_or_none.result _ _
    (λ fault is. subst (IsFirstFault texts c.args.limit rs) (sym is)
    (none_missing texts c.args.limit rs c.in_ok-wrong.wrong c.in_order.ensures c.requires c.in_ok-wrong.ensures (subst (λ a. (key : RowKey) → IsMissing a key → ⊥) told c.in-None.ensures)))
    c.wrong_or_none.ensures

pub returns : goal.returns
returns c =
    let texts = c.args.texts.now in
    let rs = c.args.readings.now in
    let told : asked c.in_ok-told.told ≡ answers rs = c.in_ok-told.ensures in
    let key = c.in_ok-key-in-Some.key in
    IfOk-weaker c.missing_or.result _ _
    (λ fault is. subst (IsFirstFault texts c.args.limit rs) (sym is)
    (one_missing texts c.args.limit rs (c.in-Some.table, key) c.in_ok-wrong.wrong c.in_order.ensures c.requires c.in_ok-wrong.ensures
    (subst (λ k. IsFirstMissing (answers rs) (c.in-Some.table, k)) (sym c.in_ok-key-in-Some.ensures) (subst (λ a. IsFirstMissing a (c.in-Some.table, c.in-Some.key.now)) told c.in-Some.ensures))))
    c.missing_or.ensures
