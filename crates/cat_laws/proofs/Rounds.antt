-- Rounds, stitches and settles none of whose events is refused or cut.
use Rattle.std.specs.Prelude.{ℕ, zero, suc, cond, List, [], ◌∷◌}
use Rattle.std.specs.declared.option.Option.{Option}
use Rattle.std.specs.declared.option.Option.TheVariants.{None, Some}
use Rattle.cat_collections.specs.Table.{get}
use Rattle.cat_model.specs.declared.types.State.{State}
use Rattle.cat_model.specs.declared.types.Settings.{Settings}
use Rattle.cat_model.specs.declared.types.Order.{Order}
use Rattle.cat_model.specs.declared.types.StitchOrder.{StitchOrder}
use Rattle.cat_model.specs.Catalogue.{Ref, Rules, parts}
use Rattle.cat_model.specs.Step.{change}
use Rattle.cat_model.specs.Step.Event.{TakeAt, Finish, PutStitch}
use Rattle.cat_model.specs.Settle.{is_due, order, due_refs, stitch_order, by_ticket}

abbrev pub finish_order : Rules → Settings → ℕ → Option Order → State → State
finish_order rules s now None m = m
finish_order rules s now (Some x) m = change rules s (Finish x now) m

abbrev pub take_and_finish : Rules → Settings → ℕ → Ref → State → State
take_and_finish rules s now r m =
    let taken = change rules s (TakeAt r now) m in
    finish_order rules s now (order rules taken r) taken

-- a record that is due is taken, whatever lease it has, and finished
abbrev pub turn : Rules → Settings → ℕ → Ref → State → State
turn rules s now r m = cond (is_due now (get m.records r)) (take_and_finish rules s now r m) m

-- turns of these references, one after the other
abbrev pub turns : Rules → Settings → ℕ → List Ref → State → State
turns rules s now [] m = m
turns rules s now (r ∷ rs) m = turns rules s now rs (turn rules s now r m)

-- a round is a turn of each record that is due at its start
abbrev pub round : Rules → Settings → ℕ → State → State
round rules s now m = turns rules s now (due_refs now m) m

-- at most n rounds
abbrev pub rounds : Rules → Settings → ℕ → ℕ → State → State
rounds rules s now zero m = m
rounds rules s now (suc n) m = rounds rules s now n (round rules s now m)

abbrev pub stitch_with : Rules → Settings → Option StitchOrder → State → State
stitch_with rules s None m = m
stitch_with rules s (Some x) m = change rules s (PutStitch x) m

abbrev pub stitch : Rules → Settings → State → Ref → State
stitch rules s m r = stitch_with rules s (stitch_order rules m r (get m.marks r) (parts rules m r)) m

abbrev pub stitches : Rules → Settings → List Ref → State → State
stitches rules s [] m = m
stitches rules s (r ∷ rs) m = stitches rules s rs (stitch rules s m r)

-- n rounds, and then the stitches
abbrev pub settle : Rules → Settings → ℕ → ℕ → State → State
settle rules s now n m =
    let settled = rounds rules s now n m in
    stitches rules s (by_ticket settled.marks) settled
