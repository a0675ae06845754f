use Rattle.std.proofs.Common.{T, ◌≡◌, ◌<◌, ◌++◌, Bool, true, false, [], ◌∷◌, append-nil, length, ap, sym, refl, ◌∙◌}
use Rattle.std.proofs.lemmas.Result.{IfOk-weaker}
use Rattle.std.specs.FinMap.Entries.{is_sorted}
use Rattle.cat_collections.specs.Table.{tabulate}
use Rattle.cat_collections.proofs.Tables.{is_sorted-tabulate}
use Rattle.std.proofs.lemmas.List.{take_all}
use Rattle.std.specs.List.{filter_map}
use Rattle.std.specs.declared.option.Option.TheVariants.{None, Some}
use Rattle.cat_plan.proofs.Rising.{entries_more, entry, tabulate_rising}
use Rattle.cat_plan.proofs.build.in_turn.Goals as goal
use Rattle.cat_plan.proofs.build.in_turn.Goals.{in-Some+in_ok-duplicate+in_ok-push, in_default}

holds : (b : Bool) → T b → b ≡ true
holds true h = refl
holds false h = absurd h

pub loop-key-preserved : goal.loop-key-preserved
loop-key-preserved g c =
    let f = g.F.Gives.gives c.args.f.now in
    let keys = c.args.keys.now in
    let i = c.loop-key.key-index in
    let k = c.key-item.result in
    let within : i < length keys = c.loop-key-test.true in
    let given : c.in_ok-value.field-0 ≡ f k = c.in_ok-value.ensures in
    elim c.match-branch-2.branch [
      | in-Some+in_ok-duplicate+in_ok-push w ↦
          ap (λ m. m.items) w.made-is
          ∙ (w.in_ok-push.ensures.items
          ∙ ((λ j. c.loop-key.invariant j ++ (w.in_ok-duplicate.ensures j, w.in-Some.value) ∷ [])
          ∙ entries_more f keys i k (Some w.in-Some.value) within c.key-item.is (sym w.in-Some.is ∙ given)))
      | in_default w ↦
          ap (λ m. m.items) w.made-is
          ∙ (c.loop-key.invariant
          ∙ (sym (append-nil _)
          ∙ entries_more f keys i k None within c.key-item.is (sym w.in_default.is ∙ given)))
    ]

pub from_vec-requires-clause-rising : goal.from_vec-requires-clause-rising
from_vec-requires-clause-rising g c =
    let f = g.F.Gives.gives c.args.f.now in
    let keys = c.args.keys.now in
    let made : c.loop-key.made.items ≡ tabulate g.K.Key.order keys f =
    c.loop-key.invariant
    ∙ (ap (filter_map (entry f)) (take_all c.loop-key.key-index keys c.loop-key-test.false)
    ∙ sym (tabulate_rising g.K.Key.order f keys c.requires)) in
    ap (is_sorted g.K.Key.order) made ∙ holds _ (is_sorted-tabulate g.met.K.Key.total g.met.K.Key.apart keys f)

pub returns : goal.returns
returns g c =
    let f = g.F.Gives.gives c.args.f.now in
    let keys = c.args.keys.now in
    IfOk-weaker c.from_vec.result _ _
    (λ m e. e
    ∙ (c.loop-key.invariant
    ∙ (ap (filter_map (entry f)) (take_all c.loop-key.key-index keys c.loop-key-test.false)
    ∙ sym (tabulate_rising g.K.Key.order f keys c.requires))))
    c.from_vec.ensures
