use Rattle.std.proofs.Common.{◌≡◌, ℕ, ◌<◌, ◌-◌, suc, arith, ap, sym, map, length, ◌∙◌}
use Rattle.std.proofs.Math.ListN.{get_or-map}
use Rattle.std.proofs.lemmas.List.{length-map}
use Rattle.std.specs.Borrow.{Bor}
use Rattle.cat_collections.specs.Table.{put_some}
use Rattle.cat_model.specs.Catalogue.{row_at}
use Rattle.cat_model.specs.Reply.{RowPlace, place_cmp, waits}
use Rattle.cat_model.specs.declared.types.Row.{Row}
use Rattle.cat_replies.specs.Shown as seen
use Rattle.cat_replies.proofs.Waiting.{key_of, table_step}
use Rattle.cat_replies.proofs.conflicts.waiting.Goals as goal

pub loop-place-preserved : goal.loop-place-preserved
loop-place-preserved c =
    let l = c.loop-place in
    let m = c.args.state.now in
    let entries = c.as_slice-rows.result.now in
    let now = λ (b : Bor (ℕ × Row)). b.now in
    let lent = c.index-rows-place.result in
    let e = lent.now in
    let f = λ (k : RowPlace). waits m k.1 (row_at m.rows k.1) in
    let up : l.place ≡ suc (l.place - 1) = omega arith in
    let within : l.place - 1 < length (map now entries) = omega (arith, length-map entries now) in (
      omega arith,
      c.in_ok-put_waiting.ensures
          ∙ (ap (λ o. put_some place_cmp (key_of e) o (map seen.waiting l.found)) c.waits-row.ensures
          ∙ (ap (put_some place_cmp (key_of e) (f (key_of e))) l.invariant.1
          ∙ table_step f (map now entries) (l.place - 1) l.place e up within (ap now c.index-rows-place.is ∙ sym (get_or-map now entries (l.place - 1) lent)))),
    )
