use Rattle.std.proofs.Common.{ap, sym, map, ◌∙◌}
use Rattle.std.specs.Prelude.{option_map}
use Rattle.std.proofs.lemmas.Result.{on_ok_weaker}
use Rattle.cat_collections.specs.Table.{put_some}
use Rattle.cat_model.specs.Reply.{place_cmp}
use Rattle.cat_replies.specs.Shown as seen
use Rattle.cat_replies.proofs.Waiting.{waiting-put, on_ok_if}
use Rattle.cat_replies.proofs.conflicts.put_waiting.Goals as goal

pub returns-in_ok-reference-in-Some : goal.returns-in_ok-reference-in-Some
returns-in_ok-reference-in-Some c =
    let found = c.args.found.now in
    let copied = c.in_ok-reference-in-Some.ensures in
    on_ok_weaker c.put.result (λ e.
    ap (map seen.waiting) e ∙ (waiting-put _ c.in-Some.row found
    ∙ (λ i. put_some place_cmp (copied i, c.args.arrival) (option_map (λ x. x.now) (sym c.in-Some.is i)) (map seen.waiting found))))
    (on_ok_if c.put.result _ _ _ c.put.ensures)
