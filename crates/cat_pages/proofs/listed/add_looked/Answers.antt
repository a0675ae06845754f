use Rattle.std.proofs.Common.{◌++◌, ap, arith, map, sym, take, ◌∙◌}
use Rattle.std.proofs.lemmas.List.{append-nil, drop_all}
use Rattle.cat_pages.specs.Seen.{ranked_seen}
use Rattle.cat_pages.specs.Walked.{at_reference, chosen, looked}
use Rattle.cat_pages.proofs.Spans.{looked_on, made_at}
use Rattle.cat_pages.proofs.listed.add_looked.Goals as goal

pub loop-place-preserved : goal.loop-place-preserved
loop-place-preserved c =
    looked_on c.args.most _ _ _ _ _ _ c.in_ok-add_listed.ensures
    (made_at (λ e. at_reference c.args.docs.now (chosen c.args.query.now c.args.behind.now) e.0) c.args.set.now c.loop-place.place)
    c.loop-place.invariant

pub returns : goal.returns
returns c =
    let found = map ranked_seen c.loop-place.found.items in
    ap (take c.args.most) (sym (append-nil found))
    ∙ ap (λ s. take c.args.most (found ++ looked c.args.query.now c.args.docs.now c.args.behind.now s)) (sym (drop_all c.loop-place.place c.args.set.now (omega arith)))
    ∙ c.loop-place.invariant
