use Rattle.std.proofs.Common.{◌++◌, ap, arith, drop, map, sym, take, ◌∙◌}
use Rattle.std.specs.List.{filter_map}
use Rattle.std.proofs.lemmas.List.{append-nil, drop_all}
use Rattle.cat_pages.specs.Seen.{ranked_seen}
use Rattle.cat_pages.specs.Walked.{unvalued}
use Rattle.cat_pages.proofs.Spans.{looked_on, made_at}
use Rattle.cat_pages.proofs.Walks.{rest_from}
use Rattle.cat_pages.proofs.listed.add_rest.Goals as goal

pub loop-place-init : goal.loop-place-init
loop-place-init c =
    let q = c.args.query.now in
    let docs = c.args.docs.now in
    ap (λ n. take c.args.most (map ranked_seen c.args.found.now.items ++ filter_map (unvalued q) (drop n docs))) c.rest_start-place.ensures
    ∙ ap (λ l. take c.args.most (map ranked_seen c.args.found.now.items ++ l)) (rest_from q docs)

pub loop-place-preserved : goal.loop-place-preserved
loop-place-preserved c = looked_on c.args.most _ _ _ _ _ _ c.in_ok-add_unvalued.ensures (made_at (unvalued c.args.query.now) c.args.docs.now c.loop-place.place) c.loop-place.invariant

pub returns : goal.returns
returns c =
    let found = map ranked_seen c.loop-place.found.items in
    ap (take c.args.most) (sym (append-nil found))
    ∙ ap (λ l. take c.args.most (found ++ filter_map (unvalued c.args.query.now) l)) (sym (drop_all c.loop-place.place c.args.docs.now (omega arith)))
    ∙ c.loop-place.invariant
