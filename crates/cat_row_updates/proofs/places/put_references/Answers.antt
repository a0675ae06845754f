use Rattle.std.proofs.Common.{◌≡◌, ◌∷◌, ◌+◌, List, drop, ap, sym, ◌∙◌}
use Rattle.std.specs.List.{flat_map}
use Rattle.std.proofs.lemmas.List.{drop_more}
use Rattle.cat_collections.specs.Table.{Text}
use Rattle.cat_row_updates.specs.Places.{put_places, reference_places}
use Rattle.cat_row_updates.proofs.Putting.{places_parts}
use Rattle.cat_row_updates.proofs.places.put_references.Goals as goal

pub loop-reference-preserved : goal.loop-reference-preserved
loop-reference-preserved c =
    let l = c.loop-reference in
    let refs = c.args.references.now in
    let m = c.args.before.now in
    let n = c.args.after.now in
    let reference = c.reference-item.result in
    let rest : List Text = drop (l.reference-index + 1) refs in
    let left : drop l.reference-index refs ≡ reference ∷ rest = drop_more refs l.reference-index reference c.loop-reference-test.true ∙ ap (λ r. r ∷ rest) (sym c.reference-item.is) in
    ap (put_places (flat_map (reference_places m n) rest)) c.in_ok-put_reference.ensures
    ∙ (sym (places_parts (reference_places m n reference) (flat_map (reference_places m n) rest) l.made)
    ∙ (ap (λ rs. put_places (flat_map (reference_places m n) rs) l.made) (sym left) ∙ l.invariant))
