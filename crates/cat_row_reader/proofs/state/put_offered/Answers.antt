use Rattle.std.proofs.Common.{◌≡◌, ap, sym, ◌∙◌}
use Rattle.cat_collections.specs.Table.{put, text_cmp}
use Rattle.cat_row_reader.specs.Standing.{with_item}
use Rattle.cat_row_reader.proofs.Putting.{put_well}
use Rattle.cat_row_reader.proofs.state.put_offered.Goals as goal

pub returns : goal.returns
returns c =
    let items = c.args.items.now in
    let own : c.put.new.self ≡ put text_cmp c.args.reference.now c.in-Some.offered c.in_ok-own.own =
    c.in_ok-put.ensures ∙ ap (λ k. put text_cmp k c.in-Some.offered c.in_ok-own.own) c.in_ok-duplicate.ensures in
    put_well c.put-2.result c.put-2.new.self (put text_cmp c.in_ok-duplicate-2.field-0 c.put.new.self items) items
    (with_item c.args.provider.now c.args.reference.now c.args.offered items) c.put-2.ensures
    ((λ i. put text_cmp (c.in_ok-duplicate-2.ensures i) ((own ∙ ap (put text_cmp c.args.reference.now c.in-Some.offered) c.in_ok-own.ensures) i) items)
    ∙ ap (λ v. with_item c.args.provider.now c.args.reference.now v items) (sym c.in-Some.is))
