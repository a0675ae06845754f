use Rattle.std.proofs.Common.{◌≡◌, cond, false, rules, sym, ap, ◌∙◌}
use Rattle.cat_collections.specs.Rows.{without}
use Rattle.cat_collections.specs.Table.{put, text_cmp}
use Rattle.cat_links.specs.Links.{is_empty}
use Rattle.cat_links.specs.Counts.{Counts, SourceCounts}
use Rattle.cat_links.proofs.counts.put_counts.Goals as goal

pub returns : goal.returns
returns c =
    let own : SourceCounts = c.args.own in
    let counts : Counts = c.args.counts.now in
    let s = c.args.source.now in
    let some : is_empty own ≡ false = search rules in
    c.in_ok-put.ensures ∙ (ap (λ k. put text_cmp k own counts) c.in_ok-source.ensures ∙ sym (ap (λ b. cond b (without text_cmp s counts) (put text_cmp s own counts)) some))
