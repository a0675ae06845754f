use Rattle.std.proofs.Common.{◌++◌, ap, arith, drop, ◌+◌, ◌∙◌}
use Rattle.cat_search.specs.Index.{postings}
use Rattle.cat_search.proofs.Listed.{postings_next}
use Rattle.cat_search.proofs.postings.gathered.Goals as goal

pub loop-entry-preserved : goal.loop-entry-preserved
loop-entry-preserved c =
    ap (λ found. found ++ postings c.args.documents.now (drop (c.loop-entry.entry-index + 1) c.args.entries.now)) c.in_ok-add_postings.ensures
    ∙ postings_next c.args.documents.now c.loop-entry.found.items c.args.entries.now c.loop-entry.entry-index c.entry-item.result (omega (arith, c.loop-entry-test.true)) c.entry-item.is
    ∙ c.loop-entry.invariant
