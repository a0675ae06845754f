use Rattle.std.proofs.Common.{List, sym, subst}
use Rattle.std.specs.List.Sorted.{IsPermutation}
use Rattle.cat_search.specs.Index.{AreLists, Lists, Posting, postings}
use Rattle.cat_search.proofs.Listed.{lists_keep}
use Rattle.cat_search.proofs.index.relisted.Goals as goal

pub returns : goal.returns
returns c =
    let docs = c.args.documents.now in
    let listed = c.args.listed.now in
    let rs = c.args.entries.now in
    lists_keep docs listed rs c.as_slice.result.now c.as_slice-2.result.now c.in_ok-lists.lists c.strike.new.lists c.enter.new.lists
    (subst (λ (ps : List Posting). IsPermutation (postings listed rs) ps) (sym c.as_slice.ensures.value) c.in_ok-former.ensures)
    (subst (λ (ps : List Posting). IsPermutation (postings docs rs) ps) (sym c.as_slice-2.ensures.value) c.in_ok-present.ensures)
    (subst (λ (lists : Lists). AreLists listed lists) (sym c.in_ok-lists.ensures) c.requires) c.in_ok-strike.ensures c.in_ok-enter.ensures
