use Rattle.std.proofs.Common.{List, subst}
use Rattle.std.specs.List.Sorted.{IsPermutation}
use Rattle.cat_search.specs.Index.{Posting}
use Rattle.cat_search.proofs.postings.postings.Goals as goal

pub returns : goal.returns
returns c = subst (λ (found : List Posting). IsPermutation found c.sort_by.new.self.items) c.in_ok-found.ensures c.sort_by.ensures.permutation
