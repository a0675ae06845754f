use Rattle.std.proofs.Common.{◌≡◌, ◌++◌, drop}
use Rattle.std.specs.List.{flat_map}
use Rattle.cat_tree.specs.View.{data_of}
use Rattle.cat_process.specs.Offers.{content_offers}
use Rattle.cat_process.specs.Process.{content_issue}
use Rattle.cat_process.proofs.result.read_contents.Given as goal

-- what was found so far, with what the contents that are left give, is what all contents give
abbrev pub invariant-loop-content : goal.invariant-loop-content
invariant-loop-content l = record {
  issues :
      l.found.issues.items ++ flat_map (content_issue l.optional) (drop l.content-index l.contents)
      ≡ flat_map (content_issue l.optional) l.contents;
  offers :
      l.found.offers.items ++ flat_map (content_offers (data_of l.parent)) (drop l.content-index l.contents)
      ≡ flat_map (content_offers (data_of l.parent)) l.contents;
}
