use Rattle.std.proofs.Common.{◌≡◌, ◌++◌, map, drop}
use Rattle.cat_process.specs.Offers.{offer}
use Rattle.cat_process.proofs.offers.push_offers.Given as goal

-- the offers so far, with those of the descriptors that are left, are those of all descriptors
abbrev pub invariant-loop-descriptor : goal.invariant-loop-descriptor
invariant-loop-descriptor l =
    l.offers.items ++ map (offer l.origin l.name) (drop l.descriptor-index l.listed)
    ≡ l.initial.offers.items ++ map (offer l.origin l.name) l.listed
