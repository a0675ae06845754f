use Rattle.std.proofs.Common.{◌≡◌, ◌++◌, length, map}
use Rattle.form_urlencoded.specs.Parse.{raw_pairs_left}
use Rattle.cat_query.specs.Query.{shown, parameters_of}
use Rattle.cat_requests.proofs.parameters.parameters.Given as goal

-- the parameters so far and those that are left are all
abbrev pub invariant-loop-name : goal.invariant-loop-name
invariant-loop-name l = l.parameters.items ++ map (λ p. (shown p.0, shown p.1)) (raw_pairs_left l.pairs) ≡ parameters_of l.fn.text

abbrev pub decreases-loop-name : goal.decreases-loop-name
decreases-loop-name l = length (raw_pairs_left l.pairs)
