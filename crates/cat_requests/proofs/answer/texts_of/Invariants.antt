use Rattle.std.proofs.Common.{◌≡◌, ◌++◌, map, drop}
use Rattle.cat_requests.proofs.answer.texts_of.Given as goal

-- the texts so far and those that are left are all
abbrev pub invariant-loop-name : goal.invariant-loop-name
invariant-loop-name l = l.texts.items ++ map (λ t. t.now) (drop l.name-index l.names) ≡ map (λ t. t.now) l.names
