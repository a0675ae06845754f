use Rattle.std.proofs.Common.{◌≡◌, ◌++◌, map}
use Rattle.cat_tree.specs.View.{entry_of}
use Rattle.cat_yaml.specs.SeenPair.{seen_pair}
use Rattle.cat_yaml.proofs.block.map_of.Given as goal

-- the entries so far, with those that are left, are all entries
abbrev pub invariant-loop-key : goal.invariant-loop-key
invariant-loop-key l = map entry_of l.entries.items ++ map seen_pair l.key-iterator ≡ map seen_pair l.fn.pairs.entries
