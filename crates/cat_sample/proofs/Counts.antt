-- Counts of relations, which stand still at the greatest number of 64 bits.
use Rattle.std.proofs.Common.{◌≡◌, ℕ, ◌+◌, ◌<◌, ◌^◌, [], ◌∷◌, ap, ◌∙◌, arith}
use Rattle.cat_tree.specs.Data.{Data}
use Rattle.cat_collections.specs.Table.{Map}
use Rattle.cat_sample.specs.Summary.{capped, item_count, relation_count, relations_of}

capped_begun : (n : ℕ) → capped (0 + capped n) ≡ capped n
capped_begun n = omega arith

-- before the first document nothing was counted
pub counts_begun : (documents : Map Data) → capped (0 + relation_count documents) ≡ relation_count documents
counts_begun [] = omega arith
counts_begun (e ∷ es) = capped_begun (item_count (relations_of e.1) + relation_count es)

-- where no document is left all were counted
pub counts_ended : (n : ℕ) (documents : Map Data) → documents ≡ [] → n < 2 ^ 64 → capped (n + relation_count documents) ≡ n
counts_ended n documents e h = ap (λ ds. capped (n + relation_count ds)) e ∙ omega (arith, h)
