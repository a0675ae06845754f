-- Which rows have a spelling.
use Rattle.std.specs.Prelude.{◌≡◌, ℕ, ◌^◌, ◌≤◌, List, [], ◌∷◌, Bool, true, false, ◌&&◌, not, nat_lt, is_some, Option, None, Some, IsTrue}
use Rattle.std.specs.List.{list_all}
use Rattle.cat_types.specs.Names.{is_name, is_shelf_name}
use Rattle.cat_tree.specs.Ask.{depth_of}
use Rattle.cat_tree.specs.Proper.{IsNarrow}
use Rattle.cat_row_format.specs.Text.{row_data}
use Rattle.cat_row_format.specs.declared.row.StoredOffer.{StoredOffer}
use Rattle.cat_row_format.specs.declared.row.StoredOutput.{StoredOutput}
use Rattle.cat_row_format.specs.declared.row.StoredRow.{StoredRow}
use Rattle.cat_row_format.specs.declared.row.StoredRow.TheVariants.{Counter, Provider, Item, Shelf, Record, Orphan, Settings, Tree, ItemOne, RecordOne}

-- the tree stands beside the offer
abbrev pub has_tree : StoredOffer → Bool
has_tree offer = is_some offer.tree

-- the tree stands in a row of its own
abbrev pub lacks_tree : StoredOffer → Bool
lacks_tree offer = not (is_some offer.tree)

-- no offer has a tree beside it
abbrev pub are_bare : Option StoredOutput → Bool
are_bare None = true
are_bare (Some output) = list_all lacks_tree output.offers

-- there is an offer
abbrev pub is_any : List StoredOffer → Bool
is_any [] = false
is_any (offer ∷ offers) = true

-- Names have their forms; offers have their trees beside them in a row of the first version that has offers, and in no other;
-- and the number of a tree has sixteen digits.
abbrev pub is_formed : StoredRow → Bool
is_formed (Counter counter next) = true
is_formed (Provider name serial) = is_name name
is_formed (Item provider reference arrival key) = is_name provider
is_formed (Shelf name body) = is_shelf_name name
is_formed (Record reference holder issues n output) = are_bare output
is_formed (Orphan reference entity n) = true
is_formed (Settings rule) = true
is_formed (Tree arrival tree) = nat_lt arrival (2 ^ 64)
is_formed (ItemOne provider reference arrival key tree) = is_name provider
is_formed (RecordOne reference holder issues n output) = is_any output.offers && list_all has_tree output.offers

-- a row can be stored: it is well-formed, its numbers have 64 bits, and its value is at most 127 levels deep
pub record IsStorable (row : StoredRow) : Type 0 where
  pub formed : IsTrue (is_formed row)
  pub narrow : IsNarrow (row_data row)
  pub depth : depth_of (row_data row) ≤ 127
