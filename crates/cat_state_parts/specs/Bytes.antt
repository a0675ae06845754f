-- How long the texts of items are.
use Rattle.std.specs.Prelude.{◌≡◌, ℕ, ◌<◌, ◌^◌, List, length}
use Rattle.std.specs.declared.option.Option.{Option}
use Rattle.std.specs.declared.option.Option.TheVariants.{None, Some}
use Rattle.std.specs.List.{sum_by}
use Rattle.cat_tree.specs.Text.{text_of}
use Rattle.cat_collections.specs.Table.{Text}
use Rattle.cat_types.specs.declared.input.Offered.{Offered}

-- the length of the compact text of an item's tree
abbrev pub item_bytes : Text × Offered → ℕ
item_bytes e = length (text_of e.1.tree)

-- the length of the compact text of what is offered; none where nothing is
abbrev pub bytes_of : Option Offered → ℕ
bytes_of None = 0
bytes_of (Some x) = length (text_of x.tree)

-- this is the sum of the lengths of the items' texts, and there is room for one more
pub record AreCounted (items : List (Text × Offered)) (bytes : ℕ) : Type 0 where
  pub sum : bytes ≡ sum_by item_bytes items
  pub small : bytes < 2 ^ 62
