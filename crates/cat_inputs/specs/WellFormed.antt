-- What holds of every mutation that a body gives.
use Rattle.std.specs.Prelude.{◌≡◌, ℕ, ◌^◌, ◌<◌, ◌≤◌, List, [], ◌∷◌, Bool, true, ◌&&◌, Ok, not, length, IfSome, IsTrue, bytes_eq}
use Rattle.std.specs.List.{list_any, AllByRecursion}
use Rattle.cat_tree.specs.Ask.{depth_of}
use Rattle.cat_tree.specs.Proper.{IsNarrow}
use Rattle.cat_types.specs.Reference.{described}
use Rattle.cat_collections.specs.Table.{Text}
use Rattle.cat_types.specs.declared.input.Item.{Item}
use Rattle.cat_types.specs.declared.input.Mutation.{Mutation}
use Rattle.cat_types.specs.declared.input.Mutation.TheVariants.{Full, Delta}
use Rattle.cat_inputs.specs.Inputs.{all_refs}

-- the serial number
abbrev pub serial_at : Mutation → ℕ
serial_at (Full serial items) = serial
serial_at (Delta serial added removed) = serial

-- the items that replace those of the provider, or that are added
abbrev pub items_at : Mutation → List Item
items_at (Full serial items) = items
items_at (Delta serial added removed) = added

-- the references whose items go
abbrev pub removed_at : Mutation → List Text
removed_at (Full serial items) = []
removed_at (Delta serial added removed) = removed

-- no text stands twice
abbrev pub are_distinct : List Text → Bool
are_distinct [] = true
are_distinct (t ∷ ts) = not (list_any (bytes_eq t) ts) && are_distinct ts

-- an item stands under the reference of its tree, which is at most 100 levels deep and has numbers of 64 bits; its key
-- has 1 to 2,048 bytes
pub record IsItem (x : Item) : Type 0 where
  pub reference : described x.tree ≡ Ok x.reference
  pub shallow : depth_of x.tree ≤ 100
  pub narrow : IsNarrow x.tree
  pub key : IfSome x.key (λ k. (1 ≤ length k) × (length k ≤ 2048))

-- the serial number is 1 to 2^53 - 1, there are at most 100,000 items, each well-formed, and no reference stands twice
pub record IsWellFormed (m : Mutation) : Type 0 where
  pub serial : (1 ≤ serial_at m) × (serial_at m < 2 ^ 53)
  pub few : length (items_at m) ≤ 100000
  pub items : AllByRecursion IsItem (items_at m)
  pub distinct : IsTrue (are_distinct (all_refs (items_at m) (removed_at m)))
