-- How much input is stored.
use Rattle.std.specs.Prelude.{ℕ, ◌+◌, ◌^◌, length, min}
use Rattle.std.specs.List.{sum_by}
use Rattle.cat_collections.specs.Table.{Text, Map}
use Rattle.cat_state_parts.specs.Bytes.{item_bytes}
use Rattle.cat_model.specs.declared.types.ProviderInputs.{ProviderInputs}

-- the lengths of the compact texts of a provider's items
abbrev pub provider_bytes : Text × ProviderInputs → ℕ
provider_bytes e = sum_by item_bytes e.1.items

-- the lengths of a shelf name and its text
abbrev pub entry_bytes : Text × Text → ℕ
entry_bytes e = length e.0 + length e.1

-- the stored input bytes: the compact texts of all provider items, and all names and texts of the shelf; at most 2 ^ 62
abbrev pub stored_bytes : Map ProviderInputs → Map Text → ℕ
stored_bytes providers shelf = min (sum_by provider_bytes providers + sum_by entry_bytes shelf) (2 ^ 62)
