-- How a row is looked for without making its key: what is left of the key that is wanted goes down with the walk.
use Rattle.std.specs.Prelude.{ℕ, List, [], ◌∷◌, ◌++◌, Bool, false, ◌||◌, ◌&&◌, Option, Some, None, length, take, drop, codes, if◌then◌else◌}
use Rattle.std.specs.Fmt.{signed_decimal}
use Rattle.cat_tree.specs.Data.{Data, null, flag, whole, words, list, dict, Items, no_items, item, Members, no_members, member}
use Rattle.cat_state_parts.specs.Rows.{same_text, step, is_empty, flag_text, value_fits}

-- the text begins with the front in lower case
abbrev pub begins : List ℕ → List ℕ → Bool
begins front s = same_text front (take (length front) s)

-- what is left of the text after the front
abbrev pub left_of : List ℕ → List ℕ → Option (List ℕ)
left_of front s = if begins front s then Some (drop (length front) s) else None

-- a text in a list is what is left of the key
abbrev pub is_tag : List ℕ → Option (List ℕ) → Data → Bool
is_tag key value null = false
is_tag key value (flag b) = false
is_tag key value (whole z) = false
is_tag key value (words s) = same_text key (46 ∷ s) && value_fits value (codes "true")
is_tag key value (list ds) = false
is_tag key value (dict ms) = false

-- the tree has a row at what is left of the key
abbrev mutual
  pub is_found : Bool → List ℕ → Option (List ℕ) → Data → Bool
  is_found start key value null = false
  is_found start key value (flag b) = is_empty key && value_fits value (flag_text b)
  is_found start key value (whole z) = is_empty key && value_fits value (signed_decimal z)
  is_found start key value (words s) = is_empty key && value_fits value s
  is_found start key value (list ds) = is_found_in_items start key value ds
  is_found start key value (dict ms) = is_found_in_members start key value ms

  pub is_found_in_items : Bool → List ℕ → Option (List ℕ) → Items → Bool
  is_found_in_items start key value no_items = false
  is_found_in_items start key value (item d ds) =
      is_found start key value d || (is_tag key value d || is_found_in_items start key value ds)

  pub is_found_in_members : Bool → List ℕ → Option (List ℕ) → Members → Bool
  is_found_in_members start key value no_members = false
  is_found_in_members start key value (member k d ms) =
      (begins (step start k) key && is_found (start && is_empty k) (drop (length (step start k)) key) value d)
      || is_found_in_members start key value ms

-- ---- the values of all such rows

-- the value, where nothing is left of the key
abbrev pub kept : List ℕ → List ℕ → List (List ℕ)
kept [] v = v ∷ []
kept (b ∷ bs) v = []

-- the value of a text in a list, where it is what is left of the key
abbrev pub tag_values : List ℕ → Data → List (List ℕ)
tag_values key null = []
tag_values key (flag b) = []
tag_values key (whole z) = []
tag_values key (words s) = if same_text key (46 ∷ s) then codes "true" ∷ [] else []
tag_values key (list ds) = []
tag_values key (dict ms) = []

-- the values of the tree at what is left of the key
abbrev mutual
  pub values_found : Bool → List ℕ → Data → List (List ℕ)
  values_found start key null = []
  values_found start key (flag b) = kept key (flag_text b)
  values_found start key (whole z) = kept key (signed_decimal z)
  values_found start key (words s) = kept key s
  values_found start key (list ds) = values_in_items start key ds
  values_found start key (dict ms) = values_in_members start key ms

  pub values_in_items : Bool → List ℕ → Items → List (List ℕ)
  values_in_items start key no_items = []
  values_in_items start key (item d ds) =
      values_found start key d ++ (tag_values key d ++ values_in_items start key ds)

  pub values_in_members : Bool → List ℕ → Members → List (List ℕ)
  values_in_members start key no_members = []
  values_in_members start key (member k d ms) =
      (if begins (step start k) key then values_found (start && is_empty k) (drop (length (step start k)) key) d else [])
      ++ values_in_members start key ms
