-- What paths keep of a document.
use Rattle.std.specs.Prelude.{ℕ, List, [], ◌∷◌, length, Bool, ◌==◌, Option, Some, None, bytes_eq, if◌then◌else◌}
use Rattle.std.specs.List.{list_any}
use Rattle.std.specs.Option.{unwrap_or}
use Rattle.cat_tree.specs.Data.{Data, null, flag, whole, words, list, dict, Members, no_members, member}

-- keys, each below the one before
abbrev pub Path : Type 0
Path = List (List ℕ)

-- the path has no keys
abbrev pub is_end : Path → Bool
is_end ks = length ks == 0

-- a path ends here
abbrev pub has_end : List Path → Bool
has_end ps = list_any is_end ps

-- the rests of the paths that begin with the key
abbrev pub below : List ℕ → List Path → List Path
below k [] = []
below k ([] ∷ ps) = below k ps
below k ((l ∷ ls) ∷ ps) = if bytes_eq l k then ls ∷ below k ps else below k ps

-- the member is kept where something of it is reached
abbrev pub kept_under : List ℕ → Option Data → Members → Members
kept_under k None ms = ms
kept_under k (Some d) ms = member k d ms

-- the member as an entry, where something of it is reached
abbrev pub entry_kept : List ℕ → Option Data → List (List ℕ × Data)
entry_kept k None = []
entry_kept k (Some d) = (k, d) ∷ []

-- a map of which nothing is reached isn't reached
abbrev pub filled : Members → Option Data
filled no_members = None
filled (member k d ms) = Some (dict (member k d ms))

-- what the paths reach through maps: all where one ends, else what they reach of the members
abbrev mutual
  pub reached : List Path → Data → Option Data
  reached ps null = if has_end ps then Some null else None
  reached ps (flag b) = if has_end ps then Some (flag b) else None
  reached ps (whole z) = if has_end ps then Some (whole z) else None
  reached ps (words s) = if has_end ps then Some (words s) else None
  reached ps (list ds) = if has_end ps then Some (list ds) else None
  reached ps (dict ms) = if has_end ps then Some (dict ms) else filled (reached_members ps ms)

  pub reached_members : List Path → Members → Members
  reached_members ps no_members = no_members
  reached_members ps (member k d ms) = kept_under k (reached (below k ps) d) (reached_members ps ms)

-- what the fields keep of a document, and the whole document where there are none
abbrev pub projected : List Path → Data → Data
projected [] d = d
projected (p ∷ ps) d = unwrap_or (reached (p ∷ ps) d) (dict no_members)
