-- What a tree is: a JSON value whose numbers are whole.
use Rattle.std.specs.Prelude.{◌≡◌, ℕ, zero, suc, ℤ, pos, negsuc, List, [], ◌∷◌, Bool, true, false, map, refl}
use Rattle.std.specs.Coded.{Coded}
use Rattle.std.specs.Ordering.{nat_cmp}
use Rattle.std.specs.Cmp.Lexicographic.{slice_cmp}
use Rattle.std.specs.List.Sorted.{IsStrictlySortedBy}
use base.Stored.{Gv, gnil, gnum, gcons}
use mathlib.Core.Path.{ap, sym, ◌∙◌}

mutual
  pub data Data : Type 0 where
    null : Data
    flag : Bool → Data
    whole : ℤ → Data
    words : List ℕ → Data
    list : Items → Data
    dict : Members → Data

  pub data Items : Type 0 where
    no_items : Items
    item : Data → Items → Items

  pub data Members : Type 0 where
    no_members : Members
    member : List ℕ → Data → Members → Members

-- ---- lists of trees, and of keys with trees

-- the members of a list of trees
abbrev pub items_of : List Data → Items
items_of [] = no_items
items_of (d ∷ ds) = item d (items_of ds)

-- the members of a map of keys with trees
abbrev pub members_of : List (List ℕ × Data) → Members
members_of [] = no_members
members_of (m ∷ ms) = member m.0 m.1 (members_of ms)

-- ---- how the logic stores a tree

-- a text is stored as the list of its bytes
abbrev bytes_code : List ℕ → Gv
bytes_code [] = gnil
bytes_code (b ∷ bs) = gcons (gnum b) (bytes_code bs)

-- a whole number is stored with its sign in front
abbrev number_code : ℤ → Gv
number_code (pos n) = gcons (gnum 1) (gnum n)
number_code (negsuc n) = gcons (gnum 2) (gnum n)

-- each kind of tree is stored under a number of its own
abbrev mutual
  pub code_of : Data → Gv
  code_of null = gnil
  code_of (flag true) = gnum 1
  code_of (flag false) = gnum 0
  code_of (whole (pos n)) = gcons (gnum 0) (gnum n)
  code_of (whole (negsuc n)) = gcons (gnum 1) (gnum n)
  code_of (words s) = gcons (gnum 2) (bytes_code s)
  code_of (list ds) = gcons (gnum 3) (items_code ds)
  code_of (dict ms) = gcons (gnum 4) (members_code ms)

  pub items_code : Items → Gv
  items_code no_items = gnil
  items_code (item d ds) = gcons (code_of d) (items_code ds)

  pub members_code : Members → Gv
  members_code no_members = gnil
  members_code (member k d ms) = gcons (gcons (bytes_code k) (code_of d)) (members_code ms)

-- what a code stands for, as each of the things that it may be the code of
pub record Read : Type 0 where
  pub number : ℕ
  pub bytes : List ℕ
  pub tree : Data
  pub items : Items
  pub entry : List ℕ × Data
  pub members : Members

-- a flag by its number
abbrev flag_at : ℕ → Data
flag_at zero = flag false
flag_at (suc n) = flag true

-- a tree by the number of its kind
abbrev tree_at : ℕ → Read → Data
tree_at zero r = whole (pos r.number)
tree_at (suc zero) r = whole (negsuc r.number)
tree_at (suc (suc zero)) r = words r.bytes
tree_at (suc (suc (suc zero))) r = list r.items
tree_at (suc (suc (suc (suc n)))) r = dict r.members

-- what a code stands for, part by part
abbrev pub read_code : Gv → Read
read_code gnil = record { number = 0; bytes = []; tree = null; items = no_items; entry = ([], null); members = no_members }
read_code (gnum n) = record { number = n; bytes = []; tree = flag_at n; items = no_items; entry = ([], null); members = no_members }
read_code (gcons a b) =
    let x : Read = read_code a in
    let y : Read = read_code b in
    record {
      number = 0;
      bytes = x.number ∷ y.bytes;
      tree = tree_at x.number y;
      items = item x.tree y.items;
      entry = (x.bytes, y.tree);
      members = member x.entry.0 x.entry.1 y.members;
    }

-- what was stored is read back
pub bytes_back : (s : List ℕ) → (read_code (bytes_code s)).bytes ≡ s
bytes_back [] = refl
bytes_back (b ∷ bs) = ap (λ r. b ∷ r) (bytes_back bs)

mutual
  pub tree_back : (d : Data) → (read_code (code_of d)).tree ≡ d
  tree_back null = refl
  tree_back (flag true) = refl
  tree_back (flag false) = refl
  tree_back (whole (pos n)) = refl
  tree_back (whole (negsuc n)) = refl
  tree_back (words s) = ap words (bytes_back s)
  tree_back (list ds) = ap list (items_back ds)
  tree_back (dict ms) = ap dict (members_back ms)

  pub items_back : (ds : Items) → (read_code (items_code ds)).items ≡ ds
  items_back no_items = refl
  items_back (item d ds) = λ i. item (tree_back d i) (items_back ds i)

  pub members_back : (ms : Members) → (read_code (members_code ms)).members ≡ ms
  members_back no_members = refl
  members_back (member k d ms) = λ i. member (bytes_back k i) (tree_back d i) (members_back ms i)

-- trees can be told apart by their codes
abbrev pub data_code : Coded Data
data_code = record {
  code = code_of;
  inj = λ x y p. sym (tree_back x) ∙ (ap (λ g. (read_code g).tree) p ∙ tree_back y);
}

-- ---- order of the keys

-- the keys of entries
abbrev pub keys_of : List (List ℕ × Data) → List (List ℕ)
keys_of ms = map (λ m. m.0) ms

-- each key once, in byte order
abbrev pub IsRising : List (List ℕ × Data) → Type 0
IsRising ms = IsStrictlySortedBy (slice_cmp nat_cmp) (keys_of ms)
