-- The text of a tree.
use Rattle.std.specs.Prelude.{ℕ, ℤ, pos, negsuc, List}
use Rattle.json.specs.Token.{Token}
use Rattle.json.specs.Tree.{json_tokens}
use Rattle.serde_json.specs.Data as json
use Rattle.serde_json.specs.Written.{outline, compact_text}
use Rattle.cat_tree.specs.Data.{Data, null, flag, whole, words, list, dict, Items, no_items, item, Members, no_members, member}

-- a whole number as a JSON number
abbrev pub number_of : ℤ → json.Num
number_of (pos n) = json.unsigned n
number_of (negsuc n) = json.negative (negsuc n)

-- the JSON value of a tree
abbrev mutual
  pub json_of : Data → json.Data
  json_of null = json.null
  json_of (flag b) = json.boolean b
  json_of (whole z) = json.number (number_of z)
  json_of (words s) = json.string s
  json_of (list ds) = json.array (json_items ds)
  json_of (dict ms) = json.object (json_members ms)

  pub json_items : Items → json.Items
  json_items no_items = json.no_items
  json_items (item d ds) = json.item (json_of d) (json_items ds)

  pub json_members : Members → json.Members
  json_members no_members = json.no_members
  json_members (member k d ms) = json.member k (json_of d) (json_members ms)

-- the text, with no space
abbrev pub text_of : Data → List ℕ
text_of d = compact_text (json_of d)

-- its tokens
abbrev pub tokens_of : Data → List Token
tokens_of d = json_tokens (outline (json_of d))
