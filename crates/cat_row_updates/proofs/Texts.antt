-- The compact text of a tree whose numbers have 64 bits tells the tree.
use Rattle.std.proofs.Common.{◌≡◌, ℕ, ℤ, pos, negsuc, ◌+◌, [], ◌++◌, Some, refl, sym, ap, ◌∙◌, arith}
use Rattle.json.specs.Json as tokens
use Rattle.json.specs.Lex as lex
use Rattle.json.specs.Tree as shape
use Rattle.json.proofs.Printed.Tokens.{tokens-print}
use Rattle.json.proofs.Printed.Trees.{ArePrintable-json_tokens, value-json_tokens}
use Rattle.serde_json.specs.Read as reads
use Rattle.serde_json.specs.Written.{items_outline, members_outline, number_text, outline}
use Rattle.serde_json.proofs.Numbers.{number_of-decimal, number_of-negative}
use Rattle.serde_json.proofs.Texts.{print-outline}
use Rattle.cat_tree.specs.Data.{Data, null, flag, whole, words, list, dict, Items, no_items, item, Members, no_members, member}
use Rattle.cat_tree.specs.Proper.{IsNarrow, ItemsNarrow, MembersNarrow}
use Rattle.cat_tree.specs.Read.{whole_of}
use Rattle.cat_tree.specs.Text.{json_items, json_members, json_of, number_of, text_of}
use Rattle.cat_tree.proofs.Decimals.{IsNumber-signed_wide}
use Rattle.cat_stored_rows.proofs.In.{same_some}

-- ---- tokens

mutual
  have_numbers : (d : Data) → IsNarrow d → shape.HasNumbers (outline (json_of d))
  have_numbers null h = tt
  have_numbers (flag b) h = tt
  have_numbers (whole (pos n)) h = IsNumber-signed_wide (pos n) (omega arith)
  have_numbers (whole (negsuc n)) h = IsNumber-signed_wide (negsuc n) (omega arith)
  have_numbers (words s) h = tt
  have_numbers (list ds) h = items_numbers ds h
  have_numbers (dict ms) h = members_numbers ms h

  items_numbers : (ds : Items) → ItemsNarrow ds → shape.ItemsHaveNumbers (items_outline (json_items ds))
  items_numbers no_items h = tt
  items_numbers (item d ds) h = (have_numbers d h.0, items_numbers ds h.1)

  members_numbers : (ms : Members) → MembersNarrow ms → shape.MembersHaveNumbers (members_outline (json_members ms))
  members_numbers no_members h = tt
  members_numbers (member k d ms) h = (have_numbers d h.0, members_numbers ms h.1)

tokens_back : (d : Data) → IsNarrow d → lex.tokens (text_of d) ≡ shape.json_tokens (outline (json_of d))
tokens_back d h =
    ap lex.tokens (sym (print-outline (json_of d)))
    ∙ tokens-print (shape.json_tokens (outline (json_of d))) (ArePrintable-json_tokens (outline (json_of d)) (have_numbers d h))

one_outline : (j k : tokens.Json) → shape.json_tokens j ≡ shape.json_tokens k → j ≡ k
one_outline j k e =
    let deep : ℕ = shape.depth j + shape.depth k in
    let first = value-json_tokens j deep [] (omega arith) in
    let second = value-json_tokens k deep [] (omega arith) in
    let same = same_some (sym first ∙ (ap (λ ts. tokens.value deep (ts ++ [])) e ∙ second)) in
    λ i. (same i).0

-- ---- trees

number_back : (z : ℤ) → IsNarrow (whole z) → reads.number_of (number_text (number_of z)) ≡ Some (number_of z)
number_back (pos n) h = number_of-decimal n h
number_back (negsuc n) h = number_of-negative n h

whole_back : (z : ℤ) → whole_of (number_of z) ≡ z
whole_back (pos n) = refl
whole_back (negsuc n) = refl

one_number : (y z : ℤ) → IsNarrow (whole y) → IsNarrow (whole z) → number_text (number_of y) ≡ number_text (number_of z) → y ≡ z
one_number y z g h e =
    let read : Some (number_of y) ≡ Some (number_of z) = sym (number_back y g) ∙ (ap reads.number_of e ∙ number_back z h) in
    let same : number_of y ≡ number_of z = cc in
    sym (whole_back y) ∙ (ap whole_of same ∙ whole_back z)

mutual
  one_tree : (d e : Data) → IsNarrow d → IsNarrow e → outline (json_of d) ≡ outline (json_of e) → d ≡ e
  one_tree null null g h q = refl
  one_tree null e g h q = absurd (cc)
  one_tree (flag b) (flag c) g h q = let same : b ≡ c = cc in ap flag same
  one_tree (flag b) e g h q = absurd (cc)
  one_tree (whole y) (whole z) g h q = let same : number_text (number_of y) ≡ number_text (number_of z) = cc in ap whole (one_number y z g h same)
  one_tree (whole y) e g h q = absurd (cc)
  one_tree (words s) (words t) g h q = let same : s ≡ t = cc in ap words same
  one_tree (words s) e g h q = absurd (cc)
  one_tree (list ds) (list es) g h q = let same : items_outline (json_items ds) ≡ items_outline (json_items es) = cc in ap list (one_items ds es g h same)
  one_tree (list ds) e g h q = absurd (cc)
  one_tree (dict ms) (dict ns) g h q = let same : members_outline (json_members ms) ≡ members_outline (json_members ns) = cc in ap dict (one_members ms ns g h same)
  one_tree (dict ms) e g h q = absurd (cc)

  one_items : (ds es : Items) → ItemsNarrow ds → ItemsNarrow es → items_outline (json_items ds) ≡ items_outline (json_items es) → ds ≡ es
  one_items no_items no_items g h q = refl
  one_items no_items (item e es) g h q = absurd (cc)
  one_items (item d ds) no_items g h q = absurd (cc)
  one_items (item d ds) (item e es) g h q =
      let first : outline (json_of d) ≡ outline (json_of e) = cc in
      let rest : items_outline (json_items ds) ≡ items_outline (json_items es) = cc in
      let one : d ≡ e = one_tree d e g.0 h.0 first in
      let more : ds ≡ es = one_items ds es g.1 h.1 rest in
      λ i. item (one i) (more i)

  one_members : (ms ns : Members) → MembersNarrow ms → MembersNarrow ns → members_outline (json_members ms) ≡ members_outline (json_members ns) → ms ≡ ns
  one_members no_members no_members g h q = refl
  one_members no_members (member l e ns) g h q = absurd (cc)
  one_members (member k d ms) no_members g h q = absurd (cc)
  one_members (member k d ms) (member l e ns) g h q =
      let key : k ≡ l = cc in
      let first : outline (json_of d) ≡ outline (json_of e) = cc in
      let rest : members_outline (json_members ms) ≡ members_outline (json_members ns) = cc in
      let one : d ≡ e = one_tree d e g.0 h.0 first in
      let more : ms ≡ ns = one_members ms ns g.1 h.1 rest in
      λ i. member (key i) (one i) (more i)

-- trees with one text are one
pub one_text : (d e : Data) → IsNarrow d → IsNarrow e → text_of d ≡ text_of e → d ≡ e
one_text d e g h same = one_tree d e g h (one_outline (outline (json_of d)) (outline (json_of e)) (sym (tokens_back d g) ∙ (ap lex.tokens same ∙ tokens_back e h)))
