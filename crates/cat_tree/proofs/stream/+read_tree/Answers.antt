use Rattle.std.proofs.Common.{◌≡◌, ◌-◌, ◌<◌, [], ◌∷◌, length, map, nat_cmp, Some, None, List, option_map, sym, ap, ap₂, subst, ◌∙◌, arith, rules}
use mir.Val.{to_z, of_z}
use mir.Syntax.{w128}
use Rattle.std.specs.Cmp.Lexicographic.{slice_cmp}
use Rattle.std.specs.FinMap.Entries.{put}
use Rattle.std.proofs.lemmas.List.{map-append}
use Rattle.json.specs.Token.{Token}
use Rattle.json.specs.Json.{parse_map, after_end_array, read_key, items, members, value}
use Rattle.json.specs.Reads.{token_of}
use Rattle.json.proofs.Grammar.{value_is, value-begin_array, value-begin_object, read_key-shorter}
use Rattle.serde_json.specs.Data.{array, object, number}
use Rattle.serde_json.specs.Data as json
use Rattle.serde_json.specs.Read.{of_json, of_items, of_members, converted}
use Rattle.cat_tree.specs.Data.{items_of, members_of}
use Rattle.cat_tree.specs.Proper.{MembersNarrow}
use Rattle.cat_tree.specs.Text.{number_of, json_of, json_items, json_members}
use Rattle.cat_tree.specs.View.{data_of}
use Rattle.cat_tree.proofs.Edits.{MembersNarrow-put, members_of-put}
use Rattle.cat_tree.proofs.Narrow.{items_grown}
use Rattle.cat_tree.proofs.Tokens.{converted-array, converted-object, item_read, item_refused, items_over, member_read, member_refused, key_refused, members_over, items_before, items_before-no_items, one_more_item, json_members-put}
use Rattle.cat_tree.proofs.stream.+read_tree.Goals as goal

pub read_tree-returns-in_err-token-clause-syntax : goal.read_tree-returns-in_err-token-clause-syntax
read_tree-returns-in_err-token-clause-syntax t c refused =
    let empty : c.args.reader.now ≡ [] = grind arith in
    ap (converted of_json) (ap (value c.args.depth) empty ∙ value_is c.args.depth [])

pub read_tree-returns-then-depth-eq0-clause-syntax : goal.read_tree-returns-then-depth-eq0-clause-syntax
unfolding value
read_tree-returns-then-depth-eq0-clause-syntax t c never =
    let first : c.args.reader.now ≡ token_of c.in_ok-token.token ∷ c.next.new.self = grind arith in
    let none : c.args.depth ≡ 0 = omega arith in
    ap (converted of_json) (ap₂ value none (first ∙ ap (λ k. token_of k ∷ c.next.new.self) c.in-BeginArray.is))

pub read_tree-returns-then-depth-eq0-2-clause-syntax : goal.read_tree-returns-then-depth-eq0-2-clause-syntax
unfolding value
read_tree-returns-then-depth-eq0-2-clause-syntax t c never =
    let first : c.args.reader.now ≡ token_of c.in_ok-token.token ∷ c.next.new.self = grind arith in
    let none : c.args.depth ≡ 0 = omega arith in
    ap (converted of_json) (ap₂ value none (first ∙ ap (λ k. token_of k ∷ c.next.new.self) c.in-BeginObject.is))

pub read_tree-returns-in_err-read_items-in-BeginArray-clause-syntax : goal.read_tree-returns-in_err-read_items-in-BeginArray-clause-syntax
read_tree-returns-in_err-read_items-in-BeginArray-clause-syntax t c refused =
    let first : c.args.reader.now ≡ token_of c.in_ok-token.token ∷ c.next.new.self = grind arith in
    let opened = ap (converted of_json) (ap (value c.args.depth) (first ∙ ap (λ k. token_of k ∷ c.next.new.self) c.in-BeginArray.is) ∙ value-begin_array c.args.depth c.next.new.self (omega arith)) ∙ converted-array (items (value (c.args.depth - 1)) (length c.next.new.self) c.next.new.self) in
    opened ∙ ap (parse_map array) (c.read_items.ensures.syntax (grind arith))

pub read_tree-returns-in_err-read_members-in-BeginObject-clause-syntax : goal.read_tree-returns-in_err-read_members-in-BeginObject-clause-syntax
read_tree-returns-in_err-read_members-in-BeginObject-clause-syntax t c refused =
    let first : c.args.reader.now ≡ token_of c.in_ok-token.token ∷ c.next.new.self = grind arith in
    let opened = ap (converted of_json) (ap (value c.args.depth) (first ∙ ap (λ k. token_of k ∷ c.next.new.self) c.in-BeginObject.is) ∙ value-begin_object c.args.depth c.next.new.self (omega arith)) ∙ converted-object (members (value (c.args.depth - 1)) (length c.next.new.self) c.next.new.self) in
    opened ∙ ap (parse_map object) (c.read_members.ensures.syntax (grind arith))

pub read_tree-returns-in_ok-of-in-String-clause-ok : goal.read_tree-returns-in_ok-of-in-String-clause-ok
read_tree-returns-in_ok-of-in-String-clause-ok t c =
    let first : c.args.reader.now ≡ token_of c.in_ok-token.token ∷ c.next.new.self = grind arith in
    let is : c.args.reader.now ≡ Token.string c.in-String.text.now ∷ c.next.new.self = grind (arith, first) in
    ap (converted of_json) (ap (value c.args.depth) is ∙ value_is c.args.depth _) ∙ ap (λ s. Some (json.string s, c.next.new.self)) (sym c.in_ok-of-in-String.ensures)

pub read_tree-returns-in-Bool-clause-ok : goal.read_tree-returns-in-Bool-clause-ok
read_tree-returns-in-Bool-clause-ok t c =
    let first : c.args.reader.now ≡ token_of c.in_ok-token.token ∷ c.next.new.self = grind arith in
    let is : c.args.reader.now ≡ Token.boolean c.in-Bool.b ∷ c.next.new.self = grind (arith, first) in
    ap (converted of_json) (ap (value c.args.depth) is ∙ value_is c.args.depth _)

pub read_tree-returns-in-Null-clause-ok : goal.read_tree-returns-in-Null-clause-ok
read_tree-returns-in-Null-clause-ok t c =
    let first : c.args.reader.now ≡ token_of c.in_ok-token.token ∷ c.next.new.self = grind arith in
    let is : c.args.reader.now ≡ Token.null ∷ c.next.new.self = grind (arith, first) in
    ap (converted of_json) (ap (value c.args.depth) is ∙ value_is c.args.depth _)

pub read_tree-returns-in-Some-clause-ok : goal.read_tree-returns-in-Some-clause-ok
read_tree-returns-in-Some-clause-ok t c =
    let first : c.args.reader.now ≡ token_of c.in_ok-token.token ∷ c.next.new.self = grind arith in
    let back : to_z w128 (of_z w128 c.in-Some.z) ≡ c.in-Some.z = search rules in
    let is : c.args.reader.now ≡ Token.number c.in-Number.text.now ∷ c.next.new.self = grind (arith, first) in
    ap (converted of_json) (ap (value c.args.depth) is ∙ value_is c.args.depth _) ∙ ap (λ o. option_map {U = json.Data × List Token} (λ b. (b, c.next.new.self)) (option_map number o)) c.in-Some.ensures.value
    ∙ ap (λ z. Some (number (number_of z), c.next.new.self)) (sym back)

pub read_tree-returns-in-EndObject-clause-syntax : goal.read_tree-returns-in-EndObject-clause-syntax
read_tree-returns-in-EndObject-clause-syntax t c refused =
    let first : c.args.reader.now ≡ token_of c.in_ok-token.token ∷ c.next.new.self = grind arith in
    let none : value c.args.depth c.args.reader.now ≡ None = rw (value_is c.args.depth c.args.reader.now, first) (grind arith) in
    ap (converted of_json) none

pub read_tree-returns-in_ok-read_items-in-BeginArray-clause-ok : goal.read_tree-returns-in_ok-read_items-in-BeginArray-clause-ok
read_tree-returns-in_ok-read_items-in-BeginArray-clause-ok t c =
    let first : c.args.reader.now ≡ token_of c.in_ok-token.token ∷ c.next.new.self = grind arith in
    let opened = ap (converted of_json) (ap (value c.args.depth) (first ∙ ap (λ k. token_of k ∷ c.next.new.self) c.in-BeginArray.is) ∙ value-begin_array c.args.depth c.next.new.self (omega arith)) ∙ converted-array (items (value (c.args.depth - 1)) (length c.next.new.self) c.next.new.self) in
    let found = c.in_ok-read_items-in-BeginArray in
    opened ∙ ap (parse_map array) found.ensures.ok ∙ ap (λ d. Some (d, c.read_items.new.reader)) (ap (λ ds. json.array (json_items (items_of ds))) (sym c.from_vec.ensures))

pub read_tree-returns-in_ok-read_members-in-BeginObject-clause-ok : goal.read_tree-returns-in_ok-read_members-in-BeginObject-clause-ok
read_tree-returns-in_ok-read_members-in-BeginObject-clause-ok t c =
    let first : c.args.reader.now ≡ token_of c.in_ok-token.token ∷ c.next.new.self = grind arith in
    let opened = ap (converted of_json) (ap (value c.args.depth) (first ∙ ap (λ k. token_of k ∷ c.next.new.self) c.in-BeginObject.is) ∙ value-begin_object c.args.depth c.next.new.self (omega arith)) ∙ converted-object (members (value (c.args.depth - 1)) (length c.next.new.self) c.next.new.self) in
    let found = c.in_ok-read_members-in-BeginObject in
    opened ∙ ap (parse_map object) found.ensures.ok

pub read_items-returns-in_err-item-clause-syntax : goal.read_items-returns-in_err-item-clause-syntax
read_items-returns-in_err-item-clause-syntax t c refused =
    let p = value c.args.depth in
    let l = c.items in
    let n = l.invariant.0 in
    let going : (after_end_array l.reader ≡ None) × (c.take_end_array.new.self ≡ l.reader) = grind arith in
    l.invariant.2 ∙ ap (parse_map (items_before (map data_of l.found.items))) (item_refused p n l.reader going.0 (rw (← going.1) (c.read_tree.ensures.syntax (grind arith))))

pub read_items-items-preserved : goal.read_items-items-preserved
read_items-items-preserved t c =
    let p = value c.args.depth in
    let l = c.items in
    let n = l.invariant.0 in
    let going : (after_end_array l.reader ≡ None) × (c.take_end_array.new.self ≡ l.reader) = grind arith in
    let done = c.in_ok-item.ensures in
    let v = c.in_ok-item.item in
    let r = c.read_tree.new.reader in
    let less : length r < length l.reader = rw (← going.1) done.shorter in
    let turn = item_read p n l.reader r (json_of (data_of v)) (omega (arith, l.invariant.1)) going.0 (rw (← going.1) done.ok) in (
      n - 1,
      omega (arith, l.invariant.1),
      l.invariant.2 ∙ ap (parse_map (items_before (map data_of l.found.items))) turn ∙ one_more_item (map data_of l.found.items) (data_of v) _
          ∙ ap (λ ds. parse_map (items_before ds) (converted of_items (items p (n - 1) r))) (sym (map-append data_of l.found.items (v ∷ [])) ∙ ap (map data_of) (sym c.in_ok-push.ensures.items)),
      omega (arith, l.invariant.3),
      items_grown l.found.items _ v l.invariant.4 done.narrow c.in_ok-push.ensures.items,
    )

pub read_items-returns-clause-ok : goal.read_items-returns-clause-ok
read_items-returns-clause-ok t c =
    let p = value c.args.depth in
    let l = c.items in
    let n = l.invariant.0 in
    let r = c.take_end_array.new.self in
    l.invariant.2 ∙ ap (parse_map (items_before (map data_of l.found.items))) (items_over p n l.reader r l.invariant.1 (grind arith)) ∙ ap (λ ds. Some (ds, r)) (items_before-no_items (map data_of l.found.items))

pub read_members-returns-in_err-name-clause-syntax : goal.read_members-returns-in_err-name-clause-syntax
read_members-returns-in_err-name-clause-syntax t c refused =
    let p = value c.args.depth in
    let l = c.members in
    let n = l.invariant.0 in
    let old = json_members (members_of l.found) in
    l.invariant.2 ∙ key_refused p old n l.reader c.in_err-name.ensures.value

pub read_members-returns-in_err-tree-clause-syntax : goal.read_members-returns-in_err-tree-clause-syntax
read_members-returns-in_err-tree-clause-syntax t c refused =
    let p = value c.args.depth in
    let l = c.members in
    let n = l.invariant.0 in
    let old = json_members (members_of l.found) in
    let k = c.in-Some.name.now in
    let s = c.next_key.new.self in
    let named : read_key l.reader ≡ Some (Some k, s) = grind arith in
    l.invariant.2 ∙ member_refused p old n k l.reader s named (c.read_tree.ensures.syntax (grind arith))

pub read_members-members-preserved : goal.read_members-members-preserved
read_members-members-preserved t c =
    let p = value c.args.depth in
    let l = c.members in
    let n = l.invariant.0 in
    let old = json_members (members_of l.found) in
    let k = c.in-Some.name.now in
    let s = c.next_key.new.self in
    let named : read_key l.reader ≡ Some (Some k, s) = grind arith in
    let done = c.in_ok-tree.ensures in
    let v = c.in_ok-tree.tree in
    let r = c.read_tree.new.reader in
    let less = read_key-shorter l.reader (Some k) s named in
    let lesser = done.shorter in
    let put_in : c.put_member.new.found ≡ put (slice_cmp nat_cmp) k (data_of v) l.found = c.in_ok-put_member.ensures.ok ∙ ap (λ name. put (slice_cmp nat_cmp) name (data_of v) l.found) c.in_ok-key.ensures in
    let inserted : json_members (members_of c.put_member.new.found) ≡ json.put k (json_of (data_of v)) old = ap (λ es. json_members (members_of es)) put_in ∙ json_members-put k (data_of v) l.found in (
      n - 1,
      omega (arith, l.invariant.1),
      l.invariant.2 ∙ member_read p old n k l.reader s r (json_of (data_of v)) (omega (arith, l.invariant.1)) named done.ok
          ∙ ap (λ found. converted (λ ms. of_members ms found) (members p (n - 1) r)) (sym inserted),
      omega (arith, l.invariant.3),
      subst MembersNarrow (sym (ap members_of put_in ∙ members_of-put k (data_of v) l.found)) (MembersNarrow-put k (data_of v) (members_of l.found) done.narrow l.invariant.4),
    )

pub read_members-returns-clause-ok : goal.read_members-returns-clause-ok
read_members-returns-clause-ok t c =
    let p = value c.args.depth in
    let l = c.members in
    let n = l.invariant.0 in
    let old = json_members (members_of l.found) in
    l.invariant.2 ∙ members_over p old n l.reader c.next_key.new.self l.invariant.1 (grind arith)
