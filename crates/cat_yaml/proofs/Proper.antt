-- In the documents of a text the keys of each map rise.
use Rattle.std.proofs.Common.{ℕ, zero, suc, Bool, true, false, List, [], ◌∷◌, ◌++◌, ◌==◌, ◌&&◌, not, length, take, drop, is_some, Option, None, Some, Result, Ok, Err, IfOk, if◌then◌else◌, subst}
use Rattle.std.specs.Bool.{⊤}
use Rattle.std.specs.List.{AllByRecursion}
use Rattle.std.specs.Str.{is_utf8}
use Rattle.cat_tree.specs.Ask.{member_at}
use Rattle.cat_tree.specs.Data.{Data, null, flag, whole, dict, Members, no_members, items_of}
use Rattle.cat_tree.specs.Edit.{put_member}
use Rattle.cat_tree.specs.Proper.{IsProper, ItemsProper}
use Rattle.cat_tree.proofs.Edits.{IsProper-with_key}
use Rattle.cat_yaml.specs.declared.fault.Refusal.{Refusal}
use Rattle.cat_yaml.specs.declared.fault.Refusal.TheVariants.{NoReading}
use Rattle.cat_yaml.specs.declared.literal.Chomping.{Chomping}
use Rattle.cat_yaml.specs.declared.line.Start.TheVariants.{Item, Entry, Document, Outside}
use Rattle.cat_yaml.specs.Steps.{and_then}
use Rattle.cat_yaml.specs.Scan.{begins_with, stripped, trimmed, comment_from, uncommented, is_end, is_item, is_quoted}
use Rattle.cat_yaml.specs.Scalar.{is_plain, is_null, is_true, is_false, is_digits, is_fraction, unsigned, signed_value, text_of, as_words, typed, plain_value}
use Rattle.cat_yaml.specs.Quoted.{quoted_end, quoted_text}
use Rattle.cat_yaml.specs.Value as on_line
use Rattle.cat_yaml.specs.Value.{opened, flow_plain, flow_value, item_end, item_by, after_by, closed, after_item, flow_items, flow_list_at, flow_list, empty_map, quoted_value, value}
use Rattle.cat_yaml.specs.Lines.{Line, lines_of, indent, is_passed, are_passed, is_document_end, begins, part}
use Rattle.cat_yaml.specs.Literal.{chomping_of, literal_text, literal, literal_lines, margin, chomped}
use Rattle.cat_yaml.specs.Block as blocks
use Rattle.cat_yaml.specs.Block.{key_cut, has_key, key_text, rest_of, nested, literal_or, entry_value, item_line, item_rest, more_items, items, pair_value, pair_by, pair, with_pair, more_pairs, pairs, as_map, alone, block}
use Rattle.cat_yaml.specs.Reading.{as_some, document, with_document, more_documents, documents, some_documents, text_reading, reading, IsReading}

-- ---- steps that may have no reading

-- what a step gives has the property
bound : {A B : Type 0} (P : A → Type 0) (Q : B → Type 0) (r : Result A Refusal) (next : A → Result B Refusal) → IfOk r P → ((a : A) → P a → IfOk (next a) Q) → IfOk (and_then r next) Q
bound P Q (Ok a) next h k = k a h
bound P Q (Err e) next h k = tt

-- either way
either : {A : Type 0} (P : A → Type 0) (b : Bool) (r s : Result A Refusal) → IfOk r P → IfOk s P → IfOk (if b then r else s) P
either P true r s h k = h
either P false r s h k = k

-- of any text nothing is asked
any : (r : Result (List ℕ) Refusal) → IfOk r (λ t. ⊤)
any (Ok t) = tt
any (Err e) = tt

-- or else there is no reading
if_read : {A : Type 0} (P : A → Type 0) (b : Bool) (r : Result A Refusal) → IfOk r P → IfOk (if b then r else Err NoReading) P
if_read P b r h = either P b r (Err NoReading) h tt

-- ---- lists of trees

-- one more behind those so far
pushed : (ds : List Data) (d : Data) → AllByRecursion IsProper ds → IsProper d → AllByRecursion IsProper (ds ++ d ∷ [])
pushed [] d h p = (p, tt)
pushed (e ∷ ds) d h p = (h.0, pushed ds d h.1 p)

items_proper : (ds : List Data) → AllByRecursion IsProper ds → ItemsProper (items_of ds)
items_proper [] h = tt
items_proper (d ∷ ds) h = (h.0, items_proper ds h.1)

-- ---- values on one line

words_are : (r : Result (List ℕ) Refusal) → IfOk (as_words r) IsProper
words_are (Ok t) = tt
words_are (Err e) = tt

typed_is : (s : List ℕ) → IfOk (typed s) IsProper
typed_is s =
    either IsProper (is_null s) (Ok null) _ tt
    (either IsProper (is_true s) (Ok (flag true)) _ tt
    (either IsProper (is_false s) (Ok (flag false)) _ tt
    (either IsProper (is_digits (unsigned s)) (Ok (whole (signed_value s))) _ tt
    (either IsProper (is_fraction (unsigned s)) _ (as_words (text_of s)) tt (words_are (text_of s))))))

plain_is : (s : List ℕ) → IfOk (plain_value s) IsProper
plain_is s = if_read IsProper (is_plain s) (typed s) (typed_is s)

flow_value_is : (s : List ℕ) → IfOk (flow_value s) IsProper
flow_value_is s =
    either IsProper (is_quoted s) (as_words (quoted_text s)) (flow_plain (trimmed 32 s)) (words_are (quoted_text s))
    (if_read IsProper (comment_from 0 (trimmed 32 s) == length (trimmed 32 s)) (plain_value (trimmed 32 s)) (plain_is (trimmed 32 s)))

item_by_is : (s : List ℕ) (o : Option ℕ) → IfOk (item_by s o) IsProper
item_by_is s None = tt
item_by_is s (Some n) = flow_value_is (take n s)

-- after a value
after_are : (more : List Data → List ℕ → Result (List Data) Refusal) (done : List Data) (s : List ℕ) → IfOk (more done (stripped (drop 1 s))) (AllByRecursion IsProper) → AllByRecursion IsProper done → IfOk (after_item more done s) (AllByRecursion IsProper)
after_are more done s m h =
    either (AllByRecursion IsProper) (begins_with 44 s) (more done (stripped (drop 1 s))) _ m
    (if_read (AllByRecursion IsProper) (begins_with 93 s) (closed done (drop 1 s)) (if_read (AllByRecursion IsProper) (is_end (drop 1 s)) (Ok done) h))

flow_items_are : (turns : List ℕ) (done : List Data) (s : List ℕ) → AllByRecursion IsProper done → IfOk (flow_items turns done s) (AllByRecursion IsProper)
flow_items_are [] done s h = tt
flow_items_are (b ∷ turns) done s h =
    bound IsProper (AllByRecursion IsProper) (item_by s (item_end s)) (λ d. after_item (flow_items turns) (done ++ d ∷ []) (after_by s (item_end s))) (item_by_is s (item_end s))
    (λ d p. after_are (flow_items turns) (done ++ d ∷ []) (after_by s (item_end s)) (flow_items_are turns (done ++ d ∷ []) (stripped (drop 1 (after_by s (item_end s)))) (pushed done d h p)) (pushed done d h p))

flow_list_is : (r : Result (List Data) Refusal) → IfOk r (AllByRecursion IsProper) → IfOk (on_line.as_list r) IsProper
flow_list_is (Ok ds) h = items_proper ds h
flow_list_is (Err e) h = tt

flow_list_are : (s : List ℕ) → IfOk (flow_list_at s) (AllByRecursion IsProper)
flow_list_are s =
    either (AllByRecursion IsProper) (begins_with 93 s) (if is_end (drop 1 s) then Ok [] else Err NoReading) (flow_items s [] s)
    (if_read (AllByRecursion IsProper) (is_end (drop 1 s)) (Ok []) tt)
    (flow_items_are s [] s tt)

opened_is : (levels : ℕ) (r : Result Data Refusal) → IfOk r IsProper → IfOk (opened levels r) IsProper
opened_is levels r h = either IsProper (levels == 0) (Err NoReading) r tt h

quoted_is : (s : List ℕ) (o : Option ℕ) → IfOk (quoted_value s o) IsProper
quoted_is s None = tt
quoted_is s (Some n) = if_read IsProper (is_end (drop n s)) (as_words (quoted_text (take n s))) (words_are (quoted_text (take n s)))

empty_map_is : (s : List ℕ) → IfOk (empty_map s) IsProper
empty_map_is s =
    if_read IsProper (begins_with 125 s) (if is_end (drop 1 s) then Ok (dict no_members) else Err NoReading)
    (if_read IsProper (is_end (drop 1 s)) (Ok (dict no_members)) (tt, tt))

value_is : (levels : ℕ) (s : List ℕ) → IfOk (value levels s) IsProper
value_is levels s =
    either IsProper (is_quoted s) (quoted_value s (quoted_end s)) _ (quoted_is s (quoted_end s))
    (either IsProper (begins_with 91 s) (opened levels (flow_list (drop 1 s))) _ (opened_is levels (flow_list (drop 1 s)) (flow_list_is (flow_list_at (stripped (drop 1 s))) (flow_list_are (stripped (drop 1 s)))))
    (either IsProper (begins_with 123 s) (opened levels (empty_map (stripped (drop 1 s)))) (plain_value (uncommented s)) (opened_is levels (empty_map (stripped (drop 1 s))) (empty_map_is (stripped (drop 1 s))))
    (plain_is (uncommented s))))

-- ---- literal text

literal_text_is : (c : Chomping) (ls : List Line) → IfOk (literal_text c ls) IsProper
literal_text_is c ls =
    bound (λ t. ⊤) IsProper (literal_lines (margin ls) [] ls) (λ t. as_words (text_of (chomped c t))) (any (literal_lines (margin ls) [] ls)) (λ t h. words_are (text_of (chomped c t)))

literal_is : (c : Chomping) (n : ℕ) (ls : List Line) → IfOk (literal c n ls) IsProper
literal_is c n ls =
    if_read IsProper (are_passed (drop (length (part (Outside n) ls)) ls)) (literal_text c (part (Outside n) ls)) (literal_text_is c (part (Outside n) ls))

abbrev PairProper : List ℕ × Data → Type 0
PairProper p = IsProper p.1

abbrev MapProper : Members → Type 0
MapProper ms = IsProper (dict ms)

-- ---- block nodes, where the nodes of one level less are proper

module _ (node : Line → List Line → Result Data Refusal) (below : (l : Line) (ls : List Line) → IfOk (node l ls) IsProper) where
  nested_is : (ls : List Line) → IfOk (nested node ls) IsProper
  nested_is [] = tt
  nested_is (l ∷ ls) =
      either IsProper (is_passed l) (nested node ls) _ (nested_is ls)
      (either IsProper (begins_with 9 l.content) (Err NoReading) (node l ls) tt (below l ls))

  literal_or_is : (o : Option Chomping) (n : ℕ) (ls : List Line) (other : Result Data Refusal) → IfOk other IsProper → IfOk (literal_or o n ls other) IsProper
  literal_or_is None n ls other h = h
  literal_or_is (Some c) n ls other h = literal_is c n ls

  entry_is : (n : ℕ) (r : List ℕ) (ls : List Line) (other : Result Data Refusal) → IfOk other IsProper → IfOk (entry_value node n r ls other) IsProper
  entry_is n r ls other h =
      either IsProper (length r == 0) (nested node ls) (literal_or (chomping_of r) n ls other) (nested_is ls) (literal_or_is (chomping_of r) n ls other h)

  item_is : (n : ℕ) (l : Line) (ls : List Line) → IfOk (blocks.item node n l ls) IsProper
  item_is n l ls =
      if_read IsProper (indent l == n && is_item l.content) (item_rest node l (rest_of (drop 1 l.content)) ls)
      (entry_is (indent l) (rest_of (drop 1 l.content)) ls (node (item_line l (rest_of (drop 1 l.content))) ls) (below (item_line l (rest_of (drop 1 l.content))) ls))

  more_items_are : (n : ℕ) (done : List Data) (ls : List Line) → AllByRecursion IsProper done → IfOk (more_items node n done ls) (AllByRecursion IsProper)
  more_items_are n done [] h = h
  more_items_are n done (l ∷ ls) h =
      either (AllByRecursion IsProper) (begins (Item n) l) (and_then (blocks.item node n l (part (Item n) ls)) (λ d. more_items node n (done ++ d ∷ []) ls)) (more_items node n done ls)
      (bound IsProper (AllByRecursion IsProper) (blocks.item node n l (part (Item n) ls)) (λ d. more_items node n (done ++ d ∷ []) ls) (item_is n l (part (Item n) ls)) (λ d p. more_items_are n (done ++ d ∷ []) ls (pushed done d h p)))
      (more_items_are n done ls h)

  items_are : (l : Line) (ls : List Line) → IfOk (items node l ls) (AllByRecursion IsProper)
  items_are l ls =
      bound IsProper (AllByRecursion IsProper) (blocks.item node (indent l) l (part (Item (indent l)) ls)) (λ d. more_items node (indent l) (d ∷ []) ls) (item_is (indent l) l (part (Item (indent l)) ls))
      (λ d p. more_items_are (indent l) (d ∷ []) ls (p, tt))

  pair_value_is : (levels n : ℕ) (r : List ℕ) (ls : List Line) → IfOk (pair_value node levels n r ls) IsProper
  pair_value_is levels n r ls =
      entry_is n r ls (if are_passed ls then value levels r else Err NoReading) (if_read IsProper (are_passed ls) (value levels r) (value_is levels r))

  pair_by_is : (levels n : ℕ) (ls : List Line) (o : Option (List ℕ × List ℕ)) → IfOk (pair_by node levels n ls o) PairProper
  pair_by_is levels n ls None = tt
  pair_by_is levels n ls (Some k) =
      bound (λ t. ⊤) PairProper (key_text k.0) _ (any (key_text k.0)) (λ t h. bound IsProper PairProper (pair_value node levels n (rest_of k.1) ls) (λ d. Ok (t, d)) (pair_value_is levels n (rest_of k.1) ls) (λ d p. p))

  pair_is : (levels n : ℕ) (l : Line) (ls : List Line) → IfOk (pair node levels n l ls) PairProper
  pair_is levels n l ls =
      if_read PairProper (indent l == n && not (begins_with 9 l.content)) (pair_by node levels n ls (key_cut l.content)) (pair_by_is levels n ls (key_cut l.content))

  -- the new entry stands in its place
  with_pair_is : (ms : Members) (k : List ℕ) (d : Data) → MapProper ms → IsProper d → IfOk (with_pair ms k d) MapProper
  with_pair_is ms k d h p =
      either MapProper (is_some (member_at k ms)) (Err NoReading) (Ok (put_member k d ms)) tt (IsProper-with_key k d (dict ms) p h)

  more_pairs_are : (levels n : ℕ) (ms : Members) (ls : List Line) → MapProper ms → IfOk (more_pairs node levels n ms ls) MapProper
  more_pairs_are levels n ms [] h = h
  more_pairs_are levels n ms (l ∷ ls) h =
      either MapProper (begins (Entry n) l) (and_then (pair node levels n l (part (Entry n) ls)) (λ p. and_then (with_pair ms p.0 p.1) (λ more. more_pairs node levels n more ls))) (more_pairs node levels n ms ls)
      (bound PairProper MapProper (pair node levels n l (part (Entry n) ls)) (λ p. and_then (with_pair ms p.0 p.1) (λ more. more_pairs node levels n more ls)) (pair_is levels n l (part (Entry n) ls))
      (λ p k. bound MapProper MapProper (with_pair ms p.0 p.1) (λ more. more_pairs node levels n more ls) (with_pair_is ms p.0 p.1 h k) (λ more m. more_pairs_are levels n more ls m)))
      (more_pairs_are levels n ms ls h)

  pairs_are : (levels : ℕ) (l : Line) (ls : List Line) → IfOk (pairs node levels l ls) MapProper
  pairs_are levels l ls =
      bound PairProper MapProper (pair node levels (indent l) l (part (Entry (indent l)) ls)) (λ p. and_then (with_pair no_members p.0 p.1) (λ ms. more_pairs node levels (indent l) ms ls)) (pair_is levels (indent l) l (part (Entry (indent l)) ls))
      (λ p k. bound MapProper MapProper (with_pair no_members p.0 p.1) (λ ms. more_pairs node levels (indent l) ms ls) (with_pair_is no_members p.0 p.1 (tt, tt) k) (λ ms m. more_pairs_are levels (indent l) ms ls m))

list_is : (r : Result (List Data) Refusal) → IfOk r (AllByRecursion IsProper) → IfOk (on_line.as_list r) IsProper
list_is (Ok ds) h = items_proper ds h
list_is (Err e) h = tt

map_is : (r : Result Members Refusal) → IfOk r MapProper → IfOk (as_map r) IsProper
map_is (Ok ms) h = h
map_is (Err e) h = tt

alone_is : (levels : ℕ) (l : Line) (ls : List Line) → IfOk (alone levels l ls) IsProper
alone_is levels l ls = if_read IsProper (are_passed ls) (value levels l.content) (value_is levels l.content)

block_is : (n : ℕ) (l : Line) (ls : List Line) → IfOk (block n l ls) IsProper
unfolding block
block_is zero l ls =
    either IsProper (is_item l.content) (Err NoReading) _ tt
    (either IsProper (has_key l.content) (Err NoReading) (alone 0 l ls) tt (alone_is 0 l ls))
block_is (suc n) l ls =
    either IsProper (is_item l.content) (on_line.as_list (items (block n) l ls)) _ (list_is (items (block n) l ls) (items_are (block n) (block_is n) l ls))
    (either IsProper (has_key l.content) (as_map (pairs (block n) n l ls)) (alone (suc n) l ls) (map_is (pairs (block n) n l ls) (pairs_are (block n) (block_is n) n l ls))
    (alone_is (suc n) l ls))

-- ---- documents

abbrev SomeProper : Option Data → Type 0
SomeProper None = ⊤
SomeProper (Some d) = IsProper d

some_is : (r : Result Data Refusal) → IfOk r IsProper → IfOk (as_some r) SomeProper
some_is (Ok d) h = h
some_is (Err e) h = tt

document_is : (ls : List Line) → IfOk (document ls) SomeProper
document_is [] = tt
document_is (l ∷ ls) =
    either SomeProper (is_passed l) (document ls) _ (document_is ls)
    (either SomeProper (begins_with 9 l.content) (Err NoReading) (as_some (block 127 l ls)) tt (some_is (block 127 l ls) (block_is 127 l ls)))

with_document_are : (done : List Data) (r : Result (Option Data) Refusal) → AllByRecursion IsProper done → IfOk r SomeProper → IfOk (with_document done r) (AllByRecursion IsProper)
with_document_are done (Ok None) h k = h
with_document_are done (Ok (Some d)) h k = pushed done d h k
with_document_are done (Err e) h k = tt

more_documents_are : (done : List Data) (ls : List Line) → AllByRecursion IsProper done → IfOk (more_documents done ls) (AllByRecursion IsProper)
more_documents_are done [] h = h
more_documents_are done (l ∷ ls) h =
    either (AllByRecursion IsProper) (is_document_end l) (Err NoReading) _ tt
    (either (AllByRecursion IsProper) (begins Document l) (and_then (with_document done (document (part Document ls))) (λ ds. more_documents ds ls)) (more_documents done ls)
    (bound (AllByRecursion IsProper) (AllByRecursion IsProper) (with_document done (document (part Document ls))) (λ ds. more_documents ds ls) (with_document_are done (document (part Document ls)) h (document_is (part Document ls))) (λ ds k. more_documents_are ds ls k))
    (more_documents_are done ls h))

documents_are : (ls : List Line) → IfOk (documents ls) (AllByRecursion IsProper)
documents_are ls =
    bound (AllByRecursion IsProper) (AllByRecursion IsProper) (with_document [] (document (part Document ls))) (λ ds. more_documents ds ls) (with_document_are [] (document (part Document ls)) tt (document_is (part Document ls))) (λ ds k. more_documents_are ds ls k)

text_are : (s : List ℕ) → IfOk (text_reading s) (AllByRecursion IsProper)
text_are s =
    bound (AllByRecursion IsProper) (AllByRecursion IsProper) (documents (lines_of s)) some_documents (documents_are (lines_of s))
    (λ ds h. either (AllByRecursion IsProper) (length ds == 0) (Err NoReading) (Ok ds) tt h)

-- the keys of each map of a document rise
pub reading_is : (s : List ℕ) → IfOk (reading s) (AllByRecursion IsProper)
unfolding reading
reading_is s = if_read (AllByRecursion IsProper) (is_utf8 s) (text_reading s) (text_are s)

-- so do those of the list of the documents
pub documents_proper : (s : List ℕ) (ds : List Data) → IsReading s ds → ItemsProper (items_of ds)
documents_proper s ds h = items_proper ds (subst (λ r. IfOk r (AllByRecursion IsProper)) h (reading_is s))
