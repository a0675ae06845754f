-- What the reader of queries promises, by the definition that computes.
use Rattle.std.proofs.Common.{◌≡◌, ◌⊎◌, ℕ, Bool, true, false, true≢false, List, [], ◌∷◌, Option, None, Some, Result, Ok, Err, IsOk, IfOk, IfErr, nat_le, if◌then◌else◌, bytes_eq, codes, refl, sym, ap, subst, ◌∙◌, inl, inr}
use Rattle.std.proofs.Math.Bridge.{le_prop}
use Rattle.std.proofs.lemmas.Bool.{le-leb, leb-true}
use Rattle.std.proofs.lemmas.Slice.Eq.{bytes_eq-Decides}
use Rattle.std.proofs.lemmas.Str.{IsUtf8-from_is_utf8}
use Rattle.std.specs.Str.{is_utf8}
use Rattle.base64.specs.Engines.{url_safe_no_pad}
use Rattle.base64.specs.GeneralPurpose.{decode_of}
use Rattle.base64.specs.declared.decode.DecodeError.{DecodeError}
use Rattle.serde_json.specs.Data as json
use Rattle.serde_json.specs.Read.{read}
use Rattle.serde_json.specs.Written.{has_float}
use Rattle.cat_tree.specs.Data.{Data, null, flag, whole, words, list, dict, Items, no_items, item}
use Rattle.cat_tree.specs.Read.{ReadsAs, tree_of}
use Rattle.cat_tree.specs.declared.read.TreeFault.{TreeFault}
use Rattle.cat_tree.specs.declared.read.TreeFault.TheVariants.{Syntax, Fraction}
use Rattle.cat_types.specs.Reference.{parsed}
use Rattle.cat_types.specs.declared.fault.RefFault.{RefFault}
use Rattle.cat_collections.specs.Table.{Text}
use Rattle.cat_inputs.proofs.Reading.{reading_ok}
use Rattle.cat_inputs.specs.Reading.{tree_reading, whole_tree}
use Rattle.cat_query.specs.Cursor.{CursorIs, HasNoCursor, IsBadCursor, IsCursor, IsNamed, cursor_data, cursor_text, value_data}
use Rattle.cat_query.specs.Query.{Asked, Parameter, asked_of, parameters_of, values_named}
use Rattle.cat_query.specs.SeenQuery.{asked}
use Rattle.cat_query.specs.declared.fault.QueryFault.{QueryFault}
use Rattle.cat_query.specs.declared.fault.QueryFault.TheVariants.{BadCursor, NoMemory}
use Rattle.cat_pages.specs.declared.query.Cursor.{Cursor}
use Rattle.cat_pages.specs.declared.query.Query.{Query}
use Rattle.cat_session_lines.specs.Queries.{cursor_among, cursor_in, cursor_of, cursor_of_bytes, cursor_of_tree, cursor_of_two, cursor_with, itself, limited, one_cursor, query_of, query_with, reference_in, spelled, value_in, with_cursor}

-- ---- equal texts

same_is : (s t : List ℕ) → bytes_eq s t ≡ true → s ≡ t
same_is s t e = (bytes_eq-Decides s t).0 e

itself_is : (s : List ℕ) → bytes_eq s s ≡ true
itself_is s = (bytes_eq-Decides s s).1 refl

-- ---- answers that differ

none≢some : {A : Type 0} {x : A} → None ≡ Some x → ⊥
none≢some e = cc

some_is : {A : Type 0} {x y : A} → Some x ≡ Some y → x ≡ y
some_is e = cc

err≢ok : {A E : Type 0} {e : E} {x : A} → Err e ≡ Ok x → ⊥
err≢ok h = cc

ok_is : {A E : Type 0} {x y : A} (r : Result A E) → r ≡ Ok x → r ≡ Ok y → x ≡ y
ok_is r g h = cc

-- ---- a tree that was read

whole_reads : (bytes : List ℕ) (t : Data) (o : Option json.Data) → read bytes ≡ o → is_utf8 bytes ≡ true → whole_tree o ≡ Ok t → ReadsAs bytes t
whole_reads bytes t None r u h = absurd (err≢ok h)
whole_reads bytes t (Some d) r u h = at (has_float d) refl h
  where
    at : (b : Bool) → has_float d ≡ b → (if b then Err Fraction else Ok (tree_of d)) ≡ Ok t → ReadsAs bytes t
    at true f e = absurd (err≢ok e)
    at false f e = (d, (IsUtf8-from_is_utf8 bytes u, r), f, ok_is (Ok (tree_of d)) refl e)

reads_as : (bytes : List ℕ) (t : Data) → tree_reading bytes ≡ Ok t → ReadsAs bytes t
unfolding tree_reading
reads_as bytes t h = at (is_utf8 bytes) refl h
  where
    at : (b : Bool) → is_utf8 bytes ≡ b → (if b then whole_tree (read bytes) else Err Syntax) ≡ Ok t → ReadsAs bytes t
    at true u e = whole_reads bytes t (read bytes) refl u e
    at false u e = absurd (err≢ok e)

-- ---- a cursor is read

value_is : (o : Option Text) → value_in (value_data o) ≡ Some o
value_is None = refl
value_is (Some v) = refl

reference_is : (r : Text) → parsed r None (codes "default") ≡ Ok r → reference_in (words r) ≡ Some r
reference_is r named = ap (itself r) named ∙ ap (λ b. if b then Some r else None) (itself_is r)

cursor_is : (c : Cursor) → IsNamed c → cursor_in (cursor_data c) ≡ Some c
cursor_is c named = ap (λ o. cursor_with o (reference_in (words c.reference))) (value_is c.value) ∙ ap (cursor_with (Some c.value)) (reference_is c.reference named)

spelled_is : (text : Text) (c : Cursor) → text ≡ cursor_text c → spelled text (Some c) ≡ Some c
spelled_is text c e = ap (λ b. if b then Some c else None) (ap (bytes_eq (cursor_text c)) e ∙ itself_is (cursor_text c))

read_is : (text : Text) (c : Cursor) → IsCursor text c → cursor_of text ≡ Some c
unfolding cursor_of
read_is text c h =
    ap (cursor_of_bytes text) h.decodes ∙ (ap (cursor_of_tree text) (reading_ok h.bytes (cursor_data c) h.reads) ∙ (ap (spelled text) (cursor_is c h.names) ∙ spelled_is text c h.spelled))

-- ---- what is read is a cursor

value_from : (d : Data) (v : Option Text) → value_in d ≡ Some v → d ≡ value_data v
value_from null v e = ap value_data (some_is e)
value_from (flag b) v e = absurd (none≢some e)
value_from (whole z) v e = absurd (none≢some e)
value_from (words s) v e = ap value_data (some_is e)
value_from (list ds) v e = absurd (none≢some e)
value_from (dict ms) v e = absurd (none≢some e)

own_from : (s r : Text) (o : Result Text RefFault) → parsed s None (codes "default") ≡ o → itself s o ≡ Some r → (s ≡ r) × (parsed s None (codes "default") ≡ Ok s)
own_from s r (Err fault) p e = absurd (none≢some e)
own_from s r (Ok t) p e = at (bytes_eq t s) refl e
  where
    at : (b : Bool) → bytes_eq t s ≡ b → (if b then Some s else None) ≡ Some r → (s ≡ r) × (parsed s None (codes "default") ≡ Ok s)
    at true q x = (some_is x, p ∙ ap Ok (same_is t s q))
    at false q x = absurd (none≢some x)

reference_from : (d : Data) (r : Text) → reference_in d ≡ Some r → (d ≡ words r) × (parsed r None (codes "default") ≡ Ok r)
reference_from null r e = absurd (none≢some e)
reference_from (flag b) r e = absurd (none≢some e)
reference_from (whole z) r e = absurd (none≢some e)
reference_from (words s) r e =
    let own = own_from s r (parsed s None (codes "default")) refl e in
    (ap words own.0, subst (λ t. parsed t None (codes "default") ≡ Ok t) own.0 own.1)
reference_from (list ds) r e = absurd (none≢some e)
reference_from (dict ms) r e = absurd (none≢some e)

two_from : (a b : Data) (v : Option (Option Text)) (r : Option Text) (c : Cursor) → value_in a ≡ v → reference_in b ≡ r → cursor_with v r ≡ Some c → (list (item a (item b no_items)) ≡ cursor_data c) × IsNamed c
two_from a b None r c p q e = absurd (none≢some e)
two_from a b (Some v) None c p q e = absurd (none≢some e)
two_from a b (Some v) (Some r) c p q e =
    let reference = reference_from b r q in
    let is : record { value = v; reference = r } ≡ c = some_is e in
    let tree : list (item a (item b no_items)) ≡ cursor_data (record { value = v; reference = r }) = λ i. list (item (value_from a v p i) (item (reference.0 i) no_items)) in
    (tree ∙ ap cursor_data is, subst IsNamed is reference.1)

items_from : (ds : Items) (c : Cursor) → cursor_of_two ds ≡ Some c → (list ds ≡ cursor_data c) × IsNamed c
items_from no_items c e = absurd (none≢some e)
items_from (item a no_items) c e = absurd (none≢some e)
items_from (item a (item b no_items)) c e = two_from a b (value_in a) (reference_in b) c refl refl e
items_from (item a (item b (item d ds))) c e = absurd (none≢some e)

cursor_from : (d : Data) (c : Cursor) → cursor_in d ≡ Some c → (d ≡ cursor_data c) × IsNamed c
cursor_from null c e = absurd (none≢some e)
cursor_from (flag b) c e = absurd (none≢some e)
cursor_from (whole z) c e = absurd (none≢some e)
cursor_from (words s) c e = absurd (none≢some e)
cursor_from (list ds) c e = items_from ds c e
cursor_from (dict ms) c e = absurd (none≢some e)

spelled_from : (text : Text) (o : Option Cursor) (c : Cursor) → spelled text o ≡ Some c → (o ≡ Some c) × (text ≡ cursor_text c)
spelled_from text None c e = absurd (none≢some e)
spelled_from text (Some x) c e = at (bytes_eq (cursor_text x) text) refl e
  where
    at : (b : Bool) → bytes_eq (cursor_text x) text ≡ b → (if b then Some x else None) ≡ Some c → (Some x ≡ Some c) × (text ≡ cursor_text c)
    at true q y = (y, sym (same_is (cursor_text x) text q) ∙ ap cursor_text (some_is y))
    at false q y = absurd (none≢some y)

tree_from : (text bytes : Text) (r : Result Data TreeFault) (c : Cursor) → decode_of url_safe_no_pad text ≡ Ok bytes → tree_reading bytes ≡ r → cursor_of_tree text r ≡ Some c → IsCursor text c
tree_from text bytes (Err fault) c decodes reads e = absurd (none≢some e)
tree_from text bytes (Ok d) c decodes reads e =
    let own = spelled_from text (cursor_in d) c e in
    let is = cursor_from d c own.0 in
    record { bytes = bytes; decodes = decodes; reads = subst (ReadsAs bytes) is.0 (reads_as bytes d reads); names = is.1; spelled = own.1 }

bytes_from : (text : Text) (r : Result (List ℕ) DecodeError) (c : Cursor) → decode_of url_safe_no_pad text ≡ r → cursor_of_bytes text r ≡ Some c → IsCursor text c
bytes_from text (Err fault) c decodes e = absurd (none≢some e)
bytes_from text (Ok bytes) c decodes e = tree_from text bytes (tree_reading bytes) c decodes refl e

read_from : (text : Text) (c : Cursor) → cursor_of text ≡ Some c → IsCursor text c
unfolding cursor_of
read_from text c e = bytes_from text (decode_of url_safe_no_pad text) c refl e

read_none : (text : Text) → ((c : Cursor) → ¬ IsCursor text c) → cursor_of text ≡ None
read_none text none = at (cursor_of text) refl
  where
    at : (o : Option Cursor) → cursor_of text ≡ o → o ≡ None
    at None e = refl
    at (Some c) e = absurd (none c (read_from text c e))

among_is : (vs : List Text) (o : Option Cursor) → CursorIs vs o → cursor_among vs ≡ Ok o
among_is [] None h = refl
among_is [] (Some c) h = absurd h
among_is (v ∷ []) None h = absurd h
among_is (v ∷ []) (Some c) h = ap one_cursor (read_is v c h)
among_is (v ∷ w ∷ vs) o h = absurd h

among_none : (vs : List Text) → HasNoCursor vs → cursor_among vs ≡ Err BadCursor
among_none [] h = absurd h
among_none (v ∷ []) h = ap one_cursor (read_none v h)
among_none (v ∷ w ∷ vs) h = refl

-- ---- the whole query

limited_is : (q : Query) (least most : Bool) (l : nat_le 1 q.limit ≡ least) (m : nat_le q.limit 1000 ≡ most) → limited (asked q) q.cursor least most l m ≡ Ok q
limited_is q true true l m = λ i. Ok (record q { least = le_prop (leb-true 1 q.limit l) q.least i; most = le_prop (leb-true q.limit 1000 m) q.most i })
limited_is q true false l m = absurd (true≢false (sym (le-leb q.limit 1000 q.most) ∙ m))
limited_is q false most l m = absurd (true≢false (sym (le-leb 1 q.limit q.least) ∙ l))

query_is : (text : List ℕ) (q : Query) → asked_of (parameters_of text) ≡ Ok (asked q) → CursorIs (values_named (codes "cursor") (parameters_of text)) q.cursor → query_of text ≡ Ok q
unfolding query_of
query_is text q h c =
    ap (query_with (parameters_of text)) h ∙ (ap (with_cursor (asked q)) (among_is (values_named (codes "cursor") (parameters_of text)) q.cursor c) ∙ limited_is q (nat_le 1 q.limit) (nat_le q.limit 1000) refl refl)

cursor_refused : (ps : List Parameter) (r : Result Asked QueryFault) → asked_of ps ≡ r → IsOk r → HasNoCursor (values_named (codes "cursor") ps) → query_with ps r ≡ Err BadCursor
cursor_refused ps (Ok a) e ok none = ap (with_cursor a) (among_none (values_named (codes "cursor") ps) none)
cursor_refused ps (Err fault) e ok none = absurd (true≢false (sym ok))

refused_is : (text : List ℕ) (e : QueryFault) → (e ≡ NoMemory) ⊎ (asked_of (parameters_of text) ≡ Err e) ⊎ IsBadCursor (parameters_of text) e → (query_of text ≡ Err e) ⊎ (e ≡ NoMemory)
unfolding query_of
refused_is text e (inl memory) = inr memory
refused_is text e (inr (inl asked)) = inl (ap (query_with (parameters_of text)) asked)
refused_is text e (inr (inr bad)) = inl (cursor_refused (parameters_of text) (asked_of (parameters_of text)) refl bad.1 bad.2 ∙ ap Err (sym bad.0))

pub read_ok : (text : List ℕ) (r : Result Query QueryFault) → IfOk r (λ q. asked_of (parameters_of text) ≡ Ok (asked q)) → IfOk r (λ q. CursorIs (values_named (codes "cursor") (parameters_of text)) q.cursor) → IfOk r (λ q. query_of text ≡ Ok q)
read_ok text (Ok q) h c = query_is text q h c
read_ok text (Err e) h c = tt

pub read_err : (text : List ℕ) (r : Result Query QueryFault) → IfErr r (λ e. (e ≡ NoMemory) ⊎ (asked_of (parameters_of text) ≡ Err e) ⊎ IsBadCursor (parameters_of text) e) → IfErr r (λ e. (query_of text ≡ Err e) ⊎ (e ≡ NoMemory))
read_err text (Ok q) h = tt
read_err text (Err e) h = refused_is text e h
