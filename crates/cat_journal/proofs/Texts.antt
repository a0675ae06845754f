-- The text of a batch and the tree that is read of it.
use Rattle.std.proofs.Common.{◌≡◌, ◌≢◌, ℕ, zero, suc, ◌+◌, ◌^◌, ◌<◌, ◌≤◌, pos, negsuc, List, [], ◌∷◌, ◌++◌, Bool, true, false, true≢false, ◌⊎◌, inl, inr, Result, Ok, Err, Some, map, length, get_or, drop, refl, sym, ◌∙◌, ap, subst, arith, append_assoc, add-one, drop-cons}
use Rattle.std.specs.Prelude.{IsTrue, ◌↔◌, IsUtf8}
use Rattle.std.proofs.lemmas.Bool.Decides.{nat_tests}
use Rattle.std.specs.FinMap.Entries.{is_sorted}
use Rattle.cat_tree.specs.Ask.{depth_of, items_depth}
use Rattle.cat_tree.specs.Data.{Data, null, flag, whole, words, list, dict, Items, no_items, item, items_of}
use Rattle.cat_tree.specs.Proper.{IsNarrow, ItemsNarrow, IsProper, ItemsProper}
use Rattle.cat_tree.specs.Read.{ReadsAs, tree_of}
use Rattle.cat_tree.specs.Text.{text_of}
use Rattle.cat_tree.specs.View.{data_of}
use Rattle.cat_tree.specs.declared.tree.Tree.{Tree}
use Rattle.cat_tree.proofs.Back.{reads_back}
use Rattle.cat_keeper.specs.Store.{RowKey, Changes, row_cmp}
use Rattle.cat_keeper.specs.Tables.{table_number}
use Rattle.cat_keeper.specs.declared.table.Table.{Table}
use Rattle.cat_keeper.specs.declared.table.Table.TheVariants.{Counters, Providers, Items as ItemsTable, Shelf, Records, Orphans, Settings, Trees}
use Rattle.cat_keeper.specs.declared.rows.Change.{Change}
use Rattle.cat_keeper.specs.declared.rows.Change.TheVariants.{Put, Gone}
use Rattle.cat_journal.specs.Batches.{change_data, batch_data, batch_text, IsText, table_data}
use Rattle.cat_journal.specs.Parsed.{and_then, with_front, onto, number_in, table_at, table_in, words_in, key_in, gone_in, put_in, change_of, change_in, changes_of, changes_in}
use Rattle.cat_journal.specs.declared.body.BodyFault.{BodyFault}
use Rattle.cat_journal.specs.declared.body.BodyFault.TheVariants.{NoBatch, NoMemory}

-- ---- tables

pub table_found : (t : Table) (n : ℕ) → table_number t ≡ n → table_at n ≡ Ok t
table_found Counters n e = subst (λ (k : ℕ). table_at k ≡ Ok Counters) e refl
table_found Providers n e = subst (λ (k : ℕ). table_at k ≡ Ok Providers) e refl
table_found ItemsTable n e = subst (λ (k : ℕ). table_at k ≡ Ok ItemsTable) e refl
table_found Shelf n e = subst (λ (k : ℕ). table_at k ≡ Ok Shelf) e refl
table_found Records n e = subst (λ (k : ℕ). table_at k ≡ Ok Records) e refl
table_found Orphans n e = subst (λ (k : ℕ). table_at k ≡ Ok Orphans) e refl
table_found Settings n e = subst (λ (k : ℕ). table_at k ≡ Ok Settings) e refl
table_found Trees n e = subst (λ (k : ℕ). table_at k ≡ Ok Trees) e refl

pub table_none : (n : ℕ) → ((t : Table) → table_number t ≢ n) → table_at n ≡ Err NoBatch
table_none zero h = refl
table_none (suc zero) h = absurd (h Counters refl)
table_none (suc (suc zero)) h = absurd (h Providers refl)
table_none (suc (suc (suc zero))) h = absurd (h ItemsTable refl)
table_none (suc (suc (suc (suc zero)))) h = absurd (h Shelf refl)
table_none (suc (suc (suc (suc (suc zero))))) h = absurd (h Records refl)
table_none (suc (suc (suc (suc (suc (suc zero)))))) h = absurd (h Orphans refl)
table_none (suc (suc (suc (suc (suc (suc (suc zero))))))) h = absurd (h Settings refl)
table_none (suc (suc (suc (suc (suc (suc (suc (suc zero)))))))) h = absurd (h Trees refl)
table_none (suc (suc (suc (suc (suc (suc (suc (suc (suc n))))))))) h = refl

table_back : (t : Table) → table_in (table_data t) ≡ Ok t
table_back Counters = refl
table_back Providers = refl
table_back ItemsTable = refl
table_back Shelf = refl
table_back Records = refl
table_back Orphans = refl
table_back Settings = refl
table_back Trees = refl

table_small : (t : Table) → table_number t < 2 ^ 64
table_small Counters = omega arith
table_small Providers = omega arith
table_small ItemsTable = omega arith
table_small Shelf = omega arith
table_small Records = omega arith
table_small Orphans = omega arith
table_small Settings = omega arith
table_small Trees = omega arith

-- ---- a batch is read from its own tree

change_with : (t : Table) (key : List ℕ) (c : Change) → change_in (change_data ((t, key), c)) ≡ Ok ((t, key), c)
change_with t key (Put value) = ap (λ (r : Result Table BodyFault). and_then (and_then r (λ u. Ok (u, key))) (λ k. Ok (k, Put value))) (table_back t)
change_with t key Gone = ap (λ (r : Result Table BodyFault). and_then (and_then r (λ u. Ok (u, key))) (λ k. Ok (k, Gone))) (table_back t)

changes_with : (cs : Changes) → changes_of (items_of (map change_data cs)) ≡ Ok cs
changes_with [] = refl
changes_with (c ∷ cs) =
    ap (λ (r : Result (RowKey × Change) BodyFault). onto r (changes_of (items_of (map change_data cs)))) (change_with c.0.0 c.0.1 c.1)
    ∙ ap (λ (r : Result Changes BodyFault). onto (Ok c) r) (changes_with cs)

pub changes_back : (cs : Changes) → changes_in (batch_data cs) ≡ Ok cs
changes_back cs = changes_with cs

-- ---- the tree of a batch is read back from its text

change_narrow : (t : Table) (key : List ℕ) (c : Change) → IsNarrow (change_data ((t, key), c))
change_narrow t key (Put value) = (table_small t, (tt, (tt, tt)))
change_narrow t key Gone = (table_small t, (tt, tt))

changes_narrow : (cs : Changes) → ItemsNarrow (items_of (map change_data cs))
changes_narrow [] = tt
changes_narrow (c ∷ cs) = (change_narrow c.0.0 c.0.1 c.1, changes_narrow cs)

change_proper : (t : Table) (key : List ℕ) (c : Change) → IsProper (change_data ((t, key), c))
change_proper t key (Put value) = (tt, (tt, (tt, tt)))
change_proper t key Gone = (tt, (tt, tt))

changes_proper : (cs : Changes) → ItemsProper (items_of (map change_data cs))
changes_proper [] = tt
changes_proper (c ∷ cs) = (change_proper c.0.0 c.0.1 c.1, changes_proper cs)

change_depth : (t : Table) (key : List ℕ) (c : Change) → depth_of (change_data ((t, key), c)) ≤ 1
change_depth t key (Put value) = omega arith
change_depth t key Gone = omega arith

changes_depth : (cs : Changes) → items_depth (items_of (map change_data cs)) ≤ 1
changes_depth [] = omega arith
changes_depth (c ∷ cs) = omega (arith, change_depth c.0.0 c.0.1 c.1, changes_depth cs)

pub batch_narrow : (cs : Changes) → IsNarrow (batch_data cs)
batch_narrow cs = changes_narrow cs

pub batch_depth : (cs : Changes) → depth_of (batch_data cs) ≤ 127
batch_depth cs = omega (arith, changes_depth cs)

pub text_reads : (cs : Changes) (body : List ℕ) → IsText cs body → ReadsAs body (batch_data cs)
text_reads cs body is = subst (λ (b : List ℕ). ReadsAs b (batch_data cs)) is.spelled
    (reads_back (batch_data cs) (changes_narrow cs) (changes_proper cs) (batch_depth cs) (subst IsUtf8 (sym is.spelled) is.utf8))

-- a text reads as one tree
pub reads_one : (v : List ℕ) (d e : Data) → ReadsAs v d → ReadsAs v e → d ≡ e
reads_one v d e p q =
    let first : Some p.0 ≡ Some q.0 = sym p.1.1 ∙ q.1.1 in
    let same : p.0 ≡ q.0 = cc in
    sym p.3 ∙ (ap tree_of same ∙ q.3)

-- where a body reads as a tree, the changes of a batch with this text are those that the tree has in it
pub text_changes : (cs : Changes) (body : List ℕ) (d : Data) → ReadsAs body d → IsText cs body → changes_in d ≡ Ok cs
text_changes cs body d reads is = ap changes_in (reads_one body d (batch_data cs) reads (text_reads cs body is)) ∙ changes_back cs

-- ---- and it is the tree that the changes make

through : {A B : Type 0} (r : Result A BodyFault) (f : A → Result B BodyFault) (y : B) → and_then r f ≡ Ok y → (x : A) × (r ≡ Ok x) × (f x ≡ Ok y)
through (Ok x) f y e = (x, refl, e)
through (Err b) f y e = absurd (cc)

number_whole : (d : Data) (n : ℕ) → number_in d ≡ Ok n → whole (pos n) ≡ d
number_whole null n e = absurd (cc)
number_whole (flag b) n e = absurd (cc)
number_whole (whole (pos m)) n e = ap (λ (k : ℕ). whole (pos k)) (if_number m n e)
  where
    if_number : (m n : ℕ) → number_in (whole (pos m)) ≡ Ok n → n ≡ m
    if_number m n e = grind (arith, nat_tests, e)
number_whole (whole (negsuc m)) n e = absurd (cc)
number_whole (words s) n e = absurd (cc)
number_whole (list ds) n e = absurd (cc)
number_whole (dict ms) n e = absurd (cc)

-- what a reading gives
abbrev given : {A : Type 0} → A → Result A BodyFault
given x = Ok x

ok_same : {A : Type 0} (x y : A) → given x ≡ given y → x ≡ y
ok_same x y e = cc

at_number : (n : ℕ) (t : Table) → table_at n ≡ Ok t → table_number t ≡ n
at_number zero t e = absurd (cc)
at_number (suc zero) t e = ap table_number (sym (ok_same Counters t e))
at_number (suc (suc zero)) t e = ap table_number (sym (ok_same Providers t e))
at_number (suc (suc (suc zero))) t e = ap table_number (sym (ok_same ItemsTable t e))
at_number (suc (suc (suc (suc zero)))) t e = ap table_number (sym (ok_same Shelf t e))
at_number (suc (suc (suc (suc (suc zero))))) t e = ap table_number (sym (ok_same Records t e))
at_number (suc (suc (suc (suc (suc (suc zero)))))) t e = ap table_number (sym (ok_same Orphans t e))
at_number (suc (suc (suc (suc (suc (suc (suc zero))))))) t e = ap table_number (sym (ok_same Settings t e))
at_number (suc (suc (suc (suc (suc (suc (suc (suc zero)))))))) t e = ap table_number (sym (ok_same Trees t e))
at_number (suc (suc (suc (suc (suc (suc (suc (suc (suc n))))))))) t e = absurd (cc)

table_whole : (d : Data) (t : Table) → table_in d ≡ Ok t → table_data t ≡ d
table_whole d t e =
    let n = through (number_in d) table_at t e in
    ap (λ (k : ℕ). whole (pos k)) (at_number n.0 t n.2) ∙ number_whole d n.0 n.1

words_whole : (d : Data) (s : List ℕ) → words_in d ≡ Ok s → words s ≡ d
words_whole null s e = absurd (cc)
words_whole (flag b) s e = absurd (cc)
words_whole (whole z) s e = absurd (cc)
words_whole (words w) s e = ap words (sym (ok_same w s e))
words_whole (list ds) s e = absurd (cc)
words_whole (dict ms) s e = absurd (cc)

-- the trees of the row that a change is of
key_whole : (a b : Data) (k : RowKey) → key_in a b ≡ Ok k → (table_data k.0 ≡ a) × (words k.1 ≡ b)
key_whole a b k e =
    let t = through (table_in a) (λ (u : Table). and_then (words_in b) (λ w. Ok (u, w))) k e in
    let w = through (words_in b) (λ (v : List ℕ). Ok (t.0, v)) k t.2 in
    let same = ok_same (t.0, w.0) k w.2 in
    (ap (λ (q : RowKey). table_data q.0) (sym same) ∙ table_whole a t.0 t.1, ap (λ (q : RowKey). words q.1) (sym same) ∙ words_whole b w.0 w.1)

gone_whole : (a b : Data) (c : RowKey × Change) → gone_in a b ≡ Ok c → change_data c ≡ list (item a (item b no_items))
gone_whole a b c e =
    let k = through (key_in a b) (λ (q : RowKey). Ok (q, Gone)) c e in
    let parts = key_whole a b k.0 k.1 in
    ap change_data (sym (ok_same (k.0, Gone) c k.2)) ∙ (λ i. list (item (parts.0 i) (item (parts.1 i) no_items)))

put_whole : (a b v : Data) (c : RowKey × Change) → put_in a b v ≡ Ok c → change_data c ≡ list (item a (item b (item v no_items)))
put_whole a b v c e =
    let k = through (key_in a b) (λ (q : RowKey). and_then (words_in v) (λ w. Ok (q, Put w))) c e in
    let w = through (words_in v) (λ (u : List ℕ). Ok (k.0, Put u)) c k.2 in
    let parts = key_whole a b k.0 k.1 in
    let value = words_whole v w.0 w.1 in
    ap change_data (sym (ok_same (k.0, Put w.0) c w.2)) ∙ (λ i. list (item (parts.0 i) (item (parts.1 i) (item (value i) no_items))))

change_whole : (d : Data) (c : RowKey × Change) → change_in d ≡ Ok c → change_data c ≡ d
change_whole null c e = absurd (cc)
change_whole (flag b) c e = absurd (cc)
change_whole (whole z) c e = absurd (cc)
change_whole (words s) c e = absurd (cc)
change_whole (list no_items) c e = absurd (cc)
change_whole (list (item a no_items)) c e = absurd (cc)
change_whole (list (item a (item b no_items))) c e = gone_whole a b c e
change_whole (list (item a (item b (item v no_items)))) c e = put_whole a b v c e
change_whole (list (item a (item b (item v (item d ds))))) c e = absurd (cc)
change_whole (dict ms) c e = absurd (cc)

front_parts : (x : RowKey × Change) (more : Result Changes BodyFault) (cs : Changes) → with_front (x ∷ []) more ≡ Ok cs → (rest : Changes) × (more ≡ Ok rest) × (x ∷ rest ≡ cs)
front_parts x (Ok rest) cs e = (rest, refl, ok_same (x ∷ rest) cs e)
front_parts x (Err b) cs e = absurd (cc)

onto_parts : (r : Result (RowKey × Change) BodyFault) (more : Result Changes BodyFault) (cs : Changes) → onto r more ≡ Ok cs → (x : RowKey × Change) × (rest : Changes) × (r ≡ Ok x) × (more ≡ Ok rest) × (x ∷ rest ≡ cs)
onto_parts (Ok x) more cs e = let p = front_parts x more cs e in (x, p.0, refl, p.1, p.2)
onto_parts (Err b) more cs e = absurd (cc)

changes_whole : (ds : Items) (cs : Changes) → changes_of ds ≡ Ok cs → items_of (map change_data cs) ≡ ds
changes_whole no_items cs e = ap (λ (l : Changes). items_of (map change_data l)) (sym (ok_same [] cs e))
changes_whole (item d ds) cs e =
    let p = onto_parts (change_in d) (changes_of ds) cs e in
    ap (λ (l : Changes). items_of (map change_data l)) (sym p.4)
    ∙ (λ i. item (change_whole d p.0 p.2 i) (changes_whole ds p.1 p.3 i))

pub batch_whole : (d : Data) (cs : Changes) → changes_in d ≡ Ok cs → batch_data cs ≡ d
batch_whole null cs e = absurd (cc)
batch_whole (flag b) cs e = absurd (cc)
batch_whole (whole z) cs e = absurd (cc)
batch_whole (words s) cs e = absurd (cc)
batch_whole (list ds) cs e = ap list (changes_whole ds cs e)
batch_whole (dict ms) cs e = absurd (cc)

-- ---- what the reader of a body says

-- a list of two or three trees
pub two : (ts : List Tree) (a b : Tree) → length ts ≡ 2 → a ≡ get_or ts 0 a → b ≡ get_or ts 1 b → change_of (items_of (map data_of ts)) ≡ gone_in (data_of a) (data_of b)
two [] a b e p q = absurd (omega (arith, e))
two (x ∷ []) a b e p q = absurd (omega (arith, e))
two (x ∷ y ∷ []) a b e p q = λ i. gone_in (data_of (sym p i)) (data_of (sym q i))
two (x ∷ y ∷ z ∷ ts) a b e p q = absurd (omega (arith, e))

pub three : (ts : List Tree) (a b v : Tree) → length ts ≡ 3 → a ≡ get_or ts 0 a → b ≡ get_or ts 1 b → v ≡ get_or ts 2 v → change_of (items_of (map data_of ts)) ≡ put_in (data_of a) (data_of b) (data_of v)
three [] a b v e p q r = absurd (omega (arith, e))
three (x ∷ []) a b v e p q r = absurd (omega (arith, e))
three (x ∷ y ∷ []) a b v e p q r = absurd (omega (arith, e))
three (x ∷ y ∷ z ∷ []) a b v e p q r = λ i. put_in (data_of (sym p i)) (data_of (sym q i)) (data_of (sym r i))
three (x ∷ y ∷ z ∷ w ∷ ts) a b v e p q r = absurd (omega (arith, e))

pub other : (ts : List Tree) → length ts ≢ 2 → length ts ≢ 3 → change_of (items_of (map data_of ts)) ≡ Err NoBatch
other [] p q = refl
other (x ∷ []) p q = refl
other (x ∷ y ∷ []) p q = absurd (p (omega arith))
other (x ∷ y ∷ z ∷ []) p q = absurd (q (omega arith))
other (x ∷ y ∷ z ∷ w ∷ ts) p q = refl

-- one more at the end of the front
pub with_front-push : {A : Type 0} (xs : List A) (x : A) (more : Result (List A) BodyFault) → with_front (xs ++ x ∷ []) more ≡ with_front xs (onto (Ok x) more)
with_front-push xs x (Ok ys) = ap Ok (append_assoc xs (x ∷ []) ys)
with_front-push xs x (Err e) = refl

-- what is left at i is the tree there, and what is left after it
tree_left : (ts : List Tree) (i : ℕ) (t d : Tree) → i < length ts → t ≡ get_or ts i d → changes_of (items_of (map data_of (drop i ts))) ≡ onto (change_in (data_of t)) (changes_of (items_of (map data_of (drop (i + 1) ts))))
tree_left ts i t d short at =
    rw (add-one i) (ap (λ us. changes_of (items_of (map data_of us))) (drop-cons ts i d short)
    ∙ ap (λ u. onto (change_in (data_of u)) (changes_of (items_of (map data_of (drop (suc i) ts))))) (sym at))

-- the changes so far, grown by that of the tree at i
pub changes_further : (ts : List Tree) (i : ℕ) (t d : Tree) (front grown : Changes) (x : RowKey × Change) → i < length ts → t ≡ get_or ts i d → change_in (data_of t) ≡ Ok x → grown ≡ front ++ x ∷ [] → with_front grown (changes_of (items_of (map data_of (drop (i + 1) ts)))) ≡ with_front front (changes_of (items_of (map data_of (drop i ts))))
changes_further ts i t d front grown x short at made e =
    rw e (with_front-push front x (changes_of (items_of (map data_of (drop (i + 1) ts))))
    ∙ sym (ap (with_front front) (tree_left ts i t d short at
    ∙ ap (λ r. onto r (changes_of (items_of (map data_of (drop (i + 1) ts))))) made)))

-- what was written is the text of the batch
pub written_text : (cs : Changes) (d : Data) → d ≡ batch_data cs → IsTrue (is_sorted row_cmp cs) → (IsNarrow d → depth_of d ≤ 127 → ReadsAs (text_of d) d) → IsText cs (batch_text cs)
written_text cs d is rising back =
    let reads = subst (λ (e : Data). IsNarrow e → depth_of e ≤ 127 → ReadsAs (text_of e) e) is back (batch_narrow cs) (batch_depth cs) in
    record { spelled = refl; utf8 = reads.1.0; rising = rising }

-- a body that reads as no tree of a batch is the text of none
pub none_tree : {T : Type 0} (body : List ℕ) (r : Result T BodyFault) (y e : BodyFault) → r ≡ Err y → y ≡ e → (e ≡ NoBatch → (cs : Changes) → ReadsAs body (batch_data cs) → ⊥) → r ≡ Err NoBatch → (cs : Changes) → IsText cs body → ⊥
none_tree body r y e p q none bad cs is =
    let same : e ≡ NoBatch = cc in
    none same cs (text_reads cs body is)

pub none_changes : {T : Type 0} (body : List ℕ) (d : Data) (r : Result T BodyFault) (y e : BodyFault) → r ≡ Err y → y ≡ e → (changes_in d ≡ Err e) ⊎ (e ≡ NoMemory) → ReadsAs body d → r ≡ Err NoBatch → (cs : Changes) → IsText cs body → ⊥
none_changes body d r y e p q (inl none) reads bad cs is =
    let found : changes_in d ≡ Ok cs = text_changes cs body d reads is in
    cc
none_changes body d r y e p q (inr memory) reads bad cs is = cc

pub read_text : (body : List ℕ) (d : Data) (cs : Changes) (b : Bool) → ReadsAs body d → changes_in d ≡ Ok cs → (IsTrue b ↔ (text_of d ≡ body)) → b ≡ true → IsTrue (is_sorted row_cmp cs) → IsText cs body
read_text body d cs b reads found tests holds rising =
    record { spelled = ap text_of (batch_whole d cs found) ∙ tests.0 holds; utf8 = reads.1.0; rising = rising }

pub no_rise : (body : List ℕ) (d : Data) (found : Changes) (b : Bool) → ReadsAs body d → changes_in d ≡ Ok found → b ≡ is_sorted row_cmp found → b ≡ false → (cs : Changes) → IsText cs body → ⊥
no_rise body d found b reads first is fails cs text =
    let second : changes_in d ≡ Ok cs = text_changes cs body d reads text in
    let same : found ≡ cs = ok_same found cs (sym first ∙ second) in
    true≢false (sym text.rising ∙ (ap (is_sorted row_cmp) (sym same) ∙ (sym is ∙ fails)))

pub no_text : (body : List ℕ) (d : Data) (b : Bool) → ReadsAs body d → (IsTrue b ↔ (text_of d ≡ body)) → b ≡ false → (cs : Changes) → IsText cs body → ⊥
no_text body d b reads tests fails cs text =
    let same : d ≡ batch_data cs = reads_one body d (batch_data cs) reads (text_reads cs body text) in
    true≢false (sym (tests.1 (ap text_of same ∙ text.spelled)) ∙ fails)
