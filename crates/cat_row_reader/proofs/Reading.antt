-- Texts that spell rows.
use Rattle.std.proofs.Common.{◌≡◌, List, [], ◌∷◌, ◌++◌, append-nil, append_assoc, refl, sym, ap, subst, ◌∙◌}
use Rattle.std.specs.Prelude.{IsUtf8}
use Rattle.cat_tree.specs.Read.{ReadsAs}
use Rattle.cat_tree.specs.Text.{text_of}
use Rattle.cat_tree.proofs.Back.{reads_back}
use Rattle.cat_collections.specs.Table.{Text}
use Rattle.cat_keeper.specs.Store.{RowKey, Rows}
use Rattle.cat_row_format.specs.Spelled.{IsSpelling}
use Rattle.cat_row_format.specs.Text.{row_data, row_key, row_table}
use Rattle.cat_row_format.specs.declared.row.StoredRow.{StoredRow}
use Rattle.cat_row_format.proofs.Alone.{spelled_in}
use Rattle.cat_row_reader.specs.Read.{AreRead, AreTextsOf, IsSpelled, IsTextOf}

-- texts that are UTF-8 spell the row that they are of
pub spelled : (e : RowKey × Text) (row : StoredRow) → IsTextOf e row → IsUtf8 e.1 → IsSpelled e row
spelled e row t utf8 =
    let value : e.1 ≡ text_of (row_data row) = ap (λ (x : RowKey × Text). x.1) t.texts in
    let reads = reads_back (row_data row) t.storable.narrow t.proper t.storable.depth (subst IsUtf8 value utf8) in
    record {
      storable = t.storable;
      named = t.named;
      table_is = ap (λ (x : RowKey × Text). x.0.0) t.texts;
      key_is = ap (λ (x : RowKey × Text). x.0.1) t.texts;
      value_is = value;
      reads = subst (λ v. ReadsAs v (row_data row)) (sym value) reads;
    }

-- the rows so far with one row more
pub one_read : (all : Rows) (e : RowKey × Text) (es : Rows) (made : List StoredRow) (row : StoredRow)
    → ((xs : List StoredRow) → AreRead (e ∷ es) xs → AreRead all (made ++ xs)) → IsSpelled e row → (xs : List StoredRow) → AreRead es xs → AreRead all ((made ++ row ∷ []) ++ xs)
one_read all e es made row so s xs h = subst (AreRead all) (sym (append_assoc made (row ∷ []) xs)) (so (row ∷ xs) (s, h))

-- the first text is of a row, and the rest is of rows
pub first_of : (e : RowKey × Text) (es : Rows) (xs : List StoredRow) → AreTextsOf (e ∷ es) xs → (row : StoredRow) × IsTextOf e row × (rows : List StoredRow) × AreTextsOf es rows
first_of e es [] h = absurd h
first_of e es (row ∷ rows) h = (row, h.0, rows, h.1)

-- what spells two rows spells one
pub one_spelled : (e : RowKey × Text) (a b : StoredRow) → IsSpelled e a → IsSpelled e b → a ≡ b
one_spelled e a b s t =
    let first = spelled_in a e.0.0 e.0.1 e.1 (row_data a) s s.reads in
    let second = spelled_in b e.0.0 e.0.1 e.1 (row_data a) t s.reads in
    cc

-- rows that are read are those that the texts are of
pub read_are : (es : Rows) (xs ys : List StoredRow) → AreRead es xs → AreTextsOf es ys → xs ≡ ys
read_are [] [] [] h g = refl
read_are [] [] (y ∷ ys) h g = absurd g
read_are [] (x ∷ xs) ys h g = absurd h
read_are (e ∷ es) [] ys h g = absurd h
read_are (e ∷ es) (x ∷ xs) [] h g = absurd g
read_are (e ∷ es) (x ∷ xs) (y ∷ ys) h g =
    let same : x ≡ y = one_spelled e x y h.0 (spelled e y g.0 h.0.reads.1.0) in
    let rest : xs ≡ ys = read_are es xs ys h.1 g.1 in
    λ i. same i ∷ rest i

-- ---- on the way through the texts of a store

-- the rows that are still to be read
pub rest_read : (all : Rows) (l : Rows) (e : RowKey × Text) (es : Rows) (made : List StoredRow) (row : StoredRow) → l ≡ e ∷ es
    → ((xs : List StoredRow) → AreRead l xs → AreRead all (made ++ xs)) → IsSpelled e row → (xs : List StoredRow) → AreRead es xs → AreRead all ((made ++ row ∷ []) ++ xs)
rest_read all l e es made row is so s xs h = one_read all e es made row (λ ys g. so ys (subst (λ k. AreRead k ys) (sym is) g)) s xs h

pub rest_texts : (all : Rows) (l : Rows) (e : RowKey × Text) (es : Rows) → l ≡ e ∷ es
    → ((xs : List StoredRow) → AreTextsOf all xs → (ys : List StoredRow) × AreTextsOf l ys) → (xs : List StoredRow) → AreTextsOf all xs → (ys : List StoredRow) × AreTextsOf es ys
rest_texts all l e es is so xs h =
    let now = so xs h in
    let f = first_of e es now.0 (subst (λ k. AreTextsOf k now.0) is now.1) in
    (f.2, f.3)

-- texts that spell no row are of no rows
pub none_read : (all : Rows) (l : Rows) (e : RowKey × Text) (es : Rows) → l ≡ e ∷ es
    → ((xs : List StoredRow) → AreTextsOf all xs → (ys : List StoredRow) × AreTextsOf l ys) → IsUtf8 e.1 → ((row : StoredRow) → IsSpelled e row → ⊥) → (xs : List StoredRow) → AreTextsOf all xs → ⊥
none_read all l e es is so utf8 none xs h =
    let now = so xs h in
    let f = first_of e es now.0 (subst (λ k. AreTextsOf k now.0) is now.1) in
    none f.0 (spelled e f.0 f.1 utf8)

-- all are read
pub all_read : (all : Rows) (l : Rows) (made : List StoredRow) → l ≡ [] → ((xs : List StoredRow) → AreRead l xs → AreRead all (made ++ xs)) → AreRead all made
all_read all l made is so = subst (AreRead all) (append-nil made) (so [] (subst (λ k. AreRead k []) (sym is) tt))
