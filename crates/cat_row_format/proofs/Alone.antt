-- A row has one spelling, and a spelling one row.
use Rattle.std.proofs.Common.{◌≡◌, ℕ, List, Result, Ok, Err, Some, true, false, true≢false, inl, inr, sym, ap, ◌∙◌}
use Rattle.std.specs.Prelude.{Bool, ◌↔◌, ◌⊎◌, IsTrue}
use Rattle.cat_collections.specs.Table.{Text}
use Rattle.cat_tree.specs.Data.{Data}
use Rattle.cat_tree.specs.Text.{text_of}
use Rattle.cat_tree.specs.Read.{ReadsAs, tree_of}
use Rattle.cat_keeper.specs.declared.table.Table.{Table}
use Rattle.cat_row_format.specs.Formed.{is_formed, IsStorable}
use Rattle.cat_row_format.specs.Parsed.{row_in}
use Rattle.cat_row_format.specs.Spelled.{IsNamed, IsSpelling}
use Rattle.cat_row_format.specs.Text.{row_table, row_key, row_data}
use Rattle.cat_row_format.specs.declared.row.RowFault.{RowFault}
use Rattle.cat_row_format.specs.declared.row.RowFault.TheVariants.{BadRow, NoMemory}
use Rattle.cat_row_format.specs.declared.row.StoredRow.{StoredRow}
use Rattle.cat_row_format.proofs.Back.{row_back}

-- a text reads as one tree
pub reads_one : (v : Text) (d e : Data) → ReadsAs v d → ReadsAs v e → d ≡ e
reads_one v d e p q =
    let first : Some p.0 ≡ Some q.0 = sym p.1.1 ∙ q.1.1 in
    let same : p.0 ≡ q.0 = cc in
    sym p.3 ∙ (ap tree_of same ∙ q.3)

-- where a value reads as a tree, a row with this spelling is the row that the tree has in it
pub spelled_in : (row : StoredRow) (table : Table) (key value : Text) (d : Data) → IsSpelling row table key value → ReadsAs value d → row_in table key d ≡ Ok row
spelled_in row table key value d s reads =
    let tree : d ≡ row_data row = reads_one value d (row_data row) reads s.reads in
    (λ i. row_in (s.table_is i) (s.key_is i) (tree i))
    ∙ row_back row s.storable.formed s.named s.storable.narrow

-- and it is the only one
pub only_one : (table : Table) (key value : Text) (d : Data) (row other : StoredRow) → row_in table key d ≡ Ok row → ReadsAs value d → IsSpelling other table key value → other ≡ row
only_one table key value d row other first reads s =
    let second : row_in table key d ≡ Ok other = spelled_in other table key value d s reads in
    cc

-- so is a row whose own texts these are
pub written_alone : (row : StoredRow) (table : Table) (key value : Text) (d : Data) → IsStorable row → IsNamed row
    → table ≡ row_table row → key ≡ row_key row → d ≡ row_data row → ReadsAs value d
    → (other : StoredRow) → IsSpelling other table key value → other ≡ row
written_alone row table key value d storable named table_is key_is tree reads other s =
    let first : row_in table key d ≡ Ok row = (λ i. row_in (table_is i) (key_is i) (tree i)) ∙ row_back row storable.formed named storable.narrow in
    only_one table key value d row other first reads s

-- a tree that has no row in it is that of no spelling
pub refused : (table : Table) (key value : Text) (d : Data) (r : Result StoredRow RowFault) (y e : RowFault) → r ≡ Err y → y ≡ e
    → (row_in table key d ≡ Err e) ⊎ (e ≡ NoMemory) → ReadsAs value d
    → r ≡ Err BadRow → (row : StoredRow) → IsSpelling row table key value → ⊥
refused table key value d r y e p q (inl none) reads bad row s =
    let first : row_in table key d ≡ Ok row = spelled_in row table key value d s reads in
    cc
refused table key value d r y e p q (inr memory) reads bad row s = cc

-- where the texts are not those of the row in the tree, they are those of none
pub no_texts : (table : Table) (key value : Text) (d : Data) (row : StoredRow) (b : Bool) → row_in table key d ≡ Ok row → ReadsAs value d
    → (IsTrue b ↔ ((table ≡ row_table row) × (key ≡ row_key row) × (d ≡ row_data row) × (value ≡ text_of d))) → b ≡ false
    → (other : StoredRow) → IsSpelling other table key value → ⊥
no_texts table key value d row b first reads tests fails other s =
    let same : other ≡ row = only_one table key value d row other first reads s in
    let tree : d ≡ row_data other = reads_one value d (row_data other) reads s.reads in
    let holds : b ≡ true = tests.1 (
      s.table_is ∙ ap row_table same,
      s.key_is ∙ ap row_key same,
      tree ∙ ap row_data same,
      s.value_is ∙ ap text_of (sym tree),
    ) in
    true≢false (sym holds ∙ fails)

-- nor where that row is not well-formed
pub no_form : (table : Table) (key value : Text) (d : Data) (row : StoredRow) → row_in table key d ≡ Ok row → ReadsAs value d
    → is_formed row ≡ false → (other : StoredRow) → IsSpelling other table key value → ⊥
no_form table key value d row first reads fails other s =
    let same : other ≡ row = only_one table key value d row other first reads s in
    true≢false (sym s.storable.formed ∙ (ap is_formed same ∙ fails))
