-- How far a walk over old and new rows has come.
use Rattle.std.specs.Prelude.{◌≡◌, true, List, [], ◌∷◌, ◌++◌, take, drop, map, ⊤}
use Rattle.std.specs.FinMap.Entries.{below_all}
use Rattle.cat_collections.specs.Table.{Text}
use Rattle.cat_keeper.specs.Store.{RowKey, Rows, Changes, row_cmp, applied}
use Rattle.cat_stored_rows.specs.Differing.{AreNeeded}
use Rattle.cat_stored_rows.specs.declared.walk.Walk.{Walk}

-- each row with what is told of it
abbrev pub told_all : {X : Type 0} → (X → Text) → List (RowKey × X) → Rows
told_all f rows = map (λ e. (e.0, f e.1)) rows

-- each of these stands below all of those rows
abbrev pub Precede : {V X : Type 0} → List (RowKey × V) → List (RowKey × X) → Type 0
Precede [] rows = ⊤
Precede (e ∷ es) rows = (below_all row_cmp e.0 rows ≡ true) × Precede es rows

-- the changes make of the old rows those new ones that were passed, and behind them the old rows that are left; and what was
-- passed and changed stands below what is left
pub record Leads {X : Type 0} (told : X → Text) (changes : Changes) (start : Rows) (passed old new : List (RowKey × X)) : Type 0 where
  pub leads : applied changes start ≡ told_all told passed ++ told_all told old
  pub changes_old : Precede changes old
  pub changes_new : Precede changes new
  pub passed_old : Precede passed old
  pub passed_new : Precede passed new

-- the walk has passed so many old and new rows, with such changes, each of which is needed; and what was passed of the old rows stands below what is left of the new ones
pub record HasCome {X : Type 0} (told : X → Text) (old new : List (RowKey × X)) (walk : Walk) : Type 0 where
  pub leads : Leads told walk.batch (told_all told old) (take walk.to new) (drop walk.from old) (drop walk.to new)
  pub needed : AreNeeded old new walk.batch
  pub gone : Precede (take walk.from old) (drop walk.to new)
