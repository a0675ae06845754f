-- What a pass and the turns are to a caller.
use Rattle.std.specs.Prelude.{◌≡◌, ℕ, ◌+◌, ◌≤◌, List}
use Rattle.atomic_table.specs.Seated.{TableId}
use Rattle.cat_turns.specs.declared.law.View.{View}

-- which turns it is of, its number, what it has seen of the value's list, and of how many passes it has seen that they were split off and joined
pub record Mine (E : Type 0) : Type 0 where
  pub turns : TableId
  pub number : ℕ
  pub seen : List E
  pub came : ℕ
  pub gone : ℕ

-- which turns they are, and how many seats they have
pub record Place : Type 0 where
  pub id : TableId
  pub seats : ℕ

module _ {E : Type 0} where
  -- the same pass, which may have seen more
  abbrev pub IsSamePass : Mine E → Mine E → Type 0
  IsSamePass old new = (new.turns ≡ old.turns) × (new.number ≡ old.number) × (old.came ≤ new.came) × (old.gone ≤ new.gone)

  -- so many passes are out, as the pass has seen: the first one, and those that came and aren't gone
  abbrev pub AreOut : ℕ → Mine E → Type 0
  AreOut n m = n + m.gone ≡ m.came + 1

  -- a view but for what it noted, and for the counts
  abbrev pub IsSameView : View E → View E → Type 0
  IsSameView v w = (w.stage ≡ v.stage) × (w.number ≡ v.number) × (w.seen ≡ v.seen)
