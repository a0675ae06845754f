-- Which row claims next among those that wait.
use Rattle.std.specs.Prelude.{◌≡◌, ℕ, ◌-◌, ◌<◌, Bool, true, ◌⊎◌, List, [], ◌∷◌}
use Rattle.std.specs.declared.option.Option.{Option}
use Rattle.std.specs.declared.option.Option.TheVariants.{None, Some}
use Rattle.std.specs.Ordering.{nat_cmp}
use Rattle.cat_collections.specs.Table.{first, keys}
use Rattle.cat_collections.specs.Rows.{without}
use Rattle.cat_model.specs.Catalogue.{Holders, Ref, Rows, claim, claims, row_at}
use Rattle.cat_model.specs.Rows.{Arrivals}
use Rattle.cat_claims.specs.Change.{among}

-- each row that may claim its reference waits
abbrev pub AllWait : Rows → List ℕ → Holders → Type 0
AllWait rows waiting holders = (a : ℕ) → claims holders (row_at rows a) ≡ true → among a waiting ≡ true

-- the first arrival, if there is one
abbrev pub head_of : Arrivals → Option ℕ
head_of [] = None
head_of (e ∷ es) = Some e.0

-- the first is taken off, if there is one
abbrev pub IsPopped : Arrivals → Option ℕ → Arrivals → Type 0
IsPopped before None left = head_of before ≡ None
IsPopped before (Some a) left = (head_of before ≡ Some a) × (left ≡ without nat_cmp a before)

-- the first that passes is found, if any does, and the others that pass are left
pub record IsFound (passes : ℕ → Bool) (before : List ℕ) (found : Option ℕ) (left : List ℕ) : Type 0 where
  pub first : found ≡ first passes before
  pub others : (a : ℕ) → among a before ≡ true → passes a ≡ true → (found ≡ Some a) ⊎ (among a left ≡ true)

-- a reference was claimed, so that one claim less is left; or none may be claimed
abbrev pub HasClaimed : Rows → Holders → Option Ref → Holders → Type 0
HasClaimed rows before (Some r) after = (n : ℕ) → 0 < n → claim (n - 1) rows (keys rows) after ≡ claim n rows (keys rows) before
HasClaimed rows before None after = (n : ℕ) → after ≡ claim n rows (keys rows) before
