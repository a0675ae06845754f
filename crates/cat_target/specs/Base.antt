-- What the targets of a Location are seen from.
use Rattle.std.specs.Prelude.{ℕ, ◌==◌, Bool, not, ◌&&◌, List, length, Option, Some, None, if◌then◌else◌}
use Rattle.std.specs.List.{before_first, after_first}
use Rattle.cat_types.specs.Names.{is_location_type}
use Rattle.cat_target.specs.declared.base.Base.{Base as Lent}

-- the location that a Location was read from, by its type and its target
pub record Base : Type 0 where
  pub kind : List ℕ
  pub target : List ℕ

-- the base that one of the code stands for
abbrev pub as_base : Lent → Base
as_base b = record { kind = b.kind.now; target = b.target.now }

-- the byte is a colon
abbrev pub is_colon : ℕ → Bool
is_colon b = b == 58

-- the base of these parts, where the one is a location type and the other isn't empty
abbrev pub base_if_named : List ℕ → List ℕ → Option Base
base_if_named kind target =
    if is_location_type kind && not (length target == 0) then Some (record { kind = kind; target = target }) else None

-- the base that a text names, by what stands before its first `:` and after it
unfoldable pub base_named : List ℕ → Option Base
base_named s = base_if_named (before_first is_colon s) (after_first is_colon s)
