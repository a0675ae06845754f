-- What a cut at the first `:` says of a base.
use Rattle.std.proofs.Common.{◌≡◌, ℕ, ◌+◌, ◌==◌, Bool, true, false, not, ◌&&◌, List, [], length, Option, Some, None, if◌then◌else◌, refl, ap, sym, ◌∙◌, arith}
use Rattle.std.proofs.lemmas.List.{drop_all}
use Rattle.std.specs.List.{before_first, after_first, position_or_len}
use Rattle.cat_types.specs.Names.{is_location_type}
use Rattle.cat_target.specs.Base.{Base, is_colon, base_if_named, base_named}

abbrev base : List ℕ → List ℕ → Base
base kind target = record { kind = kind; target = target }

pub named : (s kind target : List ℕ) → kind ≡ before_first is_colon s → target ≡ after_first is_colon s → is_location_type kind ≡ true → (length target == 0) ≡ false → Some (base kind target) ≡ base_named s
unfolding base_named
named s kind target k t typed some =
    let e : base_if_named kind target ≡ Some (base kind target) = rw typed (rw some refl) in
    sym e ∙ (λ i. base_if_named (k i) (t i))

pub not_typed : (s kind target : List ℕ) → kind ≡ before_first is_colon s → target ≡ after_first is_colon s → is_location_type kind ≡ false → None ≡ base_named s
unfolding base_named
not_typed s kind target k t typed =
    let e : base_if_named kind target ≡ None = rw typed refl in
    sym e ∙ (λ i. base_if_named (k i) (t i))

pub no_target : (s kind target : List ℕ) → kind ≡ before_first is_colon s → target ≡ after_first is_colon s → is_location_type kind ≡ true → (length target == 0) ≡ true → None ≡ base_named s
unfolding base_named
no_target s kind target k t typed none =
    let e : base_if_named kind target ≡ None = rw typed (rw none refl) in
    sym e ∙ (λ i. base_if_named (k i) (t i))

abbrev base_with : Bool → List ℕ → Option Base
base_with b kind = if b && not (0 == 0) then Some (base kind []) else None

nothing_after : (kind : List ℕ) → base_if_named kind [] ≡ None
nothing_after kind = elim (is_location_type kind) as (λ b. base_with b kind ≡ None) [ true ↦ refl | false ↦ refl ]

pub no_colon : (s : List ℕ) → position_or_len is_colon s ≡ length s → None ≡ base_named s
unfolding base_named
no_colon s h =
    let e : after_first is_colon s ≡ [] = drop_all (position_or_len is_colon s + 1) s (omega arith) in
    sym (ap (λ t. base_if_named (before_first is_colon s) t) e ∙ nothing_after (before_first is_colon s))
