use Rattle.std.proofs.Common.{lit<, sym, ◌∙◌}
use Rattle.cat_target.proofs.Cuts.{named, not_typed, no_target, no_colon}
use Rattle.cat_target.proofs.base.base_named.Goals as goal
use Rattle.cat_target.proofs.base.base_named.Goals.{else-is_location_type-via-then-is_location_type+else-not-is_empty, else-is_location_type-via-else-is_location_type}

pub returns-then-not-is_empty : goal.returns-then-not-is_empty
returns-then-not-is_empty c =
    let h = c.in-Some.ensures.byte (lit< tt) (λ w o k. k) in
    named _ _ _ h.0 h.1 (sym c.is_location_type.ensures ∙ c.if-is_location_type.true) (sym c.is_empty.ensures ∙ c.if-not-is_empty.true)

pub returns-else-is_location_type : goal.returns-else-is_location_type
returns-else-is_location_type c =
    let h = c.in-Some.ensures.byte (lit< tt) (λ w o k. k) in
    elim c.else-is_location_type.branch [
      | else-is_location_type-via-then-is_location_type+else-not-is_empty w ↦
          no_target _ _ _ h.0 h.1 (sym c.is_location_type.ensures ∙ w.if-is_location_type.true) (sym w.is_empty.ensures ∙ w.if-not-is_empty.false)
      | else-is_location_type-via-else-is_location_type w ↦
          not_typed _ _ _ h.0 h.1 (sym c.is_location_type.ensures ∙ w.if-is_location_type.false)
    ]

pub returns-in-None : goal.returns-in-None
returns-in-None c = no_colon _ (c.in-None.ensures.byte (lit< tt) (λ w o k. k))
