-- What a store follows, from what it followed before.
use Rattle.std.proofs.Common.{◌≡◌, ◌∙◌}
use Rattle.std.proofs.Math.Logic.{∥∥₁_map}
use Rattle.std.specs.declared.option.Option.{Option}
use Rattle.cat_keeper.specs.Answers.{Are}
use Rattle.cat_keeper.specs.Store.{Rows}
use Rattle.cat_model.specs.declared.types.OrphanRule.{OrphanRule}
use Rattle.cat_model.specs.declared.types.State.{State}
use Rattle.cat_stored_rows.specs.Stored.{Stored, stored, texts_of}
use Rattle.cat_stored_desk.specs.Followed.{IsFollowed}

pub followed : (told told' : Option Rows) (o o' : OrphanRule) (rows rows' : Stored) (rule rule' : OrphanRule) (m m' : State) → o' ≡ o → rule ≡ rule' → (Are told (texts_of rows) → Are told' (texts_of rows'))
    → (o ≡ rule → rows ≡ stored rule m → rows' ≡ stored rule' m') → ∥ IsFollowed told o rows rule m ∥₁ → ∥ IsFollowed told' o' rows' rule' m' ∥₁
followed told told' o o' rows rows' rule rule' m m' same_orphans same_rule tells next f =
    ∥∥₁_map f (λ h. record { rule_is = same_orphans ∙ (h.rule_is ∙ same_rule); rows_are = next h.rule_is h.rows_are; told_are = tells h.told_are })
