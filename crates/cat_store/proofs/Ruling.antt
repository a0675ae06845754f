-- Under which rule for orphans rows stand.
use Rattle.std.proofs.Common.{◌≡◌, Bool, true, false, sym, ap, ◌∙◌}
use Rattle.std.specs.Prelude.{if◌then◌else◌}
use Rattle.cat_keeper.specs.Store.{Rows}
use Rattle.cat_model.specs.declared.types.OrphanRule.{OrphanRule}
use Rattle.cat_model.specs.declared.types.OrphanRule.TheVariants.{Keep}
use Rattle.cat_model.specs.declared.types.State.{State}
use Rattle.cat_stored_rows.specs.Stored.{texts_of}
use Rattle.cat_store.specs.Opened.{HasRule, is_first, rows_in}

module _ (rows : Rows) (found rule : OrphanRule) (first : Bool) (tests : first ≡ is_first rows) (is : rule ≡ (if first then Keep else found)) where
  -- in the second version it is the one that was found
  pub second_rule : is_first rows ≡ false → rule ≡ found
  second_rule second = is ∙ ap (λ b. if b then Keep else found) (tests ∙ second)

  -- the rows of a state stand under the rule of that state
  pub has_rule : (m : State) → texts_of (rows_in (is_first rows) rule m) ≡ rows → HasRule rows rule m
  has_rule m same = (same, λ one. is ∙ ap (λ b. if b then Keep else found) (tests ∙ one))
