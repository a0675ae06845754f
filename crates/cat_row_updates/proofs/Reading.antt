-- What is read from the rows of a state that is told is what that state opens again as.
use Rattle.std.proofs.Common.{◌≡◌, Bool, true, false, sym, subst, ap, ◌∙◌}
use Rattle.std.specs.Prelude.{IfSome}
use Rattle.std.specs.declared.option.Option.{Option}
use Rattle.std.specs.declared.option.Option.TheVariants.{None, Some}
use Rattle.cat_keeper.specs.Store.{Rows}
use Rattle.cat_model.specs.Catalogue.{Rules}
use Rattle.cat_model.specs.Step.{reopened}
use Rattle.cat_model.specs.declared.types.OrphanRule.{OrphanRule}
use Rattle.cat_model.specs.declared.types.OrphanRule.TheVariants.{Keep}
use Rattle.cat_model.specs.declared.types.State.{State}
use Rattle.cat_stored_rows.specs.Opened.{IsRead, is_first, rows_in}
use Rattle.cat_stored_rows.specs.First.{first}
use Rattle.cat_stored_rows.specs.Stored.{stored, tables, texts_of}
use Rattle.cat_stored_rows.specs.Told.{AreFirstNarrow, IsTold}
use Rattle.cat_row_updates.specs.Told.{HaveSameTexts, IsPlaced, IsReopened, OpensAs}
use Rattle.cat_row_updates.proofs.Both.{first_is_none, firsts_tell}
use Rattle.cat_row_updates.proofs.Narrow.{firsts_narrow}
use Rattle.cat_row_updates.proofs.Opening.{opens_as_one}
use Rattle.cat_row_updates.proofs.Same.{texts_tell}
use Rattle.cat_row_updates.proofs.Version.{stored_not_first}

module _ (rules : Rules) (m n : State) (t : IsTold m) (placed : IsPlaced m) (u : IsTold n) (is : IsReopened rules n) where
  pub same_opens : (rule other : OrphanRule) → HaveSameTexts rule m other n → n ≡ reopened rules m
  same_opens rule other same = sym is ∙ sym (opens_as_one rules m n t.records_in_order u.records_in_order (texts_tell rule other m n t u placed same).1)

  pub read_opens : (rule : OrphanRule) → IsRead (tables rule m) n → n ≡ reopened rules m
  unfolding tables
  read_opens rule read =
      let same : texts_of (stored read.0 n) ≡ texts_of (stored rule m) = ap (λ b. texts_of (rows_in b read.0 n)) (sym (stored_not_first rule m)) ∙ read.1 in
      same_opens rule read.0 (sym same)

  pub first_opens : AreFirstNarrow n → IsRead (texts_of (first m)) n → n ≡ reopened rules m
  first_opens others read = go (is_first (texts_of (first m))) read.1
    where
      go : (b : Bool) → texts_of (rows_in b read.0 n) ≡ texts_of (first m) → n ≡ reopened rules m
      go true same = sym is ∙ sym (opens_as_one rules m n t.records_in_order u.records_in_order (firsts_tell m n t u placed (firsts_narrow m t placed) others (sym same)))
      go false same = same_opens Keep read.0 (first_is_none read.0 m n t (sym same))

-- ---- what is read of rows

module _ (rules : Rules) (n : State) (u : IsTold n) (others : AreFirstNarrow n) (is : IsReopened rules n) where
  pub rows_open : (rows : Rows) → IsRead rows n → OpensAs rules rows n
  rows_open rows read = λ m t placed. (
    (λ rule e. read_opens rules m n t placed u is rule (subst (λ r. IsRead r n) e read)),
    (λ e. first_opens rules m n t placed u is others (subst (λ r. IsRead r n) e read)),
  )

  pub told_opens : (told : Option Rows) → IfSome told (λ rows. IsRead rows n) → IfSome told (λ rows. OpensAs rules rows n)
  told_opens None read = read
  told_opens (Some rows) read = rows_open rows read
