-- What is asked of a state whose rows are made from those of the state before it.
use Rattle.std.proofs.Common.{◌≡◌, true, arith}
use Rattle.std.specs.List.{list_all}
use Rattle.cat_model.specs.Sound.{AreOffers, AreSmall}
use Rattle.cat_model.specs.declared.types.State.{State}
use Rattle.cat_types.specs.Names.{is_name}
use Rattle.cat_row_updates.specs.Renewed.{IsKept}
use Rattle.cat_collections.proofs.Tables.{text_antisymmetric, text_total}
use Rattle.cat_stored_rows.proofs.In.{in_found, in_passes}

pub kept : (m : State) → AreOffers m → AreSmall m → list_all (λ e. is_name e.0) m.providers ≡ true → IsKept m
kept m offers small named = record {
  offers = offers;
  names = λ p x f. in_passes (λ e. is_name e.0) m.providers named (p, x) (in_found text_total text_antisymmetric p m.providers x f);
  small = let below = small.arrival in omega (arith, below);
}
