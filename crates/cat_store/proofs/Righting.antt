-- A candidate that passed the test is right.
use Rattle.std.proofs.Common.{◌≡◌, ◌&&◌, ℕ, Bool, true, nat_le, sym, ◌∙◌}
use Rattle.std.proofs.lemmas.Bool.{leb-true}
use Rattle.cat_collections.proofs.Tables.{and_first, and_second}
use Rattle.cat_model.specs.Catalogue.{Rules}
use Rattle.cat_model.specs.declared.types.State.{State}
use Rattle.cat_row_reader.specs.Forms.{has_forms}
use Rattle.cat_store.specs.Opened.{IsRight}

pub is_right_candidate : (rules : Rules) (limit : ℕ) (m : State) (b : Bool) → b ≡ (has_forms m && nat_le (rules.bytes m.providers m.shelf) limit) → b ≡ true → IsRight rules limit m
is_right_candidate rules limit m b tests passes =
    let h : (has_forms m && nat_le (rules.bytes m.providers m.shelf) limit) ≡ true = sym tests ∙ passes in
    (and_first _ _ h, leb-true (rules.bytes m.providers m.shelf) limit (and_second (has_forms m) _ h))
