-- The rows of an empty catalogue tell it.
use Rattle.std.proofs.Common.{◌≡◌, refl, arith}
use Rattle.std.specs.declared.option.Option.TheVariants.{Some}
use Rattle.cat_types.specs.declared.input.Offered.{Offered}
use Rattle.cat_model.specs.Catalogue.{Ref}
use Rattle.cat_model.specs.Sound.{HasRow, offered}
use Rattle.cat_model.specs.Step.{start}
use Rattle.cat_model.specs.declared.types.Origin.{Origin}
use Rattle.cat_model.specs.declared.types.Origin.TheVariants.{Provider, Entity}
use Rattle.cat_model.specs.declared.types.OrphanRule.TheVariants.{Keep, Delete}
use Rattle.cat_stored_rows.specs.Told.{AreNarrow, IsTold}
use Rattle.cat_stored_rows.proofs.In.{none_some}

nothing_shown : (o : Origin) (r : Ref) (x : Offered) → offered start o r ≡ Some x → HasRow start.rows o r x
nothing_shown (Provider p) r x e = absurd (none_some e)
nothing_shown (Entity q) r x e = absurd (none_some e)

narrow_start : AreNarrow start
narrow_start Keep = tt
narrow_start Delete = (omega arith, (omega arith, ((tt, (omega arith, tt)), tt)))

pub told_start : IsTold start
told_start = record {
  offers = record {
    given = λ a row e. absurd (none_some e);
    shown = nothing_shown;
    below = λ a row e. absurd (none_some e);
    once = λ a b row other e f origin reference. absurd (none_some e);
  };
  records = λ r. refl;
  narrow = narrow_start;
  items_in_order = λ p x e. absurd (none_some e);
  providers_in_order = tt;
  shelf_in_order = tt;
  rows_in_order = tt;
  holders_in_order = tt;
  records_in_order = tt;
  orphans_in_order = tt;
}
