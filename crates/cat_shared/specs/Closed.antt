-- How a book ends.
use Rattle.std.specs.Prelude.{◌≡◌, List}
use Rattle.std.specs.declared.option.Option.TheVariants.{Some}
use mathlib.Core.List.{IsPrefix}
use Rattle.cat_model.specs.Catalogue.{Rules}
use Rattle.cat_model.specs.declared.types.Settings.{Settings}
use Rattle.cat_model.specs.declared.types.State.{State}
use Rattle.cat_shared.specs.Replay.{replay}
use Rattle.cat_shared.specs.declared.entry.Entry.{Entry}

-- A journal, which begins with what was seen of it, leads from the opening state to the last one.
pub record IsClosed (rules : Rules) (s : Settings) (opening : State) (seen journal : List Entry) (last : State) : Type 0 where
  pub begins : IsPrefix seen journal
  pub replayed : replay rules s opening journal ≡ Some last
