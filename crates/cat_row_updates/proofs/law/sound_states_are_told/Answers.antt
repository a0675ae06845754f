use Rattle.std.proofs.Common.{arith}
use Rattle.cat_stored_rows.proofs.In.{none_some}
use Rattle.cat_row_updates.proofs.Narrow.{firsts_narrow}
use Rattle.cat_row_updates.proofs.Started.{told_start}
use Rattle.cat_row_updates.proofs.law.sound_states_are_told.Goals as goal

pub returns-clause-begins : goal.returns-clause-begins
returns-clause-begins c = (told_start, record { names = λ p x e. absurd (none_some e); small = omega arith; once = λ r x output e f. absurd (none_some e) })

pub returns-clause-sound : goal.returns-clause-sound
returns-clause-sound c rules form m sound formed narrow = record {
  offers = sound.offers;
  records = sound.records;
  narrow = narrow;
  items_in_order = λ p x f. (formed.providers p x f).in_order;
  providers_in_order = formed.providers_in_order;
  shelf_in_order = formed.shelf_in_order;
  rows_in_order = sound.rows_in_order;
  holders_in_order = sound.holders_in_order;
  records_in_order = sound.in_order;
  orphans_in_order = formed.orphans_in_order;
}

pub returns-clause-first : goal.returns-clause-first
returns-clause-first c m t placed = firsts_narrow m t placed
