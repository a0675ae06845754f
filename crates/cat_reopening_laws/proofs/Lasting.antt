-- Every state that the runs over one store come to may open.
use Rattle.std.proofs.Common.{refl}
use Rattle.cat_layers.specs.Layered.{layered}
use Rattle.cat_model.specs.declared.types.OrphanRule.TheVariants.{Keep}
use Rattle.cat_model.specs.declared.types.State.{State}
use Rattle.cat_reopening_laws.proofs.Opens.{may_open}
use Rattle.cat_reopening_laws.specs.Reached.{IsLasting, kept_over, wired_over}
use Rattle.cat_reopening_laws.specs.Reached.IsLasting.{begins, runs, serves, reopens}
use Rattle.cat_row_updates.specs.Right.{MayOpen}
use Rattle.cat_session_model.specs.Program.{program_settings}
use Rattle.cat_reopening_laws.proofs.Lasts.{Lasts, reopened_lasts, start_lasts}
use Rattle.cat_reopening_laws.proofs.Runs.{lines_last}
use Rattle.cat_reopening_laws.proofs.Connected.{items_serve}

lasting : (m : State) → IsLasting m → Lasts m
lasting m begins = start_lasts
lasting m (runs rule place n lines words h) = lines_last (kept_over rule place n) lines words (lasting n h)
lasting m (serves rule place n items words h) = (items_serve rule (wired_over rule place n) items words (record { settings = refl; lasts = lasting n h })).lasts
lasting m (reopens n h) = reopened_lasts n (lasting n h)

pub lasting_may_open : (m : State) → IsLasting m → MayOpen layered 67108864 m
lasting_may_open m is =
    let h = lasting m is in
    may_open (program_settings Keep) m h.holds.sound h.holds.small h.holds.formed h.stands
