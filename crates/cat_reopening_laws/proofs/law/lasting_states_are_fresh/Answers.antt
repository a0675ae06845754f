use Rattle.std.proofs.Common.{refl}
use Rattle.cat_feed.specs.Feed.{begun}
use Rattle.cat_layers.specs.Layered.{layered}
use Rattle.cat_model.specs.Step.{start}
use Rattle.cat_session_model.specs.Program.{program_settings}
use Rattle.cat_reopening_laws.proofs.Connected.{wire_items_serve}
use Rattle.cat_reopening_laws.proofs.Lasting.{lasting_may_open}
use Rattle.cat_reopening_laws.proofs.Lasts.{start_lasts}
use Rattle.cat_reopening_laws.specs.Reached.{connected}
use Rattle.cat_reopening_laws.proofs.law.lasting_states_are_fresh.Goals as goal

pub returns-clause-lasting : goal.returns-clause-lasting
returns-clause-lasting c m now is quiet = c.quiet_is_fresh.ensures layered m now (lasting_may_open m is).sound quiet

pub returns-clause-connections : goal.returns-clause-connections
returns-clause-connections c rule items words now quiet =
    let serves = wire_items_serve rule (record { catalogue = record { settings = program_settings rule; state = start }; feed = begun 0 }) items words (record { settings = refl; lasts = start_lasts }) in
    c.quiet_is_fresh.ensures layered (connected rule items words) now serves.lasts.holds.sound quiet
