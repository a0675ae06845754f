use Rattle.std.proofs.Common.{[], ◌≡◌}
use Rattle.cat_laws.proofs.Fresh.{is_fresh}
use Rattle.cat_laws.proofs.Orphans.{settle_makes, step_makes, still_none}
use Rattle.cat_laws.proofs.Stands.{settle_keeps}
use Rattle.cat_laws.proofs.Steps.{step_kept}
use Rattle.cat_model.specs.Catalogue.{Rules}
use Rattle.cat_model.specs.Settle.{try_settle}
use Rattle.cat_model.specs.Sound.{Sound}
use Rattle.cat_model.specs.Step.{step}
use Rattle.cat_model.specs.declared.types.Settings.{Settings}
use Rattle.cat_model.specs.declared.types.State.{State}
use Rattle.std.proofs.Common.{List}
use Rattle.std.specs.declared.option.Option.TheVariants.{Some}
use Rattle.cat_run_laws.proofs.Journals.{replay_kept}
use Rattle.cat_run_laws.proofs.law.journals_keep_their_laws.Goals as goal
use Rattle.cat_shared.specs.Replay.{replay}
use Rattle.cat_shared.specs.declared.entry.Entry.{Entry}

replay_sound : (rules : Rules) (settings : Settings) (opening m : State) (journal : List Entry) → Sound rules opening → replay rules settings opening journal ≡ Some m → Sound rules m
replay_sound rules settings opening m journal sound led =
    replay_kept rules settings (Sound rules) (step_kept rules settings) (λ now limit n sound. (settle_keeps rules settings now limit n).sound sound) opening journal sound m led

pub returns-clause-sound : goal.returns-clause-sound
returns-clause-sound c rules settings opening m journal sound led = replay_sound rules settings opening m journal sound led

pub returns-clause-fresh : goal.returns-clause-fresh
returns-clause-fresh c rules settings opening m journal now sound led quiet = is_fresh rules m (replay_sound rules settings opening m journal sound led) now quiet

pub returns-clause-no_orphan : goal.returns-clause-no_orphan
returns-clause-no_orphan c rules settings opening m journal deletes none led =
    replay_kept rules settings (λ n. n.orphans ≡ [])
    (λ e n none. still_none n (step rules settings e n) (step_makes rules settings deletes e n) none)
    (λ now limit n none. still_none n (try_settle rules settings now limit n).state (settle_makes rules settings deletes now limit n) none)
    opening journal none m led
