use Rattle.std.proofs.Common.{refl, sym, ap, ◌∙◌, subst}
use Rattle.cat_in_memory.specs.Wires.{wire_start}
use Rattle.cat_laws.proofs.Fresh.{is_fresh}
use Rattle.cat_laws.proofs.Ordered.{start_ordered}
use Rattle.cat_laws.proofs.Orphans.{just_fresh}
use Rattle.cat_laws.proofs.Steps.{start_kept}
use Rattle.cat_layers.specs.Layered.{layered}
use Rattle.cat_model.specs.Sound.{AreOrdered, Sound}
use Rattle.cat_model.specs.Step.{start}
use Rattle.cat_model.specs.declared.types.OrphanRule.TheVariants.{Delete}
use Rattle.cat_session_model.specs.Program.{program_settings}
use Rattle.cat_run_laws.proofs.Connected.{items_make}
use Rattle.cat_run_laws.proofs.Keeping.{run_has_none, run_ordered, run_sound}
use Rattle.cat_run_laws.proofs.law.connections_keep_their_laws.Goals as goal
use Rattle.cat_run_laws.specs.Runs.{items_run}

pub returns-clause-run : goal.returns-clause-run
returns-clause-run c rules first items words = (items_make rules first items words).state

pub returns-clause-fresh : goal.returns-clause-fresh
returns-clause-fresh c rule items words now quiet =
    let settings = program_settings rule in
    let made = (items_make layered (wire_start rule) items words).state in
    is_fresh layered _ (subst (Sound layered) (sym made) (run_sound layered settings start (items_run items words) (start_kept layered settings))) now quiet

pub returns-clause-no_orphan : goal.returns-clause-no_orphan
returns-clause-no_orphan c items words =
    ap (λ m. m.orphans) (items_make layered (wire_start Delete) items words).state
    ∙ run_has_none layered (program_settings Delete) refl start (items_run items words) refl

pub returns-clause-just_fresh : goal.returns-clause-just_fresh
returns-clause-just_fresh c items words now quiet =
    let settings = program_settings Delete in
    let steps = items_run items words in
    let made = (items_make layered (wire_start Delete) items words).state in
    just_fresh layered _ now
    (subst (Sound layered) (sym made) (run_sound layered settings start steps (start_kept layered settings)))
    (subst AreOrdered (sym made) (run_ordered layered settings start steps start_ordered))
    (ap (λ m. m.orphans) made ∙ run_has_none layered settings refl start steps refl) quiet
