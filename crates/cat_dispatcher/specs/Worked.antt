-- What workers do beside servers.
use Rattle.std.specs.Prelude.{⊤}
use Rattle.cat_desk.specs.Deed.{Deed}
use Rattle.cat_desk.specs.declared.command.Reply.{Reply}
use Rattle.cat_dispatcher.specs.declared.working.Part.{Part}
use Rattle.cat_dispatcher.specs.declared.working.Part.TheVariants.{Orders, Documents}
use Rattle.cat_workers.specs.Kinds.{stitcher, worker}
use Rattle.cat_workers.specs.Rounds.{Loops}

-- The rounds of a worker of a part lead from the first desk to the second one. Its gate says nothing of how many servers run.
abbrev pub Works : {D : Type 0} → (D → Deed → D → Reply → Type 0) → Part → D → D → Type 0
Works acts Orders old new = Loops worker acts (λ _. ⊤) (λ _. ⊤) old new
Works acts Documents old new = Loops stitcher acts (λ _. ⊤) (λ _. ⊤) old new
