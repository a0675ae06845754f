-- The program's connections.
use Rattle.cat_api.specs.Wire.{Wired}
use Rattle.cat_feed.specs.Feed.{begun}
use Rattle.cat_model.specs.Step.{start}
use Rattle.cat_model.specs.declared.types.OrphanRule.{OrphanRule}
use Rattle.cat_session_model.specs.Program.{program_settings}

-- an empty catalogue under a rule for orphans, whose feed of the epoch 0 has told nothing
abbrev pub wire_start : OrphanRule → Wired
wire_start rule = record { catalogue = record { settings = program_settings rule; state = start }; feed = begun 0 }
