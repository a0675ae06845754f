use Rattle.std.proofs.Common.{option_map, ◌∙◌}
use Rattle.cat_core.specs.Waits.{place_of}
use Rattle.cat_core.proofs.Nearest.{nearest_is}
use Rattle.cat_core.proofs.waiting.next_waiting.Goals as goal

pub returns : goal.returns
returns c = c.nearest.ensures ∙ nearest_is c.args.m.now (option_map (λ e. place_of e.now) c.args.after) c.requires
