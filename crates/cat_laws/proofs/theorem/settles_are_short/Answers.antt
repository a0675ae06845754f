-- Settles are short.
use Rattle.cat_collections.proofs.Tables.{none_or_some}
use Rattle.cat_laws.proofs.Unchanged.{round_more, stay_settled, stay_to_end, settle_rounds, settle_leases}
use Rattle.cat_laws.proofs.theorem.settles_are_short.Goals as goal

pub returns-clause-more : goal.returns-clause-more
returns-clause-more c rules settings p now limit later sound left whole = round_more rules settings now later limit p sound left (none_or_some _ whole)

pub returns-clause-unchanged : goal.returns-clause-unchanged
returns-clause-unchanged c rules settings m now first second later sound le lt = stay_settled rules settings now later m sound first second le lt

pub returns-clause-to_end : goal.returns-clause-to_end
returns-clause-to_end c rules settings m now first later sound lt = stay_to_end rules settings now later m sound first lt

pub returns-clause-rounds : goal.returns-clause-rounds
returns-clause-rounds c rules settings m now limit later sound = settle_rounds rules settings now later limit m sound

pub returns-clause-leases : goal.returns-clause-leases
returns-clause-leases c rules settings m now limit later sound = settle_leases rules settings now later limit m sound
