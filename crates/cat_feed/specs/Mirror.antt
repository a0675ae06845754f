-- What a mirror has, and what changes make of it.
use Rattle.std.specs.Prelude.{◌==◌, ◌&&◌, Bool, true, false, [], Option, None, Some}
use Rattle.cat_feed.specs.Changes.{Documents, applied}
use Rattle.cat_feed.specs.declared.change.Changes.{Changes}
use Rattle.cat_feed.specs.declared.change.Since.{Since}
use Rattle.cat_feed.specs.declared.mirror.Mirror.{Mirror}

-- no place, and no documents
abbrev pub empty : Mirror
empty = record { place = None; documents = [] }

-- changes from nowhere join every place, others just the place that they lead on from
abbrev pub joins : Option Since → Option Since → Bool
joins None place = true
joins (Some from) None = false
joins (Some from) (Some place) = from.epoch == place.epoch && from.number == place.number

-- the changes lead on from the mirror's place
abbrev pub leads_on : Changes → Mirror → Bool
leads_on c m = joins c.from m.place

-- the documents that changes are applied to: none, where they lead from nowhere
abbrev pub applied_to : Option Since → Documents → Documents
applied_to None ds = []
applied_to (Some from) ds = ds

-- the mirror with the changes applied
abbrev pub mirrored : Changes → Mirror → Mirror
mirrored c m = record { place = Some c.to; documents = applied c.list (applied_to c.from m.documents) }
