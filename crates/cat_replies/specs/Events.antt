-- The replies to events, and the answers that are no lists.
use Rattle.std.specs.Prelude.{ℕ, Bool, true, false, List, [], ◌∷◌, Option, None, Some, codes}
use Rattle.std.specs.Fmt.{decimal}
use Rattle.cat_model.specs.declared.types.Acted.{Acted}
use Rattle.cat_model.specs.declared.types.Acted.TheVariants.{Now, Again}
use Rattle.cat_model.specs.declared.types.Counter.{Counter}
use Rattle.cat_model.specs.declared.types.Counter.TheVariants.{Arrival, Number, Token, Ticket}
use Rattle.cat_model.specs.declared.types.Counts.{Counts}
use Rattle.cat_model.specs.declared.types.Fault.{Fault}
use Rattle.cat_model.specs.declared.types.Fault.TheVariants.{OldSerial, NotFound, TooLarge, Spent}
use Rattle.cat_model.specs.declared.types.Finished.{Finished}
use Rattle.cat_model.specs.declared.types.Finished.TheVariants.{Good, Bad, Late as FinishedLate}
use Rattle.cat_model.specs.declared.types.Placed.{Placed}
use Rattle.cat_model.specs.declared.types.Placed.TheVariants.{Counted, Late as PlacedLate}
use Rattle.cat_model.specs.declared.types.StateCounts.{StateCounts}
use Rattle.cat_replies.specs.Line.{joined, line}

-- a reply of fixed words
abbrev pub said : List ℕ → List ℕ
said words = line (words ∷ [])

-- ---- refusals

-- the name of a counter
abbrev pub counter_text : Counter → List ℕ
counter_text Arrival = codes "arrival"
counter_text Number = codes "number"
counter_text Token = codes "token"
counter_text Ticket = codes "ticket"

-- why an event is refused, with the last serial, the sum of the input bytes or the counter
abbrev pub refused : Fault → List ℕ
refused (OldSerial last) = line (codes "refused old " ∷ decimal last ∷ [])
refused NotFound = said (codes "refused not_found")
refused (TooLarge sum) = line (codes "refused too_large " ∷ decimal sum ∷ [])
refused (Spent counter) = line (codes "refused spent " ∷ counter_text counter ∷ [])

-- an order under this number was never handed out
abbrev pub unknown : List ℕ
unknown = said (codes "refused unknown")

-- an event that lacks memory acts not
abbrev pub no_memory : List ℕ
no_memory = said (codes "no memory")

-- ---- what an event did

-- it acted
abbrev pub changed : List ℕ
changed = said (codes "ok")

-- a mutation acts, or its serial is the last one again
abbrev pub acted : Acted → List ℕ
acted Now = changed
acted Again = said (codes "ok again")

-- what is late shows the present number, if there is one
abbrev pub late : Option ℕ → List ℕ
late None = said (codes "late none")
late (Some present) = line (codes "late " ∷ decimal present ∷ [])

-- a finish counts with a good or a bad result, or is late
abbrev pub finished : Finished → List ℕ
finished Good = said (codes "ok good")
finished Bad = said (codes "ok bad")
finished (FinishedLate token) = late token

-- the put of a stitch counts, or is late
abbrev pub placed : Placed → List ℕ
placed Counted = changed
placed (PlacedLate ticket) = late ticket

-- nothing is there to take
abbrev pub nothing : List ℕ
nothing = said (codes "none")

-- a take hands out an order under a token
abbrev pub ordered : ℕ → List ℕ → List ℕ
ordered token reference = line (codes "order " ∷ decimal token ∷ codes " " ∷ reference ∷ [])

-- a stitch order is handed out under a ticket
abbrev pub ticketed : ℕ → List ℕ → List ℕ
ticketed ticket reference = line (codes "ticket " ∷ decimal ticket ∷ codes " " ∷ reference ∷ [])

-- the rounds, leases and stitches of a settle
abbrev pub settled : Counts → List ℕ
settled n = line (codes "settled " ∷ decimal n.rounds ∷ codes " " ∷ decimal n.leases ∷ codes " " ∷ decimal n.stitched ∷ [])

-- a settle was cut for want of memory, and just its first events stand
abbrev pub cut_by_memory : ℕ → List ℕ
cut_by_memory events = line (codes "cut " ∷ decimal events ∷ codes " memory" ∷ [])

-- a settle was cut where what follows its first events wasn't kept, and just these stand
abbrev pub cut_by_keeper : ℕ → List ℕ
cut_by_keeper events = line (codes "cut " ∷ decimal events ∷ codes " keeper" ∷ [])

-- a settle was cut where its next event would have drawn a number past the end
abbrev pub cut_by_counter : ℕ → Counter → List ℕ
cut_by_counter events counter = line (codes "cut " ∷ decimal events ∷ codes " spent " ∷ counter_text counter ∷ [])

-- ---- questions

-- whether the catalogue is quiet
abbrev pub quiet : Bool → List ℕ
quiet true = codes "yes"
quiet false = codes "no"

-- how many records, orphans, due records, live leases and marks there are
abbrev pub counted : StateCounts → List ℕ
counted n = joined (
    codes "state records " ∷ decimal n.records
    ∷ codes " orphans " ∷ decimal n.orphans
    ∷ codes " due " ∷ decimal n.due
    ∷ codes " leased " ∷ decimal n.leased
    ∷ codes " marked " ∷ decimal n.marked
    ∷ [])
