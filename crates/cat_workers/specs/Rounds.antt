-- What workers do, round by round.
use Rattle.std.specs.Prelude.{◌≡◌, ℕ, Bool, true, false, List, [], ◌∷◌, ◌++◌, ⊤}
use Rattle.std.specs.declared.option.Option.{Option}
use Rattle.std.specs.declared.option.Option.TheVariants.{None, Some}
use Rattle.cat_desk.specs.Deed.{Deed}
use Rattle.cat_desk.specs.declared.command.Reply.{Reply}
use Rattle.cat_workers.specs.Steps.{Leads, Step}
use Rattle.cat_workers.specs.declared.gate.GateCall.{GateCall}
use Rattle.cat_workers.specs.declared.gate.Go.{Go}
use Rattle.cat_workers.specs.declared.gate.Go.TheVariants.{On, Stop}

-- ---- rounds

-- A kind of worker, which takes orders above a ticket: its take there, what brings back what was worked of the order that the take
-- gave, the ticket for the next take by what was answered to both, whether that begins anew, and whether what was brought back wasn't refused.
pub record Kind : Type 0 where
  pub take : ℕ → Deed
  pub bring : Reply → Option Deed
  pub next : ℕ → Reply → Option Reply → ℕ
  pub begins_anew : ℕ → Reply → Bool
  pub has_come : Reply → Bool

-- what was answered to the take of a round, and to what was brought back in it, unless there was no memory to work the order
pub record Round : Type 0 where
  pub taken : Reply
  pub brought : Option Reply

-- the step that brings back what was worked of an order, if there was an order, and memory to work it
abbrev pub bringing : Option Deed → Option Reply → List Step
bringing None brought = []
bringing (Some d) None = []
bringing (Some d) (Some reply) = (d, reply) ∷ []

-- whether there was memory to work an order, and what was worked of it wasn't refused
abbrev pub is_back : (Reply → Bool) → Option Reply → Bool
is_back has_come None = false
is_back has_come (Some reply) = has_come reply

-- whether an order was worked and what was worked of it wasn't refused; where there was no order, as it is given
abbrev pub is_done : (Reply → Bool) → Bool → Option Deed → Option Reply → Bool
is_done has_come other None brought = other
is_done has_come other (Some d) brought = is_back has_come brought

module _ (kind : Kind) where
  -- the steps of a round
  abbrev pub steps : ℕ → Round → List Step
  steps after r = (kind.take after, r.taken) ∷ bringing (kind.bring r.taken) r.brought

  -- whether a round is busy: what was worked is brought back and not refused, or the next take begins anew
  abbrev pub is_busy : ℕ → Round → Bool
  is_busy after r = is_done kind.has_come (kind.begins_anew after r.taken) (kind.bring r.taken) r.brought

  -- the steps of rounds in turn
  abbrev pub all_steps : ℕ → List Round → List Step
  all_steps after [] = []
  all_steps after (r ∷ rounds) = steps after r ++ all_steps (kind.next after r.taken r.brought) rounds

  -- the ticket above which is taken after these rounds
  abbrev pub next_after : ℕ → List Round → ℕ
  next_after after [] = after
  next_after after (r ∷ rounds) = next_after (kind.next after r.taken r.brought) rounds

  -- A worker went on after each of these rounds: it was busy, or its gate said so.
  abbrev pub WentOn : (Go → Type 0) → ℕ → List Round → Type 0
  WentOn said after [] = ⊤
  WentOn said after (r ∷ rounds) = (is_busy after r ≡ false → said On) × WentOn said (kind.next after r.taken r.brought) rounds

-- A worker may go on after a busy round, and else as its gate said.
abbrev pub MayGoOn : (Go → Type 0) → Bool → Bool → Type 0
MayGoOn said busy true = busy ≡ false → said On
MayGoOn said busy false = (busy ≡ false) × said Stop

-- ---- loops

-- What was worked of an order was brought back by this deed, and this was answered, unless there was no memory to work it.
abbrev pub BringsBack : {D : Type 0} → (D → Deed → D → Reply → Type 0) → (GateCall → Type 0) → Deed → Option Reply → D → D → Type 0
BringsBack acts told d brought old new = Leads acts told (bringing (Some d) brought) old new

module _ (kind : Kind) {D : Type 0} (acts : D → Deed → D → Reply → Type 0) (told : GateCall → Type 0) where
  -- One round led from the first desk to the second one.
  pub record IsRound (after after' : ℕ) (busy : Bool) (old new : D) : Type 0 where
    pub round : Round
    pub leads : Leads acts told (steps kind after round) old new
    pub next : after' ≡ kind.next after round.taken round.brought
    pub is_busy : busy ≡ is_busy kind after round

  module _ (said : Go → Type 0) where
    -- Rounds led from the first desk to the second one, and the worker went on after each of them.
    pub record GoesOn (after : ℕ) (old new : D) : Type 0 where
      pub rounds : List Round
      pub leads : Leads acts told (all_steps kind 0 rounds) old new
      pub next : after ≡ next_after kind 0 rounds
      pub on : WentOn kind said 0 rounds

    -- Rounds led from the first desk to the second one; the worker went on after each but the last, which was idle, and at which its
    -- gate said that it stops.
    pub record Loops (old new : D) : Type 0 where
      pub earlier : List Round
      pub last : Round
      pub leads : Leads acts told (all_steps kind 0 (earlier ++ last ∷ [])) old new
      pub on : WentOn kind said 0 earlier
      pub idle : is_busy kind (next_after kind 0 earlier) last ≡ false
      pub stop : said Stop
