-- Which state a change makes, and what it reaches.
use Rattle.cat_model.specs.declared.types.State.{State}
use Rattle.cat_model.specs.Catalogue.{Rules}
use Rattle.cat_plan.specs.Following.{IsOwnChange, IsReach, held_state}
use Rattle.cat_plan.specs.declared.change.Change.{Change}

-- the state before a change, but with the shelf, the rows and the holders after it
abbrev pub state_held : Change → State
state_held c = held_state c.shelf.now c.rows.now c.holders.now c.m.now

-- n has an event's own change, of which holding makes the rows and holders of the change
abbrev pub IsMade : Change → State → Type 0
IsMade c n = IsOwnChange c.own.now c.shelf.now c.rows.now c.holders.now c.m.now n

-- the lists of a change are of what it reaches
abbrev pub AreReached : Rules → Change → Type 0
AreReached rules c = IsReach rules c.m.now (state_held c) c.fresh.now c.leaving.now c.touched.now
