-- What a book does.
use Rattle.std.specs.Prelude.{◌≡◌, ◌⊎◌, ℕ, List, [], ◌∷◌, ◌++◌}
use Rattle.std.specs.declared.option.Option.{Option}
use Rattle.std.specs.declared.option.Option.TheVariants.{None, Some}
use Rattle.cat_core.specs.declared.fault.CoreFault.TheVariants.{NoMemory}
use Rattle.cat_core.specs.declared.ledger.Ledger.{Ledger}
use Rattle.cat_desk.specs.Acts.{Acts}
use Rattle.cat_desk.specs.Deed.{Deed}
use Rattle.cat_desk.specs.Deed.Deed.{Settle}
use Rattle.cat_desk.specs.declared.command.Reply.{Reply}
use Rattle.cat_desk.specs.declared.command.Reply.TheVariants as replies
use Rattle.cat_desk.specs.Kept.{IsLost}
use Rattle.cat_model.specs.Catalogue.{Rules}
use Rattle.cat_shared.specs.Notes.{IsNoted}
use Rattle.cat_shared.specs.declared.entry.Entry.{Entry}
use Rattle.cat_shared.specs.declared.entry.Noted.{Noted}

-- The one entry of a note under a pass, or none.
abbrev pub entries : ℕ → Option Noted → List Entry
entries pass None = []
entries pass (Some noted) = record { pass = pass; noted = noted } ∷ []

-- The reply to a deed that isn't done, since there is no room for an entry: want of memory, of a settle as a cut before its first event.
abbrev pub lacking : Deed → Reply
lacking Settle = replies.Cut (record { events = 0; fault = NoMemory })
lacking _ = replies.Refused NoMemory

-- A deed was done to a catalogue at this moment, or it wasn't kept, or of a settle just the first event was; what is to be noted of it stands at
-- the end of the journal, under the pass.
pub record Does (rules : Rules) (pass now : ℕ) (d : Deed) (old new : Ledger) (before after : List Entry) (reply : Reply) : Type 0 where
  pub acts : Acts rules now d old new reply ⊎ IsLost rules now d old new reply
  pub noted : Option Noted
  pub is : IsNoted now d reply noted
  pub journal : after ≡ before ++ entries pass noted

-- A deed wasn't done, since there was no room for an entry: all is as it was.
pub record Lacks {X : Type 0} (d : Deed) (old new : X) (before after : List Entry) (reply : Reply) : Type 0 where
  pub same : new ≡ old
  pub journal : after ≡ before
  pub answer : reply ≡ lacking d
