-- A spare copy of what a catalogue holds.
use Rattle.std.specs.Prelude.{◌≡◌, Bool, true, false}
use Rattle.std.specs.Option.{ForSome}
use Rattle.std.specs.declared.option.Option.{Option}
use Rattle.cat_desk.specs.declared.command.Reply.{Reply}
use Rattle.cat_desk.specs.declared.command.Reply.TheVariants.{Cut, Placed, Refused, StitchTaken}
use Rattle.cat_model.specs.declared.types.State.{State}

-- A spare copy, where there is one, is what the catalogue holds.
abbrev pub IsSpare : Option State → State → Type 0
IsSpare spare m = ForSome spare (λ s. s ≡ m)

-- Whether a reply says that the records are as before: a refusal, what gives a stitch order, and what comes of its document.
abbrev pub leaves_records : Reply → Bool
leaves_records (Refused fault) = true
leaves_records (StitchTaken order) = true
leaves_records (Placed what) = true
leaves_records _ = false

-- Whether a reply says that its deed was done to its end: any but a refusal, and but what a settle answers that was cut.
abbrev pub says_whole : Reply → Bool
says_whole (Refused fault) = false
says_whole (Cut short) = false
says_whole _ = true
