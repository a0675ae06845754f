-- What helpers have done.
use Rattle.std.specs.Prelude.{ℕ, ◌<◌, List, length, slice_index_or}
use Rattle.std.specs.List.{FoldsTo}
use Rattle.cat_listener.specs.Turn.{Answers, IsTurn, Turn}
use Rattle.cat_listener.specs.declared.helper.Helper.{Helper}
use Rattle.cat_listener.specs.declared.helper.Helper.TheVariants.{Serves, Works}

-- Turns of connections, one after another, lead a server from one state to another.
abbrev pub IsLed : {A : Type 0} → Answers A → A → A → Type 0
IsLed answers old new = (turns : List Turn) × FoldsTo (IsTurn answers) old turns new

-- A server was led on by the turns of its connections, and a worker by its work.
abbrev pub HasDone : {A B : Type 0} → Answers A → (B → B → Type 0) → Helper A B → Helper A B → Type 0
HasDone answers works (Serves old) (Serves new) = IsLed answers old new
HasDone answers works (Serves old) (Works new) = ⊥
HasDone answers works (Works old) (Serves new) = ⊥
HasDone answers works (Works old) (Works new) = works old new

-- Each helper of a list has done its part.
abbrev pub AreDone : {A B : Type 0} → Answers A → (B → B → Type 0) → List (Helper A B) → List (Helper A B) → Type 0
AreDone answers works old new = (i : ℕ) (helper : Helper _ _) → i < length old → HasDone answers works (slice_index_or old i helper) (slice_index_or new i helper)
