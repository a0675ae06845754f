-- What the doors in memory do.
use Rattle.std.specs.Prelude.{◌≡◌, ℕ, Bool, true, false, List, [], ◌∷◌}
use Rattle.cat_io.specs.Calls.{Calls, FailsNext}
use Rattle.cat_io.specs.Causes.{CountsFault}
use Rattle.cat_io.specs.Memory.{SourceState, SinkState}
use Rattle.cat_listener.specs.declared.doors.Accepted.{Accepted}
use Rattle.cat_listener.specs.declared.doors.Accepted.TheVariants.{Conn, Ready, Rest, Short, Closed, Failed}
use Rattle.cat_listener.specs.declared.doors.Listened.{Listened}
use Rattle.cat_listener.specs.declared.doors.Listened.TheVariants.{Ready, Failed as NotReady}

-- what a connection is read from, and what it is written to
pub record ConnState : Type 0 where
  pub source : SourceState
  pub sink : SinkState

-- the connections that wait, and which calls fail
pub record DoorsState : Type 0 where
  pub waiting : List ConnState
  pub calls : Calls

-- no connection waits
abbrev pub has_none : List ConnState → Bool
has_none [] = true
has_none (conn ∷ conns) = false

-- Just the calls of the list fail. Another hands out the first connection that waits, or says that there is none.
abbrev pub AcceptsAsTold : DoorsState → DoorsState → Accepted ConnState → Type 0
AcceptsAsTold old new (Conn conn) = (FailsNext old.calls → ⊥) × (old.waiting ≡ conn ∷ new.waiting)
AcceptsAsTold old new (Ready number) = ⊥
AcceptsAsTold old new Rest = ⊥
AcceptsAsTold old new Short = ⊥
AcceptsAsTold old new Closed = (FailsNext old.calls → ⊥) × (old.waiting ≡ []) × (new.waiting ≡ [])
AcceptsAsTold old new Failed = FailsNext old.calls × (new.waiting ≡ old.waiting)

-- An accept that failed counted one fault, and another counted none.
abbrev pub CountsAccept : {T : Type 0} → Accepted T → ℕ → ℕ → Type 0
CountsAccept (Conn conn) before now = now ≡ before
CountsAccept (Ready number) before now = now ≡ before
CountsAccept Rest before now = now ≡ before
CountsAccept Short before now = now ≡ before
CountsAccept Closed before now = now ≡ before
CountsAccept Failed before now = CountsFault before now

-- A listening that failed counted one fault, and another counted none.
abbrev pub CountsListen : Listened → ℕ → ℕ → Type 0
CountsListen Ready before now = now ≡ before
CountsListen NotReady before now = CountsFault before now
