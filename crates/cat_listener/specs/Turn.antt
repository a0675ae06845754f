-- What a turn does to a connection, and to the server that answers it.
use Rattle.std.specs.Prelude.{◌≡◌, ⊤, ℕ, Bool, true, false, List, [], ◌∷◌, ◌++◌, drop, ◌||◌, MatchBool}
use Rattle.std.specs.Io.KnownBytes.{Appends, Consumes}
use Rattle.std.specs.List.{FoldsTo}
use Rattle.std.specs.declared.option.Option.{Option}
use Rattle.cat_listener.specs.Step.{bytes_used, ends_it, reply_of, text_bytes}
use Rattle.cat_listener.specs.declared.step.Step.{Step}
use Rattle.cat_listener.specs.declared.step.Step.TheVariants.{Reply, Last, More}

-- what stands with a connection: the bytes that came and aren't answered, those of its replies that aren't taken, and whether
-- the reply with which it ends is among what was said
pub record Standing : Type 0 where
  pub came : List ℕ
  pub going : List ℕ
  pub last : Bool

-- what stands with a connection that was just let in
abbrev pub nothing : Standing
nothing = record { came = []; going = []; last = false }

-- the bytes that a server was shown, and what it made of them
pub record Asked : Type 0 where
  pub bytes : List ℕ
  pub step : Step

-- From the first server, the bytes and the step lead to the second one.
abbrev pub Answers : Type 0 → Type 1
Answers A = A → List ℕ → Step → A → Type 0

-- What a server was shown leads it from one state to another, one after the other.
abbrev pub IsAsked : {A : Type 0} → Answers A → A → List Asked → A → Type 0
IsAsked answers old asked new = FoldsTo (λ a q b. answers a q.bytes q.step b) old asked new

-- the bytes of all replies
abbrev pub replies : List Asked → List ℕ
replies [] = []
replies (q ∷ qs) = reply_of q.step ++ replies qs

-- the reply with which the connection ends is among them
abbrev pub has_last : List Asked → Bool
has_last [] = false
has_last (q ∷ qs) = ends_it q.step || has_last qs

-- The server was shown the bytes from their front on, as far as they had come, each time without those that were done with; these are left.
abbrev pub Follow : List ℕ → List Asked → List ℕ → Type 0
Follow bytes [] left = left ≡ bytes
Follow bytes (q ∷ qs) left = (later : List ℕ) × (bytes ≡ q.bytes ++ later) × MatchBool (ends_it q.step) (qs ≡ []) ⊤ × Follow (drop (bytes_used q.step) q.bytes ++ later) qs left

-- what a turn does to a connection: what stood with it before and after, and what its ends told
pub record Turn : Type 0 where
  pub before : Standing
  pub after : Standing
  pub left : Option (List ℕ)
  pub left_after : Option (List ℕ)
  pub written : Option (List ℕ)
  pub written_after : Option (List ℕ)

-- A turn of a connection leads a server from one state to another: the bytes that came stand behind those that stood there, the server was
-- shown just these, and what was written is the front of what it replied. Nothing is shown behind the last message.
pub record IsTurn {A : Type 0} (answers : Answers A) (old : A) (t : Turn) (new : A) : Type 0 where
  pub taken : List ℕ
  pub takes : Consumes t.left t.left_after taken
  pub asked : List Asked
  pub leads : IsAsked answers old asked new
  pub follows : Follow (t.before.came ++ taken) asked t.after.came
  pub out : List ℕ
  pub writes : Appends t.written t.written_after out
  pub said : t.before.going ++ replies asked ≡ out ++ t.after.going
  pub closed : t.before.last ≡ true → asked ≡ []
  pub ended : t.after.last ≡ (t.before.last || has_last asked)

-- The turn with this standing before and after, and with ends that told this.
abbrev pub turn : Standing → Option (List ℕ) → Option (List ℕ) → Standing → Option (List ℕ) → Option (List ℕ) → Turn
turn before left written after left_after written_after = record { before = before; after = after; left = left; left_after = left_after; written = written; written_after = written_after }

-- what stands with a connection of which a server was asked
abbrev pub answered : Standing → Step → Standing
answered s (Reply used text) = record s { came = drop used s.came; going = text_bytes text }
answered s (Last text) = record s { going = text_bytes text; last = true }
answered s (More blank part) = record s { came = drop blank s.came }

-- a front of what goes was written
pub record IsWritten (before after : Standing) (written written_after : Option (List ℕ)) : Type 0 where
  pub out : List ℕ
  pub writes : Appends written written_after out
  pub goes : before.going ≡ out ++ after.going
  pub rest : after ≡ record before { going = after.going }

-- the server was shown what came
pub record HasAsked {A : Type 0} (answers : Answers A) (old : A) (before : Standing) (new : A) (after : Standing) : Type 0 where
  pub step : Step
  pub does : answers old before.came step new
  pub after_is : after ≡ answered before step

-- what was taken of the source stands behind what came
pub record IsRead (before after : Standing) (left left_after : Option (List ℕ)) : Type 0 where
  pub taken : List ℕ
  pub takes : Consumes left left_after taken
  pub after_is : after ≡ record before { came = before.came ++ taken }

-- the second turn begins where the first one ended
pub record Follows (t u : Turn) : Type 0 where
  pub standing : u.before ≡ t.after
  pub left : u.left ≡ t.left_after
  pub written : u.written ≡ t.written_after

-- both as one turn
abbrev pub joined : Turn → Turn → Turn
joined t u = turn t.before t.left t.written u.after u.left_after u.written_after
