-- The rule of the turns.
-- Word 0 is the length of the value's list, 1 the next ticket, and 2 the ticket that is served. Words 1 and 2 turn over at 2^64: the rule counts on. Beside the value stand how many passes are out, and how many numbers are drawn.
use Rattle.std.specs.Prelude.{◌≡◌, ◌≢◌, ℕ, ◌+◌, ◌%◌, ◌^◌, ◌<◌, ◌≤◌, Bool, true, false, List, [], ◌∷◌, ◌++◌, sum_by, length, All}
use Rattle.std.specs.Option.{ForSome}
use mathlib.Core.Option as Cell
use mathlib.Core.List.{IsPrefix}
use lib.ListN.{get_elem?}
use Rattle.std.specs.declared.option.Option.{Option}
use Rattle.std.specs.declared.option.Option.TheVariants.{None, Some}
use Rattle.atomic_table.specs.Table.{State}
use Rattle.cat_turns.specs.declared.law.Held.{Held}
use Rattle.cat_turns.specs.declared.law.Stage.{Stage}
use Rattle.cat_turns.specs.declared.law.Stage.TheVariants.{Idle, Waiting, Turn, Out}
use Rattle.cat_turns.specs.declared.law.View.{View}

-- the most numbers that are drawn
abbrev pub most : ℕ
most = 2 ^ 59

-- the ticket of a stage, if it has one
abbrev pub ticket_of : Stage → Option ℕ
ticket_of Idle = None
ticket_of (Waiting t) = Some t
ticket_of (Turn t) = Some t
ticket_of (Out t) = Some t

-- the ticket of a stage, and 0 where it has none
abbrev pub due : Stage → ℕ
due Idle = 0
due (Waiting t) = t
due (Turn t) = t
due (Out t) = t

-- whether the value is out
abbrev pub is_out : Stage → Bool
is_out (Out _) = true
is_out _ = false

-- 1 for what is there, and 0 for nothing
abbrev pub one_if : {A : Type 0} → Option A → ℕ
one_if None = 0
one_if (Some _) = 1

-- so many passes have come and gone, as is kept beside the value
abbrev pub Counts : {V : Type 0} → ℕ → ℕ → Held V → Type 0
Counts came gone h = (h.drawn ≡ came + 1) × (h.out + gone ≡ came + 1)

module _ {E : Type 0} where
  -- a view of these parts
  abbrev pub view : Stage → Option ℕ → List E → ℕ → ℕ → List E → Option ℕ → View E
  view stage number seen came gone noted met = record { stage = stage; number = number; seen = seen; came = came; gone = gone; noted = noted; met = met }

  -- the first pass has the number 0, and has seen nothing
  abbrev pub first_view : View E
  first_view = view Idle (Some 0) [] 0 0 [] None

  -- a seat that splits another off: one pass more has come
  abbrev pub parent : View E → View E
  parent v = view v.stage v.number v.seen (v.came + 1) v.gone v.noted v.met

  -- a seat that was split off has the next number, and has seen as much
  abbrev pub newcomer : View E → View E
  newcomer v = view Idle (Some (v.came + 1)) v.seen (v.came + 1) v.gone [] None

  -- a seat notes what the one that it ends had seen, and its number: one pass more is gone
  abbrev pub joined : View E → View E → View E
  joined v w = view v.stage v.number v.seen v.came (v.gone + 1) w.seen w.number

  -- a seat that was joined to another has no pass any more
  abbrev pub spent : View E
  spent = view Idle None [] 0 0 [] None

  -- the ticket of a view
  abbrev pub ticket : View E → Option ℕ
  ticket v = ticket_of v.stage

  -- the number of a view's pass
  abbrev pub number : View E → Option ℕ
  number v = v.number

  -- a view has a pass
  abbrev pub HasNumber : View E → Type 0
  HasNumber v = (n : ℕ) × (v.number ≡ Some n)

  -- how many views have one
  abbrev pub how_many : (View E → Option ℕ) → List (View E) → ℕ
  how_many key views = sum_by (λ v. one_if (key v)) views

  -- no two views have the same
  abbrev pub Differ : (View E → Option ℕ) → List (View E) → Type 0
  Differ key views = (i j : ℕ) (v w : View E) (n : ℕ) → get_elem? views i ≡ Cell.some v → get_elem? views j ≡ Cell.some w → key v ≡ Some n → key w ≡ Some n → i ≡ j

  -- a number that was met is of a pass that has come, and not the view's own
  abbrev pub IsMet : ℕ → View E → Type 0
  IsMet came v = (m : ℕ) → v.met ≡ Some m → (m ≤ came) × (v.number ≢ Some m)

  module _ (pass_of : E → ℕ) where
    -- the list grew by entries of others alone
    abbrev pub GrowsBeside : ℕ → List E → List E → Type 0
    GrowsBeside n before after = (rest : List E) × (before ++ rest ≡ after) × All (λ e. pass_of e ≢ n) rest

    -- the list grew by entries of this pass alone
    abbrev pub GrowsBy : ℕ → List E → List E → Type 0
    GrowsBy n before after = (rest : List E) × (before ++ rest ≡ after) × All (λ e. pass_of e ≡ n) rest

    -- what a view has seen begins the list, and has all entries of its pass
    abbrev pub IsBehind : List E → View E → Type 0
    IsBehind log v = (rest : List E) × (v.seen ++ rest ≡ log) × ForSome v.number (λ n. All (λ e. pass_of e ≢ n) rest)

    -- where a view stands, if a ticket below `drawn` is next to be drawn
    abbrev pub Stands : List E → ℕ → ℕ → ℕ → ℕ → View E → Stage → Type 0
    Stands log served drawn came gone v Idle = Unit {0}
    Stands log served drawn came gone v (Waiting t) = (served ≤ t) × (t < drawn) × HasNumber v
    Stands log served drawn came gone v (Turn t) = (t ≡ served) × (t < drawn) × HasNumber v × (v.seen ≡ log) × (v.came ≡ came) × (v.gone ≡ gone)
    Stands log served drawn came gone v (Out t) = (t ≡ served) × (t < drawn) × HasNumber v × (v.seen ≡ log) × (v.came ≡ came) × (v.gone ≡ gone)

    -- a view has its place in what the words, the list and the counts say
    pub record Sits (log : List E) (served drawn came gone : ℕ) (v : View E) : Type 0 where
      pub behind : IsBehind log v
      pub noted : IsPrefix v.noted log
      pub met : IsMet came v
      pub below : ForSome v.number (λ n. n ≤ came)
      pub counts : (v.came ≤ came) × (v.gone ≤ gone)
      pub stands : Stands log served drawn came gone v v.stage

    module _ {V : Type 0} (entries : V → List E) where
      -- the slot is at home with a value that has this list, and no view has it out; or some view has it out
      abbrev pub Keeps : List E → ℕ → ℕ → List (View E) → Cell.Option (Held V) → Type 0
      Keeps log came gone views (Cell.some h) = (entries h.value ≡ log) × ((j : ℕ) (v : View E) → get_elem? views j ≡ Cell.some v → is_out v.stage ≡ false) × Counts came gone h
      Keeps log came gone views Cell.none = (j : ℕ) × (v : View E) × (get_elem? views j ≡ Cell.some v) × (is_out v.stage ≡ true)

module _ {V E : Type 0} (entries : V → List E) (pass_of : E → ℕ) where
  -- the rule: the words, the value at home and all views agree on one list, one line of tickets, and one count of passes
  pub record IsFair (s : State (Held V) (View E)) : Type 0 where
    pub log : List E
    pub drawn : ℕ
    pub served : ℕ
    -- how many passes have been split off, and how many have been joined
    pub came : ℕ
    pub gone : ℕ
    pub slot : Cell.Option (Held V)
    pub words : s.words ≡ length log ∷ drawn % 2 ^ 64 ∷ served % 2 ^ 64 ∷ []
    pub homes : s.homes ≡ slot ∷ []
    pub most_came : came < most
    -- the views with a number are the first pass, and those that came and aren't gone
    pub numbered : how_many number s.views + gone ≡ came + 1
    pub in_line : served + how_many ticket s.views ≡ drawn
    pub made_by : All (λ e. pass_of e ≤ came) log
    pub keeps : Keeps pass_of entries log came gone s.views slot
    pub each : (j : ℕ) (v : View E) → get_elem? s.views j ≡ Cell.some v → Sits pass_of log served drawn came gone v
    pub tickets : Differ ticket s.views
    pub numbers : Differ number s.views
