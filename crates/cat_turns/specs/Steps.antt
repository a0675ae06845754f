-- What each step on the table tells the seat that makes it.
use Rattle.std.specs.Prelude.{◌≡◌, ◌≢◌, ℕ, ◌%◌, ◌^◌, ◌<◌, ◌≤◌, List, [], ◌∷◌, All}
use Rattle.std.specs.Option.{ForSome}
use mathlib.Core.List.{IsPrefix}
use Rattle.std.specs.declared.option.Option.TheVariants.{None}
use Rattle.atomic_table.specs.Table.{Me, Step}
use Rattle.cat_turns.specs.declared.law.Held.{Held}
use Rattle.cat_turns.specs.declared.law.Stage.TheVariants.{Idle, Waiting, Turn, Out}
use Rattle.cat_turns.specs.declared.law.View.{View}
use Rattle.cat_turns.specs.Law.{most, view, due, Counts, IsBehind, IsMet}

module _ {V E : Type 0} (entries : V → List E) (pass_of : E → ℕ) where
  -- what a seat knows and holds
  abbrev pub Knows : Type 0
  Knows = Me (Held V) (View E)

  -- what a seat finds at its turn, when so many passes have come and gone
  pub record Finds (v : View E) (h : Held V) (came gone : ℕ) : Type 0 where
    pub behind : IsBehind pass_of (entries h.value) v
    pub made_by : All (λ e. pass_of e ≤ came) (entries h.value)
    pub later : (v.came ≤ came) × (v.gone ≤ gone)
    pub below : ForSome v.number (λ n. n ≤ came)
    pub counts : Counts came gone h
    -- the pass itself isn't gone
    pub stays : gone ≤ came
    pub most : came < most

  -- what is known of a seat whose turn it is
  abbrev pub Has : View E → ℕ → Held V → Knows → Type 0
  Has v t h m = (m ≡ (view (Out t) v.number (entries h.value) m.0.came m.0.gone v.noted v.met, (0, h) ∷ [])) × Finds v h m.0.came m.0.gone

  -- the value is out with a seat, which knows how many passes have come and gone
  abbrev pub Carries : ℕ → Held V → Knows → Type 0
  Carries t h m = (m.0.stage ≡ Out t) × (m.1 ≡ (0, h) ∷ []) × Counts m.0.came m.0.gone h × (m.0.came < most)

  -- it has the ticket that it found
  abbrev pub drawn : Step (Held V) → Knows → ℕ → Knows → Type 0
  drawn st m r m' = (t : ℕ) × (m' ≡ (view (Waiting t) m.0.number m.0.seen m.0.came m.0.gone m.0.noted m.0.met, m.1)) × (r ≡ t % 2 ^ 64)

  -- where its own ticket is served, it has the turn and the value, and else nothing changed
  abbrev pub looked : Step (Held V) → Knows → ℕ → Knows → Type 0
  looked st m r m' = (r ≡ due m.0.stage % 2 ^ 64 → (h : Held V) × Has m.0 (due m.0.stage) h m') × (r ≢ due m.0.stage % 2 ^ 64 → m' ≡ m)

  -- it has seen the list of the value that it holds
  abbrev pub told : Step (Held V) → Knows → ℕ → Knows → Type 0
  told st m r m' = (h : Held V) → m.1 ≡ (0, h) ∷ [] → m' ≡ (view m.0.stage m.0.number (entries h.value) m.0.came m.0.gone m.0.noted m.0.met, m.1)

  -- it has no ticket any more; what it noted begins the list, and the number that it met is not its own
  abbrev pub passed_on : Step (Held V) → Knows → ℕ → Knows → Type 0
  passed_on st m r m' = (m' ≡ (view Idle m.0.number m.0.seen m.0.came m.0.gone [] None, [])) × IsPrefix m.0.noted m.0.seen × IsMet m.0.came m.0

  -- it has the turn still, and the value is at home
  abbrev pub put_back : Step (Held V) → Knows → ℕ → Knows → Type 0
  put_back st m r m' = m' ≡ (view (Turn (due m.0.stage)) m.0.number m.0.seen m.0.came m.0.gone m.0.noted m.0.met, [])
