-- A settle: rounds of takes and finishes until no record is due, and then the stitches.
use Rattle.std.specs.Prelude.{◌≡◌, ⊤, ℕ, zero, suc, ◌<◌, Bool, true, false, cond, ◌||◌, nat_le, List, [], ◌∷◌, ◌++◌, map, length, ◌+◌, ◌-◌, ◌^◌, is_some, min}
use Rattle.std.specs.declared.option.Option.{Option}
use Rattle.std.specs.declared.option.Option.TheVariants.{None, Some}
use Rattle.std.specs.Option.{option_and_then}
pub use Rattle.cat_model.specs.declared.types.Progress.{Progress}
pub use Rattle.cat_model.specs.declared.types.Stop.{Stop}
use Rattle.cat_model.specs.declared.types.Stop.TheVariants.{Refused, Limit}
use Rattle.cat_collections.specs.Table.{Text, text_cmp, Map, get, keys, tabulate}
use Rattle.cat_model.specs.Catalogue.{Ref, Parts, Work, Rules, Row, Lease, Record, State, holding, work, parts}
pub use Rattle.cat_model.specs.Dues.{is_due, refs_due}
use Rattle.cat_model.specs.declared.types.Origin.TheVariants.{Provider, Entity}
use Rattle.cat_model.specs.Step.{Settings, Order, StitchOrder, Event, change, Fault, refusal, step, run}
use Rattle.cat_model.specs.Step.Event.{TakeAt, Finish, PutStitch}

-- the order of a lease and a work
abbrev pub order_with : Ref → Option Lease → Option Work → Option Order
order_with r None w = None
order_with r (Some lease) None = None
order_with r (Some lease) (Some w) = Some (record { reference = r; token = lease.token; work = w })

-- the order of the lease that a record has
abbrev pub order : Rules → State → Ref → Option Order
order rules m r = order_with r (option_and_then (λ x. x.lease) (get m.records r)) (work rules m r)

-- the records that are due, in order of reference
abbrev pub due_refs : ℕ → State → List Ref
due_refs now m = refs_due now m.records

-- the order of a mark and the parts of its reference
abbrev pub stitch_order : Rules → State → Ref → Option ℕ → Option Parts → Option StitchOrder
stitch_order rules m r None p = None
stitch_order rules m r (Some ticket) None = None
stitch_order rules m r (Some ticket) (Some p) = Some (record { reference = r; ticket = ticket; parts = p })

-- a marked reference in its place by ticket
abbrev pub insert_mark : Ref × ℕ → List (Ref × ℕ) → List (Ref × ℕ)
insert_mark e [] = e ∷ []
insert_mark e (f ∷ fs) = cond (nat_le e.1 f.1) (e ∷ f ∷ fs) (f ∷ insert_mark e fs)

-- the marked references with their tickets, in order of ticket
abbrev pub marks_in_order : Map ℕ → List (Ref × ℕ)
marks_in_order [] = []
marks_in_order (e ∷ es) = insert_mark e (marks_in_order es)

-- the marked references in order of ticket
abbrev pub by_ticket : Map ℕ → List Ref
by_ticket marks = keys (marks_in_order marks)

-- the references of the rows, provider items among them, and of the shelf texts
abbrev pub width_refs : Rules → State → List Ref
width_refs rules m = keys (tabulate text_cmp (map (λ e. e.1.reference) m.rows ++ rules.shelf_refs m.shelf) (λ r. Some (tt {0})))

-- how many references a settle can come upon
abbrev pub width : Rules → State → ℕ
width rules m = length (width_refs rules m)

-- r and each reference on its chain have due above now
pub data IsSettled (now : ℕ) (m : State) : Ref → Type 0 where
  by_provider : {r : Ref} (x : Record) (row : Row) (p : Text) → get m.records r ≡ Some x → now < x.due → holding m.rows m.holders r ≡ Some row → row.origin ≡ Provider p → IsSettled now m r
  by_entity : {r : Ref} (x : Record) (row : Row) (e : Ref) → get m.records r ≡ Some x → now < x.due → holding m.rows m.holders r ≡ Some row → row.origin ≡ Entity e → IsSettled now m e → IsSettled now m r

-- what is settled in m is so in n, and has the same record
pub record StaySettled (now : ℕ) (m n : State) : Type 0 where
  pub settled : (r : Ref) → IsSettled now m r → IsSettled now n r
  pub same : (r : Ref) → IsSettled now m r → get n.records r ≡ get m.records r

-- so it is, and some reference more is settled
pub record SettleMore (now : ℕ) (m n : State) : Type 0 where
  pub stay : StaySettled now m n
  pub reference : Ref
  pub before : IsSettled now m reference → ⊥
  pub after : IsSettled now n reference

-- ---- a settle whose events may be refused, and that may have as many events as it is given

-- one more, up to the greatest number of 64 bits
abbrev pub counted : ℕ → ℕ
counted n = min (n + 1) (2 ^ 64 - 1)

-- one more, where it is so
abbrev pub counted_where : Bool → ℕ → ℕ
counted_where is n = cond is (counted n) n

-- whether an event makes a lease
abbrev pub is_lease : Event → Bool
is_lease (TakeAt r now) = true
is_lease e = false

-- whether an event stitches
abbrev pub is_stitch : Event → Bool
is_stitch (PutStitch x) = true
is_stitch e = false

-- the event stands, and n is the state after it
abbrev pub stood : Event → State → Progress → Progress
stood e n p = record p { state = n; leases = counted_where (is_lease e) p.leases; stitched = counted_where (is_stitch e) p.stitched; events = counted p.events }

-- what comes of an event, by its refusal
abbrev pub after_refusal : Option Fault → Event → State → Progress → Progress
after_refusal None e n p = stood e n p
after_refusal (Some fault) e n p = record p { stop = Some (Refused fault) }

-- whether as many events stand as there may be
abbrev pub is_full : Option ℕ → ℕ → Bool
is_full None events = false
is_full (Some limit) events = nat_le limit events

-- an event stands where nothing stopped the settle before, its limit is above, and it isn't refused
abbrev pub try_event : Rules → Settings → Option ℕ → Event → Progress → Progress
try_event rules s limit e p =
    cond (is_some p.stop) p
    (cond (is_full limit p.events) (record p { stop = Some Limit })
    (after_refusal (refusal rules s e p.state) e (change rules s e p.state) p))

-- an order is finished, if there is one
abbrev pub try_finish : Rules → Settings → ℕ → Option ℕ → Option Order → Progress → Progress
try_finish rules s now limit None p = p
try_finish rules s now limit (Some x) p = try_event rules s limit (Finish x now) p

-- r is taken, whatever lease it has, and finished
abbrev pub try_take_and_finish : Rules → Settings → ℕ → Option ℕ → Ref → Progress → Progress
try_take_and_finish rules s now limit r p =
    let taken = try_event rules s limit (TakeAt r now) p in
    try_finish rules s now limit (order rules taken.state r) taken

-- r is taken and finished, if it is still due
abbrev pub try_turn : Rules → Settings → ℕ → Option ℕ → Ref → Progress → Progress
try_turn rules s now limit r p = cond (is_due now (get p.state.records r)) (try_take_and_finish rules s now limit r p) p

-- turns of these references, one after the other
abbrev pub try_turns : Rules → Settings → ℕ → Option ℕ → List Ref → Progress → Progress
try_turns rules s now limit [] p = p
try_turns rules s now limit (r ∷ rs) p = try_turns rules s now limit rs (try_turn rules s now limit r p)

-- whether a list has nothing
abbrev pub is_empty : {A : Type 0} → List A → Bool
is_empty [] = true
is_empty (x ∷ xs) = false

-- whether no record is due, or the settle is stopped
abbrev pub is_ended : ℕ → Progress → Bool
is_ended now p = is_some p.stop || is_empty (due_refs now p.state)

-- a round begins, and is counted unless the rounds have ended
abbrev pub begun_round : ℕ → Progress → Progress
begun_round now p = record p { rounds = cond (is_ended now p) p.rounds (counted p.rounds) }

-- a round takes and finishes the records due at its start
abbrev pub try_round : Rules → Settings → ℕ → Option ℕ → Progress → Progress
try_round rules s now limit p = try_turns rules s now limit (due_refs now p.state) (begun_round now p)

-- n rounds, of which those after the end change nothing
abbrev pub try_rounds : Rules → Settings → ℕ → Option ℕ → ℕ → Progress → Progress
try_rounds rules s now limit zero p = p
try_rounds rules s now limit (suc n) p = try_rounds rules s now limit n (try_round rules s now limit p)

-- a stitch is put, if there is an order
abbrev pub try_stitch_with : Rules → Settings → Option ℕ → Option StitchOrder → Progress → Progress
try_stitch_with rules s limit None p = p
try_stitch_with rules s limit (Some x) p = try_event rules s limit (PutStitch x) p

-- the order of a reference's present mark and parts
abbrev pub mark_order : Rules → State → Ref → Option StitchOrder
mark_order rules m r = stitch_order rules m r (get m.marks r) (parts rules m r)

-- these references are stitched, one after the other
abbrev pub try_stitches : Rules → Settings → Option ℕ → List Ref → Progress → Progress
try_stitches rules s limit [] p = p
try_stitches rules s limit (r ∷ rs) p = try_stitches rules s limit rs (try_stitch_with rules s limit (mark_order rules p.state r) p)

-- the stitches, in order of ticket
abbrev pub try_marks : Rules → Settings → Option ℕ → Progress → Progress
try_marks rules s limit p = try_stitches rules s limit (by_ticket p.state.marks) p

-- a settle of m before its first event
abbrev pub not_begun : State → Progress
not_begun m = record { state = m; rounds = 0; leases = 0; stitched = 0; events = 0; stop = None }

-- a settle of m at the moment now: as many rounds as m is wide, by when none is due, and then the stitches;
-- where there is a limit, it stops before the event after that many
unfoldable pub try_settle : Rules → Settings → ℕ → Option ℕ → State → Progress
try_settle rules s now limit m = try_marks rules s limit (try_rounds rules s now limit (width rules m) (not_begun m))

-- p is a settle of m: rounds until for the first time no record is due or it is stopped, and then the stitches
pub record IsSettle (rules : Rules) (s : Settings) (now : ℕ) (limit : Option ℕ) (m : State) (p : Progress) : Type 0 where
  pub rounds : ℕ
  pub ended : is_ended now (try_rounds rules s now limit rounds (not_begun m)) ≡ true
  pub first : (n : ℕ) → n < rounds → is_ended now (try_rounds rules s now limit n (not_begun m)) ≡ false
  pub counted : p.rounds ≡ min rounds (2 ^ 64 - 1)
  pub stitched : p ≡ try_marks rules s limit (try_rounds rules s now limit rounds (not_begun m))

-- the number of events at which a settle was stopped, if it was its limit that stopped it
abbrev pub limit_at : Option Stop → ℕ → Option ℕ
limit_at None events = None
limit_at (Some (Refused fault)) events = None
limit_at (Some Limit) events = Some events

-- the number of events before which p was stopped by its limit
abbrev pub limit_of : Progress → Option ℕ
limit_of p = limit_at p.stop p.events

-- ---- the events of a settle

-- an event of a settle at the moment now: it takes a record that is due, finishes such a record by the order of its
-- lease, or puts the stitch of a mark
abbrev pub IsSettleEvent : Rules → ℕ → State → Event → Type 0
IsSettleEvent rules now m (TakeAt r moment) = (moment ≡ now) × (is_due now (get m.records r) ≡ true)
IsSettleEvent rules now m (Finish x moment) = (moment ≡ now) × (is_due now (get m.records x.reference) ≡ true) × (order rules m x.reference ≡ Some x)
IsSettleEvent rules now m (PutStitch x) = mark_order rules m x.reference ≡ Some x
IsSettleEvent rules now m e = ⊥

-- these are events of a settle, one after the other from m, and none is refused
abbrev pub AreSettleEvents : Rules → Settings → ℕ → State → List Event → Type 0
AreSettleEvents rules s now m [] = ⊤
AreSettleEvents rules s now m (e ∷ es) = IsSettleEvent rules now m e × (refusal rules s e m ≡ None) × AreSettleEvents rules s now (step rules s e m) es

-- the first n of some events
abbrev pub first_events : ℕ → List Event → List Event
first_events zero es = []
first_events (suc n) [] = []
first_events (suc n) (e ∷ es) = e ∷ first_events n es

-- the events of a settle of m; with a limit of n just the first n of them stand
pub record HasEvents (rules : Rules) (s : Settings) (now : ℕ) (m : State) : Type 0 where
  pub events : List Event
  pub are : AreSettleEvents rules s now m events
  pub whole : (try_settle rules s now None m).state ≡ run rules s events m
  pub cut : (n : ℕ) → n < 2 ^ 64 → (try_settle rules s now (Some n) m).state ≡ run rules s (first_events n events) m
  pub count : (n : ℕ) → n < 2 ^ 64 → (try_settle rules s now (Some n) m).events ≡ min n (length events)
  pub limited : (n : ℕ) → n < length events → n < 2 ^ 64 → (try_settle rules s now (Some n) m).stop ≡ Some Limit

-- a fault of the next event of a settle in the state m
pub record IsRefusedBy (rules : Rules) (s : Settings) (now : ℕ) (m : State) (fault : Fault) : Type 0 where
  pub event : Event
  pub is : IsSettleEvent rules now m event
  pub refused : refusal rules s event m ≡ Some fault
