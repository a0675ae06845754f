-- The events of the catalogue.
use Rattle.std.specs.Prelude.{ℕ, ◌+◌, Bool, false, cond, ◌&&◌, ◌||◌, nat_eq, nat_lt, nat_le, ◌^◌, is_none, List, [], ◌∷◌, is_some}
use Rattle.std.specs.declared.option.Option.{Option}
use Rattle.std.specs.declared.option.Option.TheVariants.{None, Some}
use Rattle.std.specs.Option.{option_map}
use Rattle.std.specs.Ordering.{nat_cmp}
use Rattle.std.specs.List.{list_any, filter}
pub use Rattle.cat_model.specs.Dues.{is_free, may_take}
pub use Rattle.cat_model.specs.declared.types.Numbered.{Numbered}
pub use Rattle.cat_model.specs.declared.types.Settings.{Settings}
pub use Rattle.cat_model.specs.declared.types.Given.{Given}
pub use Rattle.cat_model.specs.declared.types.Order.{Order}
pub use Rattle.cat_model.specs.declared.types.StitchOrder.{StitchOrder}
pub use Rattle.cat_model.specs.declared.types.Counter.{Counter}
pub use Rattle.cat_model.specs.declared.types.Fault.{Fault}
use Rattle.cat_model.specs.declared.types.Fault.TheVariants.{OldSerial, NotFound, TooLarge, Spent}
use Rattle.cat_model.specs.declared.types.Counter.TheVariants.{Arrival, Number, Token, Ticket}
use Rattle.cat_collections.specs.Table.{Text, text_cmp, same_text, Map, get, keys, put, over, first, tabulate}
pub use Rattle.cat_model.specs.Rows.{same_origin}
use Rattle.cat_model.specs.Catalogue.{Ref, Offered, Offers, Outcome, Rules, Origin, Row, Rows, ProviderInputs, Lease, Record, State, row_at, work, parts, same_option, known_refs, frame, Orphan, due_now}
use Rattle.cat_types.specs.declared.work.Outcome.TheVariants.{Good, Bad}
use Rattle.cat_model.specs.declared.types.Origin.TheVariants.{Provider, Entity}
use Rattle.cat_model.specs.declared.types.Leaving.{Leaving}
use Rattle.cat_model.specs.declared.types.Leaving.TheVariants.{Deleted, Orphaned}
pub use Rattle.cat_model.specs.declared.types.OrphanRule.{OrphanRule}
use Rattle.cat_model.specs.declared.types.OrphanRule.TheVariants.{Keep, Delete}

-- ---- the rows of one origin are replaced

-- a row keeps its arrival where its reference is still offered with its key
abbrev pub offered_again : Row → Option Offered → Option Row
offered_again row None = None
offered_again row (Some x) = cond (same_text x.key row.offered.key) (Some (record row { offered = x })) None

-- a row of this origin as its offers have it, and each other row as it was
abbrev pub row_after : Origin → (Ref → Option Offered) → Row → Option Row
row_after o offers row = cond (same_origin o row.origin) (offered_again row (offers row.reference)) (Some row)

-- whether a row is of this origin and reference
abbrev pub is_offer : Origin → Ref → Option Row → Bool
is_offer o r None = false
is_offer o r (Some row) = same_origin o row.origin && same_text r row.reference

-- whether there is a row of this origin and reference
abbrev pub has_row : Rows → Origin → Ref → Bool
has_row rows o r = list_any (λ a. is_offer o r (row_at rows a)) (keys rows)

-- an offer that has no row gets one, with the next arrival
abbrev pub add_offer : Origin → Ref → Option Offered → Numbered → Numbered
add_offer o r None x = x
add_offer o r (Some offered) x =
    cond (has_row x.rows o r) x (record { rows = put nat_cmp x.next (record { origin = o; reference = r; offered = offered }) x.rows; next = x.next + 1 })

-- offers get their rows in this order
abbrev pub add_offers : Origin → (Ref → Option Offered) → List Ref → Numbered → Numbered
add_offers o offers [] x = x
add_offers o offers (r ∷ rs) x = add_offers o offers rs (add_offer o r (offers r) x)

-- the origin o offers just these, and what is new is numbered in this order
abbrev pub replaced : Origin → (Ref → Option Offered) → List Ref → State → Numbered
replaced o offers order m = add_offers o offers order (record { rows = over nat_cmp m.rows (λ a row. row_after o offers row); next = m.arrival })

-- the state in which the origin o offers just these
abbrev pub with_offers : Origin → (Ref → Option Offered) → List Ref → State → State
with_offers o offers order m =
    let x = replaced o offers order m in
    record m { rows = x.rows; arrival = x.next }

-- ---- the events

-- the first entries put into a table, the earlier of them counting
abbrev pub put_all : {X : Type 0} → Map X → Map X → Map X
put_all [] m = m
put_all (e ∷ es) m = put text_cmp e.0 e.1 (put_all es m)

-- items without those of these references
abbrev pub without : List Ref → Offers → Offers
without refs items = over text_cmp items (λ r x. cond (list_any (same_text r) refs) None (Some x))

-- what a provider gave: nothing, and the serial 0, before its first mutation
abbrev pub source_at : Option ProviderInputs → ProviderInputs
source_at None = record { serial = 0; items = [] }
source_at (Some x) = x

-- the last serial of a provider, 0 before the first
abbrev pub last_serial : State → Text → ℕ
last_serial m p = (source_at (get m.providers p)).serial

-- a provider's items after a mutation
abbrev pub items_after : Given → Offers → Offers
items_after x items = put_all x.items (cond x.full [] (without x.removed items))

-- a provider's inputs and rows are those after a mutation
abbrev pub mutated_state : Text → Given → ProviderInputs → State → State
mutated_state p x source m =
    let items = items_after x source.items in
    with_offers (Provider p) (get items) (keys x.items) (record m { providers = put text_cmp p (record { serial = x.serial; items = items }) m.providers })

-- what may happen to the catalogue
pub data Event : Type 0 where
  Mutate : Text → Given → Event
  ShelfPut : Text → Text → Event
  ShelfDrop : Text → Event
  Refresh : Ref → Event
  Forget : Ref → Event
  ForgetNumber : ℕ → Event
  Take : ℕ → Event
  -- a settle's take of the record that it names, whatever lease that has
  TakeAt : Ref → ℕ → Event
  Finish : Order → ℕ → Event
  PutStitch : StitchOrder → Event

-- a record with this due moment and lease
abbrev pub leased : ℕ → Record → Option Lease → Record
leased due x lease = record x { lease = lease; due = due }

-- a reference's record is put
abbrev pub with_record : Ref → Record → State → State
with_record r x m = record m { records = put text_cmp r x m.records }

-- a table without the entry of r
abbrev pub without_key : {X : Type 0} → Ref → Map X → Map X
without_key r m = over text_cmp m (λ q x. cond (same_text r q) None (Some x))

-- r has neither record nor rows of its own, nor is it an orphan
abbrev pub forgotten : Ref → State → State
forgotten r m = with_offers (Entity r) (λ q. None) [] (record m { records = without_key r m.records; orphans = without_key r m.orphans })

-- a record after a result: it is due after the interval and free, a good result gives output and issues, a bad one issues alone
abbrev pub finished_record : Settings → ℕ → Record → Outcome → Record
finished_record s now x (Good output issues) = record x { output = Some output; issues = issues; due = now + s.interval; lease = None }
finished_record s now x (Bad issues) = record x { issues = issues; due = now + s.interval; lease = None }

-- the rows after a result: a good one replaces those of its reference
abbrev pub finished_rows : Ref → Outcome → State → Numbered
finished_rows r (Good output issues) m = replaced (Entity r) (get output.offers) (keys output.offers) m
finished_rows r (Bad issues) m = record { rows = m.rows; next = m.arrival }

-- a state with these rows, and their next arrival
abbrev pub with_rows : Numbered → State → State
with_rows x m = record m { rows = x.rows; arrival = x.next }

-- record and rows are those after a result
abbrev pub finished_state : Settings → Ref → ℕ → Record → Outcome → State → State
finished_state s r now x outcome m =
    let n = with_record r (finished_record s now x outcome) m in
    with_rows (finished_rows r outcome n) n

-- whether a lease has this token
abbrev pub has_token : ℕ → Option Lease → Bool
has_token token None = false
has_token token (Some lease) = nat_eq token lease.token

-- whether this is the order of the present lease
abbrev pub is_present : Rules → State → Order → Record → Bool
is_present rules m order x = has_token order.token x.lease && same_option rules.same_work (Some order.work) (work rules m order.reference)

-- what leaves at a finish becomes an orphan, or is deleted, by the rule for orphans
abbrev pub leaving : OrphanRule → Leaving
leaving Keep = Orphaned
leaving Delete = Deleted

-- the result of an order counts where the order is that of the present lease; what leaves goes by the rule for orphans
abbrev pub finish : Rules → Settings → Order → ℕ → State → Option Record → State
finish rules s order now m None = m
finish rules s order now m (Some x) =
    cond (is_present rules m order x) (frame rules (leaving s.orphans) m (finished_state s order.reference now x (rules.result order.work) m)) m

-- a mutation acts where its serial is above the provider's last one; what leaves is deleted
abbrev pub mutate : Rules → Text → Given → State → ProviderInputs → State
mutate rules p x m source = cond (nat_lt source.serial x.serial) (frame rules Deleted m (mutated_state p x source m)) m

-- a record is due at once, and free
abbrev pub refresh : Ref → State → Option Record → State
refresh r m None = m
refresh r m (Some x) = with_record r (leased 0 x None) m

-- a record gets a lease with a new token, which lapses after the length of a lease
abbrev pub take : Settings → Ref → ℕ → State → Option Record → State
take s r now m None = m
take s r now m (Some x) =
    record (with_record r (leased x.due x (Some (record { token = m.token; expires = now + s.lease }))) m) { token = m.token + 1 }

-- a record's due moment
abbrev pub due_at : Option Record → ℕ
due_at None = 0
due_at (Some x) = x.due

-- the first of two in order of due moment, and then of place
abbrev pub earlier : State → Ref → Option Ref → Option Ref
earlier m r None = Some r
earlier m r (Some q) = cond (nat_le (due_at (get m.records r)) (due_at (get m.records q))) (Some r) (Some q)

-- the first of these in order of due moment, and then of place
abbrev pub earliest : State → List Ref → Option Ref
earliest m [] = None
earliest m (r ∷ rs) = earlier m r (earliest m rs)

-- the record that a take at this moment leases
abbrev pub next_taken : ℕ → State → Option Ref
next_taken now m = earliest m (filter (λ r. may_take now (get m.records r)) (keys m.records))

-- that record is taken, if there is one
abbrev pub take_next : Settings → ℕ → State → Option Ref → State
take_next s now m None = m
take_next s now m (Some r) = take s r now m (get m.records r)

-- what is known under r is forgotten; what leaves is deleted
abbrev pub forget : Rules → Ref → State → State
forget rules r m = cond (is_some (get m.records r) || is_some (get m.orphans r)) (frame rules Deleted m (forgotten r m)) m

-- whether a record, or else an orphan, has this number
abbrev pub has_number : ℕ → Option Record → Option Orphan → Bool
has_number number None None = false
has_number number None (Some x) = nat_eq number x.number
has_number number (Some x) orphan = nat_eq number x.number

-- the reference whose record or orphan has this number
abbrev pub ref_at : State → ℕ → Option Ref
ref_at m number = first (λ r. has_number number (get m.records r) (get m.orphans r)) (known_refs m)

-- what is known under a reference is forgotten, if there is one
abbrev pub forget_at : Rules → State → Option Ref → State
forget_at rules m None = m
forget_at rules m (Some r) = forget rules r m

-- whether a mark has this ticket
abbrev pub is_ticket : ℕ → Option ℕ → Bool
is_ticket ticket None = false
is_ticket ticket (Some x) = nat_eq ticket x

-- whether this is the order of the present mark, with the present parts
abbrev pub is_present_stitch : Rules → State → StitchOrder → Bool
is_present_stitch rules m order = is_ticket order.ticket (get m.marks order.reference) && same_option rules.same_parts (Some order.parts) (parts rules m order.reference)

-- the document of an order is stored and the mark goes, where the order is the present one
abbrev pub put_stitch : Rules → StitchOrder → State → State
put_stitch rules order m =
    cond (is_present_stitch rules m order)
    (record m { documents = put text_cmp order.reference (rules.doc order.parts) m.documents; marks = without_key order.reference m.marks })
    m

-- the state after an event that is not refused; what is late or not there changes nothing
abbrev pub change : Rules → Settings → Event → State → State
change rules s (Mutate p x) m = mutate rules p x m (source_at (get m.providers p))
change rules s (ShelfPut name text) m = frame rules Deleted m (record m { shelf = put text_cmp name text m.shelf })
change rules s (ShelfDrop name) m = cond (is_some (get m.shelf name)) (frame rules Deleted m (record m { shelf = without_key name m.shelf })) m
change rules s (Refresh r) m = refresh r m (get m.records r)
change rules s (Forget r) m = forget rules r m
change rules s (ForgetNumber number) m = forget_at rules m (ref_at m number)
change rules s (Take now) m = take_next s now m (next_taken now m)
change rules s (TakeAt r now) m = take s r now m (get m.records r)
change rules s (Finish order now) m = finish rules s order now m (get m.records order.reference)
change rules s (PutStitch order) m = put_stitch rules order m

-- ---- refusals

-- the first of two faults
abbrev pub or_else : Option Fault → Option Fault → Option Fault
or_else None other = other
or_else (Some x) other = Some x

-- a fault, where it holds
abbrev pub fault_where : Bool → Fault → Option Fault
fault_where is fault = cond is (Some fault) None

-- the faults that depend on the state before the event: an old serial, and what is not there
abbrev pub not_found : Rules → Event → State → Option Fault
not_found rules (Mutate p x) m = let last = (source_at (get m.providers p)).serial in fault_where (nat_lt x.serial last) (OldSerial last)
not_found rules (ShelfPut name text) m = None
not_found rules (ShelfDrop name) m = fault_where (is_none (get m.shelf name)) NotFound
not_found rules (Refresh r) m = fault_where (is_none (get m.records r)) NotFound
not_found rules (Forget r) m = fault_where (is_none (get m.records r) && is_none (get m.orphans r)) NotFound
not_found rules (ForgetNumber number) m = fault_where (is_none (ref_at m number)) NotFound
not_found rules (Take now) m = None
not_found rules (TakeAt r now) m = None
not_found rules (Finish order now) m = None
not_found rules (PutStitch order) m = None

-- the fault of an input that passes the limit, n being the state that the event would give; a mutation that doesn't act
-- is never too large
abbrev pub too_large : Rules → Settings → Event → State → State → Option Fault
too_large rules s (Mutate p x) m n =
    let sum = rules.bytes n.providers n.shelf in
    fault_where (nat_lt (source_at (get m.providers p)).serial x.serial && nat_lt s.input_limit sum) (TooLarge sum)
too_large rules s (ShelfPut name text) m n = let sum = rules.bytes n.providers n.shelf in fault_where (nat_lt s.input_limit sum) (TooLarge sum)
too_large rules s e m n = None

-- the first counter that is above 2 ^ 59
abbrev pub spent : State → Option Fault
spent n =
    or_else (fault_where (nat_lt (2 ^ 59) n.arrival) (Spent Arrival))
    (or_else (fault_where (nat_lt (2 ^ 59) n.number) (Spent Number))
    (or_else (fault_where (nat_lt (2 ^ 59) n.token) (Spent Token)) (fault_where (nat_lt (2 ^ 59) n.ticket) (Spent Ticket))))

-- why an event is refused: of several causes the first
abbrev pub refusal : Rules → Settings → Event → State → Option Fault
refusal rules s e m =
    let n = change rules s e m in
    or_else (not_found rules e m) (or_else (too_large rules s e m n) (spent n))

-- the state after an event; one that is refused changes nothing
unfoldable pub step : Rules → Settings → Event → State → State
step rules s e m = cond (is_some (refusal rules s e m)) m (change rules s e m)

-- the state after events, one after the other
abbrev pub run : Rules → Settings → List Event → State → State
run rules s [] m = m
run rules s (e ∷ es) m = run rules s es (step rules s e m)

-- a catalogue without anything
abbrev pub start : State
start = record { providers = []; shelf = []; rows = []; holders = []; records = []; orphans = []; marks = []; documents = []; arrival = 1; number = 1; token = 1; ticket = 1 }

-- the state that is read back from its store: no lease and no mark, every record due, and each document that of its parts
abbrev pub reopened : Rules → State → State
reopened rules m =
    record m {
      records = over text_cmp m.records (λ r x. Some (due_now x));
      marks = [];
      documents = tabulate text_cmp (known_refs m) (λ r. option_map rules.doc (parts rules m r));
      token = 1;
      ticket = 1;
    }
