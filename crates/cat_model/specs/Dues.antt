-- Records by reference, by the moment from which they are due, and by the moment at which their leases lapse.
use Rattle.std.specs.Prelude.{◌≡◌, ℕ, Bool, true, false, cond, ◌&&◌, nat_le, nat_lt, is_some, unwrap_or, List, [], ◌∷◌, length}
use Rattle.std.specs.List.{filter}
use Rattle.std.specs.Ordering.{eq_by_cmp, nat_cmp}
use Rattle.std.specs.declared.cmp.Ordering.{Ordering}
use Rattle.std.specs.declared.option.Option.{Option}
use Rattle.std.specs.declared.option.Option.TheVariants.{None, Some}
use Rattle.cat_collections.specs.Pairs.{pair_cmp}
use Rattle.cat_collections.specs.Table.{Map, Text, find, get, keys, put, text_cmp}
use Rattle.cat_model.specs.declared.types.Lease.{Lease}
use Rattle.cat_model.specs.declared.types.Record.{Record}

-- whether there is no lease, or one that has lapsed
abbrev pub is_free : ℕ → Option Lease → Bool
is_free now None = true
is_free now (Some lease) = nat_le lease.expires now

-- whether a lease expires above now
abbrev pub is_live : ℕ → Option Lease → Bool
is_live now None = false
is_live now (Some lease) = nat_lt now lease.expires

-- whether a record has a lease that expires above now
abbrev pub is_leased : ℕ → Option Record → Bool
is_leased now None = false
is_leased now (Some x) = is_live now x.lease

-- whether a record is due at the moment now
abbrev pub is_due : ℕ → Option Record → Bool
is_due now None = false
is_due now (Some x) = nat_le x.due now

-- whether a record is due and has no live lease
abbrev pub may_take : ℕ → Option Record → Bool
may_take now None = false
may_take now (Some x) = nat_le x.due now && is_free now x.lease

-- the references of the records that are due, in order
abbrev pub refs_due : ℕ → Map Record → List Text
refs_due now records = filter (λ r. is_due now (get records r)) (keys records)

-- the record of a reference, if there is one, gets this lease, and a due moment if one is given
abbrev pub rerecorded_at : Text → Option ℕ → Option Lease → Option Record → Map Record → Map Record
rerecorded_at r due lease None records = records
rerecorded_at r due lease (Some x) records = put text_cmp r (record x { due = unwrap_or due x.due; lease = lease }) records

-- ---- the entry of the record that a take leases

-- the first of two entries in order of due moment, and then of place
abbrev pub sooner : Text × Record → Option (Text × Record) → Option (Text × Record)
sooner e None = Some e
sooner e (Some b) = cond (nat_le e.1.due b.1.due) (Some e) (Some b)

-- of the entries whose records may be taken, the first in order of due moment, and then of place
abbrev pub soonest : ℕ → Map Record → Option (Text × Record)
soonest now [] = None
soonest now (e ∷ es) = cond (may_take now (Some e.1)) (sooner e (soonest now es)) (soonest now es)

-- ---- moments in order

-- moments, each with the reference of a record
abbrev pub Moments : Type 0
Moments = List ((ℕ × Text) × Unit {0})

-- they are ordered by moment, and by reference where moments tie
abbrev pub moment_cmp : ℕ × Text → ℕ × Text → Ordering
moment_cmp = pair_cmp nat_cmp text_cmp

-- the moment from which a record is due
abbrev pub due_of : Record → ℕ
due_of x = x.due

-- the moment at which a lease lapses, 0 where there is none
abbrev pub lapse : Option Lease → ℕ
lapse None = 0
lapse (Some lease) = lease.expires

-- the moment at which the lease of a record lapses, 0 where it has none
abbrev pub lapse_of : Record → ℕ
lapse_of x = lapse x.lease

-- whether this is the moment of a record
abbrev pub is_at : (Record → ℕ) → ℕ → Option Record → Bool
is_at f t None = false
is_at f t (Some x) = eq_by_cmp nat_cmp t (f x)

-- a moment stands with a reference exactly where it is that of the reference's record
pub record AreMoments (f : Record → ℕ) (records : Map Record) (moments : Moments) : Type 0 where
  pub same : (t : ℕ) (r : Text) → is_some (find moment_cmp (t, r) moments) ≡ is_at f t (get records r)
  pub count : length moments ≡ length records

-- in order of the moments, up to the present one, the first reference whose record may be taken
abbrev pub first_taken : ℕ → Map Record → Moments → Option Text
first_taken now records [] = None
first_taken now records (d ∷ ds) = cond (nat_lt now d.0.0) None (cond (may_take now (get records d.0.1)) (Some d.0.1) (first_taken now records ds))

-- in order of the moments, up to the present one, the references
abbrev pub refs_until : ℕ → Moments → List Text
refs_until now [] = []
refs_until now (d ∷ ds) = cond (nat_lt now d.0.0) [] (d.0.1 ∷ refs_until now ds)
