-- Due moments, leases, marks and documents aren't stored.
use Rattle.std.proofs.Common.{◌≡◌, ℕ, suc, ◌+◌, Bool, true, false, cond, List, [], ◌∷◌, ◌++◌, length, map, flat_map, refl, sym, ap, ◌∙◌, ◌==◌, ◌&&◌, if◌then◌else◌, is_some, true≢false, Ordering, Less, Equal, Greater}
use Rattle.std.specs.declared.option.Option.{Option}
use Rattle.std.specs.declared.option.Option.TheVariants.{None, Some}
use Rattle.std.specs.Cmp.{IsTotalOrder}
use Rattle.std.specs.FinMap.Entries.{below_all, by_order, is_sorted}
use Rattle.std.specs.Ordering.{is_eq, is_lt}
use Rattle.cat_collections.specs.Table.{find, get, put, text_cmp}
use Rattle.cat_collections.proofs.Tables.{and_first, and_second, text_total}
use Rattle.cat_model.specs.Catalogue.{Ref, Rules}
use Rattle.cat_model.specs.Step.{change, is_present_stitch, leased, next_taken, refresh, refusal, step, take, take_next, with_record, without_key}
use Rattle.cat_model.specs.Step.Event.{PutStitch, Refresh, Take, TakeAt}
use Rattle.cat_model.specs.Step.{Event}
use Rattle.cat_model.specs.declared.types.Lease.{Lease}
use Rattle.cat_model.specs.declared.types.OrphanRule.{OrphanRule}
use Rattle.cat_model.specs.declared.types.Record.{Record}
use Rattle.cat_model.specs.declared.types.Settings.{Settings}
use Rattle.cat_model.specs.declared.types.State.{State}
use Rattle.cat_model.specs.declared.types.StitchOrder.{StitchOrder}
use Rattle.cat_row_format.specs.declared.row.StoredRow.{StoredRow}
use Rattle.cat_stored_rows.specs.Stored.{Stored, counter_rows, emitted, given_rows, is_keep, orphan_row, provider_row, put_rows, record_row, rule_of, shelf_row, stored}
use Rattle.cat_row_format.specs.declared.row.StoredRow.TheVariants.{Settings as SettingsRow}

is_less : (r : Ordering) → is_lt r ≡ true → r ≡ Less
is_less Less e = refl
is_less Equal e = absurd (true≢false (sym e))
is_less Greater e = absurd (true≢false (sym e))

-- ---- an entry is put in place of one from which a function makes the same

module _ {K X : Type 0} {R : K → K → Ordering} (o : IsTotalOrder R) where
  -- a key below all is absent
  below : (k b : K) (es : List (K × X)) → R k b ≡ Less → below_all R b es ≡ true → find R k es ≡ None
  below k b [] l h = refl
  below k b (e ∷ es) l h = ap (λ r. cond (is_eq r) (Some e.1) (find R k es)) (o.trans k b e.0 l (is_less (R b e.0) (and_first _ _ h))) ∙ below k b es l (and_second _ _ h)

  module _ {Y : Type 0} (f : K × X → Y) (k : K) (v x : X) (same : (q : K) → f (q, v) ≡ f (q, x)) where
    replaced : (es : List (K × X)) → is_sorted R es ≡ true → find R k es ≡ Some x → (length (put R k v es) ≡ length es) × (map f (put R k v es) ≡ map f es)
    replaced [] sorted h = absurd (true≢false (sym (ap is_some h)))
    replaced (e ∷ es) sorted h = go (R k e.0) refl h (replaced es (and_second _ _ sorted))
      where
        go : (r : Ordering) → R k e.0 ≡ r → cond (is_eq r) (Some e.1) (find R k es) ≡ Some x
            → (find R k es ≡ Some x → (length (put R k v es) ≡ length es) × (map f (put R k v es) ≡ map f es))
            → (length (by_order r ((k, v) ∷ e ∷ es) ((e.0, v) ∷ es) (e ∷ put R k v es)) ≡ length (e ∷ es)) × (map f (by_order r ((k, v) ∷ e ∷ es) ((e.0, v) ∷ es) (e ∷ put R k v es)) ≡ map f (e ∷ es))
        go Less l h more = absurd (true≢false (sym (ap is_some (sym (below k e.0 es l (and_first _ _ sorted)) ∙ h))))
        go Equal t h more = (refl, ap (λ y. y ∷ map f es) (same e.0 ∙ ap (λ (u : Option X). f (e.0, elim u [ None ↦ x | Some w ↦ w ])) (sym h)))
        go Greater g h more = let m = more h in (ap suc m.0, ap (λ ys. f e ∷ ys) m.1)

-- ---- events

-- the rows by how many records there are and by the rows of these
abbrev by_records : OrphanRule → State → ℕ → List StoredRow → Stored
by_records rule m count rows =
    put_rows (
    if ((length m.providers == 0 && length m.shelf == 0) && (count == 0 && length m.orphans == 0)) && ((m.arrival == 1 && m.number == 1) && is_keep rule) then [] else
    (counter_rows m
    ++ (SettingsRow (rule_of rule)
    ∷ (map provider_row m.providers
    ++ (flat_map given_rows m.rows
    ++ (map shelf_row m.shelf
    ++ (rows
    ++ map orphan_row m.orphans))))))
    ) []

module _ (rules : Rules) (s : Settings) (rule : OrphanRule) where
  -- a record keeps its row when it is due at another moment, or leased
  leased_still : (m : State) (r : Ref) (x : Record) (due : ℕ) (lease : Option Lease) → is_sorted text_cmp m.records ≡ true → get m.records r ≡ Some x
      → stored rule (with_record r (leased due x lease) m) ≡ stored rule m
  unfolding stored
  leased_still m r x due lease sorted at =
      let same = replaced text_total (record_row m.holders (emitted m.rows)) r (leased due x lease) x (λ q. refl) m.records sorted at in
      λ i. by_records rule m (same.0 i) (same.1 i)

  -- an event keeps the rows where its change does
  pub step_still : (e : Event) (m : State) → stored rule (change rules s e m) ≡ stored rule m → stored rule (step rules s e m) ≡ stored rule m
  unfolding step
  step_still e m same = go (is_some (refusal rules s e m))
    where
      go : (b : Bool) → stored rule (cond b m (change rules s e m)) ≡ stored rule m
      go true = refl
      go false = same

  pub refresh_still : (r : Ref) (m : State) → is_sorted text_cmp m.records ≡ true → stored rule (step rules s (Refresh r) m) ≡ stored rule m
  refresh_still r m sorted = step_still (Refresh r) m (go (get m.records r) refl)
    where
      go : (v : Option Record) → get m.records r ≡ v → stored rule (refresh r m v) ≡ stored rule m
      go None at = refl
      go (Some x) at = leased_still m r x 0 None sorted at

  with_token : (m n : State) (token : ℕ) → stored rule n ≡ stored rule m → stored rule (record n { token = token }) ≡ stored rule m
  unfolding stored
  with_token m n token same = same

  taken_still : (now : ℕ) (m : State) → is_sorted text_cmp m.records ≡ true → (r : Ref) (v : Option Record) → get m.records r ≡ v → stored rule (take s r now m v) ≡ stored rule m
  taken_still now m sorted r None at = refl
  taken_still now m sorted r (Some x) at =
      let lease : Option Lease = Some (record { token = m.token; expires = now + s.lease }) in
      with_token m (with_record r (leased x.due x lease) m) (m.token + 1) (leased_still m r x x.due lease sorted at)

  pub take_still : (now : ℕ) (m : State) → is_sorted text_cmp m.records ≡ true → stored rule (step rules s (Take now) m) ≡ stored rule m
  take_still now m sorted = step_still (Take now) m (next (next_taken now m))
    where
      next : (v : Option Ref) → stored rule (take_next s now m v) ≡ stored rule m
      next None = refl
      next (Some r) = taken_still now m sorted r (get m.records r) refl

  pub take_at_still : (r : Ref) (now : ℕ) (m : State) → is_sorted text_cmp m.records ≡ true → stored rule (step rules s (TakeAt r now) m) ≡ stored rule m
  take_at_still r now m sorted = step_still (TakeAt r now) m (taken_still now m sorted r (get m.records r) refl)

  pub put_stitch_still : (order : StitchOrder) (m : State) → stored rule (step rules s (PutStitch order) m) ≡ stored rule m
  unfolding stored
  put_stitch_still order m = step_still (PutStitch order) m (go (is_present_stitch rules m order))
    where
      go : (b : Bool) → stored rule (cond b (record m { documents = put text_cmp order.reference (rules.doc order.parts) m.documents; marks = without_key order.reference m.marks }) m) ≡ stored rule m
      go true = refl
      go false = refl
