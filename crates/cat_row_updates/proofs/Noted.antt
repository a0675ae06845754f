-- The arrival numbers of an entity's offers are found among those of its own rows alone.
use Rattle.std.proofs.Common.{T, ◌≡◌, ◌⊎◌, inl, inr, ℕ, [], refl, sym, ap, subst, ◌∙◌}
use Rattle.std.specs.declared.option.Option.{Option}
use Rattle.std.specs.declared.option.Option.TheVariants.{None, Some}
use Rattle.std.specs.Cmp.{nat_cmp_total}
use Rattle.std.specs.FinMap.{nat_cmp-IsAntisymmetric}
use Rattle.std.specs.FinMap.Entries.{is_sorted}
use Rattle.std.specs.List.{flat_map}
use Rattle.std.specs.Ordering.{nat_cmp}
use Rattle.cat_collections.specs.Table.{Map, Text, find, get}
use Rattle.cat_collections.proofs.Tables.{text_antisymmetric, text_total}
use Rattle.cat_model.specs.Rows.{Rows, given, row_at}
use Rattle.cat_model.specs.declared.types.Origin.{Origin}
use Rattle.cat_model.specs.declared.types.Origin.TheVariants.{Provider, Entity}
use Rattle.cat_model.specs.declared.types.Record.{Record as Recorded}
use Rattle.cat_model.specs.declared.types.Row.{Row}
use Rattle.cat_model.specs.declared.types.State.{State}
use Rattle.cat_stored_rows.specs.Stored.{emitted, emitted_as, emitted_by, pairs_cmp, record_row}
use Rattle.cat_stored_rows.proofs.In.{In, alike, found_in, found_in_puts, from_flat, from_puts, in_flat, none_some}
use Rattle.cat_row_updates.proofs.Offers.{emitted_at, pairs_antisymmetric, pairs_total}
use Rattle.cat_row_updates.specs.Places.{arrivals_of, noted_as, noted_at, record_with}
use Rattle.cat_row_updates.specs.Renewed.{AreSorted, IsKept}
use Rattle.cat_row_updates.proofs.Members.{from_given, in_given}
use Rattle.cat_row_updates.proofs.Standing.{to_T}

-- the row with an arrival number was emitted by an entity, and is of a reference
pub record IsEmitted (rows : Rows) (e z : Text) (a : ℕ) : Type 0 where
  pub row : Row
  pub at : row_at rows a ≡ Some row
  pub from : row.origin ≡ Entity e
  pub names : row.reference ≡ z

module _ (rows : Rows) (sorted : T (is_sorted nat_cmp rows)) where
  emitted_row : (e z : Text) (a b : ℕ) (row : Row) → row_at rows b ≡ Some row → (o : Origin) → row.origin ≡ o → In ((e, z), a) (emitted_by b row.reference o) → IsEmitted rows e z a
  emitted_row e z a b row at (Provider p) is h = absurd h
  emitted_row e z a b row at (Entity q) is (inl same) = record {
    row = row;
    at = ap (row_at rows) (ap (λ x. x.1) same) ∙ at;
    from = is ∙ ap Entity (sym (ap (λ x. x.0.0) same));
    names = sym (ap (λ x. x.0.1) same);
  }
  emitted_row e z a b row at (Entity q) is (inr h) = absurd h

  -- what is found among the arrival numbers is that of such a row
  pub emitted_from : (e z : Text) (a : ℕ) → find pairs_cmp (e, z) (emitted rows) ≡ Some a → IsEmitted rows e z a
  emitted_from e z a f = go (from_puts pairs_total pairs_antisymmetric (flat_map emitted_as rows) [] (e, z) a f)
    where
      go : In ((e, z), a) (flat_map emitted_as rows) ⊎ (None ≡ Some a) → IsEmitted rows e z a
      go (inl h) =
          let w = from_flat emitted_as ((e, z), a) rows h in
          emitted_row e z a w.0.0 w.0.1 (found_in nat_cmp_total nat_cmp-IsAntisymmetric rows sorted w.0.0 w.0.1 w.1) w.0.1.origin refl w.2
      go (inr n) = absurd (none_some n)

  module _ (once : (a b : ℕ) (row other : Row) → row_at rows a ≡ Some row → row_at rows b ≡ Some other → row.origin ≡ other.origin → row.reference ≡ other.reference → a ≡ b) (e : Text) where
    abbrev entries : Map ℕ
    entries = flat_map (noted_at rows) (given rows (Entity e))

    is_entry : (z : Text) (a : ℕ) → In (z, a) entries → find pairs_cmp (e, z) (emitted rows) ≡ Some a
    is_entry z a h = let f = from_flat (noted_at rows) (z, a) (given rows (Entity e)) h in by f.0 f.1 (row_at rows f.0) refl f.2
      where
        by : (b : ℕ) → In b (given rows (Entity e)) → (v : Option Row) → row_at rows b ≡ v → In (z, a) (noted_as b v) → find pairs_cmp (e, z) (emitted rows) ≡ Some a
        by b g None at h = absurd h
        by b g (Some row) at (inl is) =
            subst (λ (q : Text × ℕ). find pairs_cmp (e, q.0) (emitted rows) ≡ Some q.1) (sym is) (emitted_at rows sorted once b row e at (from_given rows (Entity e) b row g at))
        by b g (Some row) at (inr h) = absurd h

    has_entry : (z : Text) (a : ℕ) → IsEmitted rows e z a → In (z, a) entries
    has_entry z a w =
        let noted : In (w.row.reference, a) (noted_at rows a) = subst (λ v. In (w.row.reference, a) (noted_as a v)) (sym w.at) (inl refl) in
        subst (λ q. In (q, a) entries) w.names (in_flat (noted_at rows) a (w.row.reference, a) (given rows (Entity e)) (in_given rows (Entity e) a w.row w.at w.from) noted)

    pub same_arrivals : (z : Text) → get (arrivals_of rows e) z ≡ find pairs_cmp (e, z) (emitted rows)
    same_arrivals z = alike (get (arrivals_of rows e) z) (find pairs_cmp (e, z) (emitted rows)) there back
      where
        there : (a : ℕ) → get (arrivals_of rows e) z ≡ Some a → find pairs_cmp (e, z) (emitted rows) ≡ Some a
        there a f = go (from_puts text_total text_antisymmetric entries [] z a f)
          where
            go : In (z, a) entries ⊎ (None ≡ Some a) → find pairs_cmp (e, z) (emitted rows) ≡ Some a
            go (inl h) = is_entry z a h
            go (inr n) = absurd (none_some n)

        back : (a : ℕ) → find pairs_cmp (e, z) (emitted rows) ≡ Some a → get (arrivals_of rows e) z ≡ Some a
        back a f =
            let g = found_in_puts text_total text_antisymmetric entries z a (has_entry z a (emitted_from e z a f)) in
            g.1 ∙ (sym (there g.0 g.1) ∙ f)

-- so a record's row is made of its own rows
pub same_record : (m : State) → AreSorted m → IsKept m → (r : Text) (x : Recorded) → record_with (get (arrivals_of m.rows r)) m.holders (r, x) ≡ record_row m.holders (emitted m.rows) (r, x)
same_record m o k r x =
    let each : (z : Text) → get (arrivals_of m.rows r) z ≡ find pairs_cmp (r, z) (emitted m.rows) = same_arrivals m.rows (to_T _ o.rows) k.offers.once r in
    let same : (λ (z : Text). get (arrivals_of m.rows r) z) ≡ (λ (z : Text). find pairs_cmp (r, z) (emitted m.rows)) = λ i z. each z i in
    ap (λ (arrival : Text → Option ℕ). record_with arrival m.holders (r, x)) same
