-- States that have the same rows are the same in all that is stored.
use Rattle.std.proofs.Common.{◌≡◌, ℕ, Bool, true, false, ◌&&◌, ◌==◌, List, [], ◌∷◌, length, refl, sym, ap, subst, ◌∙◌, is_some, true≢false, eqb-true, arith}
use Rattle.std.specs.Prelude.{if◌then◌else◌}
use Rattle.std.specs.declared.option.Option.{Option}
use Rattle.std.specs.declared.option.Option.TheVariants.{None, Some}
use Rattle.std.specs.Cmp.{nat_cmp_total}
use Rattle.std.specs.FinMap.{nat_cmp-IsAntisymmetric}
use Rattle.std.specs.List.{AllByRecursion}
use Rattle.std.specs.Option.{option_and_then, option_map}
use Rattle.cat_tree.specs.Proper.{IsNarrow}
use Rattle.cat_collections.specs.Table.{Text, get, keys, over, text_cmp}
use Rattle.cat_collections.proofs.Tables.{and_first, and_second, find-over, same_tabulated, text_antisymmetric, text_total}
use Rattle.cat_types.specs.declared.input.Offered.{Offered}
use Rattle.cat_types.specs.declared.work.Output.{Output}
use Rattle.cat_model.specs.Catalogue.{Ref, due_now, row_at}
use Rattle.cat_model.specs.Sound.{HasRow, offered}
use Rattle.cat_model.specs.declared.types.Origin.{Origin}
use Rattle.cat_model.specs.declared.types.Origin.TheVariants.{Provider as OfProvider, Entity}
use Rattle.cat_model.specs.declared.types.OrphanRule.{OrphanRule}
use Rattle.cat_model.specs.declared.types.OrphanRule.TheVariants.{Keep, Delete}
use Rattle.cat_model.specs.declared.types.ProviderInputs.{ProviderInputs}
use Rattle.cat_model.specs.declared.types.Record.{Record as Recorded}
use Rattle.cat_model.specs.declared.types.Row.{Row}
use Rattle.cat_model.specs.declared.types.State.{State}
use Rattle.cat_row_format.specs.Text.{row_data}
use Rattle.cat_row_format.specs.declared.row.StoredCounter.TheVariants.{Arrival, Number}
use Rattle.cat_row_format.specs.declared.row.StoredRow.{StoredRow}
use Rattle.cat_row_format.specs.declared.row.StoredRow.TheVariants.{Counter}
use Rattle.cat_stored_rows.specs.Stored.{all_rows, emitted, is_blank, is_keep, output_row, put_rows, rows_of, stored, texts_of}
use Rattle.cat_stored_rows.specs.declared.version.Version.TheVariants.{Two}
use Rattle.cat_stored_rows.specs.Told.{IsTold}
use Rattle.cat_row_updates.specs.Told.{IsPlaced}
use Rattle.cat_stored_rows.proofs.In.{In, alike, all_in, none_some, same_table}
use Rattle.cat_row_updates.proofs.Offers.{same_listed, same_refs}
use Rattle.cat_row_updates.proofs.Parts.{IsLike, holder_too, is_like, offers_are, orphan_too, provider_too, record_too, row_too, same_next, same_rule, text_too}
use Rattle.cat_row_updates.proofs.Rows.{goes_over, meets}
use Rattle.cat_row_updates.proofs.Views.{AreKeyed, all_apart, has_counter, keyed_too, one_row}

-- the records, each due at once and free
abbrev pub due_records : State → List (Text × Recorded)
due_records m = over text_cmp m.records (λ r x. Some (due_now x))

-- the states are the same in all that is stored
pub record AreSame (m n : State) : Type 0 where
  pub providers : m.providers ≡ n.providers
  pub shelf : m.shelf ≡ n.shelf
  pub rows : m.rows ≡ n.rows
  pub holders : m.holders ≡ n.holders
  pub records : due_records m ≡ due_records n
  pub orphans : m.orphans ≡ n.orphans
  pub arrival : m.arrival ≡ n.arrival
  pub number : m.number ≡ n.number

-- ---- states that have rows

-- a record with the changed value of the other's
due_there : (m n : State) → ((r : Ref) (x : Recorded) → get m.records r ≡ Some x → option_map due_now (get n.records r) ≡ Some (due_now x)) → (r : Ref) (y : Recorded)
    → option_and_then (λ x. Some (due_now x)) (get m.records r) ≡ Some y → option_and_then (λ x. Some (due_now x)) (get n.records r) ≡ Some y
due_there m n too r y f = go (get m.records r) (too r) f
  where
    mapped : (v : Option Recorded) → option_and_then (λ x. Some (due_now x)) v ≡ option_map due_now v
    mapped None = refl
    mapped (Some x) = refl

    go : (v : Option Recorded) → ((x : Recorded) → v ≡ Some x → option_map due_now (get n.records r) ≡ Some (due_now x)) → option_and_then (λ x. Some (due_now x)) v ≡ Some y
        → option_and_then (λ x. Some (due_now x)) (get n.records r) ≡ Some y
    go None h f = absurd (none_some f)
    go (Some x) h f = mapped (get n.records r) ∙ (h x refl ∙ f)

same_due : (m n : State) → ((r : Ref) (x : Recorded) → get m.records r ≡ Some x → option_map due_now (get n.records r) ≡ Some (due_now x))
    → ((r : Ref) (x : Recorded) → get n.records r ≡ Some x → option_map due_now (get m.records r) ≡ Some (due_now x)) → due_records m ≡ due_records n
same_due m n too back =
    same_tabulated text_total text_antisymmetric (keys m.records) (keys n.records) (λ r. option_and_then (λ x. Some (due_now x)) (get m.records r)) (λ r. option_and_then (λ x. Some (due_now x)) (get n.records r))
    (λ r. find-over text_total text_antisymmetric r m.records (λ r x. Some (due_now x))
    ∙ (alike _ _ (due_there m n too r) (due_there n m back r)
    ∙ sym (find-over text_total text_antisymmetric r n.records (λ r x. Some (due_now x)))))

module _ (rule other : OrphanRule) (m n : State) (t : IsTold m) (u : IsTold n) (placed : IsPlaced m)
    (there : (b : StoredRow) → In b (all_rows rule m) → In b (all_rows other n)) (back : (b : StoredRow) → In b (all_rows other n) → In b (all_rows rule m)) where
  rows_same : m.rows ≡ n.rows
  rows_same = same_table nat_cmp_total nat_cmp-IsAntisymmetric m.rows n.rows t.rows_in_order u.rows_in_order (row_too rule other m n t u there) (row_too other rule n m u t back)

  -- ---- what is offered

  offered_there : (m n : State) → IsTold m → IsTold n → m.rows ≡ n.rows → (o : Origin) (r : Ref) (x : Offered) → offered m o r ≡ Some x → offered n o r ≡ Some x
  offered_there m n t u same o r x f =
      let shown : HasRow m.rows o r x = t.offers.shown o r x f in
      u.offers.given shown.arrival (record { origin = o; reference = r; offered = x }) (ap (λ rows. row_at rows shown.arrival) (sym same) ∙ shown.row)

  offered_same : (o : Origin) (r : Ref) → offered m o r ≡ offered n o r
  offered_same o r = alike (offered m o r) (offered n o r) (offered_there m n t u rows_same o r) (offered_there n m u t (sym rows_same) o r)

  -- ---- providers

  items_same : (p : Text) (x y : ProviderInputs) → get m.providers p ≡ Some x → get n.providers p ≡ Some y → x.items ≡ y.items
  items_same p x y f g =
      let each : (r : Ref) → get x.items r ≡ get y.items r =
      λ r. ap (option_and_then (λ (z : ProviderInputs). get z.items r)) (sym f) ∙ (offered_same (OfProvider p) r ∙ ap (option_and_then (λ (z : ProviderInputs). get z.items r)) g) in
      same_table text_total text_antisymmetric x.items y.items (t.items_in_order p x f) (u.items_in_order p y g) (λ r z h. sym (each r) ∙ h) (λ r z h. each r ∙ h)

  providers_there : (p : Text) (x : ProviderInputs) → get m.providers p ≡ Some x → get n.providers p ≡ Some x
  providers_there p x f =
      let k = provider_too rule other m n t u there p x f in
      k.at ∙ (λ j. Some (record { serial = sym k.serial j; items = sym (items_same p x k.inputs f k.at) j }))

  providers_back : (p : Text) (x : ProviderInputs) → get n.providers p ≡ Some x → get m.providers p ≡ Some x
  providers_back p x f =
      let k = provider_too other rule n m u t back p x f in
      k.at ∙ (λ j. Some (record { serial = sym k.serial j; items = items_same p k.inputs x k.at f j }))

  -- ---- records

  outputs_same : (r : Ref) (x y : Recorded) → get m.records r ≡ Some x → get n.records r ≡ Some y → (v w : Option Output) → x.output ≡ v → y.output ≡ w
      → option_map (output_row (emitted m.rows) r) v ≡ option_map (output_row (emitted n.rows) r) w → v ≡ w
  outputs_same r x y f g None None p q e = refl
  outputs_same r x y f g None (Some b) p q e = absurd (none_some e)
  outputs_same r x y f g (Some a) w p q e =
      let like : IsLike Two m n r a w = is_like Two m n r a w e in
      let each : (o : Ref) → get a.offers o ≡ get like.other.offers o =
      λ o. sym (offers_are m r o x a f p) ∙ (offered_same (Entity r) o ∙ offers_are n r o y like.other g (q ∙ like.is)) in
      let offers : a.offers ≡ like.other.offers =
      same_listed a.offers like.other.offers (placed.once r x a f p) (same_refs Two (emitted m.rows) (emitted n.rows) r r a.offers like.other.offers like.offers) each in
      sym (like.is ∙ (λ j. Some (record { entity = sym like.entity j; offers = sym offers j })))

  due_same : (x y : Recorded) → x.number ≡ y.number → x.issues ≡ y.issues → x.output ≡ y.output → due_now y ≡ due_now x
  due_same x y number issues output = λ j. record { number = sym number j; output = sym output j; issues = sym issues j; due = 0; lease = None }

  records_there : (r : Ref) (x : Recorded) → get m.records r ≡ Some x → option_map due_now (get n.records r) ≡ Some (due_now x)
  records_there r x f =
      let k = record_too rule other m n t u there r x f in
      ap (option_map due_now) k.at ∙ ap Some (due_same x k.kept k.number k.issues (outputs_same r x k.kept f k.at x.output k.kept.output refl refl k.output))

  records_back : (r : Ref) (x : Recorded) → get n.records r ≡ Some x → option_map due_now (get m.records r) ≡ Some (due_now x)
  records_back r x f =
      let k = record_too other rule n m u t back r x f in
      ap (option_map due_now) k.at ∙ ap Some (due_same x k.kept k.number k.issues (sym (outputs_same r k.kept x k.at f k.kept.output x.output refl refl (sym k.output))))

  pub same_with_rows : AreSame m n
  same_with_rows = record {
    providers = same_table text_total text_antisymmetric m.providers n.providers t.providers_in_order u.providers_in_order providers_there providers_back;
    shelf = same_table text_total text_antisymmetric m.shelf n.shelf t.shelf_in_order u.shelf_in_order (text_too rule other m n t u there) (text_too other rule n m u t back);
    rows = rows_same;
    holders = same_table text_total text_antisymmetric m.holders n.holders t.holders_in_order u.holders_in_order (holder_too rule other m n t u there) (holder_too other rule n m u t back);
    records = same_due m n records_there records_back;
    orphans = same_table text_total text_antisymmetric m.orphans n.orphans t.orphans_in_order u.orphans_in_order (orphan_too rule other m n t u there) (orphan_too other rule n m u t back);
    arrival = same_next rule other m n t u there Arrival;
    number = same_next rule other m n t u there Number;
  }

-- ---- states that have none

no_entries : {A : Type 0} (xs : List A) → (length xs == 0) ≡ true → xs ≡ []
no_entries [] h = refl
no_entries (x ∷ xs) h = let e : length (x ∷ xs) ≡ 0 = eqb-true _ _ h in absurd (omega (arith, e))

-- what there is in a state of which a store has nothing to tell
pub record IsBlank (rule : OrphanRule) (m : State) : Type 0 where
  pub providers : m.providers ≡ []
  pub shelf : m.shelf ≡ []
  pub records : m.records ≡ []
  pub orphans : m.orphans ≡ []
  pub arrival : m.arrival ≡ 1
  pub number : m.number ≡ 1
  pub keeps : rule ≡ Keep

kept : (rule : OrphanRule) → is_keep rule ≡ true → rule ≡ Keep
kept Keep h = refl
kept Delete h = absurd (true≢false (sym h))

pub blank : (rule : OrphanRule) (m : State) → is_blank rule m ≡ true → IsBlank rule m
blank rule m h =
    let tables = and_first _ _ h in
    let numbers = and_second ((length m.providers == 0 && length m.shelf == 0) && (length m.records == 0 && length m.orphans == 0)) _ h in
    let front = and_first _ _ tables in
    let rest = and_second (length m.providers == 0 && length m.shelf == 0) _ tables in
    let counters = and_first _ _ numbers in
    record {
      providers = no_entries m.providers (and_first _ _ front);
      shelf = no_entries m.shelf (and_second (length m.providers == 0) _ front);
      records = no_entries m.records (and_first _ _ rest);
      orphans = no_entries m.orphans (and_second (length m.records == 0) _ rest);
      arrival = eqb-true m.arrival 1 (and_first _ _ counters);
      number = eqb-true m.number 1 (and_second (m.arrival == 1) _ counters);
      keeps = kept rule (and_second (m.arrival == 1 && m.number == 1) _ numbers);
    }

module _ (rule : OrphanRule) (m : State) (t : IsTold m) (b : IsBlank rule m) where
  nothing_offered : (o : Origin) (r : Ref) → offered m o r ≡ None
  nothing_offered (OfProvider p) r = ap (λ providers. option_and_then (λ (x : ProviderInputs). get x.items r) (get providers p)) b.providers
  nothing_offered (Entity e) r = ap (λ records. option_and_then (λ (x : Output). get x.offers r) (option_and_then (λ (x : Recorded). x.output) (get records e))) b.records

  no_row : (a : ℕ) (row : Row) → row_at m.rows a ≡ Some row → ⊥
  no_row a row f = none_some (sym (nothing_offered row.origin row.reference) ∙ t.offers.given a row f)

  no_holder : (r : Ref) (a : ℕ) → get m.holders r ≡ Some a → ⊥
  no_holder r a f = true≢false (sym (ap is_some f) ∙ (sym (t.records r) ∙ ap (λ records. is_some (get records r)) b.records))

pub both_blank : (rule other : OrphanRule) (m n : State) → IsTold m → IsTold n → IsBlank rule m → IsBlank other n → AreSame m n
both_blank rule other m n t u b c = record {
  providers = b.providers ∙ sym c.providers;
  shelf = b.shelf ∙ sym c.shelf;
  rows = same_table nat_cmp_total nat_cmp-IsAntisymmetric m.rows n.rows t.rows_in_order u.rows_in_order (λ a row f. absurd (no_row rule m t b a row f)) (λ a row f. absurd (no_row other n u c a row f));
  holders = same_table text_total text_antisymmetric m.holders n.holders t.holders_in_order u.holders_in_order (λ r a f. absurd (no_holder rule m t b r a f)) (λ r a f. absurd (no_holder other n u c r a f));
  records = ap (λ records. over text_cmp records (λ r x. Some (due_now x))) (b.records ∙ sym c.records);
  orphans = b.orphans ∙ sym c.orphans;
  arrival = b.arrival ∙ sym c.arrival;
  number = b.number ∙ sym c.number;
}

-- ---- the whole

pub rows_are : (rule : OrphanRule) (m : State) → is_blank rule m ≡ false → rows_of rule m ≡ all_rows rule m
rows_are rule m e = ap (λ b. if b then [] else all_rows rule m) e

pub no_rows : (rule : OrphanRule) (m : State) → is_blank rule m ≡ true → rows_of rule m ≡ []
no_rows rule m e = ap (λ b. if b then [] else all_rows rule m) e

module _ (rule other : OrphanRule) (m n : State) (t : IsTold m) (u : IsTold n) (placed : IsPlaced m) (same : texts_of (stored rule m) ≡ texts_of (stored other n)) where
  texts : texts_of (put_rows (rows_of rule m) []) ≡ texts_of (put_rows (rows_of other n) [])
  unfolding stored
  texts = same

  all_narrow : (rule : OrphanRule) (m : State) → IsTold m → is_blank rule m ≡ false → (b : StoredRow) → In b (all_rows rule m) → IsNarrow (row_data b)
  all_narrow rule m t e = all_in (λ row. IsNarrow (row_data row)) (all_rows rule m) (subst (AllByRecursion (λ row. IsNarrow (row_data row))) (rows_are rule m e) (t.narrow rule))

  go_over : (rule other : OrphanRule) (m n : State) → IsTold m → IsTold n → AreKeyed m → AreKeyed n → texts_of (put_rows (all_rows rule m) []) ≡ texts_of (put_rows (all_rows other n) [])
      → is_blank rule m ≡ false → is_blank other n ≡ false → (b : StoredRow) → In b (all_rows rule m) → In b (all_rows other n)
  go_over rule other m n t u k l same e f =
      goes_over (all_rows rule m) (all_rows other n) (all_apart rule m t k) (λ b c g h. one_row rule other m n t u k l b c g h (all_narrow rule m t e b g) (all_narrow other n u f c h)) same

  -- a state that has rows has not the texts of one that has none
  not_none : (rule other : OrphanRule) (m n : State) → texts_of (put_rows (rows_of rule m) []) ≡ texts_of (put_rows (rows_of other n) []) → is_blank rule m ≡ false → is_blank other n ≡ true → ⊥
  not_none rule other m n same e f =
      (meets [] (all_rows rule m)
      (ap (λ rows. texts_of (put_rows rows [])) (sym (no_rows other n f)) ∙ (sym same ∙ ap (λ rows. texts_of (put_rows rows [])) (rows_are rule m e)))
      (Counter Arrival m.arrival) (has_counter rule m Arrival)).in_mine

  pub texts_tell : (rule ≡ other) × AreSame m n
  texts_tell = go (is_blank rule m) refl (is_blank other n) refl
    where
      go : (b : Bool) → is_blank rule m ≡ b → (c : Bool) → is_blank other n ≡ c → (rule ≡ other) × AreSame m n
      go true e true f = let b = blank rule m e in let c = blank other n f in (b.keeps ∙ sym c.keeps, both_blank rule other m n t u b c)
      go true e false f = absurd (not_none other rule n m (sym texts) f e)
      go false e true f = absurd (not_none rule other m n texts e f)
      go false e false f =
          let all : texts_of (put_rows (all_rows rule m) []) ≡ texts_of (put_rows (all_rows other n) []) =
          ap (λ rows. texts_of (put_rows rows [])) (sym (rows_are rule m e)) ∙ (texts ∙ ap (λ rows. texts_of (put_rows rows [])) (rows_are other n f)) in
          let k : AreKeyed m = record { names = placed.names; small = placed.small } in
          let l : AreKeyed n = keyed_too rule other m n t u k (all_narrow rule m t e) (all_narrow other n u f) all in
          let there = go_over rule other m n t u k l all e f in
          let back = go_over other rule n m u t l k (sym all) f e in
          (same_rule rule other m n t u there, same_with_rows rule other m n t u placed there back)
