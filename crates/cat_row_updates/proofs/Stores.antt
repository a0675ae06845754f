-- The rows of a state that opens are read to the state as it is stored.
use Rattle.std.proofs.Common.{T, ◌≡◌, ◌⊎◌, inl, inr, ℕ, suc, ◌-◌, ◌≤◌, ◌<◌, ◌^◌, Bool, true, false, ◌&&◌, nat_le, List, [], ◌∷◌, ◌++◌, length, map, refl, sym, ap, subst, ◌∙◌, true≢false, unwrap_or, arith, le-leb}
use Rattle.std.specs.Prelude.{codes, if◌then◌else◌, slice_get}
use Rattle.std.specs.declared.option.Option.{Option}
use Rattle.std.specs.declared.option.Option.TheVariants.{None, Some}
use Rattle.std.specs.FinMap.Entries.{is_sorted}
use Rattle.std.specs.List.{AllByRecursion}
use Rattle.std.specs.Option.{option_map}
use Rattle.cat_tree.specs.Data.{Data}
use Rattle.cat_tree.specs.Proper.{IsNarrow}
use Rattle.cat_collections.specs.Table.{Text, find, get}
use Rattle.cat_types.specs.declared.issue.Issue.{Issue}
use Rattle.cat_collections.proofs.Rising.{puts_rise}
use Rattle.cat_model.specs.Catalogue.{Ref, Rules}
use Rattle.cat_model.specs.Sound.{AreBegun, AreSmall}
use Rattle.cat_model.specs.Step.{start}
use Rattle.cat_model.specs.declared.types.OrphanRule.{OrphanRule}
use Rattle.cat_model.specs.declared.types.OrphanRule.TheVariants.{Keep, Delete}
use Rattle.cat_model.specs.declared.types.State.{State}
use Rattle.cat_keeper.specs.Store.{RowKey, Rows, row_cmp}
use Rattle.cat_keeper.specs.declared.table.Table.{Table}
use Rattle.cat_keeper.specs.declared.table.Table.TheVariants as table
use Rattle.cat_row_format.specs.Text.{row_data, row_table}
use Rattle.cat_row_format.specs.declared.row.OrphanRule.{OrphanRule as StoredRule}
use Rattle.cat_row_format.specs.declared.row.StoredCounter.{StoredCounter}
use Rattle.cat_row_format.specs.declared.row.StoredCounter.TheVariants.{Arrival, Number}
use Rattle.cat_row_format.specs.declared.row.StoredOutput.{StoredOutput}
use Rattle.cat_row_format.specs.declared.row.StoredRow.{StoredRow}
use Rattle.cat_row_format.specs.declared.row.StoredRow.TheVariants.{Counter, Provider, Item, Shelf, Record, RecordOne, Orphan as OrphanRow, Settings, Tree, ItemOne}
use Rattle.cat_stored_rows.specs.First.{all_first, first, first_rows_of}
use Rattle.cat_stored_rows.specs.Opened.{is_first, is_of_first, is_row_of_first}
use Rattle.cat_stored_rows.specs.Opened as opened
use Rattle.cat_stored_rows.specs.Stored.{Stored, all_rows, counter_rows, emitted, is_blank, keyed, kept_in, output_in, put_rows, rows_of, rule_of, stored, tables, text_in, texts_of, tree_beside}
use Rattle.cat_stored_rows.specs.Told.{IsTold}
use Rattle.cat_stored_rows.specs.declared.version.Version.{Version}
use Rattle.cat_stored_rows.specs.declared.version.Version.TheVariants.{One, Two}
use Rattle.cat_stored_rows.proofs.In.{In, all_in, found_in, found_puts, from_map, in_either, in_found, in_map, in_right}
use Rattle.cat_stored_rows.proofs.Leading.{row_antisymmetric, row_total}
use Rattle.cat_row_reader.specs.Read.{AreRead, AreTextsOf, IsTextOf}
use Rattle.cat_row_reader.specs.Standing as standing
use Rattle.cat_row_reader.proofs.Reading.{read_are}
use Rattle.cat_row_updates.specs.Right.{AreRowsOf, MayOpen, rested}
use Rattle.cat_row_updates.specs.Told.{IsPlaced}
use Rattle.cat_row_updates.proofs.Both.{firsts_are, no_firsts}
use Rattle.cat_row_updates.proofs.Making.{Leaves, Sets, to_T, told_is}
use Rattle.cat_row_updates.proofs.Narrow.{firsts_narrow}
use Rattle.cat_row_updates.proofs.One.{IsOne, first_apart, first_counter, what_first}
use Rattle.cat_row_updates.proofs.Rows.{AreApart, found_row, place}
use Rattle.cat_row_updates.proofs.Same.{AreSame, blank, both_blank, due_records, no_rows, rows_are}
use Rattle.cat_row_updates.proofs.Shapes.{Shape, at_item, at_record, item_of, kept_shape, row_of}
use Rattle.cat_row_updates.proofs.Shapes.Shape.{Counting, Ruling, Serving, Giving, Growing, Shelving, Keeping, Leaving}
use Rattle.cat_row_updates.proofs.Spelling.{IsFine, fine}
use Rattle.cat_row_updates.proofs.StandingRows as parts
use Rattle.cat_row_updates.proofs.Started.{told_start}
use Rattle.cat_row_updates.proofs.Version.{last, last_at, stored_not_first}
use Rattle.cat_row_updates.proofs.Views.{AreKeyed, all_apart, has_counter, has_settings, next_of}

-- ---- rows that are put, and read back

-- the rows behind their keys
abbrev rows_in : Stored → List StoredRow
rows_in = map (λ e. e.1)

all_texts : (es : Stored) → ((e : RowKey × StoredRow) → In e es → IsTextOf (e.0, text_in e.1) e.1) → AreTextsOf (texts_of es) (rows_in es)
all_texts [] f = tt
all_texts (e ∷ es) f = (f e (inl refl), all_texts es (λ d g. f d (inr g)))

module _ (ys : List StoredRow) (apart : AreApart ys) (is_fine : (b : StoredRow) → In b ys → IsFine b) (narrow : (b : StoredRow) → In b ys → IsNarrow (row_data b)) where
  abbrev made : Stored
  made = put_rows ys []

  made_rises : T (is_sorted row_cmp made)
  made_rises = to_T _ (puts_rise row_total (map keyed ys) [] refl)

  made_is : (e : RowKey × StoredRow) → In e made → In e.1 ys × (place e.1 ≡ e.0)
  made_is e i = found_row ys e.0 e.1 (found_in row_total row_antisymmetric made made_rises e.0 e.1 i)

  is_text : (e : RowKey × StoredRow) → In e made → IsTextOf (e.0, text_in e.1) e.1
  is_text e i =
      let is = made_is e i in
      let f = is_fine e.1 is.0 in
      record {
        storable = record { formed = f.formed; narrow = narrow e.1 is.0; depth = f.depth };
        proper = f.proper;
        named = f.named;
        texts = λ j. (sym is.1 j, text_in e.1);
      }

  pub are_texts : AreTextsOf (texts_of made) (rows_in made)
  are_texts = all_texts made is_text

  pub back : (b : StoredRow) → In b (rows_in made) → In b ys
  back b h =
      let f = from_map (λ (e : RowKey × StoredRow). e.1) b made h in
      subst (λ c. In c ys) (sym f.2) (made_is f.0 f.1).0

  pub comes : (b : StoredRow) → In b ys → In b (rows_in made)
  comes b h =
      in_map (λ (e : RowKey × StoredRow). e.1) (place b, b) made
      (in_found row_total row_antisymmetric (place b) made b (found_puts row_total row_antisymmetric (map keyed ys) (place b) b alone (in_map keyed b ys h)))
    where
      alone : (c : StoredRow) → In (place b, c) (map keyed ys) → c ≡ b
      alone c g =
          let from = from_map keyed (place b, c) ys g in
          let is : c ≡ from.0 = ap (λ (e : RowKey × StoredRow). e.1) from.2 in
          is ∙ sym (apart b from.0 h from.1 (ap (λ (e : RowKey × StoredRow). e.0) from.2))

-- ---- counters and rules

bounded_is : (n : ℕ) → 1 ≤ n → n ≤ 2 ^ 59 → standing.bounded n ≡ n
bounded_is n low high = λ i. if le-leb 1 n low i && le-leb n (2 ^ 59) high i then n else 1

module _ {X : Type 0} (by : StoredRow → X → X) (a : X) where
  -- rows that are of no counter and no rule leave a value
  record LeaveOthers : Type 0 where
    providers : (name : Text) (n : ℕ) → Leaves by a (Provider name n)
    items : (p r : Text) (n : ℕ) (key : Text) → Leaves by a (Item p r n key)
    items_one : (p r : Text) (n : ℕ) (key : Text) (tree : Data) → Leaves by a (ItemOne p r n key tree)
    trees : (n : ℕ) (tree : Data) → Leaves by a (Tree n tree)
    shelf : (name body : Text) → Leaves by a (Shelf name body)
    records : (r : Text) (h : ℕ) (issues : List Issue) (n : ℕ) (v : Option StoredOutput) → Leaves by a (Record r h issues n v)
    records_one : (r : Text) (h : ℕ) (issues : List Issue) (n : ℕ) (output : StoredOutput) → Leaves by a (RecordOne r h issues n output)
    orphans : (r : Text) (entity : Data) (n : ℕ) → Leaves by a (OrphanRow r entity n)

  module _ (version : Version) (rule : OrphanRule) (m : State) (leave : LeaveOthers) (counters : (c : StoredCounter) → Sets by a (Counter c (next_of m c)) ⊎ Leaves by a (Counter c (next_of m c)))
      (settings : Sets by a (Settings (rule_of rule)) ⊎ Leaves by a (Settings (rule_of rule))) where
    moved : (b c : StoredRow) → b ≡ c → Sets by a c ⊎ Leaves by a c → Sets by a b ⊎ Leaves by a b
    moved b c e h = subst (λ d. Sets by a d ⊎ Leaves by a d) (sym e) h

    each : (b : StoredRow) → Shape version rule m b → Sets by a b ⊎ Leaves by a b
    each b (Counting c e) = moved b (Counter c (next_of m c)) e (counters c)
    each b (Ruling e) = moved b (Settings (rule_of rule)) e settings
    each b (Serving p x f e) = moved b (Provider p x.serial) e (inr (leave.providers p x.serial))
    each b (Giving n row p f o e) =
        moved b (item_of version m n row p) e
        (inr (λ x. at_item (λ c. by c x) (λ v. x) p row.reference n row.offered.key (tree_beside version row.offered.tree) (leave.items p row.reference n row.offered.key x) (λ tree. leave.items_one p row.reference n row.offered.key tree x)))
    each b (Growing n row f e) = moved b (Tree n row.offered.tree) e (inr (leave.trees n row.offered.tree))
    each b (Shelving name body f e) = moved b (Shelf name body) e (inr (leave.shelf name body))
    each b (Keeping r y f e) =
        moved b (row_of version m r y) e
        (inr (λ x. at_record (λ c. by c x) (λ v. x) version r (unwrap_or (get m.holders r) 0) y.issues y.number (option_map (output_in version (emitted m.rows) r) y.output)
        (λ v. leave.records r (unwrap_or (get m.holders r) 0) y.issues y.number v x) (λ output. leave.records_one r (unwrap_or (get m.holders r) 0) y.issues y.number output x)))
    each b (Leaving r y f e) = moved b (OrphanRow r y.entity y.number) e (inr (leave.orphans r y.entity y.number))

-- ---- a state by its rows

module _ (version : Version) (rule : OrphanRule) (m : State) (t : IsTold m) (placed : IsPlaced m) (begun : AreBegun m) (small : AreSmall m) (xs : List StoredRow)
    (has : (b : StoredRow) → In b (kept_in version m) → In b xs) (counted : (c : StoredCounter) → In (Counter c (next_of m c)) xs) (shapes : (b : StoredRow) → In b xs → Shape version rule m b) where
  arrival_is : standing.told_by standing.arrival_by xs 1 ≡ m.arrival
  arrival_is =
      told_is standing.arrival_by m.arrival xs 1
      (λ b h. each standing.arrival_by m.arrival version rule m others counters (inr (λ x. refl)) b (shapes b h)) (inl (Counter Arrival m.arrival, counted Arrival, (λ x. bounded_is m.arrival begun.arrival small.arrival)))
    where
      others : LeaveOthers standing.arrival_by m.arrival
      others = record {
        providers = λ name n x. refl;
        items = λ p r n key x. refl;
        items_one = λ p r n key tree x. refl;
        trees = λ n tree x. refl;
        shelf = λ name body x. refl;
        records = λ r h issues n v x. refl;
        records_one = λ r h issues n output x. refl;
        orphans = λ r entity n x. refl;
      }

      counters : (c : StoredCounter) → Sets standing.arrival_by m.arrival (Counter c (next_of m c)) ⊎ Leaves standing.arrival_by m.arrival (Counter c (next_of m c))
      counters Arrival = inl (λ x. bounded_is m.arrival begun.arrival small.arrival)
      counters Number = inr (λ x. refl)

  number_is : standing.told_by standing.number_by xs 1 ≡ m.number
  number_is =
      told_is standing.number_by m.number xs 1
      (λ b h. each standing.number_by m.number version rule m others counters (inr (λ x. refl)) b (shapes b h)) (inl (Counter Number m.number, counted Number, (λ x. bounded_is m.number begun.number small.number)))
    where
      others : LeaveOthers standing.number_by m.number
      others = record {
        providers = λ name n x. refl;
        items = λ p r n key x. refl;
        items_one = λ p r n key tree x. refl;
        trees = λ n tree x. refl;
        shelf = λ name body x. refl;
        records = λ r h issues n v x. refl;
        records_one = λ r h issues n output x. refl;
        orphans = λ r entity n x. refl;
      }

      counters : (c : StoredCounter) → Sets standing.number_by m.number (Counter c (next_of m c)) ⊎ Leaves standing.number_by m.number (Counter c (next_of m c))
      counters Arrival = inr (λ x. refl)
      counters Number = inl (λ x. bounded_is m.number begun.number small.number)

  named_back : (r : OrphanRule) → standing.rule_named (rule_of r) ≡ r
  named_back Keep = refl
  named_back Delete = refl

  pub rule_is : In (Settings (rule_of rule)) xs → standing.rule_of xs ≡ rule
  rule_is there =
      told_is standing.rule_by rule xs Keep
      (λ b h. each standing.rule_by rule version rule m others (λ c. inr (λ x. refl)) (inl (λ x. named_back rule)) b (shapes b h)) (inl (Settings (rule_of rule), there, (λ x. named_back rule)))
    where
      others : LeaveOthers standing.rule_by rule
      others = record {
        providers = λ name n x. refl;
        items = λ p r n key x. refl;
        items_one = λ p r n key tree x. refl;
        trees = λ n tree x. refl;
        shelf = λ name body x. refl;
        records = λ r h issues n v x. refl;
        records_one = λ r h issues n output x. refl;
        orphans = λ r entity n x. refl;
      }

  pub state_is : standing.state_of xs ≡ rested m
  unfolding standing.state_of
  state_is = λ i. record {
    providers = parts.providers_are version rule m t placed xs has shapes i;
    shelf = parts.shelf_is version rule m t placed xs has shapes i;
    rows = parts.rows_are version rule m t placed xs has shapes i;
    holders = parts.holders_are version rule m t placed xs has shapes i;
    records = parts.records_are version rule m t placed xs has shapes i;
    orphans = parts.orphans_are version rule m t placed xs has shapes i;
    marks = [];
    documents = [];
    arrival = arrival_is i;
    number = number_is i;
    token = 1;
    ticket = 1;
  }

-- ---- stores that have rows

module _ (rules : Rules) (limit : ℕ) (m : State) (may : MayOpen rules limit m) where
  keyed_by : AreKeyed m
  keyed_by = record { names = may.placed.names; small = may.placed.small }

  blank_state : (rule : OrphanRule) → is_blank rule m ≡ true → standing.state_of [] ≡ rested m
  unfolding standing.state_of
  blank_state rule e =
      let same : AreSame m start = both_blank rule Keep m start may.told told_start (blank rule m e) (blank Keep start refl) in
      λ i. record {
        providers = sym same.providers i;
        shelf = sym same.shelf i;
        rows = sym same.rows i;
        holders = sym same.holders i;
        records = sym same.records i;
        orphans = sym same.orphans i;
        marks = [];
        documents = [];
        arrival = sym same.arrival i;
        number = sym same.number i;
        token = 1;
        ticket = 1;
      }

  -- ---- the second version

  module _ (rule : OrphanRule) where
    two_shape : (b : StoredRow) → In b (all_rows rule m) → Shape Two rule m b
    two_shape b h = go (in_either b (counter_rows m) (Settings (rule_of rule) ∷ kept_in Two m) h)
      where
        count : In b (counter_rows m) → Shape Two rule m b
        count (inl e) = Counting Arrival e
        count (inr (inl e)) = Counting Number e
        count (inr (inr g)) = absurd g

        go : In b (counter_rows m) ⊎ In b (Settings (rule_of rule) ∷ kept_in Two m) → Shape Two rule m b
        go (inl g) = count g
        go (inr (inl e)) = Ruling e
        go (inr (inr g)) = kept_shape Two rule m may.told b g

    two_fine : (b : StoredRow) → In b (all_rows rule m) → IsFine b
    two_fine b h = fine Two rule m may.told may.placed may.formed may.placed.small may.sound.holders.rows_of b (two_shape b h)

    module _ (e : is_blank rule m ≡ false) where
      two_narrow : (b : StoredRow) → In b (all_rows rule m) → IsNarrow (row_data b)
      two_narrow = all_in (λ row. IsNarrow (row_data row)) (all_rows rule m) (subst (AllByRecursion (λ row. IsNarrow (row_data row))) (rows_are rule m e) (may.told.narrow rule))

      abbrev two_apart : AreApart (all_rows rule m)
      two_apart = all_apart rule m may.told keyed_by

      abbrev two_xs : List StoredRow
      two_xs = rows_in (made (all_rows rule m) two_apart two_fine two_narrow)

      two_read : standing.state_of two_xs ≡ rested m
      two_read =
          state_is Two rule m may.told may.placed may.begun may.small two_xs
          (λ b h. comes (all_rows rule m) two_apart two_fine two_narrow b (in_right b (counter_rows m) (Settings (rule_of rule) ∷ kept_in Two m) (inr h)))
          (λ c. comes (all_rows rule m) two_apart two_fine two_narrow (Counter c (next_of m c)) (has_counter rule m c))
          (λ b h. two_shape b (back (all_rows rule m) two_apart two_fine two_narrow b h))

      two_rule : standing.rule_of two_xs ≡ rule
      two_rule =
          rule_is Two rule m may.told may.placed may.begun may.small two_xs
          (λ b h. comes (all_rows rule m) two_apart two_fine two_narrow b (in_right b (counter_rows m) (Settings (rule_of rule) ∷ kept_in Two m) (inr h)))
          (λ c. comes (all_rows rule m) two_apart two_fine two_narrow (Counter c (next_of m c)) (has_counter rule m c))
          (λ b h. two_shape b (back (all_rows rule m) two_apart two_fine two_narrow b h))
          (comes (all_rows rule m) two_apart two_fine two_narrow (Settings (rule_of rule)) (has_settings rule m))

  -- ---- the first version

  one_shape : (b : StoredRow) → In b (all_first m) → Shape One Keep m b
  one_shape b h = go (in_either b (counter_rows m) (kept_in One m) h)
    where
      count : In b (counter_rows m) → Shape One Keep m b
      count (inl e) = Counting Arrival e
      count (inr (inl e)) = Counting Number e
      count (inr (inr g)) = absurd g

      go : In b (counter_rows m) ⊎ In b (kept_in One m) → Shape One Keep m b
      go (inl g) = count g
      go (inr g) = kept_shape One Keep m may.told b g

  one_fine : (b : StoredRow) → In b (all_first m) → IsFine b
  one_fine b h = fine One Keep m may.told may.placed may.formed may.placed.small may.sound.holders.rows_of b (one_shape b h)

  module _ (e : is_blank Keep m ≡ false) where
    one_narrow : (b : StoredRow) → In b (all_first m) → IsNarrow (row_data b)
    one_narrow = all_in (λ row. IsNarrow (row_data row)) (all_first m) (subst (AllByRecursion (λ row. IsNarrow (row_data row))) (firsts_are m e) (firsts_narrow m may.told may.placed))

    abbrev one_apart : AreApart (all_first m)
    one_apart = first_apart m may.told keyed_by

    abbrev one_xs : List StoredRow
    one_xs = rows_in (made (all_first m) one_apart one_fine one_narrow)

    one_read : standing.state_of one_xs ≡ rested m
    one_read =
        state_is One Keep m may.told may.placed may.begun may.small one_xs
        (λ b h. comes (all_first m) one_apart one_fine one_narrow b (in_right b (counter_rows m) (kept_in One m) h))
        (λ c. comes (all_first m) one_apart one_fine one_narrow (Counter c (next_of m c)) (first_counter m c))
        (λ b h. one_shape b (back (all_first m) one_apart one_fine one_narrow b h))

  -- no row of the first version is of a table that only the second has
  of_first : (s : Table) (b : StoredRow) → IsOne m s b → is_of_first s ≡ true
  of_first table.Counters b h = refl
  of_first table.Providers b h = refl
  of_first table.Items b h = refl
  of_first table.Shelf b h = refl
  of_first table.Records b h = refl
  of_first table.Orphans b h = refl
  of_first table.Settings b h = absurd h
  of_first table.Trees b h = absurd h

  last_in : {A : Type 0} (x : A) (xs : List A) → In (last x xs) (x ∷ xs)
  last_in x [] = inl refl
  last_in x (y ∷ ys) = inr (last_in y ys)

  all_of_first : (rows : Rows) → ((d : RowKey × Text) → In d rows → is_of_first d.0.0 ≡ true) → (d : RowKey × Text) → In d rows → is_first rows ≡ true
  all_of_first [] f d h = absurd h
  all_of_first (x ∷ xs) f d h =
      let place : suc (length xs) - 1 ≡ length xs = omega arith in
      ap (λ i. is_row_of_first (slice_get (x ∷ xs) i)) place ∙ (ap is_row_of_first (last_at x xs) ∙ f (last x xs) (last_in x xs))

  module _ (e : is_blank Keep m ≡ false) where
    abbrev one_made : Stored
    one_made = made (all_first m) (one_apart e) one_fine (one_narrow e)

    one_is_first : is_first (texts_of one_made) ≡ true
    one_is_first = all_of_first (texts_of one_made) each_first (place c, text_in c) (in_map (λ d. (d.0, text_in d.1)) (place c, c) one_made there)
      where
        c : StoredRow
        c = Counter Arrival m.arrival

        keyed_row : (b : StoredRow) → In b (rows_in one_made) → (k : RowKey) × In (k, b) one_made
        keyed_row b h = let f = from_map (λ (d : RowKey × StoredRow). d.1) b one_made h in (f.0.0, subst (λ x. In (f.0.0, x) one_made) (sym f.2) f.1)

        there : In (place c, c) one_made
        there =
            let k = keyed_row c (comes (all_first m) (one_apart e) one_fine (one_narrow e) c (first_counter m Arrival)) in
            subst (λ x. In (x, c) one_made) (sym (made_is (all_first m) (one_apart e) one_fine (one_narrow e) (k.0, c) k.1).1) k.1

        each_first : (d : RowKey × Text) → In d (texts_of one_made) → is_of_first d.0.0 ≡ true
        each_first d h =
            let f = from_map (λ (x : RowKey × StoredRow). (x.0, text_in x.1)) d one_made h in
            let is = made_is (all_first m) (one_apart e) one_fine (one_narrow e) f.0 f.1 in
            ap (λ (x : RowKey × Text). is_of_first x.0.0) f.2
            ∙ (ap (λ (k : RowKey). is_of_first k.0) (sym is.1) ∙ of_first (row_table f.0.1) f.0.1 (what_first m may.told f.0.1 is.0))

  -- ---- either version

  -- rows are read to the state as it is stored, and a state that has its rows has these rows in their version, under the rule that was read
  pub record AreItsRows (rows : Rows) : Type 0 where
    pub read : List StoredRow
    pub texts : AreTextsOf rows read
    pub state : standing.state_of read ≡ rested m
    pub again : (n : State) → ((rule : OrphanRule) → stored rule n ≡ stored rule m) → first n ≡ first m → (r : OrphanRule) → (is_first rows ≡ false → r ≡ standing.rule_of read)
        → texts_of (opened.rows_in (is_first rows) r n) ≡ rows

  two_rows : (rule : OrphanRule) (b : Bool) → is_blank rule m ≡ b → AreItsRows (texts_of (stored rule m))
  unfolding stored
  two_rows rule true e =
      let none : texts_of (put_rows (rows_of rule m) []) ≡ [] = ap (λ l. texts_of (put_rows l [])) (no_rows rule m e) in
      record {
        read = [];
        texts = subst (λ rows. AreTextsOf rows []) (sym none) tt;
        state = blank_state rule e;
        again = λ n same first_same r is.
            ap (λ b. texts_of (opened.rows_in b r n)) (stored_not_first rule m)
            ∙ (ap (λ s. texts_of (stored s n)) (is (stored_not_first rule m) ∙ sym (blank rule m e).keeps) ∙ ap texts_of (same rule));
      }
  two_rows rule false e =
      let all : put_rows (rows_of rule m) [] ≡ made (all_rows rule m) (two_apart rule e) (two_fine rule) (two_narrow rule e) = ap (λ l. put_rows l []) (rows_are rule m e) in
      record {
        read = two_xs rule e;
        texts = subst (λ s. AreTextsOf (texts_of s) (two_xs rule e)) (sym all) (are_texts (all_rows rule m) (two_apart rule e) (two_fine rule) (two_narrow rule e));
        state = two_read rule e;
        again = λ n same first_same r is.
            ap (λ b. texts_of (opened.rows_in b r n)) (stored_not_first rule m)
            ∙ (ap (λ s. texts_of (stored s n)) (is (stored_not_first rule m) ∙ two_rule rule e) ∙ ap texts_of (same rule));
      }

  one_rows : (b : Bool) → is_blank Keep m ≡ b → AreItsRows (texts_of (first m))
  unfolding first stored
  one_rows true e =
      let none : texts_of (put_rows (first_rows_of m) []) ≡ [] = ap (λ l. texts_of (put_rows l [])) (no_firsts m e) in
      let none_too : texts_of (put_rows (rows_of Keep m) []) ≡ [] = ap (λ l. texts_of (put_rows l [])) (no_rows Keep m e) in
      let not : is_first (texts_of (put_rows (first_rows_of m) [])) ≡ false = ap is_first none in
      record {
        read = [];
        texts = subst (λ rows. AreTextsOf rows []) (sym none) tt;
        state = blank_state Keep e;
        again = λ n same first_same r is.
            ap (λ b. texts_of (opened.rows_in b r n)) not ∙ (ap (λ s. texts_of (stored s n)) (is not) ∙ (ap texts_of (same Keep) ∙ (none_too ∙ sym none)));
      }
  one_rows false e =
      let all : put_rows (first_rows_of m) [] ≡ made (all_first m) (one_apart e) one_fine (one_narrow e) = ap (λ l. put_rows l []) (firsts_are m e) in
      record {
        read = one_xs e;
        texts = subst (λ s. AreTextsOf (texts_of s) (one_xs e)) (sym all) (are_texts (all_first m) (one_apart e) one_fine (one_narrow e));
        state = one_read e;
        again = λ n same first_same r is.
            ap (λ b. texts_of (opened.rows_in b r n)) (ap (λ s. is_first (texts_of s)) all ∙ one_is_first e) ∙ ap texts_of first_same;
      }

  pub its_rows : (rows : Rows) → AreRowsOf m rows → AreItsRows rows
  unfolding tables
  its_rows rows (inl is) = subst AreItsRows (sym is.1) (two_rows is.0 (is_blank is.0 m) refl)
  its_rows rows (inr is) = subst AreItsRows (sym is) (one_rows (is_blank Keep m) refl)

  -- whatever such rows are read to is the state as it is stored
  pub read_back : (rows : Rows) (its : AreItsRows rows) (xs : List StoredRow) → AreRead rows xs → xs ≡ its.read
  read_back rows its xs h = read_are rows xs its.read h its.texts
