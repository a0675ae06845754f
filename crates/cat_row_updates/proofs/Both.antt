-- States that have the same rows of the first version are the same in all that is stored.
use Rattle.std.proofs.Common.{◌≡◌, ℕ, Bool, true, false, List, [], ◌∷◌, map, refl, sym, ap, subst, ◌∙◌, unwrap_or}
use Rattle.std.specs.Prelude.{codes, if◌then◌else◌}
use Rattle.std.specs.declared.option.Option.{Option}
use Rattle.std.specs.declared.option.Option.TheVariants.{None, Some}
use Rattle.std.specs.List.{AllByRecursion}
use Rattle.std.specs.Option.{option_map}
use Rattle.cat_tree.specs.Data.{Data}
use Rattle.cat_tree.specs.Proper.{IsNarrow}
use Rattle.cat_collections.specs.Table.{Text, find, get}
use Rattle.cat_types.specs.declared.input.Offered.{Offered}
use Rattle.cat_types.specs.declared.issue.Issue.{Issue}
use Rattle.cat_types.specs.declared.work.Output.{Output}
use Rattle.cat_model.specs.Catalogue.{Ref, row_at}
use Rattle.cat_model.specs.Sound.{HasRow, offered}
use Rattle.cat_model.specs.declared.types.Origin.{Origin}
use Rattle.cat_model.specs.declared.types.Origin.TheVariants.{Provider as OfProvider, Entity}
use Rattle.cat_model.specs.declared.types.OrphanRule.{OrphanRule}
use Rattle.cat_model.specs.declared.types.OrphanRule.TheVariants.{Keep}
use Rattle.cat_model.specs.declared.types.Record.{Record as Recorded}
use Rattle.cat_model.specs.declared.types.Row.{Row}
use Rattle.cat_model.specs.declared.types.State.{State}
use Rattle.cat_keeper.specs.declared.table.Table.{Table}
use Rattle.cat_keeper.specs.declared.table.Table.TheVariants as table
use Rattle.cat_row_format.specs.Formed.{is_any}
use Rattle.cat_row_format.specs.Text.{row_data, row_key, row_table}
use Rattle.cat_row_format.specs.declared.row.StoredCounter.TheVariants.{Arrival}
use Rattle.cat_row_format.specs.declared.row.StoredOffer.{StoredOffer}
use Rattle.cat_row_format.specs.declared.row.StoredOutput.{StoredOutput}
use Rattle.cat_row_format.specs.declared.row.StoredRow.{StoredRow}
use Rattle.cat_row_format.specs.declared.row.StoredRow.TheVariants.{Counter, Provider, Item, Shelf, Record, Orphan as OrphanRow, Settings, Tree, ItemOne, RecordOne}
use Rattle.cat_stored_rows.specs.First.{all_first, first, first_rows_of}
use Rattle.cat_stored_rows.specs.Stored.{Emitted, all_rows, emitted, is_blank, offer_in, offer_row, output_in, output_row, pairs_cmp, put_rows, record_in, record_one, record_row, rows_of, rule_of, stored, texts_of}
use Rattle.cat_stored_rows.specs.declared.version.Version.TheVariants.{One}
use Rattle.cat_stored_rows.specs.Told.{AreFirstNarrow, IsTold}
use Rattle.cat_row_updates.specs.Told.{HaveSameFirstTexts, HaveSameTexts, IsPlaced}
use Rattle.cat_stored_rows.proofs.In.{In, all_in, same_some}
use Rattle.cat_row_updates.proofs.Offers.{IsGiven, emitted_at, given_too}
use Rattle.cat_row_updates.proofs.One.{IsOne, first_apart, first_counter, first_item, first_orphan, first_provider, first_record, first_text, keyed_first, one_first, record_place, what_first}
use Rattle.cat_row_updates.proofs.Parts.{IsLike, IsOffered, is_like, is_offered, offers_are, one_number}
use Rattle.cat_row_updates.proofs.Rows.{AreMet, goes_over, meets}
use Rattle.cat_row_updates.proofs.Same.{AreSame, blank, both_blank, no_rows, rows_are, same_with_rows}
use Rattle.cat_row_updates.proofs.Views.{AreKeyed, Is, has_counter, has_item, has_orphan, has_provider, has_record, has_settings, has_text, has_tree, next_of, what_is}

-- ---- rows of the first version without their trees

-- an offer as it is in the second version
abbrev bare_offer : StoredOffer → StoredOffer
bare_offer offer = record { arrival = offer.arrival; key = offer.key; reference = offer.reference; tree = None }

-- an item or a record as it is in the second version
abbrev bare : StoredRow → StoredRow
bare (ItemOne provider reference arrival key tree) = Item provider reference arrival key
bare (RecordOne reference holder issues n output) = Record reference holder issues n (Some (record { entity = output.entity; offers = map bare_offer output.offers }))
bare row = row

-- what a record's row has of what it gave last
abbrev output_at : StoredRow → Option StoredOutput
output_at (Record reference holder issues n output) = output
output_at (RecordOne reference holder issues n output) = Some output
output_at row = None

module _ (arrivals : Emitted) (r : Ref) where
  bare_offers : (xs : List (Text × Offered)) → map bare_offer (map (offer_in One arrivals r) xs) ≡ map (offer_row arrivals r) xs
  bare_offers [] = refl
  bare_offers (x ∷ xs) = ap (λ l. offer_row arrivals r x ∷ l) (bare_offers xs)

  module _ (holder : ℕ) (issues : List Issue) (n : ℕ) where
    bare_record : (v : Option Output) → bare (record_one r holder issues n (option_map (output_in One arrivals r) v)) ≡ Record r holder issues n (option_map (output_row arrivals r) v)
    bare_record None = refl
    bare_record (Some output) = go output.entity output.offers
      where
        go : (entity : Data) (xs : List (Text × Offered)) → bare (record_one r holder issues n (Some (record { entity = entity; offers = map (offer_in One arrivals r) xs })))
            ≡ Record r holder issues n (Some (record { entity = entity; offers = map (offer_row arrivals r) xs }))
        go entity [] = refl
        go entity (x ∷ xs) = ap (λ l. Record r holder issues n (Some (record { entity = entity; offers = offer_row arrivals r x ∷ l }))) (bare_offers xs)

output_of_one : (r : Ref) (holder : ℕ) (issues : List Issue) (n : ℕ) (v : Option StoredOutput) → output_at (record_one r holder issues n v) ≡ v
output_of_one r holder issues n None = refl
output_of_one r holder issues n (Some output) = go (is_any output.offers)
  where
    go : (b : Bool) → output_at (if b then RecordOne r holder issues n output else Record r holder issues n (Some output)) ≡ Some output
    go true = refl
    go false = refl

module _ (m : State) where
  bare_is : (r : Ref) (x : Recorded) → bare (record_in One m.holders (emitted m.rows) (r, x)) ≡ record_row m.holders (emitted m.rows) (r, x)
  bare_is r x = bare_record (emitted m.rows) r (unwrap_or (get m.holders r) 0) x.issues x.number x.output

  output_is : (r : Ref) (x : Recorded) → output_at (record_in One m.holders (emitted m.rows) (r, x)) ≡ option_map (output_in One (emitted m.rows) r) x.output
  output_is r x = output_of_one r (unwrap_or (get m.holders r) 0) x.issues x.number (option_map (output_in One (emitted m.rows) r) x.output)

-- ---- where each row of the first version is one of the other state, each of the second is too

item_one_is : (p q r s : Text) (a b : ℕ) (k l : Text) (x y : Data) → ItemOne p r a k x ≡ ItemOne q s b l y → (a ≡ b) × (x ≡ y)
item_one_is p q r s a b k l x y e = (cc, cc)

module _ (m n : State) (t : IsTold m) (u : IsTold n) (there : (b : StoredRow) → In b (all_first m) → In b (all_first n)) where
  is_there : (b : StoredRow) → In b (all_first m) → IsOne n (row_table b) b
  is_there b h = what_first n u b (there b h)

  moved : (b c : StoredRow) → b ≡ c → In c (all_rows Keep n) → In b (all_rows Keep n)
  moved b c e h = subst (λ d. In d (all_rows Keep n)) (sym e) h

  -- a record has one in the other state, with its output as it is stored
  record IsFound (r : Ref) (x : Recorded) : Type 0 where
    other : Recorded
    at : get n.records r ≡ Some other
    row : record_row m.holders (emitted m.rows) (r, x) ≡ record_row n.holders (emitted n.rows) (r, other)
    output : option_map (output_in One (emitted m.rows) r) x.output ≡ option_map (output_in One (emitted n.rows) r) other.output

  found : (r : Ref) (x : Recorded) → get m.records r ≡ Some x → IsFound r x
  found r x f =
      let mine : StoredRow = record_in One m.holders (emitted m.rows) (r, x) in
      let i : IsOne n table.Records mine = subst (λ s. IsOne n s mine) (ap (λ q. q.0) (record_place m r x)) (is_there mine (first_record m r x f)) in
      let key : i.0 ≡ r = sym (ap (λ q. q.1) (record_place n i.0 i.1)) ∙ (sym (ap row_key i.3) ∙ ap (λ q. q.1) (record_place m r x)) in
      record {
        other = i.1;
        at = ap (get n.records) (sym key) ∙ i.2;
        row = sym (bare_is m r x) ∙ (ap bare i.3 ∙ (bare_is n i.0 i.1 ∙ ap (λ q. record_row n.holders (emitted n.rows) (q, i.1)) key));
        output = sym (output_is m r x) ∙ (ap output_at i.3 ∙ (output_is n i.0 i.1 ∙ ap (λ q. option_map (output_in One (emitted n.rows) q) i.1.output) key));
      }

  -- ---- trees

  tree_of_item : (a : ℕ) (row : Row) (p : Text) → row.origin ≡ OfProvider p → row_at m.rows a ≡ Some row → In (Tree a row.offered.tree) (all_rows Keep n)
  tree_of_item a row p e f =
      let i : IsOne n table.Items (ItemOne p row.reference a row.offered.key row.offered.tree) = is_there _ (first_item m a row p f e) in
      let same = item_one_is p i.2 row.reference i.1.reference a i.0 row.offered.key i.1.offered.key row.offered.tree i.1.offered.tree i.5 in
      moved (Tree a row.offered.tree) (Tree i.0 i.1.offered.tree) (λ j. Tree (same.0 j) (same.1 j)) (has_tree Keep n i.0 i.1 i.3)

  -- a row that an entity emitted, and one of the other state that it emitted too, where both have one arrival number and one tree
  tree_matched : (a b : ℕ) (row : Row) (e : Ref) (offer : Offered) → row.origin ≡ Entity e → row_at m.rows a ≡ Some row
      → row_at n.rows b ≡ Some (record { origin = Entity e; reference = row.reference; offered = offer })
      → unwrap_or (find pairs_cmp (e, row.reference) (emitted m.rows)) 0 ≡ unwrap_or (find pairs_cmp (e, row.reference) (emitted n.rows)) 0
      → row.offered.tree ≡ offer.tree → In (Tree a row.offered.tree) (all_rows Keep n)
  tree_matched a b row e offer is f g arrival tree =
      let y : Row = record { origin = Entity e; reference = row.reference; offered = offer } in
      let same : a ≡ b = one_number (find pairs_cmp (e, row.reference) (emitted m.rows)) (find pairs_cmp (e, row.reference) (emitted n.rows)) a b
      (emitted_at m.rows t.rows_in_order t.offers.once a row e f is) (emitted_at n.rows u.rows_in_order u.offers.once b y e g refl) arrival in
      moved (Tree a row.offered.tree) (Tree b offer.tree) (λ j. Tree (same j) (tree j)) (has_tree Keep n b y g)

  tree_of_offer : (a : ℕ) (row : Row) (e : Ref) → row.origin ≡ Entity e → row_at m.rows a ≡ Some row → In (Tree a row.offered.tree) (all_rows Keep n)
  tree_of_offer a row e is f = by_offer (is_offered m e row.reference row.offered (ap (λ o. offered m o row.reference) (sym is) ∙ t.offers.given a row f))
    where
      by_shown : (offer : Offered) → row.offered.tree ≡ offer.tree → unwrap_or (find pairs_cmp (e, row.reference) (emitted m.rows)) 0 ≡ unwrap_or (find pairs_cmp (e, row.reference) (emitted n.rows)) 0
          → HasRow n.rows (Entity e) row.reference offer → In (Tree a row.offered.tree) (all_rows Keep n)
      by_shown offer tree arrival shown = tree_matched a shown.arrival row e offer is f shown.row arrival tree

      by_given : (kept : Recorded) (other : Output) → get n.records e ≡ Some kept → kept.output ≡ Some other
          → IsGiven One (emitted m.rows) (emitted n.rows) e e row.reference row.offered (get other.offers row.reference) → In (Tree a row.offered.tree) (all_rows Keep n)
      by_given kept other at same g =
          by_shown g.offer (same_some g.beside) g.arrival (u.offers.shown (Entity e) row.reference g.offer (offers_are n e row.reference kept other at same ∙ g.is))

      by_like : (output : Output) → get output.offers row.reference ≡ Some row.offered → (kept : Recorded) → get n.records e ≡ Some kept → IsLike One m n e output kept.output
          → In (Tree a row.offered.tree) (all_rows Keep n)
      by_like output shown kept at like =
          by_given kept like.other at like.is (given_too One (emitted m.rows) (emitted n.rows) e e output.offers like.other.offers like.offers row.reference row.offered shown)

      by_found : (x : Recorded) (output : Output) → x.output ≡ Some output → get output.offers row.reference ≡ Some row.offered → IsFound e x → In (Tree a row.offered.tree) (all_rows Keep n)
      by_found x output same shown k =
          by_like output shown k.other k.at (is_like One m n e output k.other.output (ap (option_map (output_in One (emitted m.rows) e)) (sym same) ∙ k.output))

      by_offer : IsOffered m e row.reference row.offered → In (Tree a row.offered.tree) (all_rows Keep n)
      by_offer offer = by_found offer.kept offer.output offer.is offer.found (found e offer.kept offer.at)

  tree_there : (a : ℕ) (row : Row) → row_at m.rows a ≡ Some row → In (Tree a row.offered.tree) (all_rows Keep n)
  tree_there a row f = go row.origin refl
    where
      go : (o : Origin) → row.origin ≡ o → In (Tree a row.offered.tree) (all_rows Keep n)
      go (OfProvider p) e = tree_of_item a row p e f
      go (Entity e) is = tree_of_offer a row e is f

  -- ---- all rows

  is_over : (s : Table) (b : StoredRow) → Is Keep m s b → In b (all_rows Keep n)
  is_over table.Counters b h =
      let i : Is Keep n table.Counters (Counter h.0 (next_of m h.0)) = is_there (Counter h.0 (next_of m h.0)) (first_counter m h.0) in
      moved b (Counter i.0 (next_of n i.0)) (h.1 ∙ i.1) (has_counter Keep n i.0)
  is_over table.Providers b h =
      let i : Is Keep n table.Providers (Provider h.0 h.1.serial) = is_there (Provider h.0 h.1.serial) (first_provider m h.0 h.1 h.2) in
      moved b (Provider i.0 i.1.serial) (h.3 ∙ i.3) (has_provider Keep n i.0 i.1 i.2)
  is_over table.Items b h =
      let i : IsOne n table.Items (ItemOne h.2 h.1.reference h.0 h.1.offered.key h.1.offered.tree) = is_there _ (first_item m h.0 h.1 h.2 h.3 h.4) in
      moved b (Item i.2 i.1.reference i.0 i.1.offered.key) (h.5 ∙ ap bare i.5) (has_item Keep n i.0 i.1 i.2 i.3 i.4)
  is_over table.Shelf b h =
      let i : Is Keep n table.Shelf (Shelf h.0 h.1) = is_there (Shelf h.0 h.1) (first_text m h.0 h.1 h.2) in
      moved b (Shelf i.0 i.1) (h.3 ∙ i.3) (has_text Keep n i.0 i.1 i.2)
  is_over table.Records b h =
      let k : IsFound h.0 h.1 = found h.0 h.1 h.2 in
      moved b (record_row n.holders (emitted n.rows) (h.0, k.other)) (h.3 ∙ k.row) (has_record Keep n h.0 k.other k.at)
  is_over table.Orphans b h =
      let i : Is Keep n table.Orphans (OrphanRow h.0 h.1.entity h.1.number) = is_there (OrphanRow h.0 h.1.entity h.1.number) (first_orphan m h.0 h.1 h.2) in
      moved b (OrphanRow i.0 i.1.entity i.1.number) (h.3 ∙ i.3) (has_orphan Keep n i.0 i.1 i.2)
  is_over table.Settings b h = moved b (Settings (rule_of Keep)) h (has_settings Keep n)
  is_over table.Trees b h = moved b (Tree h.0 h.1.offered.tree) h.3 (tree_there h.0 h.1 h.2)

  all_there : (b : StoredRow) → In b (all_rows Keep m) → In b (all_rows Keep n)
  all_there b h = is_over (row_table b) b (what_is Keep m t b h)

-- ---- the whole

pub firsts_are : (m : State) → is_blank Keep m ≡ false → first_rows_of m ≡ all_first m
firsts_are m e = ap (λ b. if b then [] else all_first m) e

pub no_firsts : (m : State) → is_blank Keep m ≡ true → first_rows_of m ≡ []
no_firsts m e = ap (λ b. if b then [] else all_first m) e

-- a state that has rows has not the texts of one that has none
not_none : (m : State) (rows : List StoredRow) → texts_of (put_rows (first_rows_of m) []) ≡ texts_of (put_rows rows []) → is_blank Keep m ≡ false → rows ≡ [] → ⊥
not_none m rows same e none =
    (meets [] (all_first m)
    (ap (λ l. texts_of (put_rows l [])) (sym none) ∙ (sym same ∙ ap (λ l. texts_of (put_rows l [])) (firsts_are m e)))
    (Counter Arrival m.arrival) (first_counter m Arrival)).in_mine

module _ (m n : State) (t : IsTold m) (u : IsTold n) (placed : IsPlaced m) (narrow : AreFirstNarrow m) (others : AreFirstNarrow n) (same : HaveSameFirstTexts m n) where
  texts : texts_of (put_rows (first_rows_of m) []) ≡ texts_of (put_rows (first_rows_of n) [])
  unfolding first
  texts = same

  all_narrow : (m : State) → AreFirstNarrow m → is_blank Keep m ≡ false → (b : StoredRow) → In b (all_first m) → IsNarrow (row_data b)
  all_narrow m h e = all_in (λ row. IsNarrow (row_data row)) (all_first m) (subst (AllByRecursion (λ row. IsNarrow (row_data row))) (firsts_are m e) h)

  go_over : (m n : State) → IsTold m → IsTold n → AreKeyed m → AreKeyed n → AreFirstNarrow m → AreFirstNarrow n → texts_of (put_rows (all_first m) []) ≡ texts_of (put_rows (all_first n) [])
      → is_blank Keep m ≡ false → is_blank Keep n ≡ false → (b : StoredRow) → In b (all_first m) → In b (all_first n)
  go_over m n t u k l g h same e f =
      goes_over (all_first m) (all_first n) (first_apart m t k) (λ b c p q. one_first m n t u k l b c p q (all_narrow m g e b p) (all_narrow n h f c q)) same

  pub firsts_tell : AreSame m n
  firsts_tell = go (is_blank Keep m) refl (is_blank Keep n) refl
    where
      go : (b : Bool) → is_blank Keep m ≡ b → (c : Bool) → is_blank Keep n ≡ c → AreSame m n
      go true e true f = both_blank Keep Keep m n t u (blank Keep m e) (blank Keep n f)
      go true e false f = absurd (not_none n (first_rows_of m) (sym texts) f (no_firsts m e))
      go false e true f = absurd (not_none m (first_rows_of n) texts e (no_firsts n f))
      go false e false f =
          let all : texts_of (put_rows (all_first m) []) ≡ texts_of (put_rows (all_first n) []) =
          ap (λ rows. texts_of (put_rows rows [])) (sym (firsts_are m e)) ∙ (texts ∙ ap (λ rows. texts_of (put_rows rows [])) (firsts_are n f)) in
          let k : AreKeyed m = record { names = placed.names; small = placed.small } in
          let l : AreKeyed n = keyed_first m n t u k (all_narrow m narrow e) (all_narrow n others f) all in
          let there = go_over m n t u k l narrow others all e f in
          let back = go_over n m u t l k others narrow (sym all) f e in
          same_with_rows Keep Keep m n t u placed (all_there m n t u there) (all_there n m u t back)

-- rows of both versions have the same texts only where there are none
module _ (rule : OrphanRule) (m n : State) (t : IsTold m) (same : texts_of (put_rows (first_rows_of m) []) ≡ texts_of (put_rows (rows_of rule n) [])) where
  no_settings : AreMet (all_first m) (all_rows rule n) (table.Settings, codes "store") → ⊥
  no_settings met = subst (λ s. IsOne m s met.mine) (ap (λ q. q.0) met.at_mine) (what_first m t met.mine met.in_mine)

  both_none : texts_of (put_rows (rows_of Keep m) []) ≡ texts_of (put_rows (rows_of rule n) [])
  both_none = go (is_blank Keep m) refl (is_blank rule n) refl
    where
      go : (b : Bool) → is_blank Keep m ≡ b → (c : Bool) → is_blank rule n ≡ c → texts_of (put_rows (rows_of Keep m) []) ≡ texts_of (put_rows (rows_of rule n) [])
      go true e c f = ap (λ rows. texts_of (put_rows rows [])) (no_rows Keep m e ∙ sym (no_firsts m e)) ∙ same
      go false e true f = absurd (not_none m (rows_of rule n) same e (no_rows rule n f))
      go false e false f =
          let all : texts_of (put_rows (all_first m) []) ≡ texts_of (put_rows (all_rows rule n) []) =
          ap (λ rows. texts_of (put_rows rows [])) (sym (firsts_are m e)) ∙ (same ∙ ap (λ rows. texts_of (put_rows rows [])) (rows_are rule n f)) in
          absurd (no_settings (meets (all_first m) (all_rows rule n) all (Settings (rule_of rule)) (has_settings rule n)))

pub first_is_none : (rule : OrphanRule) (m n : State) → IsTold m → texts_of (first m) ≡ texts_of (stored rule n) → HaveSameTexts Keep m rule n
unfolding first stored
first_is_none rule m n t same = both_none rule m n t same
