-- What stands in one state stands in another that has its rows.
use Rattle.std.proofs.Common.{◌≡◌, ℕ, List, map, refl, sym, ap, ◌∙◌, is_some, unwrap_or}
use Rattle.std.specs.declared.option.Option.{Option}
use Rattle.std.specs.declared.option.Option.TheVariants.{None, Some}
use Rattle.std.specs.Option.{option_and_then, option_map}
use Rattle.cat_tree.specs.Data.{Data}
use Rattle.cat_collections.specs.Table.{Text, find, get}
use Rattle.cat_collections.proofs.Tables.{some_or_none}
use Rattle.cat_types.specs.declared.input.Offered.{Offered}
use Rattle.cat_types.specs.declared.issue.Issue.{Issue}
use Rattle.cat_types.specs.declared.work.Output.{Output}
use Rattle.cat_model.specs.Catalogue.{Ref, row_at}
use Rattle.cat_model.specs.Sound.{HasRow, offered}
use Rattle.cat_model.specs.declared.types.Origin.{Origin}
use Rattle.cat_model.specs.declared.types.Origin.TheVariants.{Provider as OfProvider, Entity}
use Rattle.cat_model.specs.declared.types.Orphan.{Orphan}
use Rattle.cat_model.specs.declared.types.OrphanRule.{OrphanRule}
use Rattle.cat_model.specs.declared.types.OrphanRule.TheVariants.{Keep, Delete}
use Rattle.cat_model.specs.declared.types.ProviderInputs.{ProviderInputs}
use Rattle.cat_model.specs.declared.types.Record.{Record as Recorded}
use Rattle.cat_model.specs.declared.types.Row.{Row}
use Rattle.cat_model.specs.declared.types.State.{State}
use Rattle.cat_keeper.specs.declared.table.Table.TheVariants as table
use Rattle.cat_row_format.specs.Text.{row_table}
use Rattle.cat_row_format.specs.declared.row.OrphanRule.{OrphanRule as StoredRule}
use Rattle.cat_row_format.specs.declared.row.OrphanRule.TheVariants.{Keep as KeepStored, Delete as DeleteStored}
use Rattle.cat_row_format.specs.declared.row.StoredCounter.{StoredCounter}
use Rattle.cat_row_format.specs.declared.row.StoredOutput.{StoredOutput}
use Rattle.cat_row_format.specs.declared.row.StoredRow.{StoredRow}
use Rattle.cat_row_format.specs.declared.row.StoredRow.TheVariants.{Counter, Provider, Item, Shelf, Record, Orphan as OrphanRow, Settings, Tree}
use Rattle.cat_stored_rows.specs.Stored.{all_rows, emitted, offer_in, output_in, output_row, pairs_cmp, record_row, rule_of}
use Rattle.cat_stored_rows.specs.declared.version.Version.{Version}
use Rattle.cat_stored_rows.specs.declared.version.Version.TheVariants.{Two}
use Rattle.cat_stored_rows.specs.Told.{IsTold}
use Rattle.cat_stored_rows.proofs.In.{In, none_some, same_some}
use Rattle.cat_row_updates.proofs.Offers.{IsGiven, emitted_at, given_too}
use Rattle.cat_row_updates.proofs.Views.{Is, has_counter, has_item, has_orphan, has_provider, has_record, has_settings, has_text, has_tree, next_of, what_is}

-- ---- rows that are equal

abbrev rule_from : StoredRule → OrphanRule
rule_from KeepStored = Keep
rule_from DeleteStored = Delete

rule_back : (rule : OrphanRule) → rule_from (rule_of rule) ≡ rule
rule_back Keep = refl
rule_back Delete = refl

settings_is : (r s : StoredRule) → Settings r ≡ Settings s → r ≡ s
settings_is r s e = cc

counter_is : (c d : StoredCounter) (a b : ℕ) → Counter c a ≡ Counter d b → (c ≡ d) × (a ≡ b)
counter_is c d a b e = (cc, cc)

provider_is : (p q : Text) (a b : ℕ) → Provider p a ≡ Provider q b → (p ≡ q) × (a ≡ b)
provider_is p q a b e = (cc, cc)

item_is : (p q r s : Text) (a b : ℕ) (k l : Text) → Item p r a k ≡ Item q s b l → (p ≡ q) × (r ≡ s) × (a ≡ b) × (k ≡ l)
item_is p q r s a b k l e = (cc, cc, cc, cc)

text_is : (p q x y : Text) → Shelf p x ≡ Shelf q y → (p ≡ q) × (x ≡ y)
text_is p q x y e = (cc, cc)

orphan_is : (r s : Text) (x y : Data) (a b : ℕ) → OrphanRow r x a ≡ OrphanRow s y b → (r ≡ s) × (x ≡ y) × (a ≡ b)
orphan_is r s x y a b e = (cc, cc, cc)

tree_is : (a b : ℕ) (x y : Data) → Tree a x ≡ Tree b y → (a ≡ b) × (x ≡ y)
tree_is a b x y e = (cc, cc)

record_is : (r s : Text) (h k : ℕ) (x y : List Issue) (a b : ℕ) (v w : Option StoredOutput) → Record r h x a v ≡ Record s k y b w → (r ≡ s) × (h ≡ k) × (x ≡ y) × (a ≡ b) × (v ≡ w)
record_is r s h k x y a b v w e = (cc, cc, cc, cc, cc)

pub one_number : (v w : Option ℕ) (a b : ℕ) → v ≡ Some a → w ≡ Some b → unwrap_or v 0 ≡ unwrap_or w 0 → a ≡ b
one_number v w a b f g e = ap (λ v. unwrap_or v 0) (sym f) ∙ (e ∙ ap (λ v. unwrap_or v 0) g)

-- ---- what entities offer

-- an offer of a kept output, with its record
pub record IsOffered (m : State) (e r : Ref) (x : Offered) : Type 0 where
  pub kept : Recorded
  pub output : Output
  pub at : get m.records e ≡ Some kept
  pub is : kept.output ≡ Some output
  pub found : get output.offers r ≡ Some x

pub is_offered : (m : State) (e r : Ref) (x : Offered) → offered m (Entity e) r ≡ Some x → IsOffered m e r x
is_offered m e r x f = go (get m.records e) refl f
  where
    by : (kept : Recorded) → get m.records e ≡ Some kept → (v : Option Output) → kept.output ≡ v → option_and_then (λ y. get y.offers r) v ≡ Some x → IsOffered m e r x
    by kept at None is f = absurd (none_some f)
    by kept at (Some output) is f = record { kept = kept; output = output; at = at; is = is; found = f }

    go : (v : Option Recorded) → get m.records e ≡ v → option_and_then (λ y. get y.offers r) (option_and_then (λ y. y.output) v) ≡ Some x → IsOffered m e r x
    go None at f = absurd (none_some f)
    go (Some kept) at f = by kept at kept.output refl f

pub offers_are : (m : State) (e r : Ref) (kept : Recorded) (output : Output) → get m.records e ≡ Some kept → kept.output ≡ Some output → offered m (Entity e) r ≡ get output.offers r
offers_are m e r kept output at is =
    ap (λ v. option_and_then (λ (y : Output). get y.offers r) (option_and_then (λ (y : Recorded). y.output) v)) at
    ∙ ap (λ v. option_and_then (λ (y : Output). get y.offers r) v) is

-- an output whose stored form is that of another one
pub record IsLike (version : Version) (m n : State) (e : Ref) (output : Output) (v : Option Output) : Type 0 where
  pub other : Output
  pub is : v ≡ Some other
  pub entity : output.entity ≡ other.entity
  pub offers : map (offer_in version (emitted m.rows) e) output.offers ≡ map (offer_in version (emitted n.rows) e) other.offers

pub is_like : (version : Version) (m n : State) (e : Ref) (output : Output) (v : Option Output)
    → option_map (output_in version (emitted m.rows) e) (Some output) ≡ option_map (output_in version (emitted n.rows) e) v → IsLike version m n e output v
is_like version m n e output None same = absurd (none_some (sym same))
is_like version m n e output (Some other) same = record {
  other = other;
  is = refl;
  entity = ap (λ (o : StoredOutput). o.entity) (same_some same);
  offers = ap (λ (o : StoredOutput). o.offers) (same_some same);
}

module _ (rule other : OrphanRule) (m n : State) (t : IsTold m) (u : IsTold n) (over : (b : StoredRow) → In b (all_rows rule m) → In b (all_rows other n)) where
  there : (b : StoredRow) → In b (all_rows rule m) → Is other n (row_table b) b
  there b h = what_is other n u b (over b h)

  -- ---- counters and the rule

  pub same_next : (c : StoredCounter) → next_of m c ≡ next_of n c
  same_next c =
      let h : Is other n table.Counters (Counter c (next_of m c)) = there (Counter c (next_of m c)) (has_counter rule m c) in
      let i = counter_is c h.0 (next_of m c) (next_of n h.0) h.1 in
      i.1 ∙ ap (next_of n) (sym i.0)

  pub same_rule : rule ≡ other
  same_rule =
      let h : Is other n table.Settings (Settings (rule_of rule)) = there (Settings (rule_of rule)) (has_settings rule m) in
      sym (rule_back rule) ∙ (ap rule_from (settings_is (rule_of rule) (rule_of other) h) ∙ rule_back other)

  -- ---- providers, texts and orphans

  -- a provider is in the other state, with its serial
  pub record IsServed (p : Text) (x : ProviderInputs) : Type 0 where
    pub inputs : ProviderInputs
    pub at : get n.providers p ≡ Some inputs
    pub serial : x.serial ≡ inputs.serial

  pub provider_too : (p : Text) (x : ProviderInputs) → get m.providers p ≡ Some x → IsServed p x
  provider_too p x f =
      let h : Is other n table.Providers (Provider p x.serial) = there (Provider p x.serial) (has_provider rule m p x f) in
      let i = provider_is p h.0 x.serial h.1.serial h.3 in
      record { inputs = h.1; at = ap (get n.providers) i.0 ∙ h.2; serial = i.1 }

  pub text_too : (name body : Text) → get m.shelf name ≡ Some body → get n.shelf name ≡ Some body
  text_too name body f =
      let h : Is other n table.Shelf (Shelf name body) = there (Shelf name body) (has_text rule m name body f) in
      let i = text_is name h.0 body h.1 h.3 in
      ap (get n.shelf) i.0 ∙ (h.2 ∙ ap Some (sym i.1))

  pub orphan_too : (r : Ref) (x : Orphan) → get m.orphans r ≡ Some x → get n.orphans r ≡ Some x
  orphan_too r x f =
      let h : Is other n table.Orphans (OrphanRow r x.entity x.number) = there (OrphanRow r x.entity x.number) (has_orphan rule m r x f) in
      let i = orphan_is r h.0 x.entity h.1.entity x.number h.1.number h.3 in
      ap (get n.orphans) i.0 ∙ (h.2 ∙ (λ j. Some (record { number = sym i.2 j; entity = sym i.1 j })))

  -- ---- records

  -- a record is in the other state, with its number, its issues, its holder, and its output as it is stored
  pub record IsKept (r : Ref) (x : Recorded) : Type 0 where
    pub kept : Recorded
    pub at : get n.records r ≡ Some kept
    pub holder : unwrap_or (get m.holders r) 0 ≡ unwrap_or (get n.holders r) 0
    pub issues : x.issues ≡ kept.issues
    pub number : x.number ≡ kept.number
    pub output : option_map (output_row (emitted m.rows) r) x.output ≡ option_map (output_row (emitted n.rows) r) kept.output

  pub record_too : (r : Ref) (x : Recorded) → get m.records r ≡ Some x → IsKept r x
  record_too r x f =
      let h : Is other n table.Records (record_row m.holders (emitted m.rows) (r, x)) = there (record_row m.holders (emitted m.rows) (r, x)) (has_record rule m r x f) in
      let i = record_is r h.0 (unwrap_or (get m.holders r) 0) (unwrap_or (get n.holders h.0) 0) x.issues h.1.issues x.number h.1.number
      (option_map (output_row (emitted m.rows) r) x.output) (option_map (output_row (emitted n.rows) h.0) h.1.output) h.3 in
      record {
        kept = h.1;
        at = ap (get n.records) i.0 ∙ h.2;
        holder = i.1 ∙ ap (λ q. unwrap_or (get n.holders q) 0) (sym i.0);
        issues = i.2;
        number = i.3;
        output = i.4 ∙ ap (λ q. option_map (output_row (emitted n.rows) q) h.1.output) (sym i.0);
      }

  pub holder_too : (r : Ref) (a : ℕ) → get m.holders r ≡ Some a → get n.holders r ≡ Some a
  holder_too r a f =
      let x = some_or_none (get m.records r) (t.records r ∙ ap is_some f) in
      let k = record_too r x.0 x.1 in
      let b = some_or_none (get n.holders r) (sym (u.records r) ∙ ap is_some k.at) in
      let same : a ≡ b.0 = one_number (get m.holders r) (get n.holders r) a b.0 f b.1 k.holder in
      b.1 ∙ ap Some (sym same)

  -- ---- rows

  -- a row has one in the other state, with its tree
  record IsGrown (a : ℕ) (row : Row) : Type 0 where
    grown : Row
    at : row_at n.rows a ≡ Some grown
    tree : row.offered.tree ≡ grown.offered.tree

  tree_too : (a : ℕ) (row : Row) → row_at m.rows a ≡ Some row → IsGrown a row
  tree_too a row f =
      let h : Is other n table.Trees (Tree a row.offered.tree) = there (Tree a row.offered.tree) (has_tree rule m a row f) in
      let i = tree_is a h.0 row.offered.tree h.1.offered.tree h.3 in
      record { grown = h.1; at = ap (row_at n.rows) i.0 ∙ h.2; tree = i.1 }

  whole : (a : ℕ) (row y : Row) → row_at m.rows a ≡ Some row → row_at n.rows a ≡ Some y
      → row.origin ≡ y.origin → row.reference ≡ y.reference → row.offered.key ≡ y.offered.key → row_at n.rows a ≡ Some row
  whole a row y f g origin reference key =
      let grown = tree_too a row f in
      let same : grown.grown ≡ y = same_some (sym grown.at ∙ g) in
      let tree : row.offered.tree ≡ y.offered.tree = grown.tree ∙ ap (λ (z : Row). z.offered.tree) same in
      g ∙ (λ j. Some (record { origin = sym origin j; reference = sym reference j; offered = record { key = sym key j; tree = sym tree j } }))

  item_too : (a : ℕ) (row : Row) (p : Text) → row.origin ≡ OfProvider p → row_at m.rows a ≡ Some row → row_at n.rows a ≡ Some row
  item_too a row p e f =
      let h : Is other n table.Items (Item p row.reference a row.offered.key) = there (Item p row.reference a row.offered.key) (has_item rule m a row p f e) in
      let i = item_is p h.2 row.reference h.1.reference a h.0 row.offered.key h.1.offered.key h.5 in
      whole a row h.1 f (ap (row_at n.rows) i.2 ∙ h.3) (e ∙ (ap OfProvider i.0 ∙ sym h.4)) i.1 i.3

  -- a row that an entity emitted, and one of the other state that it emitted too, where both have one arrival number
  matched : (a b : ℕ) (row : Row) (e : Ref) (offer : Offered) → row.origin ≡ Entity e → row_at m.rows a ≡ Some row
      → row_at n.rows b ≡ Some (record { origin = Entity e; reference = row.reference; offered = offer })
      → unwrap_or (find pairs_cmp (e, row.reference) (emitted m.rows)) 0 ≡ unwrap_or (find pairs_cmp (e, row.reference) (emitted n.rows)) 0
      → row.offered.key ≡ offer.key → row_at n.rows a ≡ Some row
  matched a b row e offer is f g arrival key =
      let y : Row = record { origin = Entity e; reference = row.reference; offered = offer } in
      let same : a ≡ b = one_number (find pairs_cmp (e, row.reference) (emitted m.rows)) (find pairs_cmp (e, row.reference) (emitted n.rows)) a b
      (emitted_at m.rows t.rows_in_order t.offers.once a row e f is) (emitted_at n.rows u.rows_in_order u.offers.once b y e g refl) arrival in
      whole a row y f (ap (row_at n.rows) same ∙ g) is refl key

  offer_too : (a : ℕ) (row : Row) (e : Ref) → row.origin ≡ Entity e → row_at m.rows a ≡ Some row → row_at n.rows a ≡ Some row
  offer_too a row e is f = by_offer (is_offered m e row.reference row.offered (ap (λ o. offered m o row.reference) (sym is) ∙ t.offers.given a row f))
    where
      by_shown : (offer : Offered) → row.offered.key ≡ offer.key → unwrap_or (find pairs_cmp (e, row.reference) (emitted m.rows)) 0 ≡ unwrap_or (find pairs_cmp (e, row.reference) (emitted n.rows)) 0
          → HasRow n.rows (Entity e) row.reference offer → row_at n.rows a ≡ Some row
      by_shown offer key arrival shown = matched a shown.arrival row e offer is f shown.row arrival key

      by_given : (kept : Recorded) (other : Output) → get n.records e ≡ Some kept → kept.output ≡ Some other
          → IsGiven Two (emitted m.rows) (emitted n.rows) e e row.reference row.offered (get other.offers row.reference) → row_at n.rows a ≡ Some row
      by_given kept other at same g = by_shown g.offer g.key g.arrival (u.offers.shown (Entity e) row.reference g.offer (offers_are n e row.reference kept other at same ∙ g.is))

      by_kept : (output : Output) → get output.offers row.reference ≡ Some row.offered → (kept : Recorded) → get n.records e ≡ Some kept → IsLike Two m n e output kept.output → row_at n.rows a ≡ Some row
      by_kept output found kept at like =
          by_given kept like.other at like.is (given_too Two (emitted m.rows) (emitted n.rows) e e output.offers like.other.offers like.offers row.reference row.offered found)

      by_record : (x : Recorded) (output : Output) → x.output ≡ Some output → get output.offers row.reference ≡ Some row.offered → IsKept e x → row_at n.rows a ≡ Some row
      by_record x output same found k = by_kept output found k.kept k.at (is_like Two m n e output k.kept.output (ap (option_map (output_row (emitted m.rows) e)) (sym same) ∙ k.output))

      by_offer : IsOffered m e row.reference row.offered → row_at n.rows a ≡ Some row
      by_offer offer = by_record offer.kept offer.output offer.is offer.found (record_too e offer.kept offer.at)

  pub row_too : (a : ℕ) (row : Row) → row_at m.rows a ≡ Some row → row_at n.rows a ≡ Some row
  row_too a row f = go row.origin refl
    where
      go : (o : Origin) → row.origin ≡ o → row_at n.rows a ≡ Some row
      go (OfProvider p) e = item_too a row p e f
      go (Entity e) is = offer_too a row e is f
