-- Each row of a state that opens can be stored.
use Rattle.std.proofs.Common.{T, ◌≡◌, ◌⊎◌, inl, inr, ℕ, suc, ◌≤◌, ◌<◌, ◌^◌, max, Bool, true, false, not, ◌&&◌, cond, List, [], ◌∷◌, ◌++◌, map, refl, sym, ap, subst, ◌∙◌, is_some, unwrap_or, true≢false, arith, Result, Ok, Err, lt-ltb}
use Rattle.std.specs.Prelude.{IsTrue, codes, if◌then◌else◌}
use Rattle.std.specs.declared.option.Option.{Option}
use Rattle.std.specs.declared.option.Option.TheVariants.{None, Some}
use Rattle.std.specs.List.{list_all}
use Rattle.std.specs.Option.{option_and_then, option_map}
use Rattle.cat_tree.specs.Ask.{child_of, depth_of, items_depth}
use Rattle.cat_tree.specs.Data.{Data, items_of}
use Rattle.cat_tree.specs.Proper.{IsProper, ItemsProper}
use Rattle.cat_types.specs.Names.{is_kind, is_name, is_namespace}
use Rattle.cat_types.specs.Reference.{IsReference, described, full_text, is_map, named, named_by, named_in, part_or, text_at}
use Rattle.cat_types.specs.declared.fault.RefFault.{RefFault}
use Rattle.cat_types.specs.declared.fault.RefFault.TheVariants.{BadKind, BadName, BadNamespace, Shape as BadShape}
use Rattle.cat_types.proofs.Lowered.{reference_parses}
use Rattle.cat_collections.specs.Table.{Text, find, get}
use Rattle.cat_collections.proofs.Tables.{some_or_none, text_antisymmetric, text_total}
use Rattle.cat_types.specs.declared.input.Offered.{Offered}
use Rattle.cat_types.specs.declared.issue.Issue.{Issue}
use Rattle.cat_types.specs.declared.work.Output.{Output}
use Rattle.cat_model.specs.Catalogue.{Ref, Rules, row_at}
use Rattle.cat_model.specs.Sound.{HasRow, IsRowOf, offered}
use Rattle.cat_model.specs.declared.types.Origin.{Origin}
use Rattle.cat_model.specs.declared.types.Origin.TheVariants.{Provider as OfProvider, Entity}
use Rattle.cat_model.specs.declared.types.Orphan.{Orphan}
use Rattle.cat_model.specs.declared.types.OrphanRule.{OrphanRule}
use Rattle.cat_model.specs.declared.types.ProviderInputs.{ProviderInputs}
use Rattle.cat_model.specs.declared.types.Record.{Record as Recorded}
use Rattle.cat_model.specs.declared.types.Row.{Row}
use Rattle.cat_model.specs.declared.types.State.{State}
use Rattle.cat_row_format.specs.Formed.{are_bare, has_tree, is_any, is_formed, lacks_tree}
use Rattle.cat_row_format.specs.Parsed.{item_row}
use Rattle.cat_row_format.specs.Spelled.{IsNamed, IsRef, OffersNamed, OutputNamed}
use Rattle.cat_row_format.specs.Text.{given_data, issue_data, kept_data, offer_data, record_data, row_data}
use Rattle.cat_row_format.specs.declared.row.OrphanRule.{OrphanRule as StoredRule}
use Rattle.cat_row_format.specs.declared.row.OrphanRule.TheVariants.{Keep as KeepStored, Delete as DeleteStored}
use Rattle.cat_row_format.specs.declared.row.StoredCounter.{StoredCounter}
use Rattle.cat_row_format.specs.declared.row.StoredOffer.{StoredOffer}
use Rattle.cat_row_format.specs.declared.row.StoredOutput.{StoredOutput}
use Rattle.cat_row_format.specs.declared.row.StoredRow.{StoredRow}
use Rattle.cat_row_format.specs.declared.row.StoredRow.TheVariants.{Counter, Provider, Item, Shelf, Record, RecordOne, Orphan as OrphanRow, Settings, Tree, ItemOne}
use Rattle.cat_stored_rows.specs.Stored.{Emitted, emitted, offer_in, output_in, record_as, record_one, rule_of, tree_beside}
use Rattle.cat_stored_rows.specs.Told.{IsTold}
use Rattle.cat_stored_rows.specs.declared.version.Version.{Version}
use Rattle.cat_stored_rows.specs.declared.version.Version.TheVariants.{One, Two}
use Rattle.cat_stored_rows.proofs.In.{In, none_some, same_some}
use Rattle.cat_row_updates.specs.Right.{HaveForms, IsGivable}
use Rattle.cat_row_updates.specs.Told.{IsPlaced}
use Rattle.cat_row_updates.proofs.Narrow.{stands}
use Rattle.cat_row_updates.proofs.Parts.{offers_are}
use Rattle.cat_row_updates.proofs.Shapes.{Shape, item_of, row_of}
use Rattle.cat_row_updates.proofs.Shapes.Shape.{Counting, Ruling, Serving, Giving, Growing, Shelving, Keeping, Leaving}

-- ---- what a descriptor names is a reference

module _ (kind namespace name r : Text) where
  by_name : (b : Bool) → is_name name ≡ b → is_kind kind ≡ true → is_namespace namespace ≡ true → (if b then Ok (full_text kind namespace name) else Err BadName) ≡ Ok r → IsReference r
  by_name true n k s e = record { kind = kind; namespace = namespace; name = name; is_kind = k; is_namespace = s; is_name = n; text_is = cc }
  by_name false n k s e = cc

  by_namespace : (b : Bool) → is_namespace namespace ≡ b → is_kind kind ≡ true
      → (if b then (if is_name name then Ok (full_text kind namespace name) else Err BadName) else Err BadNamespace) ≡ Ok r → IsReference r
  by_namespace true s k e = by_name (is_name name) refl k s e
  by_namespace false s k e = cc

  by_kind : (b : Bool) → is_kind kind ≡ b
      → (if b then (if is_namespace namespace then (if is_name name then Ok (full_text kind namespace name) else Err BadName) else Err BadNamespace) else Err BadKind) ≡ Ok r → IsReference r
  by_kind true k e = by_namespace (is_namespace namespace) refl k e
  by_kind false k e = cc

  three : named kind namespace name ≡ Ok r → IsReference r
  unfolding named
  three e = by_kind (is_kind kind) refl e

two : (kind : Option Text) (namespace name r : Text) → named_by kind namespace name ≡ Ok r → IsReference r
two None namespace name r e = cc
two (Some kind) namespace name r e = three kind namespace name r e

in_metadata : (t : Data) (v : Option Data) (r : Text) → named_in t v ≡ Ok r → IsReference r
in_metadata t None r e = cc
in_metadata t (Some metadata) r e = go (is_map metadata) e
  where
    made : Result Text RefFault
    made = named_by (text_at (child_of (codes "kind") t)) (part_or (codes "default") (child_of (codes "namespace") metadata)) (part_or [] (child_of (codes "name") metadata))

    go : (b : Bool) → (if b then made else Err BadShape) ≡ Ok r → IsReference r
    go true e = two (text_at (child_of (codes "kind") t)) (part_or (codes "default") (child_of (codes "namespace") metadata)) (part_or [] (child_of (codes "name") metadata)) r e
    go false e = cc

pub is_ref : (t : Data) (r : Text) → described t ≡ Ok r → IsRef r
is_ref t r e = reference_parses r (in_metadata t (child_of (codes "metadata") t) r e) None []

-- ---- rows of single forms

-- a row whose texts spell it, where its numbers have 64 bits and the texts are UTF-8
pub record IsFine (b : StoredRow) : Type 0 where
  pub formed : IsTrue (is_formed b)
  pub proper : IsProper (row_data b)
  pub depth : depth_of (row_data b) ≤ 127
  pub named : IsNamed b

settings_fine : (r : StoredRule) → IsFine (Settings r)
settings_fine r = record { formed = refl; proper = ((tt, (tt, tt)), ((refl, tt), (tt, tt))); depth = omega arith; named = tt }

item_fine : (p r : Text) (a : ℕ) (key : Text) (tree : Data) → IsTrue (is_name p) → IsRef r → IsProper tree → depth_of tree ≤ 100 → (v : Version)
    → IsFine (item_row p r a key (tree_beside v tree))
item_fine p r a key tree n ref proper shallow One = record { formed = n; proper = ((tt, (tt, (proper, tt))), ((refl, (refl, tt)), ((refl, tt), (tt, tt)))); depth = omega arith; named = ref }
item_fine p r a key tree n ref proper shallow Two = record { formed = n; proper = ((tt, (tt, tt)), ((refl, tt), (tt, tt))); depth = omega arith; named = ref }

orphan_fine : (r : Text) (entity : Data) (n : ℕ) → IsRef r → IsProper entity → depth_of entity ≤ 126 → IsFine (OrphanRow r entity n)
orphan_fine r entity n ref proper shallow = record { formed = refl; proper = ((proper, (tt, tt)), ((refl, tt), (tt, tt))); depth = omega arith; named = ref }

-- ---- records

issues_proper : (issues : List Issue) → ItemsProper (items_of (map issue_data issues))
issues_proper [] = tt
issues_proper (x ∷ issues) = (((tt, (tt, (tt, tt))), ((refl, (refl, tt)), ((refl, tt), (tt, tt)))), issues_proper issues)

issues_depth : (issues : List Issue) → items_depth (items_of (map issue_data issues)) ≤ 1
issues_depth [] = omega arith
issues_depth (x ∷ issues) = let rest = issues_depth issues in omega arith

module _ (arrivals : Emitted) (r : Text) where
  -- offers that may be given
  abbrev AreGivable : List (Text × Offered) → Type 0
  AreGivable zs = (z : Text × Offered) → In z zs → IsGivable z.1.tree z.0

  offers_proper : (v : Version) (zs : List (Text × Offered)) → AreGivable zs → ItemsProper (items_of (map offer_data (map (offer_in v arrivals r) zs)))
  offers_proper v [] f = tt
  offers_proper One (z ∷ zs) f =
      (((tt, (tt, (tt, ((f z (inl refl)).proper, tt)))), ((refl, (refl, (refl, tt))), ((refl, (refl, tt)), ((refl, tt), (tt, tt))))), offers_proper One zs (λ y g. f y (inr g)))
  offers_proper Two (z ∷ zs) f = (((tt, (tt, (tt, tt))), ((refl, (refl, tt)), ((refl, tt), (tt, tt)))), offers_proper Two zs (λ y g. f y (inr g)))

  offers_depth : (v : Version) (zs : List (Text × Offered)) → AreGivable zs → items_depth (items_of (map offer_data (map (offer_in v arrivals r) zs))) ≤ 101
  offers_depth v [] f = omega arith
  offers_depth One (z ∷ zs) f =
      let tree : depth_of z.1.tree ≤ 100 = (f z (inl refl)).shallow in
      let rest = offers_depth One zs (λ y g. f y (inr g)) in omega arith
  offers_depth Two (z ∷ zs) f = let rest = offers_depth Two zs (λ y g. f y (inr g)) in omega arith

  offers_named : (v : Version) (zs : List (Text × Offered)) → AreGivable zs → OffersNamed (map (offer_in v arrivals r) zs)
  offers_named v [] f = tt
  offers_named v (z ∷ zs) f = (is_ref z.1.tree z.0 (f z (inl refl)).named, offers_named v zs (λ y g. f y (inr g)))

  offers_bare : (zs : List (Text × Offered)) → list_all lacks_tree (map (offer_in Two arrivals r) zs) ≡ true
  offers_bare [] = refl
  offers_bare (z ∷ zs) = offers_bare zs

  offers_full : (zs : List (Text × Offered)) → list_all has_tree (map (offer_in One arrivals r) zs) ≡ true
  offers_full [] = refl
  offers_full (z ∷ zs) = offers_full zs

  -- an output that was processed, and offers what may be given
  record IsKeepable (output : Output) : Type 0 where
    proper : IsProper output.entity
    shallow : depth_of output.entity ≤ 125
    offers : AreGivable output.offers

  abbrev AreKeepable : Option Output → Type 0
  AreKeepable v = (output : Output) → v ≡ Some output → IsKeepable output

  keepable : (output : Output) → IsKeepable output → AreKeepable (Some output)
  keepable output k other e = subst IsKeepable (same_some e) k

  kept_proper : (v : Version) (o : Option Output) → AreKeepable o → IsProper (kept_data (option_map (output_in v arrivals r) o))
  kept_proper v None f = tt
  kept_proper v (Some output) f = let k = f output refl in ((k.proper, (offers_proper v output.offers k.offers, tt)), ((refl, tt), (tt, tt)))

  kept_depth : (v : Version) (o : Option Output) → AreKeepable o → depth_of (kept_data (option_map (output_in v arrivals r) o)) ≤ 126
  kept_depth v None f = omega arith
  kept_depth v (Some output) f =
      let k = f output refl in
      let entity : depth_of output.entity ≤ 125 = k.shallow in
      let offers = offers_depth v output.offers k.offers in omega arith

  kept_named : (v : Version) (o : Option Output) → AreKeepable o → OutputNamed (option_map (output_in v arrivals r) o)
  kept_named v None f = tt
  kept_named v (Some output) f = offers_named v output.offers (f output refl).offers

  module _ (holder : ℕ) (issues : List Issue) (n : ℕ) where
    data_proper : (v : Version) (o : Option Output) → AreKeepable o → IsProper (record_data holder issues n (option_map (output_in v arrivals r) o))
    data_proper v o f = ((tt, (issues_proper issues, (tt, (kept_proper v o f, tt)))), ((refl, (refl, (refl, tt))), ((refl, (refl, tt)), ((refl, tt), (tt, tt)))))

    data_depth : (v : Version) (o : Option Output) → AreKeepable o → depth_of (record_data holder issues n (option_map (output_in v arrivals r) o)) ≤ 127
    data_depth v o f = let kept = kept_depth v o f in let listed = issues_depth issues in omega arith

    two_fine : (o : Option Output) → IsRef r → AreKeepable o → IsFine (Record r holder issues n (option_map (output_in Two arrivals r) o))
    two_fine o ref f = record { formed = bare o; proper = data_proper Two o f; depth = data_depth Two o f; named = (ref, kept_named Two o f) }
      where
        bare : (o : Option Output) → are_bare (option_map (output_in Two arrivals r) o) ≡ true
        bare None = refl
        bare (Some output) = offers_bare output.offers

    -- of the first version, by whether there are offers
    with_offers : (entity : Data) (zs : List (Text × Offered)) → IsRef r → IsKeepable (record { entity = entity; offers = zs })
        → IsFine (record_one r holder issues n (Some (record { entity = entity; offers = map (offer_in One arrivals r) zs })))
    with_offers entity [] ref k =
        let f : AreKeepable (Some (record { entity = entity; offers = [] })) = keepable (record { entity = entity; offers = [] }) k in
        record { formed = refl; proper = data_proper One (Some (record { entity = entity; offers = [] })) f; depth = data_depth One (Some (record { entity = entity; offers = [] })) f; named = (ref, tt) }
    with_offers entity (z ∷ zs) ref k =
        let f : AreKeepable (Some (record { entity = entity; offers = z ∷ zs })) = keepable (record { entity = entity; offers = z ∷ zs }) k in
        record {
          formed = offers_full zs;
          proper = data_proper One (Some (record { entity = entity; offers = z ∷ zs })) f;
          depth = data_depth One (Some (record { entity = entity; offers = z ∷ zs })) f;
          named = (ref, offers_named One (z ∷ zs) k.offers);
        }

    one_fine : (o : Option Output) → IsRef r → AreKeepable o → IsFine (record_one r holder issues n (option_map (output_in One arrivals r) o))
    one_fine None ref f = record { formed = refl; proper = data_proper One None f; depth = data_depth One None f; named = (ref, tt) }
    one_fine (Some output) ref f = with_offers output.entity output.offers ref (f output refl)

    record_fine : (v : Version) (o : Option Output) → IsRef r → AreKeepable o → IsFine (record_as v r holder issues n (option_map (output_in v arrivals r) o))
    record_fine One o ref f = one_fine o ref f
    record_fine Two o ref f = two_fine o ref f

-- ---- all rows

module _ (version : Version) (rule : OrphanRule) (m : State) (t : IsTold m) (placed : IsPlaced m) (formed : HaveForms m) (small : m.arrival ≤ 2 ^ 64) where
  arrival_small : (a : ℕ) (row : Row) → row_at m.rows a ≡ Some row → a < 2 ^ 64
  arrival_small a row f = let below = t.offers.below a row f in omega arith

  -- a reference that has a record is held by a row of it
  record_ref : (rows_of : (r : Ref) (a : ℕ) → get m.holders r ≡ Some a → IsRowOf m.rows r a) (r : Ref) (x : Recorded) → get m.records r ≡ Some x → IsRef r
  record_ref rows_of r x f = go (some_or_none (get m.holders r) (sym (t.records r) ∙ ap is_some f))
    where
      go : (a : ℕ) × (get m.holders r ≡ Some a) → IsRef r
      go a = let k = rows_of r a.0 a.1 in subst IsRef k.names (is_ref k.row.offered.tree k.row.reference (formed.offers a.0 k.row k.at).named)

  kept_fine : (r : Ref) (x : Recorded) → get m.records r ≡ Some x → AreKeepable (emitted m.rows) r x.output
  kept_fine r x f output e =
      let entity = formed.outputs r x output f e in
      record { proper = entity.proper; shallow = entity.shallow; offers = offer_fine }
    where
      offer_fine : (z : Text × Offered) → In z output.offers → IsGivable z.1.tree z.0
      offer_fine z g =
          let shown : HasRow m.rows (Entity r) z.0 z.1 = t.offers.shown (Entity r) z.0 z.1 (offers_are m r z.0 x output f e ∙ stands output.offers (placed.once r x output f e) z g) in
          formed.offers shown.arrival (record { origin = Entity r; reference = z.0; offered = z.1 }) shown.row

  provider_named : (a : ℕ) (row : Row) (p : Text) → row_at m.rows a ≡ Some row → row.origin ≡ OfProvider p → IsTrue (is_name p)
  provider_named a row p f e = go (get m.providers p) (placed.names p) (ap (λ o. offered m o row.reference) (sym e) ∙ t.offers.given a row f)
    where
      go : (v : Option ProviderInputs) → ((x : ProviderInputs) → v ≡ Some x → IsTrue (is_name p)) → option_and_then (λ x. get x.items row.reference) v ≡ Some row.offered → IsTrue (is_name p)
      go None h g = absurd (none_some g)
      go (Some x) h g = h x refl

  module _ (rows_of : (r : Ref) (a : ℕ) → get m.holders r ≡ Some a → IsRowOf m.rows r a) where
    -- each row that is made of the state's parts
    pub fine : (b : StoredRow) → Shape version rule m b → IsFine b
    fine b (Counting c e) = subst IsFine (sym e) (record { formed = refl; proper = tt; depth = omega arith; named = tt })
    fine b (Ruling e) = subst IsFine (sym e) (settings_fine (rule_of rule))
    fine b (Serving p x f e) = subst IsFine (sym e) (record { formed = placed.names p x f; proper = ((tt, tt), (tt, tt)); depth = omega arith; named = tt })
    fine b (Giving a row p f o e) =
        let offer = formed.offers a row f in
        subst IsFine (sym e) (item_fine p row.reference a row.offered.key row.offered.tree (provider_named a row p f o) (is_ref row.offered.tree row.reference offer.named) offer.proper offer.shallow version)
    fine b (Growing a row f e) =
        let offer = formed.offers a row f in
        let shallow : depth_of row.offered.tree ≤ 100 = offer.shallow in
        subst IsFine (sym e) (record { formed = lt-ltb a (2 ^ 64) (arrival_small a row f); proper = offer.proper; depth = omega arith; named = tt })
    fine b (Shelving name body f e) = subst IsFine (sym e) (record { formed = formed.shelf name body f; proper = tt; depth = omega arith; named = tt })
    fine b (Keeping r x f e) =
        subst IsFine (sym e) (record_fine (emitted m.rows) r (unwrap_or (get m.holders r) 0) x.issues x.number version x.output (record_ref rows_of r x f) (kept_fine r x f))
    fine b (Leaving r x f e) =
        let entity = formed.orphans r x f in
        subst IsFine (sym e) (orphan_fine r x.entity x.number (is_ref x.entity r entity.named) entity.proper entity.shallow)
