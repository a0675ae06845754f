-- A row is read from its own key and tree.
use Rattle.std.proofs.Common.{◌≡◌, ℕ, ◌^◌, ◌<◌, List, [], ◌∷◌, ◌++◌, Result, Ok, Err, map, true, false, true≢false, refl, sym, ap, arith, ◌∙◌}
use Rattle.std.proofs.lemmas.Bool.Decides.{nat_tests}
use Rattle.std.specs.List.{list_all}
use Rattle.std.specs.Prelude.{Bool, IsTrue, ◌&&◌, codes, Option, None, Some, if◌then◌else◌}
use Rattle.cat_stitch.specs.Issues.{level_text, issue_name_text}
use Rattle.cat_stitch.specs.Uid.{last_digits}
use Rattle.cat_collections.specs.Table.{Text}
use Rattle.cat_tree.specs.Data.{Data, items_of}
use Rattle.cat_tree.specs.Proper.{IsNarrow, ItemsNarrow}
use Rattle.cat_types.specs.declared.issue.Issue.{Issue}
use Rattle.cat_types.specs.declared.issue.IssueName.{IssueName}
use Rattle.cat_types.specs.declared.issue.IssueName.TheVariants.{SchemaFault, ReferenceFault, TargetFault, MissingTarget, ShelfFault, DuplicateOffer}
use Rattle.cat_types.specs.declared.issue.Level.{Level}
use Rattle.cat_types.specs.declared.issue.Level.TheVariants.{Error, Warning}
use Rattle.cat_row_format.specs.Formed.{is_formed, are_bare, has_tree, lacks_tree, is_any}
use Rattle.cat_row_format.specs.Names.{counter_text, rule_text}
use Rattle.cat_row_format.specs.Parsed.{and_then, with_front, onto, each_of, number_in, number_at, words_at, field, reference_in, reference_at, level_in, issue_name_in, counter_in, rule_in, issue_in, issues_at, offer_in, offers_at, output_in, kept_in, kept_at, read_or_bad, item_of, item_in, item_row, is_parted, record_in, record_row, first_has_tree, orphan_in, hex_in, row_in}
use Rattle.cat_row_format.specs.Spelled.{IsRef, IsNamed, OffersNamed, OutputNamed}
use Rattle.cat_types.specs.Names.{is_name}
use Rattle.cat_row_format.specs.Text.{item_key, row_table, row_key, row_data, number, issue_data, offer_data, output_data, kept_data, record_data, given_data}
use Rattle.cat_row_format.specs.declared.row.OrphanRule.{OrphanRule}
use Rattle.cat_row_format.specs.declared.row.OrphanRule.TheVariants.{Keep, Delete}
use Rattle.cat_row_format.specs.declared.row.RowFault.{RowFault}
use Rattle.cat_row_format.specs.declared.row.RowFault.TheVariants.{BadRow}
use Rattle.cat_row_format.specs.declared.row.StoredCounter.{StoredCounter}
use Rattle.cat_row_format.specs.declared.row.StoredCounter.TheVariants.{Arrival, Number}
use Rattle.cat_row_format.specs.declared.row.StoredOffer.{StoredOffer}
use Rattle.cat_row_format.specs.declared.row.StoredOutput.{StoredOutput}
use Rattle.cat_row_format.specs.declared.row.StoredRow.{StoredRow}
use Rattle.cat_row_format.specs.declared.row.StoredRow.TheVariants.{Counter, Provider, Item, Shelf, Record, Orphan, Settings, Tree, ItemOne, RecordOne}
use Rattle.cat_row_format.proofs.Digits.{hex_back}
use Rattle.cat_row_format.proofs.Steps.{both, flipped}
use Rattle.cat_row_format.proofs.Keys.{parted, before, after}

-- ---- words and numbers

number_back : (n : ℕ) → n < 2 ^ 64 → number_in (number n) ≡ Ok n
number_back n h = grind (arith, nat_tests)

reference_back : (text : Text) → IsRef text → reference_in text ≡ Ok text
reference_back text e = ap read_or_bad e

level_back : (level : Level) → level_in (level_text level) ≡ Ok level
level_back Error = refl
level_back Warning = refl

issue_name_back : (name : IssueName) → issue_name_in (issue_name_text name) ≡ Ok name
issue_name_back SchemaFault = refl
issue_name_back ReferenceFault = refl
issue_name_back TargetFault = refl
issue_name_back MissingTarget = refl
issue_name_back ShelfFault = refl
issue_name_back DuplicateOffer = refl

counter_back : (counter : StoredCounter) → counter_in (counter_text counter) ≡ Ok counter
counter_back Arrival = refl
counter_back Number = refl

rule_back : (rule : OrphanRule) → rule_in (rule_text rule) ≡ Ok rule
rule_back Keep = refl
rule_back Delete = refl

-- ---- steps

-- the next step on what the first one gave
via : {A B : Type 0} (f : A → Result B RowFault) (r : Result A RowFault) (x : A) → r ≡ Ok x → and_then r f ≡ f x
via f r x e = ap (λ s. and_then s f) e

-- ---- issues

issue_with : (level : Level) (name : IssueName) (message : Text) → issue_in (issue_data (record { level = level; name = name; message = message })) ≡ Ok (record { level = level; name = name; message = message })
issue_with Error SchemaFault message = refl
issue_with Error ReferenceFault message = refl
issue_with Error TargetFault message = refl
issue_with Error MissingTarget message = refl
issue_with Error ShelfFault message = refl
issue_with Error DuplicateOffer message = refl
issue_with Warning SchemaFault message = refl
issue_with Warning ReferenceFault message = refl
issue_with Warning TargetFault message = refl
issue_with Warning MissingTarget message = refl
issue_with Warning ShelfFault message = refl
issue_with Warning DuplicateOffer message = refl

issue_back : (issue : Issue) → issue_in (issue_data issue) ≡ Ok issue
issue_back issue = issue_with issue.level issue.name issue.message

issues_back : (issues : List Issue) → each_of issue_in (items_of (map issue_data issues)) ≡ Ok issues
issues_back [] = refl
issues_back (issue ∷ issues) =
    ap (λ r. onto r (each_of issue_in (items_of (map issue_data issues)))) (issue_back issue)
    ∙ ap (λ r. onto (Ok issue) r) (issues_back issues)

-- ---- offers

abbrev offer_of : Text → Option Data → ℕ → Text → Result StoredOffer RowFault
offer_of key tree arrival reference = Ok (record { arrival = arrival; key = key; reference = reference; tree = tree })

offer_with : (arrival : ℕ) (key reference : Text) (tree : Option Data) → arrival < 2 ^ 64 → IsRef reference
    → offer_in (offer_data (record { arrival = arrival; key = key; reference = reference; tree = tree })) ≡ Ok (record { arrival = arrival; key = key; reference = reference; tree = tree })
offer_with arrival key reference None h e =
    via (λ (a : ℕ). and_then (reference_in reference) (offer_of key None a)) (number_in (number arrival)) arrival (number_back arrival h)
    ∙ via (offer_of key None arrival) (reference_in reference) reference (reference_back reference e)
offer_with arrival key reference (Some tree) h e =
    via (λ (a : ℕ). and_then (reference_in reference) (offer_of key (Some tree) a)) (number_in (number arrival)) arrival (number_back arrival h)
    ∙ via (offer_of key (Some tree) arrival) (reference_in reference) reference (reference_back reference e)

narrow_with : (arrival : ℕ) (key reference : Text) (tree : Option Data) → IsNarrow (offer_data (record { arrival = arrival; key = key; reference = reference; tree = tree })) → arrival < 2 ^ 64
narrow_with arrival key reference None narrow = narrow.0
narrow_with arrival key reference (Some tree) narrow = narrow.0

offer_back : (offer : StoredOffer) → IsNarrow (offer_data offer) → IsRef offer.reference → offer_in (offer_data offer) ≡ Ok offer
offer_back offer narrow e = offer_with offer.arrival offer.key offer.reference offer.tree (narrow_with offer.arrival offer.key offer.reference offer.tree narrow) e

offers_back : (offers : List StoredOffer) → ItemsNarrow (items_of (map offer_data offers)) → OffersNamed offers → each_of offer_in (items_of (map offer_data offers)) ≡ Ok offers
offers_back [] narrow named = refl
offers_back (offer ∷ offers) narrow named =
    ap (λ r. onto r (each_of offer_in (items_of (map offer_data offers)))) (offer_back offer narrow.0 named.0)
    ∙ ap (λ r. onto (Ok offer) r) (offers_back offers narrow.1 named.1)

-- ---- what a record gave last

abbrev output_of : Data → List StoredOffer → Result StoredOutput RowFault
output_of entity offers = Ok (record { entity = entity; offers = offers })

output_back : (output : StoredOutput) → IsNarrow (output_data output) → OffersNamed output.offers → output_in (output_data output) ≡ Ok output
output_back output narrow named =
    via (output_of output.entity) (each_of offer_in (items_of (map offer_data output.offers))) output.offers (offers_back output.offers narrow.1.0 named)

kept_back : (output : Option StoredOutput) → IsNarrow (kept_data output) → OutputNamed output → kept_in (kept_data output) ≡ Ok output
kept_back None narrow named = refl
kept_back (Some output) narrow named = via (λ (o : StoredOutput). Ok (Some o)) (output_in (output_data output)) output (output_back output narrow named)

-- ---- records

record_back : (reference : Text) (holder : ℕ) (issues : List Issue) (n : ℕ) (output : Option StoredOutput)
    → IsNarrow (record_data holder issues n output) → IsRef reference → OutputNamed output
    → record_in reference (record_data holder issues n output) ≡ Ok (record_row reference holder issues n output)
record_back reference holder issues n output narrow e named =
    let listing : Result (List Issue) RowFault = each_of issue_in (items_of (map issue_data issues)) in
    let last : Result (Option StoredOutput) RowFault = kept_in (kept_data output) in
    via (λ (r : Text). and_then (number_in (number holder)) (λ h. and_then listing (λ xs. and_then (number_in (number n)) (λ k. and_then last (λ o. Ok (record_row r h xs k o)))))) (reference_in reference) reference (reference_back reference e)
    ∙ (via (λ (h : ℕ). and_then listing (λ xs. and_then (number_in (number n)) (λ k. and_then last (λ o. Ok (record_row reference h xs k o))))) (number_in (number holder)) holder (number_back holder narrow.0)
    ∙ (via (λ (xs : List Issue). and_then (number_in (number n)) (λ k. and_then last (λ o. Ok (record_row reference holder xs k o)))) listing issues (issues_back issues)
    ∙ (via (λ (k : ℕ). and_then last (λ o. Ok (record_row reference holder issues k o))) (number_in (number n)) n (number_back n narrow.1.1.0)
    ∙ via (λ (o : Option StoredOutput). Ok (record_row reference holder issues n o)) last output (kept_back output narrow.1.1.1.0 named))))

-- no offer of this row has its tree beside it, so it is of the second version
first_bare : (offers : List StoredOffer) → IsTrue (list_all lacks_tree offers) → first_has_tree offers ≡ false
first_bare [] h = refl
first_bare (offer ∷ offers) h = flipped _ (both _ _ h).0

bare_row : (reference : Text) (holder : ℕ) (issues : List Issue) (n : ℕ) (output : Option StoredOutput)
    → IsTrue (are_bare output) → record_row reference holder issues n output ≡ Record reference holder issues n output
bare_row reference holder issues n None h = refl
bare_row reference holder issues n (Some output) h = ap (λ b. if b then RecordOne reference holder issues n output else Record reference holder issues n (Some output)) (first_bare output.offers h)

-- each offer of this row has its tree beside it, so it is of the first version
first_full : (offers : List StoredOffer) → IsTrue (is_any offers && list_all has_tree offers) → first_has_tree offers ≡ true
first_full [] h = absurd (true≢false (sym h))
first_full (offer ∷ offers) h = (both _ _ h).0

full_row : (reference : Text) (holder : ℕ) (issues : List Issue) (n : ℕ) (output : StoredOutput)
    → IsTrue (is_any output.offers && list_all has_tree output.offers) → record_row reference holder issues n (Some output) ≡ RecordOne reference holder issues n output
full_row reference holder issues n output h = ap (λ b. if b then RecordOne reference holder issues n output else Record reference holder issues n (Some output)) (first_full output.offers h)

-- ---- items

item_with : (provider reference : Text) (arrival : ℕ) (key : Text) (tree : Option Data) → arrival < 2 ^ 64 → IsRef reference
    → item_of provider reference (given_data arrival key tree) ≡ Ok (item_row provider reference arrival key tree)
item_with provider reference arrival key None h e =
    via (λ (r : Text). and_then (number_in (number arrival)) (λ a. Ok (item_row provider r a key None))) (reference_in reference) reference (reference_back reference e)
    ∙ via (λ (a : ℕ). Ok (item_row provider reference a key None)) (number_in (number arrival)) arrival (number_back arrival h)
item_with provider reference arrival key (Some tree) h e =
    via (λ (r : Text). and_then (number_in (number arrival)) (λ a. Ok (item_row provider r a key (Some tree)))) (reference_in reference) reference (reference_back reference e)
    ∙ via (λ (a : ℕ). Ok (item_row provider reference a key (Some tree))) (number_in (number arrival)) arrival (number_back arrival h)

-- the item of the parts of a key, where it has parts
abbrev item_if : Bool → Text → Text → Data → Result StoredRow RowFault
item_if b provider reference d = if b then item_of provider reference d else Err BadRow

item_back : (provider reference : Text) (arrival : ℕ) (key : Text) (tree : Option Data) → IsTrue (is_name provider) → arrival < 2 ^ 64 → IsRef reference
    → item_in (item_key provider reference) (given_data arrival key tree) ≡ Ok (item_row provider reference arrival key tree)
item_back provider reference arrival key tree named h e =
    let d : Data = given_data arrival key tree in
    (λ i. item_if (parted provider reference named i) (before provider reference named i) (after provider reference named i) d)
    ∙ item_with provider reference arrival key tree h e

-- ---- rows

pub row_back : (row : StoredRow) → IsTrue (is_formed row) → IsNamed row → IsNarrow (row_data row) → row_in (row_table row) (row_key row) (row_data row) ≡ Ok row
row_back (Counter counter next) formed named narrow =
    via (λ (c : StoredCounter). and_then (number_in (number next)) (λ n. Ok (Counter c n))) (counter_in (counter_text counter)) counter (counter_back counter)
    ∙ via (λ (n : ℕ). Ok (Counter counter n)) (number_in (number next)) next (number_back next narrow)
row_back (Provider name serial) formed named narrow = via (λ (n : ℕ). Ok (Provider name n)) (number_in (number serial)) serial (number_back serial narrow.0)
row_back (Item provider reference arrival key) formed named narrow = item_back provider reference arrival key None formed narrow.0 named
row_back (Shelf name body) formed named narrow = refl
row_back (Record reference holder issues n output) formed named narrow =
    record_back reference holder issues n output narrow named.0 named.1 ∙ ap Ok (bare_row reference holder issues n output formed)
row_back (Orphan reference entity n) formed named narrow =
    via (λ (r : Text). and_then (number_in (number n)) (λ k. Ok (Orphan r entity k))) (reference_in reference) reference (reference_back reference named)
    ∙ via (λ (k : ℕ). Ok (Orphan reference entity k)) (number_in (number n)) n (number_back n narrow.1.0)
row_back (Settings rule) formed named narrow = via (λ (o : OrphanRule). Ok (Settings o)) (rule_in (rule_text rule)) rule (rule_back rule)
row_back (Tree arrival tree) formed named narrow = via (λ (n : ℕ). Ok (Tree n tree)) (hex_in (last_digits 16 arrival)) arrival (hex_back arrival (grind (arith, nat_tests)))
row_back (ItemOne provider reference arrival key tree) formed named narrow = item_back provider reference arrival key (Some tree) formed narrow.0 named
row_back (RecordOne reference holder issues n output) formed named narrow =
    record_back reference holder issues n (Some output) narrow named.0 named.1 ∙ ap Ok (full_row reference holder issues n output formed)
