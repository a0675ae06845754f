-- The key and the value of a row of a table tell the row.
use Rattle.std.proofs.Common.{◌≡◌, ◌^◌, ◌<◌, ℕ, List, [], ◌∷◌, map, refl, sym, ap, ◌∙◌}
use Rattle.std.specs.Prelude.{◌==◌, IsTrue, Ok, Result}
use Rattle.std.specs.declared.option.Option.{Option}
use Rattle.std.specs.declared.option.Option.TheVariants.{None, Some}
use Rattle.std.specs.List.{after_first, before_first}
use Rattle.std.specs.Option.{option_map}
use Rattle.cat_types.specs.Names.{is_name}
use Rattle.cat_tree.specs.Data.{Data, items_of}
use Rattle.cat_collections.specs.Table.{Text}
use Rattle.cat_types.specs.declared.input.Offered.{Offered}
use Rattle.cat_types.specs.declared.issue.Issue.{Issue}
use Rattle.cat_types.specs.declared.issue.IssueName.{IssueName}
use Rattle.cat_types.specs.declared.issue.IssueName.TheVariants.{SchemaFault, ReferenceFault, TargetFault, MissingTarget, ShelfFault, DuplicateOffer}
use Rattle.cat_types.specs.declared.issue.Level.{Level}
use Rattle.cat_types.specs.declared.issue.Level.TheVariants.{Error, Warning}
use Rattle.cat_types.specs.declared.work.Output.{Output}
use Rattle.cat_row_format.specs.Names.{counter_text, rule_text}
use Rattle.cat_row_format.specs.Parsed.{counter_in, hex_in, issue_in, rule_in}
use Rattle.cat_row_format.specs.Text.{item_key, issue_data, kept_data, offer_data, record_data, row_data, row_key}
use Rattle.cat_row_format.specs.declared.row.OrphanRule.{OrphanRule as StoredRule}
use Rattle.cat_row_format.specs.declared.row.OrphanRule.TheVariants.{Keep as KeepStored, Delete as DeleteStored}
use Rattle.cat_row_format.specs.declared.row.RowFault.{RowFault}
use Rattle.cat_row_format.specs.declared.row.StoredCounter.{StoredCounter}
use Rattle.cat_row_format.specs.declared.row.StoredCounter.TheVariants.{Arrival, Number}
use Rattle.cat_row_format.specs.declared.row.StoredRow.TheVariants.{Counter, Provider, Item, ItemOne, Shelf, Orphan, Settings, Tree}
use Rattle.cat_row_format.proofs.Digits.{hex_back}
use Rattle.cat_row_format.proofs.Keys.{after, before}
use Rattle.cat_stored_rows.specs.Stored.{Emitted, offer_in, output_in}
use Rattle.cat_stored_rows.specs.declared.version.Version.{Version}
use Rattle.cat_stored_rows.specs.declared.version.Version.TheVariants.{One, Two}

ok_is : {A : Type 0} {x y : A} → (let r : Result A RowFault = Ok x in r) ≡ Ok y → x ≡ y
ok_is e = cc

-- ---- keys

counter_back : (c : StoredCounter) → counter_in (counter_text c) ≡ Ok c
counter_back Arrival = refl
counter_back Number = refl

pub one_counter : (c d : StoredCounter) → counter_text c ≡ counter_text d → c ≡ d
one_counter c d e = ok_is (sym (counter_back c) ∙ (ap counter_in e ∙ counter_back d))

pub one_arrival : (a b : ℕ) (x y : Data) → a < 2 ^ 64 → b < 2 ^ 64 → row_key (Tree a x) ≡ row_key (Tree b y) → a ≡ b
one_arrival a b x y g h e = ok_is (sym (hex_back a g) ∙ (ap hex_in e ∙ hex_back b h))

pub one_item : (p q r s : Text) → IsTrue (is_name p) → IsTrue (is_name q) → item_key p r ≡ item_key q s → (p ≡ q) × (r ≡ s)
one_item p q r s g h e = (
  sym (before p r g) ∙ (ap (before_first (λ b. b == 32)) e ∙ before q s h),
  sym (after p r g) ∙ (ap (after_first (λ b. b == 32)) e ∙ after q s h),
)

-- ---- values

pub counter_value : (c d : StoredCounter) (a b : ℕ) → row_data (Counter c a) ≡ row_data (Counter d b) → a ≡ b
counter_value c d a b e = cc

pub provider_value : (p q : Text) (a b : ℕ) → row_data (Provider p a) ≡ row_data (Provider q b) → a ≡ b
provider_value p q a b e = cc

pub item_value : (p q r s : Text) (a b : ℕ) (k l : Text) → row_data (Item p r a k) ≡ row_data (Item q s b l) → (a ≡ b) × (k ≡ l)
item_value p q r s a b k l e = (cc, cc)

pub item_one_value : (p q r s : Text) (a b : ℕ) (k l : Text) (x y : Data) → row_data (ItemOne p r a k x) ≡ row_data (ItemOne q s b l y) → (a ≡ b) × (k ≡ l) × (x ≡ y)
item_one_value p q r s a b k l x y e = (cc, cc, cc)

pub text_value : (p q x y : Text) → row_data (Shelf p x) ≡ row_data (Shelf q y) → x ≡ y
text_value p q x y e = cc

pub orphan_value : (r s : Text) (x y : Data) (a b : ℕ) → row_data (Orphan r x a) ≡ row_data (Orphan s y b) → (x ≡ y) × (a ≡ b)
orphan_value r s x y a b e = (cc, cc)

rule_back : (rule : StoredRule) → rule_in (rule_text rule) ≡ Ok rule
rule_back KeepStored = refl
rule_back DeleteStored = refl

pub rule_value : (r s : StoredRule) → row_data (Settings r) ≡ row_data (Settings s) → r ≡ s
rule_value r s e = let same : rule_text r ≡ rule_text s = cc in ok_is (sym (rule_back r) ∙ (ap rule_in same ∙ rule_back s))

-- ---- records

issue_back : (level : Level) (name : IssueName) (message : Text) → issue_in (issue_data (record { level = level; name = name; message = message })) ≡ Ok (record { level = level; name = name; message = message })
issue_back Error SchemaFault message = refl
issue_back Error ReferenceFault message = refl
issue_back Error TargetFault message = refl
issue_back Error MissingTarget message = refl
issue_back Error ShelfFault message = refl
issue_back Error DuplicateOffer message = refl
issue_back Warning SchemaFault message = refl
issue_back Warning ReferenceFault message = refl
issue_back Warning TargetFault message = refl
issue_back Warning MissingTarget message = refl
issue_back Warning ShelfFault message = refl
issue_back Warning DuplicateOffer message = refl

one_issue : (x y : Issue) → issue_data x ≡ issue_data y → x ≡ y
one_issue x y e = ok_is (sym (issue_back x.level x.name x.message) ∙ (ap issue_in e ∙ issue_back y.level y.name y.message))

one_issues : (xs ys : List Issue) → items_of (map issue_data xs) ≡ items_of (map issue_data ys) → xs ≡ ys
one_issues [] [] e = refl
one_issues [] (y ∷ ys) e = absurd (cc)
one_issues (x ∷ xs) [] e = absurd (cc)
one_issues (x ∷ xs) (y ∷ ys) e =
    let first : issue_data x ≡ issue_data y = cc in
    let rest : items_of (map issue_data xs) ≡ items_of (map issue_data ys) = cc in
    let one : x ≡ y = one_issue x y first in
    let more : xs ≡ ys = one_issues xs ys rest in
    λ i. one i ∷ more i

module _ (arrivals others : Emitted) (emitter other : Text) where
  one_offer : (version : Version) (x y : Text × Offered) → offer_data (offer_in version arrivals emitter x) ≡ offer_data (offer_in version others other y)
      → offer_in version arrivals emitter x ≡ offer_in version others other y
  one_offer One x y e =
      let arrival : (offer_in One arrivals emitter x).arrival ≡ (offer_in One others other y).arrival = cc in
      let key : x.1.key ≡ y.1.key = cc in
      let reference : x.0 ≡ y.0 = cc in
      let tree : x.1.tree ≡ y.1.tree = cc in
      λ i. record { arrival = arrival i; key = key i; reference = reference i; tree = Some (tree i) }
  one_offer Two x y e =
      let arrival : (offer_in Two arrivals emitter x).arrival ≡ (offer_in Two others other y).arrival = cc in
      let key : x.1.key ≡ y.1.key = cc in
      let reference : x.0 ≡ y.0 = cc in
      λ i. record { arrival = arrival i; key = key i; reference = reference i; tree = None }

  module _ (version : Version) where
    one_offers : (xs ys : List (Text × Offered)) → items_of (map offer_data (map (offer_in version arrivals emitter) xs)) ≡ items_of (map offer_data (map (offer_in version others other) ys))
        → map (offer_in version arrivals emitter) xs ≡ map (offer_in version others other) ys
    one_offers [] [] e = refl
    one_offers [] (y ∷ ys) e = absurd (cc)
    one_offers (x ∷ xs) [] e = absurd (cc)
    one_offers (x ∷ xs) (y ∷ ys) e =
        let first : offer_data (offer_in version arrivals emitter x) ≡ offer_data (offer_in version others other y) = cc in
        let rest : items_of (map offer_data (map (offer_in version arrivals emitter) xs)) ≡ items_of (map offer_data (map (offer_in version others other) ys)) = cc in
        let one : offer_in version arrivals emitter x ≡ offer_in version others other y = one_offer version x y first in
        let more = one_offers xs ys rest in
        λ i. one i ∷ more i

    one_output : (x y : Option Output) → kept_data (option_map (output_in version arrivals emitter) x) ≡ kept_data (option_map (output_in version others other) y)
        → option_map (output_in version arrivals emitter) x ≡ option_map (output_in version others other) y
    one_output None None e = refl
    one_output None (Some y) e = absurd (cc)
    one_output (Some x) None e = absurd (cc)
    one_output (Some x) (Some y) e =
        let entity : x.entity ≡ y.entity = cc in
        let same : items_of (map offer_data (map (offer_in version arrivals emitter) x.offers)) ≡ items_of (map offer_data (map (offer_in version others other) y.offers)) = cc in
        let offers = one_offers x.offers y.offers same in
        λ i. Some (record { entity = entity i; offers = offers i })

    pub record_value : (h k : ℕ) (x y : List Issue) (a b : ℕ) (v w : Option Output)
        → record_data h x a (option_map (output_in version arrivals emitter) v) ≡ record_data k y b (option_map (output_in version others other) w)
        → (h ≡ k) × (x ≡ y) × (a ≡ b) × (option_map (output_in version arrivals emitter) v ≡ option_map (output_in version others other) w)
    record_value h k x y a b v w e =
        let issues : items_of (map issue_data x) ≡ items_of (map issue_data y) = cc in
        let output : kept_data (option_map (output_in version arrivals emitter) v) ≡ kept_data (option_map (output_in version others other) w) = cc in
        (cc, one_issues x y issues, cc, one_output v w output)
