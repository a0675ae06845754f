-- What is asked before a store opens holds of the rows of a state that opens.
use Rattle.std.proofs.Common.{T, ◌≡◌, ℕ, ◌≤◌, Bool, true, false, ◌&&◌, nat_le, List, [], refl, sym, ap, ◌∙◌, le-leb, true≢false}
use Rattle.std.specs.Prelude.{IfOk}
use Rattle.std.specs.declared.option.Option.{Option}
use Rattle.std.specs.declared.option.Option.TheVariants.{None, Some}
use Rattle.std.specs.declared.result.Result.{Result}
use Rattle.std.specs.declared.result.Result.TheVariants.{Ok, Err}
use Rattle.std.specs.Option.{option_map}
use Rattle.cat_collections.specs.Table.{get}
use Rattle.cat_keeper.specs.Store.{Rows}
use Rattle.cat_model.specs.Catalogue.{Ref, Rules, due_now}
use Rattle.cat_model.specs.Sound.{AreNumbers, its_number, number_in}
use Rattle.cat_model.specs.Step.{reopened}
use Rattle.cat_model.specs.declared.types.Orphan.{Orphan}
use Rattle.cat_model.specs.declared.types.OrphanRule.{OrphanRule}
use Rattle.cat_model.specs.declared.types.Record.{Record}
use Rattle.cat_model.specs.declared.types.State.{State}
use Rattle.cat_state_check.specs.Candidate.{is_candidate}
use Rattle.cat_state_check.proofs.Passing.{IsResting, passes}
use Rattle.cat_stored_rows.specs.Opened.{is_first, rows_in}
use Rattle.cat_stored_rows.specs.Stored.{texts_of}
use Rattle.cat_stored_rows.specs.Told.{IsTold}
use Rattle.cat_row_reader.specs.Candidate.{IsCandidate}
use Rattle.cat_row_reader.specs.Forms.{has_forms}
use Rattle.cat_row_reader.specs.Read.{AreNoTexts}
use Rattle.cat_row_reader.specs.Standing.{rule_of, state_of}
use Rattle.cat_row_reader.specs.declared.types.Candidate.{Candidate}
use Rattle.cat_row_updates.specs.Right.{AreOfNone, AreRowsOf, MayOpen, rested}
use Rattle.cat_row_updates.specs.Told.{IsPlaced}
use Rattle.cat_row_updates.proofs.Opening.{record_at, told_again}
use Rattle.cat_row_updates.proofs.Rested.{again_first, again_stored, both, forms_pass, is_due_of, told_rested}
use Rattle.cat_row_updates.proofs.Same.{due_records}
use Rattle.cat_row_updates.proofs.Stores.{AreItsRows, its_rows, read_back}
use Rattle.cat_store.specs.Tells.{is_telling}
use Rattle.cat_store.proofs.Passes.{tells}

module _ (rules : Rules) (limit : ℕ) (m : State) (may : MayOpen rules limit m) where
  -- ---- the state as it is stored

  told : IsTold (rested m)
  told = told_rested rules m may.told

  number_still : (v : Option Record) (w : Option Orphan) → number_in (option_map due_now v) w ≡ number_in v w
  number_still None None = refl
  number_still None (Some x) = refl
  number_still (Some x) w = refl

  its_number_is : (r : Ref) → its_number (rested m) r ≡ its_number m r
  its_number_is r = ap (λ v. number_in v (get m.orphans r)) (record_at m r) ∙ number_still (get m.records r) (get m.orphans r)

  numbers : AreNumbers (rested m)
  numbers = record {
    begun = may.sound.numbers.begun;
    from_one = λ r k e. may.sound.numbers.from_one r k (sym (its_number_is r) ∙ e);
    below = λ r k e. may.sound.numbers.below r k (sym (its_number_is r) ∙ e);
    differ = λ r q k e f. may.sound.numbers.differ r q k (sym (its_number_is r) ∙ e) (sym (its_number_is q) ∙ f);
  }

  rests : IsResting (rested m)
  rests = record {
    offers = told.offers;
    holders = may.sound.holders;
    records = told.records;
    orphans = may.sound.orphans;
    numbers = numbers;
    due = λ r x f. let k = is_due_of m r x f in (ap (λ (y : Record). y.due) k.is, ap (λ (y : Record). y.lease) k.is);
    rows_in_order = told.rows_in_order;
    holders_in_order = told.holders_in_order;
    records_in_order = told.records_in_order;
    orphans_in_order = told.orphans_in_order;
    providers_in_order = told.providers_in_order;
    bare = refl;
    begun = may.begun.arrival;
    arrival_small = may.small.arrival;
    number_small = may.small.number;
  }

  is_right : (has_forms (rested m) && nat_le (rules.bytes m.providers m.shelf) limit) ≡ true
  is_right = both _ _ (forms_pass rules m may.told may.placed may.formed) (le-leb (rules.bytes m.providers m.shelf) limit may.within)

  -- what it opens again as is told by its rows
  placed_again : IsPlaced (reopened rules (rested m))
  placed_again = record {
    names = may.placed.names;
    small = may.placed.small;
    once = λ r x output f e.
        let k = is_due_of (rested m) r x f in
        let l = is_due_of m r k.kept k.at in
        may.placed.once r l.kept output l.at (sym (ap (λ (y : Record). y.output) l.is) ∙ (sym (ap (λ (y : Record). y.output) k.is) ∙ e));
  }

  tells_again : is_telling (reopened rules (rested m)) ≡ true
  tells_again = tells (reopened rules (rested m)) (told_again rules (rested m) told) placed_again

  -- ---- its rows

  module _ (rows : Rows) (are : AreRowsOf m rows) where
    its : AreItsRows rules limit m may rows
    its = its_rows rules limit m may rows are

    pub not_unread : AreNoTexts rows → ⊥
    not_unread none = none its.read its.texts

    module _ (c : Candidate) (is : IsCandidate rows c) where
      read_is : is.rows ≡ its.read
      read_is = read_back rules limit m may rows its is.rows is.read

      state_is : c.state ≡ rested m
      state_is = is.state ∙ (ap state_of read_is ∙ its.state)

      pub passes_right : (has_forms c.state && nat_le (rules.bytes c.state.providers c.state.shelf) limit) ≡ true
      passes_right = ap (λ (n : State). has_forms n && nat_le (rules.bytes n.providers n.shelf) limit) state_is ∙ is_right

      pub passes_candidate : is_candidate c.state ≡ true
      passes_candidate = ap is_candidate state_is ∙ passes (rested m) rests

      pub passes_telling : is_telling (reopened rules c.state) ≡ true
      passes_telling = ap (λ (n : State). is_telling (reopened rules n)) state_is ∙ tells_again

      pub has_its_rows : (n : State) → n ≡ reopened rules c.state → (rule : OrphanRule) → (is_first rows ≡ false → rule ≡ c.rule) → texts_of (rows_in (is_first rows) rule n) ≡ rows
      has_its_rows n e rule f =
          let opens : n ≡ reopened rules (rested m) = e ∙ ap (reopened rules) state_is in
          ap (λ (k : State). texts_of (rows_in (is_first rows) rule k)) opens
          ∙ its.again (reopened rules (rested m)) (again_stored rules m may.told) (again_first rules m may.told) rule (λ h. f h ∙ (is.rule ∙ ap rule_of read_is))

-- ---- what is refused

module _ (rules : Rules) (limit : ℕ) (rows : Rows) where
  pub refused_unread : AreNoTexts rows → AreOfNone rules limit rows
  refused_unread none = λ m may are. not_unread rules limit m may rows are none

  module _ (c : Candidate) (is : IsCandidate rows c) where
    pub refused_wrong : (b : Bool) → b ≡ (has_forms c.state && nat_le (rules.bytes c.state.providers c.state.shelf) limit) → b ≡ false → AreOfNone rules limit rows
    refused_wrong b tests fails = λ m may are. true≢false (sym (tests ∙ passes_right rules limit m may rows are c is) ∙ fails)

    pub refused_untold : {X : Type 0} (v : Option X) → (is_candidate c.state ≡ true → is_telling (reopened rules c.state) ≡ true → v ≡ None → ⊥) → v ≡ None → AreOfNone rules limit rows
    refused_untold v opens none = λ m may are. opens (passes_candidate rules limit m may rows are c is) (passes_telling rules limit m may rows are c is) none

    pub refused_other : (n : State) → n ≡ reopened rules c.state → (rule : OrphanRule) → (is_first rows ≡ false → rule ≡ c.rule) → (texts_of (rows_in (is_first rows) rule n) ≡ rows → ⊥) → AreOfNone rules limit rows
    refused_other n opens rule ruled differs = λ m may are. differs (has_its_rows rules limit m may rows are c is n opens rule ruled)

-- what is refused at any limit is refused at each
pub at_limit : {A E : Type 0} (rules : Rules) (limit : ℕ) (rows : Rows) (came : Result (Option A) E) → IfOk came (λ o. o ≡ None → (other : ℕ) → AreOfNone rules other rows) → IfOk came (λ o. o ≡ None → AreOfNone rules limit rows)
at_limit rules limit rows (Ok o) h = λ none. h none limit
at_limit rules limit rows (Err e) h = h
