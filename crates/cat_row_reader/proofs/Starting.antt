-- The state that rows stand for is at its start.
use Rattle.std.proofs.Common.{◌≡◌, ◌⊎◌, inl, inr, ℕ, ◌≤◌, ◌^◌, Bool, true, false, ◌&&◌, nat_le, List, [], ◌∷◌, refl, sym, ap, subst, ◌∙◌, arith, eqb-true, leb-true, length}
use Rattle.std.specs.Prelude.{◌==◌, if◌then◌else◌}
use Rattle.cat_collections.proofs.Tables.{and_first, and_second}
use Rattle.cat_model.specs.declared.types.State.{State}
use Rattle.cat_row_format.specs.declared.row.StoredCounter.TheVariants.{Arrival, Number}
use Rattle.cat_row_format.specs.declared.row.StoredRow.{StoredRow}
use Rattle.cat_row_format.specs.declared.row.StoredRow.TheVariants.{Counter, Provider, Item, Shelf, Record, RecordOne, Orphan, Settings, Tree, ItemOne}
use Rattle.cat_keeper.specs.Store.{Rows}
use Rattle.cat_row_reader.specs.Candidate.{IsCandidate}
use Rattle.cat_row_reader.specs.Read.{AreRead}
use Rattle.cat_row_reader.specs.Standing.{arrival_by, bounded, number_by, state_of, told_by}
use Rattle.cat_row_reader.specs.Start.{IsAtStart, empty_candidate}
use Rattle.cat_row_reader.specs.declared.types.Candidate.{Candidate}

abbrev IsBounded : ℕ → Type 0
IsBounded n = (1 ≤ n) × (n ≤ 2 ^ 59)

one_bounded : IsBounded 1
one_bounded = (omega arith, omega arith)

are_bounded : (n : ℕ) → IsBounded (bounded n)
are_bounded n = go (nat_le 1 n && nat_le n (2 ^ 59)) refl
  where
    go : (b : Bool) → (nat_le 1 n && nat_le n (2 ^ 59)) ≡ b → IsBounded (if b then n else 1)
    go true e = (leb-true 1 n (and_first _ _ e), leb-true n (2 ^ 59) (and_second (nat_le 1 n) _ e))
    go false e = one_bounded

module _ (by : StoredRow → ℕ → ℕ) (keeps : (row : StoredRow) (n : ℕ) → IsBounded n → IsBounded (by row n)) where
  told_bounded : (rows : List StoredRow) (n : ℕ) → IsBounded n → IsBounded (told_by by rows n)
  told_bounded [] n h = h
  told_bounded (row ∷ rows) n h = told_bounded rows (by row n) (keeps row n h)

arrival_bounded : (row : StoredRow) (n : ℕ) → IsBounded n → IsBounded (arrival_by row n)
arrival_bounded (Counter Arrival next) n h = are_bounded next
arrival_bounded (Counter Number next) n h = h
arrival_bounded (Provider name serial) n h = h
arrival_bounded (Item provider reference arrival key) n h = h
arrival_bounded (Shelf name body) n h = h
arrival_bounded (Record reference holder issues number output) n h = h
arrival_bounded (Orphan reference entity number) n h = h
arrival_bounded (Settings rule) n h = h
arrival_bounded (Tree arrival tree) n h = h
arrival_bounded (ItemOne provider reference arrival key tree) n h = h
arrival_bounded (RecordOne reference holder issues number output) n h = h

number_bounded : (row : StoredRow) (n : ℕ) → IsBounded n → IsBounded (number_by row n)
number_bounded (Counter Arrival next) n h = h
number_bounded (Counter Number next) n h = are_bounded next
number_bounded (Provider name serial) n h = h
number_bounded (Item provider reference arrival key) n h = h
number_bounded (Shelf name body) n h = h
number_bounded (Record reference holder issues number output) n h = h
number_bounded (Orphan reference entity number) n h = h
number_bounded (Settings rule) n h = h
number_bounded (Tree arrival tree) n h = h
number_bounded (ItemOne provider reference arrival key tree) n h = h
number_bounded (RecordOne reference holder issues number output) n h = h

pub at_start : (rows : List StoredRow) → IsAtStart (state_of rows)
unfolding state_of
at_start rows =
    let arrival = told_bounded arrival_by arrival_bounded rows 1 one_bounded in
    let number = told_bounded number_by number_bounded rows 1 one_bounded in
    record {
      token = refl;
      ticket = refl;
      marks = refl;
      documents = refl;
      arrival_begun = arrival.0;
      number_begun = number.0;
      arrival_small = arrival.1;
      number_small = number.1;
    }

pub state_at_start : (m : State) (rows : List StoredRow) → m ≡ state_of rows → IsAtStart m
state_at_start m rows e = subst IsAtStart (sym e) (at_start rows)

-- ---- a store without rows

no_texts : (texts : Rows) → (length texts == 0) ≡ true → texts ≡ []
no_texts [] h = refl
no_texts (e ∷ es) h = let n : length (e ∷ es) ≡ 0 = eqb-true _ _ h in absurd (omega (arith, n))

pub nothing_read : (texts : Rows) (c : Candidate) → (length texts == 0) ≡ true → c ≡ empty_candidate → IsCandidate texts c
unfolding state_of
nothing_read texts c h e = record {
  rows = [];
  read = subst (λ l. AreRead l []) (sym (no_texts texts h)) tt;
  state = ap (λ (d : Candidate). d.state) e;
  rule = ap (λ (d : Candidate). d.rule) e;
}
