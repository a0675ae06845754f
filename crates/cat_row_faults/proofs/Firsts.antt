-- The first row at fault.
use Rattle.std.proofs.Common.{◌≡◌, ℕ, zero, suc, ◌<◌, Bool, true, false, [], ◌∷◌, refl, sym, ap, subst, ◌∙◌, inl, inr, arith, Less, Greater, ltb-true, ltb-false}
use Rattle.std.specs.Prelude.{slice_get, nat_lt, if◌then◌else◌}
use Rattle.std.specs.Cmp.{IsTotalOrder}
use Rattle.std.specs.FinMap.Entries.{is_sorted}
use Rattle.std.specs.Option.{option_and_then, option_map}
use Rattle.std.specs.Ordering.{ordering_reverse}
use Rattle.std.specs.declared.option.Option.{Option}
use Rattle.std.specs.declared.option.Option.TheVariants.{None, Some}
use Rattle.std.proofs.lemmas.Option.{none-some}
use Rattle.cat_collections.specs.Pairs.{pair_total}
use Rattle.cat_collections.specs.Places.{before}
use Rattle.cat_collections.specs.Table.{Text, text_total}
use Rattle.cat_keeper.specs.Store.{RowKey, Rows, row_cmp}
use Rattle.cat_keeper.specs.Tables.{table_total}
use Rattle.cat_row_format.specs.declared.row.StoredRow.{StoredRow}
use Rattle.cat_row_faults.specs.First.{IsFirstFault, IsFirstMissing, IsFirstWrong, IsMissing, IsWrongAt}
use Rattle.cat_row_faults.specs.Named.{missing_or, named_at}
use Rattle.cat_row_faults.specs.Readings.{AreReadings, Readings}
use Rattle.cat_row_faults.specs.Told.{answers}
use Rattle.cat_row_faults.proofs.Ranks.{before_below, below_before, earlier}

row_total : IsTotalOrder row_cmp
row_total = pair_total table_total text_total

-- a text stands at a place
record HasText (texts : Rows) (place : ℕ) : Type 0 where
  entry : RowKey × Text
  at : slice_get texts place ≡ Some entry

-- each reading is of a text
text_at : (texts : Rows) (rs : Readings) (place : ℕ) (o : Option StoredRow) → AreReadings texts rs → slice_get rs place ≡ Some o → HasText texts place
text_at [] [] place o h at = absurd (none-some _ at)
text_at [] (r ∷ rs) place o h at = absurd h
text_at (e ∷ es) [] place o h at = absurd h
text_at (e ∷ es) (r ∷ rs) zero o h at = record { entry = e; at = refl }
text_at (e ∷ es) (r ∷ rs) (suc place) o h at = let t = text_at es rs place o h.1 at in record { entry = t.entry; at = t.at }

-- the wrong row that is first, where none that is missing would stand before it
wrong_is : (texts : Rows) (limit : ℕ) (rs : Readings) (place : ℕ) (e : RowKey × Text) → is_sorted row_cmp texts ≡ true → slice_get texts place ≡ Some e → IsFirstWrong limit rs (Some place)
    → ((other : RowKey) → row_cmp other e.0 ≡ Less → ¬ IsMissing (answers rs) other) → IsFirstFault texts limit rs (named_at texts place)
wrong_is texts limit rs place e s at w none =
    subst (λ (o : Option (RowKey × Text)). IsFirstFault texts limit rs (option_map (λ (d : RowKey × Text). d.0) o)) (sym at) (
      inl (place, e.1, at, w.0),
      λ other l f. elim f [
        | inl q ↦ w.1 q.0 (earlier row_total texts q.0 place (other, q.1) e s q.2 at l) q.3
        | inr m ↦ none other l m
      ],
    )

pub none_missing : (texts : Rows) (limit : ℕ) (rs : Readings) (wrong : Option ℕ) → is_sorted row_cmp texts ≡ true → AreReadings texts rs → IsFirstWrong limit rs wrong
    → ((key : RowKey) → ¬ IsMissing (answers rs) key) → IsFirstFault texts limit rs (option_and_then (named_at texts) wrong)
none_missing texts limit rs None s r w none = λ key f. elim f [ inl q ↦ w q.0 q.3 | inr m ↦ none key m ]
none_missing texts limit rs (Some place) s r w none =
    let t = text_at texts rs place w.0.reading r w.0.at in
    wrong_is texts limit rs place t.entry s t.at w (λ other l m. none other m)

-- the missing row that is first, where no wrong one stands before it
missing_is : (texts : Rows) (limit : ℕ) (rs : Readings) (key : RowKey) → is_sorted row_cmp texts ≡ true → IsFirstMissing (answers rs) key
    → ((place : ℕ) → place < before row_cmp key texts → ¬ IsWrongAt limit rs place) → IsFirstFault texts limit rs (Some key)
missing_is texts limit rs key s m none = (
  inr m.0,
  λ other l f. elim f [
    | inl q ↦ none q.0 (below_before row_total key texts q.0 (other, q.1) s q.2 (row_total.antisymm key other ∙ ap ordering_reverse l)) q.3
    | inr n ↦ m.1 other l n
  ],
)

pub one_missing : (texts : Rows) (limit : ℕ) (rs : Readings) (key : RowKey) (wrong : Option ℕ) → is_sorted row_cmp texts ≡ true → AreReadings texts rs → IsFirstWrong limit rs wrong
    → IsFirstMissing (answers rs) key → IsFirstFault texts limit rs (missing_or texts key wrong)
one_missing texts limit rs key None s r w m = missing_is texts limit rs key s m (λ place h. w place)
one_missing texts limit rs key (Some place) s r w m = go (nat_lt place (before row_cmp key texts)) refl
  where
    go : (b : Bool) → nat_lt place (before row_cmp key texts) ≡ b → IsFirstFault texts limit rs (if b then named_at texts place else Some key)
    go true e =
        let t = text_at texts rs place w.0.reading r w.0.at in
        let above : row_cmp key t.entry.0 ≡ Greater = before_below row_total key texts place t.entry t.at (ltb-true place (before row_cmp key texts) e) in
        wrong_is texts limit rs place t.entry s t.at w (λ other l n. m.1 other (row_total.trans other t.entry.0 key l (row_total.antisymm t.entry.0 key ∙ ap ordering_reverse above)) n)
    go false e =
        let high = ltb-false place (before row_cmp key texts) e in
        missing_is texts limit rs key s m (λ q h. w.1 q (omega (arith, high, h)))
