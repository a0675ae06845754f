-- Rows whose texts are the same are the same.
use Rattle.std.proofs.Common.{◌≡◌, ◌⊎◌, inl, inr, List, [], map, refl, sym, ap, subst, ◌∙◌}
use Rattle.std.specs.declared.option.Option.{Option}
use Rattle.std.specs.declared.option.Option.TheVariants.{None, Some}
use Rattle.std.specs.Option.{option_map}
use Rattle.cat_collections.specs.Table.{find}
use Rattle.cat_keeper.specs.Store.{RowKey, row_cmp}
use Rattle.cat_row_format.specs.Text.{row_key, row_table}
use Rattle.cat_row_format.specs.declared.row.StoredRow.{StoredRow}
use Rattle.cat_stored_rows.specs.Stored.{keyed, put_rows, text_in, texts_of}
use Rattle.cat_stored_rows.proofs.Leading.{row_antisymmetric, row_total}
use Rattle.cat_stored_rows.proofs.In.{In, found_in_puts, found_map, found_puts, from_map, from_puts, in_map, none_some, same_some}

-- where a row stands
abbrev pub place : StoredRow → RowKey
place row = (row_table row, row_key row)

-- no two rows stand at one place
abbrev pub AreApart : List StoredRow → Type 0
AreApart xs = (a b : StoredRow) → In a xs → In b xs → place a ≡ place b → a ≡ b

-- two rows at one place whose texts are one are one
abbrev pub AreTold : List StoredRow → List StoredRow → Type 0
AreTold xs ys = (a b : StoredRow) → In a xs → In b ys → place a ≡ place b → text_in a ≡ text_in b → a ≡ b

module _ (xs ys : List StoredRow) (apart : AreApart xs) (one : AreTold xs ys)
    (same : texts_of (put_rows xs []) ≡ texts_of (put_rows ys [])) where
  stands : (a : StoredRow) → In a xs → find row_cmp (place a) (put_rows xs []) ≡ Some a
  stands a h = found_puts row_total row_antisymmetric (map keyed xs) (place a) a alone (in_map keyed a xs h)
    where
      alone : (b : StoredRow) → In (place a, b) (map keyed xs) → b ≡ a
      alone b g =
          let from = from_map keyed (place a, b) xs g in
          let is : b ≡ from.0 = ap (λ e. e.1) from.2 in
          is ∙ sym (apart a from.0 h from.1 (ap (λ e. e.0) from.2))

  told : (a : StoredRow) → In a xs → option_map text_in (find row_cmp (place a) (put_rows ys [])) ≡ Some (text_in a)
  told a h =
      sym (found_map row_total row_antisymmetric text_in (put_rows ys []) (place a))
      ∙ (ap (find row_cmp (place a)) (sym same)
      ∙ (found_map row_total row_antisymmetric text_in (put_rows xs []) (place a)
      ∙ ap (option_map text_in) (stands a h)))

  -- each row of one list is a row of the other
  pub goes_over : (a : StoredRow) → In a xs → In a ys
  goes_over a h = go (find row_cmp (place a) (put_rows ys [])) (λ b f. from_puts row_total row_antisymmetric (map keyed ys) [] (place a) b f) (told a h)
    where
      there : (b : StoredRow) → text_in b ≡ text_in a → In (place a, b) (map keyed ys) → In a ys
      there b text g =
          let from = from_map keyed (place a, b) ys g in
          let is : b ≡ from.0 = ap (λ e. e.1) from.2 in
          let told_by : a ≡ from.0 = one a from.0 h from.1 (ap (λ e. e.0) from.2) (sym text ∙ ap text_in is) in
          subst (λ c. In c ys) (sym told_by) from.1

      at : (b : StoredRow) → text_in b ≡ text_in a → In (place a, b) (map keyed ys) ⊎ (None ≡ Some b) → In a ys
      at b text (inl g) = there b text g
      at b text (inr e) = absurd (none_some e)

      go : (v : Option StoredRow) → ((b : StoredRow) → v ≡ Some b → In (place a, b) (map keyed ys) ⊎ (None ≡ Some b)) → option_map text_in v ≡ Some (text_in a) → In a ys
      go None f e = absurd (none_some e)
      go (Some b) f e = at b (same_some e) (f b refl)

-- rows of two lists stand at one place, and their texts are one
pub record AreMet (xs ys : List StoredRow) (at : RowKey) : Type 0 where
  pub mine : StoredRow
  pub yours : StoredRow
  pub in_mine : In mine xs
  pub in_yours : In yours ys
  pub at_mine : place mine ≡ at
  pub at_yours : place yours ≡ at
  pub text : text_in mine ≡ text_in yours

-- a row that is found is one of the list, at its place
pub found_row : (xs : List StoredRow) (at : RowKey) (b : StoredRow) → find row_cmp at (put_rows xs []) ≡ Some b → In b xs × (place b ≡ at)
found_row xs at b f = go (from_puts row_total row_antisymmetric (map keyed xs) [] at b f)
  where
    go : In (at, b) (map keyed xs) ⊎ (None ≡ Some b) → In b xs × (place b ≡ at)
    go (inl g) =
        let from = from_map keyed (at, b) xs g in
        let is : b ≡ from.0 = ap (λ e. e.1) from.2 in
        (subst (λ c. In c xs) (sym is) from.1, ap place is ∙ sym (ap (λ e. e.0) from.2))
    go (inr e) = absurd (none_some e)

module _ (xs ys : List StoredRow) (same : texts_of (put_rows xs []) ≡ texts_of (put_rows ys [])) where
  same_at : (at : RowKey) → option_map text_in (find row_cmp at (put_rows xs [])) ≡ option_map text_in (find row_cmp at (put_rows ys []))
  same_at at =
      sym (found_map row_total row_antisymmetric text_in (put_rows xs []) at)
      ∙ (ap (find row_cmp at) same ∙ found_map row_total row_antisymmetric text_in (put_rows ys []) at)

  -- where one list has a row, the other has one too
  pub meets : (b : StoredRow) → In b ys → AreMet xs ys (place b)
  meets b h =
      let held = found_in_puts row_total row_antisymmetric (map keyed ys) (place b) b (in_map keyed b ys h) in
      go (find row_cmp (place b) (put_rows xs [])) (found_row xs (place b)) held.0 (found_row ys (place b) held.0 held.1) (same_at (place b) ∙ ap (option_map text_in) held.1)
    where
      go : (v : Option StoredRow) → ((a : StoredRow) → v ≡ Some a → In a xs × (place a ≡ place b)) → (c : StoredRow) → In c ys × (place c ≡ place b) → option_map text_in v ≡ Some (text_in c) → AreMet xs ys (place b)
      go None f c g e = absurd (none_some e)
      go (Some a) f c g e =
          let is = f a refl in
          record { mine = a; yours = c; in_mine = is.0; in_yours = g.0; at_mine = is.1; at_yours = g.1; text = same_some e }
