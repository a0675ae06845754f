-- Mending gives what claiming over all rows gives.
use Rattle.std.proofs.Common.{T, ◌≡◌, ℕ, zero, suc, Bool, true, false, cond, not, ◌&&◌, List, ◌++◌, length, refl, sym, ap, ◌∙◌, is_some, arith, true≢false, nat_cmp, nat_le}
use Rattle.std.specs.declared.option.Option.{Option}
use Rattle.std.specs.declared.option.Option.TheVariants.{None, Some}
use Rattle.std.specs.Option.{option_and_then}
use Rattle.std.specs.Ordering.{eq_by_cmp}
use Rattle.std.specs.List.{filter, flat_map}
use Rattle.std.specs.Cmp.{nat_cmp_total}
use Rattle.std.specs.FinMap.{nat_cmp-IsAntisymmetric}
use Rattle.std.specs.FinMap.Entries.{is_sorted}
use Rattle.std.proofs.lemmas.Bool.Decides.{nat_tests}
use Rattle.cat_collections.specs.Table.{text_cmp, same_text, get, keys, find, put, first}
use Rattle.cat_model.specs.Catalogue.{Ref, Rows, Holders, held, row_at, may_offer, claims, hold, claim, rehold}
use Rattle.cat_model.specs.declared.types.Origin.{Origin}
use Rattle.cat_model.specs.declared.types.Row.{Row}
use Rattle.cat_model.specs.declared.types.Origin.TheVariants.{Provider, Entity}
use Rattle.cat_model.specs.Sound.{AreHolders}
use Rattle.cat_collections.proofs.Tables.{text_total, text_antisymmetric, same_is, same_self, found_key, find-over, find-put_same, find-put_other, and_first, and_second, not_true, any_filter, some_or_none}
use Rattle.cat_model.proofs.Kept.{first_step}
use Rattle.cat_model.specs.Rows.{given, is_named, named}
use Rattle.cat_model.specs.Mend.{cut_off, released, candidates, least, opened, mend, mended, IsReplaced}
use Rattle.cat_model.proofs.Members.{any_left, any_right, flat_map_in}
use Rattle.cat_model.proofs.CutOff.{has, among, is_given, names, stays}
use Rattle.cat_model.proofs.Least.{first_is_least}

pub put_holds : (k : Ref) (b : ℕ) (holders : Holders) (q : Ref) → held holders q ≡ true → held (put text_cmp k b holders) q ≡ true
put_holds k b holders q h = go (same_text q k) refl
  where
    go : (c : Bool) → same_text q k ≡ c → held (put text_cmp k b holders) q ≡ true
    go true e = ap (λ r. is_some (find text_cmp r (put text_cmp k b holders))) (same_is text_total text_antisymmetric q k e) ∙ ap is_some (find-put_same text_total text_antisymmetric k b holders)
    go false e = ap is_some (find-put_other text_total text_antisymmetric q k b holders e) ∙ h

both : (a b : Bool) → a ≡ true → b ≡ true → (a && b) ≡ true
both a b p q = ap (λ c. c && b) p ∙ q

module _ (rows : Rows) where
  -- each row that may claim is among these
  abbrev pub AllWait : List ℕ → Holders → Type 0
  AllWait waiting holders = (a : ℕ) → claims holders (row_at rows a) ≡ true → among a waiting ≡ true

  is_row : (a : ℕ) (holders : Holders) → claims holders (row_at rows a) ≡ true → among a (keys rows) ≡ true
  is_row a holders h = go (row_at rows a) refl h
    where
      go : (v : Option Row) → row_at rows a ≡ v → claims holders v ≡ true → among a (keys rows) ≡ true
      go None e h = absurd (true≢false (sym h))
      go (Some row) e h = found_key nat_cmp_total nat_cmp-IsAntisymmetric a rows row e

  module _ (waiting : List ℕ) (holders : Holders) (all : AllWait waiting holders) (row : Row) (b : ℕ) where
    abbrev after : Holders
    after = put text_cmp row.reference b holders

    still_free : (r : Ref) → not (held after r) ≡ true → not (held holders r) ≡ true
    still_free r h = go (held holders r) refl
      where
        go : (c : Bool) → held holders r ≡ c → not c ≡ true
        go true e = absurd (true≢false (sym (put_holds row.reference b holders r e) ∙ not_true _ h))
        go false e = refl

    held_before : (e : Ref) → same_text e row.reference ≡ false → held after e ≡ true → held holders e ≡ true
    held_before e apart h = sym (ap is_some (find-put_other text_total text_antisymmetric e row.reference b holders apart)) ∙ h

    -- once this row holds, what may claim may have done so before, or was given by its reference
    one_more : (c : ℕ) (x : Row) → row_at rows c ≡ Some x → (o : Origin) → x.origin ≡ o → not (held after x.reference) ≡ true → may_offer after o ≡ true → among c (given rows (Entity row.reference) ++ waiting) ≡ true
    one_more c x at (Provider p) is free may =
        any_right (eq_by_cmp nat_cmp c) (given rows (Entity row.reference)) waiting
        (all c (ap (claims holders) at ∙ both (not (held holders x.reference)) (may_offer holders x.origin) (still_free x.reference free) (ap (may_offer holders) is)))
    one_more c x at (Entity e) is free may = go (same_text e row.reference) refl
      where
        go : (d : Bool) → same_text e row.reference ≡ d → among c (given rows (Entity row.reference) ++ waiting) ≡ true
        go true s = any_left (eq_by_cmp nat_cmp c) (given rows (Entity row.reference)) waiting
            (is_given rows (Entity row.reference) c x at (is ∙ ap Entity (same_is text_total text_antisymmetric e row.reference s)))
        go false s = any_right (eq_by_cmp nat_cmp c) (given rows (Entity row.reference)) waiting
            (all c (ap (claims holders) at ∙ both (not (held holders x.reference)) (may_offer holders x.origin) (still_free x.reference free) (ap (may_offer holders) is ∙ held_before e s may)))

    wait_after : AllWait (given rows (Entity row.reference) ++ waiting) after
    wait_after c h = go (row_at rows c) refl h
      where
        go : (v : Option Row) → row_at rows c ≡ v → claims after v ≡ true → among c (given rows (Entity row.reference) ++ waiting) ≡ true
        go None e h = absurd (true≢false (sym h))
        go (Some x) e h = one_more c x e x.origin refl (and_first _ _ h) (and_second (not (held after x.reference)) _ h)

  pub wait_more : (waiting : List ℕ) (holders : Holders) → AllWait waiting holders → (v : Option Row) (b : ℕ) → AllWait (opened rows v ++ waiting) (hold b v holders)
  wait_more waiting holders all None b = all
  wait_more waiting holders all (Some row) b = wait_after waiting holders all row b

  abbrev next_or : Holders → (ℕ → Holders) → Option ℕ → Holders
  next_or holders f v = elim v [ None ↦ holders | Some b ↦ f b ]

  same_next : (holders : Holders) (f g : ℕ → Holders) (v : Option ℕ) → ((b : ℕ) → f b ≡ g b) → next_or holders f v ≡ next_or holders g v
  same_next holders f g None h = refl
  same_next holders f g (Some b) h = h b

  module _ (in_order : T (is_sorted nat_cmp rows)) where
    -- the row that claims next is the least of those that wait
    pub next-is : (waiting : List ℕ) (holders : Holders) → AllWait waiting holders → first (λ a. claims holders (row_at rows a)) (keys rows) ≡ least (λ a. claims holders (row_at rows a)) waiting
    next-is waiting holders all = first_is_least (λ a. claims holders (row_at rows a)) rows waiting in_order (λ a h. is_row a holders h) all

    pub mend-is : (n : ℕ) (waiting : List ℕ) (holders : Holders) → AllWait waiting holders → claim n rows (keys rows) holders ≡ mend n rows waiting holders
    mend-is zero waiting holders all = refl
    mend-is (suc n) waiting holders all =
        same_next holders (λ b. claim n rows (keys rows) (hold b (row_at rows b) holders)) (λ b. mend n rows (opened rows (row_at rows b) ++ waiting) (hold b (row_at rows b) holders))
        (first (λ a. claims holders (row_at rows a)) (keys rows)) (λ b. mend-is n (opened rows (row_at rows b) ++ waiting) (hold b (row_at rows b) holders) (wait_more waiting holders all (row_at rows b) b))
        ∙ ap (next_or holders (λ b. mend n rows (opened rows (row_at rows b) ++ waiting) (hold b (row_at rows b) holders))) (next-is waiting holders all)

module _ (o : Origin) (before rows : Rows) (next : ℕ) (holders : Holders) (were : AreHolders before holders) (after : IsReplaced o before next rows) where
  abbrev cut : List Ref
  cut = cut_off o before rows holders

  -- a reference that was held and isn't any more is cut off
  pub released_cut : (r : Ref) → held holders r ≡ true → held (released cut holders) r ≡ false → has r cut ≡ true
  released_cut r h none = go (has r cut) refl
    where
      go : (b : Bool) → has r cut ≡ b → b ≡ true
      go true e = refl
      go false e =
          let a = some_or_none (get holders r) h in
          absurd (true≢false (sym (ap is_some (find-over text_total text_antisymmetric r holders (λ r a. cond (has r cut) None (Some a)) ∙ (ap (option_and_then (λ a. cond (has r cut) None (Some a))) a.1 ∙ ap (λ b. cond b None (Some a.0)) e))) ∙ none))

  -- at first the candidates wait
  pub candidates_wait : AllWait rows (candidates o next rows cut) (released cut holders)
  candidates_wait a h = go (row_at rows a) refl h
    where
      by_age : (row : Row) → row_at rows a ≡ Some row → held (released cut holders) row.reference ≡ false → (b : Bool) → nat_le next a ≡ b → among a (candidates o next rows cut) ≡ true
      by_age row e none true n = any_left (eq_by_cmp nat_cmp a) (filter (nat_le next) (given rows o)) (flat_map (named rows) cut)
          (any_filter nat_cmp_total nat_cmp-IsAntisymmetric (nat_le next) (given rows o) a (is_given rows o a row e (after.fresh a row e (grind (arith, nat_tests)))) n)
      by_age row e none false n =
          let x = after.were a row e (grind (arith, nat_tests)) in
          let c = released_cut row.reference (ap (held holders) (sym x.same_reference) ∙ were.all_held a x.was x.at) none in
          any_right (eq_by_cmp nat_cmp a) (filter (nat_le next) (given rows o)) (flat_map (named rows) cut)
          (flat_map_in text_total text_antisymmetric nat_cmp_total nat_cmp-IsAntisymmetric (named rows) cut row.reference a c
          (any_filter nat_cmp_total nat_cmp-IsAntisymmetric (λ a. is_named row.reference (row_at rows a)) (keys rows) a (found_key nat_cmp_total nat_cmp-IsAntisymmetric a rows row e)
          (ap (is_named row.reference) e ∙ same_self text_total text_antisymmetric row.reference)))

      go : (v : Option Row) → row_at rows a ≡ v → claims (released cut holders) v ≡ true → among a (candidates o next rows cut) ≡ true
      go None e h = absurd (true≢false (sym h))
      go (Some row) e h = by_age row e (not_true _ (and_first _ _ h)) (nat_le next a) refl

  -- the holders, where all rows claim once what is cut off is released
  pub begins : rehold rows holders ≡ claim (length rows) rows (keys rows) (released cut holders)
  begins = ap (claim (length rows) rows (keys rows)) (first_step rows holders (names o before rows next holders were after) ∙ stays o before rows next holders were after)

  -- what claims over all rows, claims among the candidates and what they open
  pub rehold-is : T (is_sorted nat_cmp rows) → rehold rows holders ≡ mended o before next rows holders
  rehold-is in_order = begins ∙ mend-is rows in_order (length rows) (candidates o next rows cut) (released cut holders) candidates_wait
