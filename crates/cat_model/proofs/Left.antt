-- The rows that then stand.
use Rattle.std.proofs.Common.{◌≡◌, ℕ, zero, suc, Bool, true, false, cond, not, List, length, refl, sym, ap, ◌∙◌, is_some, true≢false}
use Rattle.std.specs.declared.option.Option.{Option}
use Rattle.std.specs.declared.option.Option.TheVariants.{None, Some}
use Rattle.std.specs.Option.{option_and_then}
use Rattle.std.specs.Cmp.{nat_cmp_total}
use Rattle.std.specs.FinMap.{nat_cmp-IsAntisymmetric}
use Rattle.cat_collections.specs.Table.{same_text, get, keys, first}
use Rattle.cat_model.specs.Catalogue.{Ref, Rows, Holders, held, row_at, may_offer, claims, hold, claim, rehold, with_origin_held, standing}
use Rattle.cat_model.specs.declared.types.Origin.{Origin}
use Rattle.cat_model.specs.declared.types.Row.{Row}
use Rattle.cat_model.specs.declared.types.Origin.TheVariants.{Provider, Entity}
use Rattle.cat_model.specs.Sound.{AreHolders}
use Rattle.cat_collections.proofs.Tables.{text_total, text_antisymmetric, same_is, find-over, find-put_other, any_filter, same_tabulated, not_true, and_first, first_some, some_or_none}
use Rattle.cat_model.proofs.Kept.{first_step}
use Rattle.cat_model.specs.Mend.{cut_off, released, gone, is_of, left_by, IsReplaced, AreOpen}
use Rattle.cat_model.proofs.Members.{filter_passes}
use Rattle.cat_model.proofs.CutOff.{has, names, stays}
use Rattle.cat_model.proofs.Mended.{put_holds, released_cut, begins}

hold_holds : (b : ℕ) (v : Option Row) (holders : Holders) (q : Ref) → held holders q ≡ true → held (hold b v holders) q ≡ true
hold_holds b None holders q h = h
hold_holds b (Some row) holders q h = put_holds row.reference b holders q h

-- what is held stays held while rows claim
claim_holds : (n : ℕ) (rows : Rows) (arrivals : List ℕ) (holders : Holders) (q : Ref) → held holders q ≡ true → held (claim n rows arrivals holders) q ≡ true
claim_holds zero rows arrivals holders q h = h
claim_holds (suc n) rows arrivals holders q h = go (first (λ a. claims holders (row_at rows a)) arrivals) (λ a. claim_holds n rows arrivals (hold a (row_at rows a) holders) q (hold_holds a (row_at rows a) holders q h))
  where
    go : (v : Option ℕ) → ((a : ℕ) → held (claim n rows arrivals (hold a (row_at rows a) holders)) q ≡ true) → held (elim v [ None ↦ holders | Some a ↦ claim n rows arrivals (hold a (row_at rows a) holders) ]) q ≡ true
    go None ih = h
    go (Some a) ih = ih a

-- and by the same row
claim_keeps : (n : ℕ) (rows : Rows) (arrivals : List ℕ) (holders : Holders) (q : Ref) (b : ℕ) → get holders q ≡ Some b → get (claim n rows arrivals holders) q ≡ Some b
claim_keeps zero rows arrivals holders q b h = h
claim_keeps (suc n) rows arrivals holders q b h = go (first (λ a. claims holders (row_at rows a)) arrivals) refl (claim_keeps n rows arrivals)
  where
    other : (a : ℕ) (v : Option Row) → claims holders v ≡ true → get (hold a v holders) q ≡ Some b
    other a None c = h
    other a (Some row) c = find-put_other text_total text_antisymmetric q row.reference a holders (apart (same_text q row.reference) refl) ∙ h
      where
        apart : (d : Bool) → same_text q row.reference ≡ d → d ≡ false
        apart true e = absurd (true≢false (sym (ap is_some h) ∙ (ap (held holders) (same_is text_total text_antisymmetric q row.reference e) ∙ not_true _ (and_first _ _ c))))
        apart false e = refl

    go : (v : Option ℕ) → first (λ a. claims holders (row_at rows a)) arrivals ≡ v → ((m : Holders) (q : Ref) (b : ℕ) → get m q ≡ Some b → get (claim n rows arrivals m) q ≡ Some b)
        → get (elim v [ None ↦ holders | Some a ↦ claim n rows arrivals (hold a (row_at rows a) holders) ]) q ≡ Some b
    go None e ih = h
    go (Some a) e ih = ih (hold a (row_at rows a) holders) q b (other a (row_at rows a) (first_some nat_cmp_total nat_cmp-IsAntisymmetric (λ a. claims holders (row_at rows a)) arrivals a e))

-- what isn't cut off is held by the row that held it
pub others_stay : (o : Origin) (before rows : Rows) (next : ℕ) (holders : Holders) → AreHolders before holders → IsReplaced o before next rows
    → (r : Ref) → held holders r ≡ true → has r (cut_off o before rows holders) ≡ false → get (rehold rows holders) r ≡ get holders r
others_stay o before rows next holders were after r h out =
    let a = some_or_none (get holders r) h in
    let cut = cut_off o before rows holders in
    let kept : get (released cut holders) r ≡ Some a.0 = find-over text_total text_antisymmetric r holders (λ r a. cond (has r cut) None (Some a)) ∙ (ap (option_and_then (λ a. cond (has r cut) None (Some a))) a.1 ∙ ap (λ b. cond b None (Some a.0)) out) in
    ap (λ m. get m r) (begins o before rows next holders were after) ∙ (claim_keeps (length rows) rows (keys rows) (released cut holders) r a.0 kept ∙ sym a.1)

module _ (o : Origin) (before rows : Rows) (next : ℕ) (holders : Holders) (were : AreHolders before holders) (after : IsReplaced o before next rows) (opens : AreOpen rows holders) where
  abbrev cut : List Ref
  cut = cut_off o before rows holders

  abbrev ended : Holders
  ended = rehold rows holders

  stays_held : (e : Ref) → held (released cut holders) e ≡ true → held ended e ≡ true
  stays_held e h = claim_holds (length rows) rows (keys rows) _ e
      (ap (λ m. held m e) (first_step rows holders (names o before rows next holders were after) ∙ stays o before rows next holders were after) ∙ h)

  -- a reference that was held and isn't at the end is one of those gone
  is_gone : (e : Ref) → held holders e ≡ true → held ended e ≡ not (has e (gone cut ended))
  is_gone e h = go (held ended e) refl (has e (gone cut ended)) refl
    where
      cut_it : held ended e ≡ false → has e cut ≡ true
      cut_it f = released_cut o before rows next holders were after e h (out (held (released cut holders) e) refl)
        where
          out : (b : Bool) → held (released cut holders) e ≡ b → b ≡ false
          out true g = absurd (true≢false (sym (stays_held e g) ∙ f))
          out false g = refl

      go : (b : Bool) → held ended e ≡ b → (c : Bool) → has e (gone cut ended) ≡ c → b ≡ not c
      go true f true g = absurd (true≢false (sym f ∙ not_true _ (filter_passes text_total text_antisymmetric (λ r. not (held ended r)) cut e g)))
      go true f false g = refl
      go false f true g = refl
      go false f false g = absurd (true≢false (sym (any_filter text_total text_antisymmetric (λ r. not (held ended r)) cut e (cut_it f) (ap not f)) ∙ g))

  offers : (o : Origin) → may_offer holders o ≡ true → may_offer ended o ≡ not (is_of (gone cut ended) o)
  offers (Provider p) h = refl
  offers (Entity e) h = is_gone e h

  abbrev left : Row → Option Row
  left row = cond (is_of (gone cut ended) row.origin) None (Some row)

  -- the rows that stand are all but those that what is gone gave
  pub standing-is : standing rows ended ≡ left_by (gone cut ended) rows
  standing-is = same_tabulated nat_cmp_total nat_cmp-IsAntisymmetric (keys rows) (keys rows)
      (λ a. option_and_then (with_origin_held ended) (row_at rows a)) (λ a. option_and_then left (row_at rows a))
      (λ a. find-over nat_cmp_total nat_cmp-IsAntisymmetric a rows (λ a row. with_origin_held ended row) ∙ (go a (row_at rows a) refl ∙ sym (find-over nat_cmp_total nat_cmp-IsAntisymmetric a rows (λ a row. left row))))
    where
      turned : (b : Bool) (row : Row) → cond (not b) (Some row) None ≡ cond b None (Some row)
      turned true row = refl
      turned false row = refl

      go : (a : ℕ) (v : Option Row) → row_at rows a ≡ v → option_and_then (with_origin_held ended) v ≡ option_and_then left v
      go a None e = refl
      go a (Some row) e = ap (λ b. cond b (Some row) None) (offers row.origin (opens a row e)) ∙ turned (is_of (gone cut ended) row.origin) row
