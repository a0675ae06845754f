-- What a change of rows cuts off is among what is cut off below the seeds that have lost their rows.
use Rattle.std.proofs.Common.{◌≡◌, ℕ, Bool, true, false, cond, List, length, refl, sym, ap, ◌∙◌, is_some, is_none, unwrap_or, arith, true≢false, nat_eq}
use Rattle.std.specs.declared.option.Option.{Option}
use Rattle.std.specs.declared.option.Option.TheVariants.{None, Some}
use Rattle.std.specs.List.{filter}
use Rattle.std.specs.Cmp.{nat_cmp_total}
use Rattle.std.specs.FinMap.{nat_cmp-IsAntisymmetric}
use Rattle.std.proofs.lemmas.Bool.Decides.{nat_tests}
use Rattle.cat_collections.specs.Table.{get}
use Rattle.cat_collections.proofs.Tables.{text_total, text_antisymmetric, any_filter}
use Rattle.cat_model.specs.Catalogue.{Ref, Rows, Holders, row_at}
use Rattle.cat_model.specs.Rows.{given}
use Rattle.cat_model.specs.Sound.{AreHolders}
use Rattle.cat_model.specs.declared.types.Origin.{Origin}
use Rattle.cat_model.specs.declared.types.Origin.TheVariants.{Entity}
use Rattle.cat_model.specs.declared.types.Row.{Row}
use Rattle.cat_model.specs.declared.types.State.{State}
use Rattle.cat_model.specs.Mend.{IsReplaced, children, cut_off, held_by, is_holder, lost, lost_by}
use Rattle.cat_model.proofs.Members.{filter_map_in, filter_map_from}
use Rattle.cat_model.proofs.CutOff.{given_is, is_given}
use Rattle.cat_affected.specs.Reach.{cut, has, has_lost, is_lost}
use Rattle.cat_affected.proofs.Within.{AreAmong, below_among}

-- what a row holds has the arrival of the row
held_at : (holders : Holders) (a : ℕ) (v : Option Row) (r : Ref) → held_by holders a v ≡ Some r → get holders r ≡ Some a
held_at holders a None r h = absurd (true≢false (sym (ap is_some h)))
held_at holders a (Some row) r h = go (get holders row.reference) refl h
  where
    at : (b : ℕ) → get holders row.reference ≡ Some b → (c : Bool) → nat_eq a b ≡ c → cond c (Some row.reference) None ≡ Some r → get holders r ≡ Some a
    at b e true n h =
        let is : row.reference ≡ r = ap (λ v. unwrap_or v r) h in
        let k : b ≡ a = grind (arith, nat_tests) in
        sym (ap (get holders) is) ∙ (e ∙ ap Some k)
    at b e false n h = absurd (true≢false (sym (ap is_some h)))

    go : (v : Option ℕ) → get holders row.reference ≡ v → cond (is_holder a v) (Some row.reference) None ≡ Some r → get holders r ≡ Some a
    go None e h = absurd (true≢false (sym (ap is_some h)))
    go (Some b) e h = at b e (nat_eq a b) refl h

holds_it : (holders : Holders) (a : ℕ) (row : Row) (r : Ref) → get holders r ≡ Some a → row.reference ≡ r → held_by holders a (Some row) ≡ Some r
holds_it holders a row r h is =
    let n : nat_eq a a ≡ true = grind (arith, nat_tests) in
    ap (λ q. cond (is_holder a (get holders q)) (Some q) None) is ∙ (ap (λ v. cond (is_holder a v) (Some r) None) h ∙ ap (λ b. cond b (Some r) None) n)

-- what a reference has, it had
children_had : (o : Origin) (before rows : Rows) (next : ℕ) (holders : Holders) → AreHolders before holders → IsReplaced o before next rows → (e : Ref) → AreAmong (children rows holders e) (children before holders e)
children_had o before rows next holders were after e r h =
    let x = filter_map_from nat_cmp_total nat_cmp-IsAntisymmetric text_total text_antisymmetric (λ a. held_by holders a (row_at rows a)) (given rows (Entity e)) r h in
    let g = given_is rows (Entity e) x.0 x.1 in
    let holds = held_at holders x.0 (row_at rows x.0) r x.2 in
    let w = were.rows_of r x.0 holds in
    let t = after.were x.0 g.0 g.1 (after.below x.0 w.row w.at) in
    let same : t.was ≡ w.row = ap (λ v. unwrap_or v t.was) (sym t.at ∙ w.at) in
    filter_map_in nat_cmp_total nat_cmp-IsAntisymmetric text_total text_antisymmetric (λ a. held_by holders a (row_at before a)) (given before (Entity e)) x.0 r
    (is_given before (Entity e) x.0 t.was t.at (t.same_origin ∙ g.2))
    (ap (held_by holders x.0) t.at ∙ holds_it holders x.0 t.was r holds (ap (λ (z : Row). z.reference) same ∙ w.names))

module _ (o : Origin) (seeds : List Ref) (m n : State) (rows : Rows) (were : AreHolders m.rows m.holders)
    (kept : (a : ℕ) (row : Row) → row_at m.rows a ≡ Some row → has row.reference seeds ≡ false → row_at rows a ≡ Some row)
    (fewer : (a : ℕ) → row_at rows a ≡ None → row_at n.rows a ≡ None) where
  -- what has lost its row is a seed whose row is gone
  lost_seeds : AreAmong (lost o m.rows rows m.holders) (filter (has_lost m n) seeds)
  lost_seeds r h =
      let x = filter_map_from nat_cmp_total nat_cmp-IsAntisymmetric text_total text_antisymmetric (lost_by m.rows rows m.holders) (given m.rows o) r h in
      go x.0 (row_at rows x.0) refl x.2
    where
      is_seed : (a : ℕ) (row : Row) → row_at m.rows a ≡ Some row → row_at rows a ≡ None → row.reference ≡ r → (b : Bool) → has r seeds ≡ b → b ≡ true
      is_seed a row at none names true is = refl
      is_seed a row at none names false is = absurd (true≢false (sym (ap is_some (sym none ∙ kept a row at (ap (λ q. has q seeds) names ∙ is)))))

      go : (a : ℕ) (v : Option Row) → row_at rows a ≡ v → cond (is_none v) (held_by m.holders a (row_at m.rows a)) None ≡ Some r → has r (filter (has_lost m n) seeds) ≡ true
      go a None e h =
          let holds = held_at m.holders a (row_at m.rows a) r h in
          let w = were.rows_of r a holds in
          any_filter text_total text_antisymmetric (has_lost m n) seeds r (is_seed a w.row w.at e w.names (has r seeds) refl) (ap (is_lost n.rows) holds ∙ ap is_none (fewer a e))
      go a (Some row) e h = absurd (true≢false (sym (ap is_some h)))

  pub cut_reached : (next : ℕ) → IsReplaced o m.rows next rows → AreAmong (cut_off o m.rows rows m.holders) (cut m n seeds)
  cut_reached next after = below_among rows m.rows m.holders (children_had o m.rows rows next m.holders were after) (length m.holders) (lost o m.rows rows m.holders) (filter (has_lost m n) seeds) lost_seeds
