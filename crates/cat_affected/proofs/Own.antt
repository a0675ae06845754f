-- What an event reaches that is about one reference: a finish and a forget.
use Rattle.std.proofs.Common.{◌≡◌, ℕ, false, ◌||◌, ◌++◌, [], refl, sym, ap, subst, ◌∙◌, cond, is_some, true≢false}
use Rattle.std.specs.declared.option.Option.{Option}
use Rattle.std.specs.declared.option.Option.TheVariants.{None, Some}
use Rattle.cat_collections.specs.Table.{same_text, get, keys}
use Rattle.cat_collections.proofs.Tables.{text_total, text_antisymmetric, find-put_other, or_true, or_false_first}
use Rattle.cat_types.specs.declared.work.Outcome.{Outcome}
use Rattle.cat_types.specs.declared.work.Outcome.TheVariants.{Good, Bad}
use Rattle.cat_model.specs.Catalogue.{Ref, Rules, frame}
use Rattle.cat_model.specs.Sound.{Sound}
use Rattle.cat_model.specs.Step.{finish, finished_record, finished_state, forget, forget_at, forgotten, is_present, leaving, ref_at, step}
use Rattle.cat_model.specs.Step.Event.{Finish, Forget, ForgetNumber}
use Rattle.cat_model.specs.declared.types.Leaving.{Leaving}
use Rattle.cat_model.specs.declared.types.Leaving.TheVariants.{Deleted}
use Rattle.cat_model.specs.declared.types.Order.{Order}
use Rattle.cat_model.specs.declared.types.Origin.TheVariants.{Entity}
use Rattle.cat_model.specs.declared.types.Record.{Record}
use Rattle.cat_model.specs.declared.types.Settings.{Settings}
use Rattle.cat_model.specs.declared.types.State.{State}
use Rattle.cat_model.proofs.Holding.{stood}
use Rattle.cat_laws.proofs.Steps.{get-without_key, other_way}
use Rattle.cat_model.specs.Mend.{IsReady, IsReplaced}
use Rattle.cat_model.proofs.Changed.{sound_ready, rows_after}
use Rattle.cat_model.proofs.Members.{any_left, any_right}
use Rattle.cat_affected.specs.Reach.{AreSameBeyond, has, own_refs, reached, refs_given}
use Rattle.cat_affected.proofs.Within.{row_given}
use Rattle.cat_affected.proofs.Same.{same_beyond}
use Rattle.cat_affected.proofs.Stepped.{unchanged, rows_stay, at_cond, stepped}

module _ (rules : Rules) (s : Settings) (m : State) (sound : Sound rules m) where
  abbrev Reaches : Ref → State → Type 0
  Reaches r n = AreSameBeyond (reached (own_refs r m n) m n) m n

  none_reached : (r : Ref) → Reaches r m
  none_reached r = unchanged (reached (own_refs r m m) m m) m

  module _ (how : Leaving) (r : Ref) (own : State) where
    abbrev n : State
    n = frame rules how m own

    -- where the rows that r gives are replaced, and no record or orphan but that of r
    about_one : IsReplaced (Entity r) m.rows m.arrival own.rows → own.holders ≡ m.holders → ((q : Ref) → same_text q r ≡ false → get own.records q ≡ get m.records q)
        → ((q : Ref) → same_text q r ≡ false → get own.orphans q ≡ get m.orphans q) → Reaches r n
    about_one replaces holders records orphans = same_beyond rules how (Entity r) (own_refs r m n) m own sound (record {
      replaces = replaces;
      kept = λ a row e is out. absurd (true≢false (sym (or_true (same_text row.reference r) (has row.reference (refs_given m.rows (Entity r) ++ refs_given n.rows (Entity r)))
          (any_left (same_text row.reference) (refs_given m.rows (Entity r)) (refs_given n.rows (Entity r)) (row_given m.rows (Entity r) a row e is))) ∙ out));
      fresh = λ a row h l. or_true (same_text row.reference r) (has row.reference (refs_given m.rows (Entity r) ++ refs_given n.rows (Entity r)))
          (any_right (same_text row.reference) (refs_given m.rows (Entity r)) (refs_given n.rows (Entity r))
          (row_given n.rows (Entity r) a row h (replaces.fresh a row (stood own.rows own.holders a row h).0 l)));
      holders = holders;
      records = λ q out. records q (or_false_first (same_text q r) (has q (refs_given m.rows (Entity r) ++ refs_given n.rows (Entity r))) out);
      orphans = λ q out. orphans q (or_false_first (same_text q r) (has q (refs_given m.rows (Entity r) ++ refs_given n.rows (Entity r))) out);
    })

  ready : IsReady m
  ready = sound_ready rules m sound

  finish_replaces : (r : Ref) (now : ℕ) (x : Record) (u : Outcome) → IsReplaced (Entity r) m.rows m.arrival (finished_state s r now x u m).rows
  finish_replaces r now x (Good output issues) = rows_after (Entity r) (get output.offers) m (keys output.offers) ready
  finish_replaces r now x (Bad issues) = rows_stay (Entity r) m ready

  finish_of : (order : Order) (now : ℕ) (v : Option Record) → Reaches order.reference (finish rules s order now m v)
  finish_of order now None = none_reached order.reference
  finish_of order now (Some x) =
      let u = rules.result order.work in
      let own = finished_state s order.reference now x u m in
      at_cond (Reaches order.reference) (is_present rules m order x) (frame rules (leaving s.orphans) m own) m
      (about_one (leaving s.orphans) order.reference own (finish_replaces order.reference now x u) refl
      (λ q out. find-put_other text_total text_antisymmetric q order.reference (finished_record s now x u) m.records out) (λ q out. refl))
      (none_reached order.reference)

  pub finish_reaches : (order : Order) (now : ℕ) → Reaches order.reference (step rules s (Finish order now) m)
  finish_reaches order now = stepped rules s (Finish order now) m (Reaches order.reference) (none_reached order.reference) (finish_of order now (get m.records order.reference))

  forget_of : (r : Ref) → Reaches r (forget rules r m)
  forget_of r = at_cond (Reaches r) (is_some (get m.records r) || is_some (get m.orphans r)) (frame rules Deleted m (forgotten r m)) m
      (about_one Deleted r (forgotten r m) (rows_after (Entity r) (λ q. None) m [] ready) refl
      (λ q out. get-without_key rules s r m.records q ∙ ap (λ b. cond b None (get m.records q)) (other_way q r out))
      (λ q out. get-without_key rules s r m.orphans q ∙ ap (λ b. cond b None (get m.orphans q)) (other_way q r out)))
      (none_reached r)

  pub forget_reaches : (r : Ref) → Reaches r (step rules s (Forget r) m)
  forget_reaches r = stepped rules s (Forget r) m (Reaches r) (none_reached r) (forget_of r)

  pub forget_number_reaches : (number : ℕ) (r : Ref) → ref_at m number ≡ Some r → Reaches r (step rules s (ForgetNumber number) m)
  forget_number_reaches number r is = stepped rules s (ForgetNumber number) m (Reaches r) (none_reached r) (subst (λ v. Reaches r (forget_at rules m v)) (sym is) (forget_of r))

pub no_number : (rules : Rules) (s : Settings) (m : State) (number : ℕ) → ref_at m number ≡ None → step rules s (ForgetNumber number) m ≡ m
no_number rules s m number is = stepped rules s (ForgetNumber number) m (λ n. n ≡ m) refl (ap (forget_at rules m) is)
