-- Beyond what an event's own change reaches, what follows from it leaves all as it was.
use Rattle.std.proofs.Common.{◌≡◌, ℕ, ◌+◌, ◌≤◌, Bool, true, false, cond, not, List, ◌++◌, refl, sym, ap, ◌∙◌, is_some, arith, true≢false, nat_le}
use Rattle.std.specs.declared.option.Option.{Option}
use Rattle.std.specs.declared.option.Option.TheVariants.{None, Some}
use Rattle.std.specs.Option.{option_map}
use Rattle.std.specs.List.{flat_map}
use Rattle.std.specs.FinMap.Entries.{is_some-find}
use Rattle.std.proofs.lemmas.Bool.Decides.{nat_tests}
use Rattle.cat_collections.specs.Table.{text_cmp, get, keys, place}
use Rattle.cat_collections.proofs.Tables.{text_total, text_antisymmetric, any_filter, find-tabulate, find-tabulate_all, no_key}
use Rattle.cat_model.specs.Catalogue.{Ref, Rules, Holders, row_at, held, may_offer, rehold, work, same_option, due_now, record_after, orphan_after, fresh_refs, reheld, frame}
use Rattle.cat_model.specs.Sound.{Sound}
use Rattle.cat_model.specs.Step.{same_origin}
use Rattle.cat_model.specs.declared.types.Leaving.{Leaving}
use Rattle.cat_model.specs.declared.types.Origin.{Origin}
use Rattle.cat_model.specs.declared.types.Origin.TheVariants.{Provider, Entity}
use Rattle.cat_model.specs.declared.types.Orphan.{Orphan}
use Rattle.cat_model.specs.declared.types.Record.{Record}
use Rattle.cat_model.specs.declared.types.Row.{Row}
use Rattle.cat_model.specs.declared.types.State.{State}
use Rattle.cat_model.proofs.Holding.{stands, stood, reheld_holders}
use Rattle.cat_model.proofs.Replaced.{same_origin-is}
use Rattle.cat_model.specs.Mend.{IsReplaced, WasThere, cut_off, gone}
use Rattle.cat_model.proofs.Changed.{sound_ready}
use Rattle.cat_model.proofs.Left.{others_stay}
use Rattle.cat_model.proofs.Members.{flat_map_in}
use Rattle.cat_affected.specs.Reach.{AreSameBeyond, cut, has, reached, refs_given}
use Rattle.cat_affected.proofs.Within.{AreAmong, still_false, out_left, out_right, row_given}
use Rattle.cat_affected.proofs.Lost.{cut_reached}

-- an event's own change of m, from which n follows: the rows of o are replaced, and what isn't of the seeds is as before
pub record IsOwnChange (o : Origin) (seeds : List Ref) (m own n : State) : Type 0 where
  pub replaces : IsReplaced o m.rows m.arrival own.rows
  pub kept : (a : ℕ) (row : Row) → row_at m.rows a ≡ Some row → row.origin ≡ o → has row.reference seeds ≡ false → row_at own.rows a ≡ Some row
  pub fresh : (a : ℕ) (row : Row) → row_at n.rows a ≡ Some row → m.arrival ≤ a → has row.reference seeds ≡ true
  pub holders : own.holders ≡ m.holders
  pub records : (r : Ref) → has r seeds ≡ false → get own.records r ≡ get m.records r
  pub orphans : (r : Ref) → has r seeds ≡ false → get own.orphans r ≡ get m.orphans r

due_once : (drawn : ℕ) (orphan : Option Orphan) (same : Bool) (x : Record) → due_now (record_after drawn orphan same (Some x)) ≡ due_now x
due_once drawn orphan true x = refl
due_once drawn orphan false x = refl

none_stays : (how : Leaving) (b : Bool) → orphan_after how b None None ≡ None
none_stays how true = refl
none_stays how false = refl

module _ (rules : Rules) (how : Leaving) (o : Origin) (seeds : List Ref) (m own : State) (sound : Sound rules m) (c : IsOwnChange o seeds m own (frame rules how m own)) where
  abbrev n : State
  n = frame rules how m own

  abbrev ended : Holders
  ended = rehold own.rows own.holders

  abbrev off : List Ref
  off = cut m n seeds

  abbrev left : List Ref
  left = flat_map (λ e. refs_given m.rows (Entity e)) (gone off n.holders)

  no_seed : (r : Ref) → has r (reached seeds m n) ≡ false → has r seeds ≡ false
  no_seed r out = out_left r seeds (off ++ left) out

  not_off : (r : Ref) → has r (reached seeds m n) ≡ false → has r off ≡ false
  not_off r out = out_left r off left (out_right r seeds (off ++ left) out)

  not_left : (r : Ref) → has r (reached seeds m n) ≡ false → has r left ≡ false
  not_left r out = out_right r off left (out_right r seeds (off ++ left) out)

  -- ---- rows of the own change

  stays : (a : ℕ) (row : Row) → row_at m.rows a ≡ Some row → has row.reference seeds ≡ false → row_at own.rows a ≡ Some row
  stays a row e out = go (same_origin o row.origin) refl
    where
      go : (b : Bool) → same_origin o row.origin ≡ b → row_at own.rows a ≡ Some row
      go true is = c.kept a row e (sym (same_origin-is o row.origin is)) out
      go false is = c.replaces.others a row e is

  fewer : (a : ℕ) → row_at own.rows a ≡ None → row_at n.rows a ≡ None
  fewer a e = go (row_at n.rows a) refl
    where
      go : (v : Option Row) → row_at n.rows a ≡ v → v ≡ None
      go None h = refl
      go (Some row) h = absurd (true≢false (sym (ap is_some (sym e ∙ (stood own.rows own.holders a row h).0))))

  -- a row whose reference is no seed isn't new
  was_there : (a : ℕ) (row : Row) → row_at n.rows a ≡ Some row → has row.reference seeds ≡ false → WasThere m.rows a row
  was_there a row h out = go (nat_le m.arrival a) refl
    where
      go : (b : Bool) → nat_le m.arrival a ≡ b → WasThere m.rows a row
      go true is = absurd (true≢false (sym (c.fresh a row h (grind (arith, nat_tests))) ∙ out))
      go false is = c.replaces.were a row (stood own.rows own.holders a row h).0 (grind (arith, nat_tests))

  -- ---- holders

  cut_is_off : AreAmong (cut_off o m.rows own.rows m.holders) off
  cut_is_off = cut_reached o seeds m n own.rows sound.holders stays fewer m.arrival c.replaces

  -- what was held and isn't cut off is held by the same row
  still_held : (r : Ref) → held m.holders r ≡ true → has r off ≡ false → get ended r ≡ get m.holders r
  still_held r h out = ap (λ holders. get (rehold own.rows holders) r) c.holders
      ∙ others_stay o m.rows own.rows m.arrival m.holders sound.holders c.replaces r h (still_false (has r (cut_off o m.rows own.rows m.holders)) (has r off) (cut_is_off r) out)

  -- what wasn't held and is no seed isn't held
  not_held : (r : Ref) → get m.holders r ≡ None → has r seeds ≡ false → (v : Option ℕ) → get ended r ≡ v → v ≡ None
  not_held r none out None e = refl
  not_held r none out (Some a) e =
      let w = (reheld_holders own.rows own.holders).rows_of r a e in
      let t = was_there a w.row w.at (ap (λ q. has q seeds) w.names ∙ out) in
      absurd (true≢false (sym (sound.holders.all_held a t.was t.at) ∙ (ap (held m.holders) (t.same_reference ∙ w.names) ∙ ap is_some none)))

  same_holder : (r : Ref) → has r (reached seeds m n) ≡ false → get ended r ≡ get m.holders r
  same_holder r out = go (get m.holders r) refl
    where
      go : (v : Option ℕ) → get m.holders r ≡ v → get ended r ≡ get m.holders r
      go None e = not_held r e (no_seed r out) (get ended r) refl ∙ sym e
      go (Some a) e = still_held r (ap is_some e) (not_off r out)

  same_held : (r : Ref) → has r (reached seeds m n) ≡ false → held ended r ≡ is_some (get m.records r)
  same_held r out = ap is_some (same_holder r out) ∙ sym (sound.records r)

  -- ---- rows

  -- what was held and isn't is cut off
  cut_it : (e : Ref) → held m.holders e ≡ true → held ended e ≡ false → (b : Bool) → has e off ≡ b → b ≡ true
  cut_it e h f true is = refl
  cut_it e h f false is = absurd (true≢false (sym h ∙ (sym (ap is_some (still_held e h is)) ∙ f)))

  -- so what such a reference gave is left
  gave : (e : Ref) → held m.holders e ≡ true → held ended e ≡ false → (a : ℕ) (row : Row) → row_at m.rows a ≡ Some row → row.origin ≡ Entity e → has row.reference left ≡ true
  gave e h f a row at is = flat_map_in text_total text_antisymmetric text_total text_antisymmetric (λ e. refs_given m.rows (Entity e)) (gone off n.holders) e row.reference
      (any_filter text_total text_antisymmetric (λ r. not (held n.holders r)) off e (cut_it e h f (has e off) refl) (ap not f)) (row_given m.rows (Entity e) a row at is)

  same_row : (a : ℕ) (row : Row) → row_at m.rows a ≡ Some row → has row.reference (reached seeds m n) ≡ false → row_at n.rows a ≡ Some row
  same_row a row at out = stands own.rows own.holders a row (stays a row at (no_seed row.reference out)) (may row.origin refl ((sound_ready rules m sound).opens a row at))
    where
      still : (e : Ref) → row.origin ≡ Entity e → held m.holders e ≡ true → (b : Bool) → held ended e ≡ b → b ≡ true
      still e is h true f = refl
      still e is h false f = absurd (true≢false (sym (gave e h f a row at is) ∙ not_left row.reference out))

      may : (q : Origin) → row.origin ≡ q → may_offer m.holders row.origin ≡ true → may_offer ended q ≡ true
      may (Provider p) is h = refl
      may (Entity e) is h = still e is (sym (ap (may_offer m.holders) is) ∙ h) (held ended e) refl

  none_new : (a : ℕ) (row : Row) → row_at n.rows a ≡ Some row → has row.reference (reached seeds m n) ≡ false → row_at m.rows a ≡ Some row
  none_new a row h out =
      let t = was_there a row h (no_seed row.reference out) in
      t.at ∙ (sym (stays a t.was t.at (ap (λ q. has q seeds) t.same_reference ∙ no_seed row.reference out)) ∙ (stood own.rows own.holders a row h).0)

  -- ---- records and orphans

  abbrev drawn : Ref → ℕ
  drawn r = own.number + place text_cmp r (fresh_refs own ended)

  abbrev same_work : Ref → Bool
  same_work r = same_option rules.same_work (work rules m r) (work rules (reheld own) r)

  abbrev new : Ref → Record
  new r = record_after (drawn r) (get own.orphans r) (same_work r) (get own.records r)

  record_at : (r : Ref) → get n.records r ≡ cond (held ended r) (Some (new r)) None
  record_at r = find-tabulate text_total text_antisymmetric r (keys ended) (λ r. Some (new r)) ∙ ap (λ b. cond b (Some (new r)) None) (sym (is_some-find text_cmp r ended))

  same_record : (r : Ref) → has r (reached seeds m n) ≡ false → option_map due_now (get n.records r) ≡ option_map due_now (get m.records r)
  same_record r out = ap (option_map due_now) (record_at r) ∙ (ap (λ b. option_map due_now (cond b (Some (new r)) None)) (same_held r out) ∙ go (get m.records r) refl)
    where
      go : (v : Option Record) → get m.records r ≡ v → option_map due_now (cond (is_some v) (Some (new r)) None) ≡ option_map due_now v
      go None e = refl
      go (Some x) e = ap (λ w. Some (due_now (record_after (drawn r) (get own.orphans r) (same_work r) w))) (c.records r (no_seed r out) ∙ e) ∙ ap Some (due_once (drawn r) (get own.orphans r) (same_work r) x)

  abbrev orphaned : Ref → Option Orphan
  orphaned r = orphan_after how (held ended r) (get own.records r) (get own.orphans r)

  orphan_at : (r : Ref) → get n.orphans r ≡ orphaned r
  orphan_at r = find-tabulate_all text_total text_antisymmetric r (keys own.orphans ++ keys own.records) orphaned
      (λ e. ap (λ v. orphan_after how (held ended r) v (get own.orphans r)) (no_key text_total text_antisymmetric r own.records (out_right r (keys own.orphans) (keys own.records) e))
      ∙ (ap (orphan_after how (held ended r) None) (no_key text_total text_antisymmetric r own.orphans (out_left r (keys own.orphans) (keys own.records) e)) ∙ none_stays how (held ended r)))

  same_orphan : (r : Ref) → has r (reached seeds m n) ≡ false → get n.orphans r ≡ get m.orphans r
  same_orphan r out = orphan_at r
      ∙ (ap (λ v. orphan_after how (held ended r) v (get own.orphans r)) (c.records r (no_seed r out))
      ∙ (ap (orphan_after how (held ended r) (get m.records r)) (c.orphans r (no_seed r out))
      ∙ (ap (λ b. orphan_after how b (get m.records r) (get m.orphans r)) (same_held r out) ∙ go (get m.records r) refl)))
    where
      go : (v : Option Record) → get m.records r ≡ v → orphan_after how (is_some v) v (get m.orphans r) ≡ get m.orphans r
      go None e = refl
      go (Some x) e = sym (sound.orphans r (sym (sound.records r) ∙ ap is_some e))

  pub same_beyond : AreSameBeyond (reached seeds m n) m n
  same_beyond = record { rows = same_row; none_new = none_new; holders = same_holder; records = same_record; orphans = same_orphan }
