-- The events that reach nothing: those of the shelf, a refresh, a take and a stitch.
use Rattle.std.proofs.Common.{◌≡◌, ℕ, ◌+◌, Bool, true, false, [], refl, sym, ap, subst, ◌∙◌, is_some, arith}
use Rattle.std.specs.declared.option.Option.{Option}
use Rattle.std.specs.declared.option.Option.TheVariants.{None, Some}
use Rattle.std.specs.Option.{option_map}
use Rattle.cat_collections.specs.Table.{Text, text_cmp, same_text, get, put}
use Rattle.cat_collections.proofs.Tables.{text_total, text_antisymmetric, find-put_other, find-put_same, same_is}
use Rattle.cat_model.specs.Catalogue.{Ref, Rules, Shelf, due_now, frame}
use Rattle.cat_model.specs.Sound.{Sound}
use Rattle.cat_model.specs.Step.{is_present_stitch, leased, next_taken, refresh, step, take, take_next, without_key}
use Rattle.cat_model.specs.Step.Event.{ShelfPut, ShelfDrop, Refresh, Take, TakeAt, PutStitch}
use Rattle.cat_model.specs.declared.types.Lease.{Lease}
use Rattle.cat_model.specs.declared.types.Leaving.TheVariants.{Deleted}
use Rattle.cat_model.specs.declared.types.Origin.TheVariants.{Provider}
use Rattle.cat_model.specs.declared.types.Record.{Record}
use Rattle.cat_model.specs.declared.types.Settings.{Settings}
use Rattle.cat_model.specs.declared.types.State.{State}
use Rattle.cat_model.specs.declared.types.StitchOrder.{StitchOrder}
use Rattle.cat_model.proofs.Holding.{stood}
use Rattle.cat_model.proofs.Changed.{sound_ready}
use Rattle.cat_affected.specs.Reach.{AreSameBeyond}
use Rattle.cat_affected.proofs.Within.{nothing_reached}
use Rattle.cat_affected.proofs.Same.{same_beyond}
use Rattle.cat_affected.proofs.Stepped.{unchanged, rows_stay, at_cond, stepped}

module _ (rules : Rules) (s : Settings) (m : State) where
  abbrev Stays : State → Type 0
  Stays n = AreSameBeyond [] m n

  -- ---- the shelf

  module _ (sound : Sound rules m) (shelf : Shelf) where
    abbrev own : State
    own = record m { shelf = shelf }

    abbrev n : State
    n = frame rules Deleted m own

    -- another shelf changes no row, and of records the due moments and leases alone
    shelf_stays : Stays n
    shelf_stays = subst (λ refs. AreSameBeyond refs m n) (nothing_reached m n) (same_beyond rules Deleted (Provider []) [] m own sound (record {
      replaces = rows_stay (Provider []) m (sound_ready rules m sound);
      kept = λ a row e is out. e;
      fresh = λ a row h l. let k = sound.offers.below a row (stood own.rows own.holders a row h).0 in absurd (omega arith);
      holders = refl;
      records = λ r out. refl;
      orphans = λ r out. refl;
    }))

  pub shelf_put_reaches : Sound rules m → (name text : Text) → Stays (step rules s (ShelfPut name text) m)
  shelf_put_reaches sound name text = stepped rules s (ShelfPut name text) m Stays (unchanged [] m) (shelf_stays sound (put text_cmp name text m.shelf))

  pub shelf_drop_reaches : Sound rules m → (name : Text) → Stays (step rules s (ShelfDrop name) m)
  shelf_drop_reaches sound name = stepped rules s (ShelfDrop name) m Stays (unchanged [] m)
      (at_cond Stays (is_some (get m.shelf name)) (frame rules Deleted m (record m { shelf = without_key name m.shelf })) m (shelf_stays sound (without_key name m.shelf)) (unchanged [] m))

  -- ---- leases and documents

  -- a record is put that differs in its due moment and lease alone
  record_stays : (r : Ref) (x : Record) → get m.records r ≡ Some x → (due : ℕ) (lease : Option Lease) (q : Ref)
      → option_map due_now (get (put text_cmp r (leased due x lease) m.records) q) ≡ option_map due_now (get m.records q)
  record_stays r x e due lease q = go (same_text q r) refl
    where
      go : (b : Bool) → same_text q r ≡ b → option_map due_now (get (put text_cmp r (leased due x lease) m.records) q) ≡ option_map due_now (get m.records q)
      go true is =
          let same : q ≡ r = same_is text_total text_antisymmetric q r is in
          ap (λ k. option_map due_now (get (put text_cmp r (leased due x lease) m.records) k)) same
          ∙ (ap (option_map due_now) (find-put_same text_total text_antisymmetric r (leased due x lease) m.records) ∙ sym (ap (option_map due_now) (ap (get m.records) same ∙ e)))
      go false is = ap (option_map due_now) (find-put_other text_total text_antisymmetric q r (leased due x lease) m.records is)

  refresh_of : (r : Ref) (v : Option Record) → get m.records r ≡ v → Stays (refresh r m v)
  refresh_of r None e = unchanged [] m
  refresh_of r (Some x) e = record { rows = λ a row e out. e; none_new = λ a row e out. e; holders = λ q out. refl; records = λ q out. record_stays r x e 0 None q; orphans = λ q out. refl }

  pub refresh_reaches : (r : Ref) → Stays (step rules s (Refresh r) m)
  refresh_reaches r = stepped rules s (Refresh r) m Stays (unchanged [] m) (refresh_of r (get m.records r) refl)

  take_of : (r : Ref) (now : ℕ) (v : Option Record) → get m.records r ≡ v → Stays (take s r now m v)
  take_of r now None e = unchanged [] m
  take_of r now (Some x) e = record {
    rows = λ a row e out. e;
    none_new = λ a row e out. e;
    holders = λ q out. refl;
    records = λ q out. record_stays r x e x.due (Some (record { token = m.token; expires = now + s.lease })) q;
    orphans = λ q out. refl;
  }

  take_next_of : (now : ℕ) (v : Option Ref) → Stays (take_next s now m v)
  take_next_of now None = unchanged [] m
  take_next_of now (Some r) = take_of r now (get m.records r) refl

  pub take_reaches : (now : ℕ) → Stays (step rules s (Take now) m)
  take_reaches now = stepped rules s (Take now) m Stays (unchanged [] m) (take_next_of now (next_taken now m))

  pub take_at_reaches : (r : Ref) (now : ℕ) → Stays (step rules s (TakeAt r now) m)
  take_at_reaches r now = stepped rules s (TakeAt r now) m Stays (unchanged [] m) (take_of r now (get m.records r) refl)

  pub put_stitch_reaches : (order : StitchOrder) → Stays (step rules s (PutStitch order) m)
  put_stitch_reaches order = stepped rules s (PutStitch order) m Stays (unchanged [] m) (at_cond Stays (is_present_stitch rules m order) _ m
      (record { rows = λ a row e out. e; none_new = λ a row e out. e; holders = λ q out. refl; records = λ q out. refl; orphans = λ q out. refl }) (unchanged [] m))
