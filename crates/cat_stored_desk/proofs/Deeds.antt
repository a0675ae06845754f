-- Deeds that leave the stored rows as they are.
use Rattle.std.proofs.Common.{◌≡◌, ◌≤◌, ℕ, Bool, true, false, cond, nat_le, nat_lt, is_none, is_some, refl, sym, ap, ◌∙◌, true≢false, arith, ◌||◌}
use Rattle.std.proofs.lemmas.Bool.Decides.{nat_tests}
use Rattle.std.specs.declared.option.Option.{Option}
use Rattle.std.specs.declared.option.Option.TheVariants.{None, Some}
use Rattle.std.specs.FinMap.Entries.{is_sorted}
use Rattle.cat_desk.specs.Acts.{NeedsNone, after_deed, done}
use Rattle.cat_desk.specs.Deed.{Deed}
use Rattle.cat_desk.specs.Deed.Deed.{Mutate, ShelfPut, ShelfDrop, Refresh, Forget, ForgetNumber, Take, Finish, TakeStitch, PutStitch, Settle}
use Rattle.cat_io.specs.Word.{Word, plain, memory, cut, unkept, cut_unkept}
use Rattle.cat_model.specs.Catalogue.{Ref, Rules}
use Rattle.cat_model.specs.Sound.{its_number, number_in}
use Rattle.cat_model.specs.Step.{forget_at, ref_at, source_at}
use Rattle.cat_model.specs.Step.Event.{Mutate as Mutated, ShelfDrop as DroppedFromShelf, Forget as Forgotten, ForgetNumber as NumberForgotten}
use Rattle.cat_model.specs.declared.types.Orphan.{Orphan}
use Rattle.cat_model.specs.declared.types.OrphanRule.{OrphanRule}
use Rattle.cat_model.specs.declared.types.Record.{Record}
use Rattle.cat_model.specs.declared.types.Settings.{Settings}
use Rattle.cat_model.specs.declared.types.State.{State}
use Rattle.cat_store.proofs.Unstored.{put_stitch_still, refresh_still, step_still, take_still}
use Rattle.cat_collections.specs.Table.{get, text_cmp}
use Rattle.cat_stored_rows.specs.Stored.{stored}
use Rattle.cat_desk.specs.Kept.{leaves_rows}

some_not : {A : Type 0} (v : Option A) → is_none v ≡ true → is_some v ≡ false
some_not None h = refl
some_not (Some x) h = absurd (true≢false (sym h))

none_not : {A : Type 0} (v : Option A) → is_none v ≡ false → v ≡ None → ⊥
none_not v h e = true≢false (sym (ap is_none e) ∙ h)

-- a number that isn't at most another is above it
above : (a b : ℕ) → nat_le a b ≡ false → a ≤ b → ⊥
above a b h le = grind (arith, nat_tests)

-- what takes no memory leaves the rows
pub needs_some : (d : Deed) (m : State) → leaves_rows d m ≡ false → NeedsNone d m → ⊥
needs_some (Mutate p x) m h needs = above x.serial (source_at (get m.providers p)).serial h needs
needs_some (ShelfPut name text) m h needs = needs
needs_some (ShelfDrop name) m h needs = none_not (get m.shelf name) h needs
needs_some (Refresh r) m h needs = true≢false h
needs_some (Forget r) m h needs = none_not (its_number m r) h needs
needs_some (ForgetNumber number) m h needs = none_not (ref_at m number) h needs
needs_some Take m h needs = needs
needs_some (Finish order) m h needs = needs
needs_some (TakeStitch after) m h needs = needs
needs_some (PutStitch order) m h needs = needs
needs_some Settle m h needs = needs

module _ (rules : Rules) (s : Settings) (rule : OrphanRule) (now : ℕ) (m : State) (sorted : is_sorted text_cmp m.records ≡ true) where
  -- what isn't done keeps the rows
  undone : (b : Bool) (n : State) → b ≡ false → stored rule (cond b n m) ≡ stored rule m
  undone true n h = absurd (true≢false h)
  undone false n h = refl

  not_less : (a b : ℕ) → nat_le a b ≡ true → nat_lt b a ≡ false
  not_less a b h = grind (arith, nat_tests)

  unknown : (x : Option Record) (o : Option Orphan) → is_none (number_in x o) ≡ true → (is_some x || is_some o) ≡ false
  unknown None None h = refl
  unknown None (Some o) h = absurd (true≢false (sym h))
  unknown (Some x) o h = absurd (true≢false (sym h))

  forgets_none : (v : Option Ref) → is_none v ≡ true → stored rule (forget_at rules m v) ≡ stored rule m
  forgets_none None h = refl
  forgets_none (Some r) h = absurd (true≢false (sym h))

  done_still : (limit : Option ℕ) (d : Deed) → leaves_rows d m ≡ true → stored rule (done rules s now limit d m) ≡ stored rule m
  done_still limit (Mutate p x) h =
      step_still rules s rule (Mutated p x) m (undone (nat_lt (source_at (get m.providers p)).serial x.serial) _ (not_less x.serial (source_at (get m.providers p)).serial h))
  done_still limit (ShelfPut name text) h = absurd (true≢false (sym h))
  done_still limit (ShelfDrop name) h = step_still rules s rule (DroppedFromShelf name) m (undone (is_some (get m.shelf name)) _ (some_not (get m.shelf name) h))
  done_still limit (Refresh r) h = refresh_still rules s rule r m sorted
  done_still limit (Forget r) h = step_still rules s rule (Forgotten r) m (undone (is_some (get m.records r) || is_some (get m.orphans r)) _ (unknown (get m.records r) (get m.orphans r) h))
  done_still limit (ForgetNumber number) h = step_still rules s rule (NumberForgotten number) m (forgets_none (ref_at m number) h)
  done_still limit Take h = take_still rules s rule now m sorted
  done_still limit (Finish order) h = absurd (true≢false (sym h))
  done_still limit (TakeStitch after) h = refl
  done_still limit (PutStitch order) h = put_stitch_still rules s rule order m
  done_still limit Settle h = absurd (true≢false (sym h))

  -- a deed that leaves the rows leaves them whatever its word
  pub deed_still : (word : Word) (d : Deed) → leaves_rows d m ≡ true → stored rule (after_deed rules s now word d m) ≡ stored rule m
  deed_still plain d h = done_still None d h
  deed_still memory d h = refl
  deed_still (cut n) d h = done_still (Some n) d h
  deed_still unkept d h = done_still None d h
  deed_still (cut_unkept i) d h = done_still None d h
