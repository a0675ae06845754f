-- Beyond what a deed reached nothing that is stored changes.
use Rattle.std.proofs.Common.{◌≡◌, ℕ, false, List, [], refl, sym, ap, subst, ◌∙◌}
use Rattle.std.specs.declared.option.Option.{Option}
use Rattle.std.specs.declared.option.Option.TheVariants.{None, Some}
use Rattle.cat_core.specs.declared.ledger.Ledger.{Ledger}
use Rattle.cat_desk.specs.Acts.{Acts, after_deed, done}
use Rattle.cat_desk.specs.Deed.{Deed}
use Rattle.cat_desk.specs.Deed.Deed.{Mutate, ShelfPut, ShelfDrop, Refresh, Forget, ForgetNumber, Take, Finish, TakeStitch, PutStitch, Settle}
use Rattle.cat_desk.specs.declared.command.Reply.{Reply}
use Rattle.cat_io.specs.Word.{Word, plain, memory, cut, unkept, cut_unkept}
use Rattle.cat_model.specs.Catalogue.{Ref, Rules}
use Rattle.cat_model.specs.Settle.{try_settle}
use Rattle.cat_model.specs.Sound.{Sound}
use Rattle.cat_model.specs.Step.{ref_at, step}
use Rattle.cat_model.specs.Step.Event.{Mutate as Mutated, ShelfPut as PutOnShelf, ShelfDrop as DroppedFromShelf, Refresh as Refreshed, Forget as Forgotten, ForgetNumber as NumberForgotten, Take as Taken, Finish as Finished, PutStitch as StitchPut}
use Rattle.cat_model.specs.declared.types.Settings.{Settings}
use Rattle.cat_model.specs.declared.types.State.{State}
use Rattle.cat_affected.proofs.Inputs.{drop_inputs, inputs_stay, put_inputs}
use Rattle.cat_affected.proofs.Mutated.{mutate_inputs, mutate_reaches}
use Rattle.cat_affected.proofs.Nothing.{put_stitch_reaches, refresh_reaches, shelf_drop_reaches, shelf_put_reaches, take_reaches}
use Rattle.cat_affected.proofs.Own.{finish_reaches, forget_number_reaches, forget_reaches, no_number}
use Rattle.cat_affected.proofs.Stepped.{unchanged}
use Rattle.cat_affected.specs.Gathered.{IsWithin}
use Rattle.cat_affected.specs.Reach.{AreSameBeyond, AreSameInputs, AreSameProvidersBut, AreSameTextsBut}
use Rattle.cat_row_updates.specs.Renewed.{IsBeyond, is_it}
use Rattle.cat_row_updates.specs.declared.reached.Reached.{Reached}
use Rattle.cat_collections.specs.Table.{Text, get}
use Rattle.cat_stored_rows.proofs.In.{same_some}
use Rattle.cat_stored_desk.specs.Reached.{IsReached, provider_reached, refs_from, refs_reached, text_reached}

-- what holds beyond these references and of inputs, as what was reached has it
pub record IsAround (refs : List Ref) (provider name : Option Text) (m n : State) : Type 0 where
  pub references : AreSameBeyond refs m n
  pub providers : (q : Text) → is_it q provider ≡ false → get n.providers q ≡ get m.providers q
  pub shelf : (t : Text) → is_it t name ≡ false → get n.shelf t ≡ get m.shelf t

-- nothing has changed
still : (refs : List Ref) (provider name : Option Text) (m : State) → IsAround refs provider name m m
still refs provider name m = record { references = unchanged refs m; providers = λ q out. refl; shelf = λ t out. refl }

-- no input has changed
around : (refs : List Ref) (m n : State) → AreSameBeyond refs m n → AreSameInputs m n → IsAround refs None None m n
around refs m n beyond same = record { references = beyond; providers = λ q out. ap (λ ps. get ps q) same.providers; shelf = λ t out. ap (λ ts. get ts t) same.shelf }

around_provider : (refs : List Ref) (p : Text) (m n : State) → AreSameBeyond refs m n → AreSameProvidersBut p m n → IsAround refs (Some p) None m n
around_provider refs p m n beyond same = record { references = beyond; providers = λ q out. same.providers q out; shelf = λ t out. ap (λ ts. get ts t) same.shelf }

around_text : (refs : List Ref) (name : Text) (m n : State) → AreSameBeyond refs m n → AreSameTextsBut name m n → IsAround refs None (Some name) m n
around_text refs name m n beyond same = record { references = beyond; providers = λ q out. ap (λ ps. get ps q) same.providers; shelf = λ t out. same.shelf t out }

module _ (rules : Rules) (s : Settings) (now : ℕ) (m : State) (sound : Sound rules m) where
  number : (k : ℕ) (v : Option Ref) → ref_at m k ≡ v → (n : State) → n ≡ step rules s (NumberForgotten k) m → IsAround (refs_from (ref_at m k) m n) None None m n
  number k None e n is =
      subst (λ n. IsAround (refs_from (ref_at m k) m n) None None m n) (sym (is ∙ no_number rules s m k e)) (still (refs_from (ref_at m k) m m) None None m)
  number k (Some r) e n is =
      subst (λ v. IsAround (refs_from v m n) None None m n) (sym e)
      (subst (λ n. IsAround (refs_from (Some r) m n) None None m n) (sym is)
      (around _ m (step rules s (NumberForgotten k) m) (forget_number_reaches rules s m sound k r e) (inputs_stay rules s m (NumberForgotten k) refl)))

  -- what an event reaches, of those that a deed does, and what was gathered of a settle
  reaches : (limit : Option ℕ) (d : Deed) (settled : Option (List Ref)) (refs : List Ref)
      → (let n = done rules s now limit d m in IsWithin settled m n → refs_reached d settled m n ≡ Some refs → IsAround refs (provider_reached d) (text_reached d) m n)
  reaches limit (Mutate p x) settled refs within e =
      subst (λ r. IsAround r (Some p) None m (step rules s (Mutated p x) m)) (same_some e)
      (around_provider _ p m (step rules s (Mutated p x) m) (mutate_reaches rules s m p x sound) (mutate_inputs rules s m p x))
  reaches limit (ShelfPut name text) settled refs within e =
      subst (λ r. IsAround r None (Some name) m (step rules s (PutOnShelf name text) m)) (same_some e)
      (around_text [] name m (step rules s (PutOnShelf name text) m) (shelf_put_reaches rules s m sound name text) (put_inputs rules s m name text))
  reaches limit (ShelfDrop name) settled refs within e =
      subst (λ r. IsAround r None (Some name) m (step rules s (DroppedFromShelf name) m)) (same_some e)
      (around_text [] name m (step rules s (DroppedFromShelf name) m) (shelf_drop_reaches rules s m sound name) (drop_inputs rules s m name))
  reaches limit (Refresh r) settled refs within e =
      subst (λ q. IsAround q None None m (step rules s (Refreshed r) m)) (same_some e)
      (around [] m (step rules s (Refreshed r) m) (refresh_reaches rules s m r) (inputs_stay rules s m (Refreshed r) refl))
  reaches limit (Forget r) settled refs within e =
      subst (λ q. IsAround q None None m (step rules s (Forgotten r) m)) (same_some e)
      (around _ m (step rules s (Forgotten r) m) (forget_reaches rules s m sound r) (inputs_stay rules s m (Forgotten r) refl))
  reaches limit (ForgetNumber k) settled refs within e =
      subst (λ q. IsAround q None None m (step rules s (NumberForgotten k) m)) (same_some e) (number k (ref_at m k) refl (step rules s (NumberForgotten k) m) refl)
  reaches limit Take settled refs within e =
      subst (λ r. IsAround r None None m (step rules s (Taken now) m)) (same_some e)
      (around [] m (step rules s (Taken now) m) (take_reaches rules s m now) (inputs_stay rules s m (Taken now) refl))
  reaches limit (Finish order) settled refs within e =
      subst (λ q. IsAround q None None m (step rules s (Finished order now) m)) (same_some e)
      (around _ m (step rules s (Finished order now) m) (finish_reaches rules s m sound order now) (inputs_stay rules s m (Finished order now) refl))
  reaches limit (TakeStitch after) settled refs within e = still refs None None m
  reaches limit (PutStitch order) settled refs within e =
      subst (λ r. IsAround r None None m (step rules s (StitchPut order) m)) (same_some e)
      (around [] m (step rules s (StitchPut order) m) (put_stitch_reaches rules s m order) (inputs_stay rules s m (StitchPut order) refl))
  reaches limit Settle settled refs within e =
      let n = (try_settle rules s now limit m).state in
      let gathered = subst (λ g. IsWithin g m n) e within in
      around refs m n gathered.0 gathered.1

  worded : (word : Word) (d : Deed) (settled : Option (List Ref)) (refs : List Ref)
      → (let n = after_deed rules s now word d m in IsWithin settled m n → refs_reached d settled m n ≡ Some refs → IsAround refs (provider_reached d) (text_reached d) m n)
  worded plain d settled refs within e = reaches None d settled refs within e
  worded memory d settled refs within e = still refs (provider_reached d) (text_reached d) m
  worded (cut k) d settled refs within e = reaches (Some k) d settled refs within e
  worded unkept d settled refs within e = reaches None d settled refs within e
  worded (cut_unkept i) d settled refs within e = reaches None d settled refs within e

-- beyond what a deed reached nothing that is stored has changed, where a settle changed nothing beyond what was gathered of it
pub deed_reaches : (rules : Rules) (now : ℕ) (d : Deed) (old new : Ledger) (reply : Reply) (settled : Option (List Ref)) → Acts rules now d old new reply → Sound rules old.state
    → IsWithin settled old.state new.state → (x : Reached) → IsReached d settled old.state new.state x → IsBeyond x old.state new.state
deed_reaches rules now d old new reply settled acts sound within x is =
    let f = subst (λ n. IsWithin settled old.state n → refs_reached d settled old.state n ≡ Some x.references.items → IsAround x.references.items (provider_reached d) (text_reached d) old.state n) (sym acts.state)
    (worded rules old.settings now old.state sound acts.word d settled x.references.items) within is.references in
    record {
      references = f.references;
      providers = λ q out. f.providers q (ap (is_it q) (sym is.provider) ∙ out);
      shelf = λ t out. f.shelf t (ap (is_it t) (sym is.name) ∙ out);
    }

-- the same of a state that was held before it and of one that is held after it
pub command_reaches : (rules : Rules) (now : ℕ) (d : Deed) (old new : Ledger) (reply : Reply) (settled : Option (List Ref)) (m n : State) → Acts rules now d old new reply → Sound rules m
    → IsWithin settled old.state new.state → m ≡ old.state → n ≡ new.state → (x : Reached) → IsReached d settled m n x → IsBeyond x m n
command_reaches rules now d old new reply settled m n acts sound within before after x is =
    subst (λ k. IsBeyond x k n) (sym before)
    (subst (λ k. IsBeyond x old.state k) (sym after)
    (deed_reaches rules now d old new reply settled acts (subst (Sound rules) before sound) within x (subst (λ k. IsReached d settled old.state k x) after (subst (λ k. IsReached d settled k n x) before is))))
