-- What events and settles keep, runs keep.
use Rattle.std.proofs.Common.{◌≡◌, ℕ, List, [], ◌∷◌, ◌++◌, refl}
use Rattle.std.specs.declared.option.Option.{Option}
use Rattle.std.specs.declared.option.Option.TheVariants.{None, Some}
use Rattle.cat_desk.specs.Acts.{after_deed, done}
use Rattle.cat_desk.specs.Deed.{Deed}
use Rattle.cat_desk.specs.Deed.Deed.{Mutate, ShelfPut, ShelfDrop, Refresh, Forget, ForgetNumber, Take, Finish, TakeStitch, PutStitch, Settle}
use Rattle.cat_io.specs.Word.{Word, plain, memory, cut, unkept, cut_unkept}
use Rattle.cat_laws.proofs.Ordered.{step_ordered}
use Rattle.cat_laws.proofs.Orphans.{just_fresh, settle_makes, settle_ordered, step_makes, still_none}
use Rattle.cat_laws.proofs.Stands.{settle_keeps}
use Rattle.cat_laws.proofs.Steps.{step_kept}
use Rattle.cat_model.specs.Catalogue.{Rules}
use Rattle.cat_model.specs.Fresh.{facts_of, fresh_docs}
use Rattle.cat_model.specs.Settle.{try_settle}
use Rattle.cat_model.specs.Sound.{AreOrdered, Quiet, Sound}
use Rattle.cat_model.specs.Step.{Event, step}
use Rattle.cat_model.specs.Step.Event.{Mutate as Mutated, ShelfPut as PutOnShelf, ShelfDrop as DroppedFromShelf, Refresh as Refreshed, Forget as Forgotten, ForgetNumber as NumberForgotten, Take as Taken, Finish as Finished, PutStitch as StitchPut}
use Rattle.cat_model.specs.declared.types.OrphanRule.TheVariants.{Delete}
use Rattle.cat_model.specs.declared.types.Settings.{Settings}
use Rattle.cat_model.specs.declared.types.State.{State}
use Rattle.cat_run_laws.specs.Runs.{Step, after_run}

module _ (rules : Rules) (s : Settings) where
  module _ (P : State → Type 0) (steps : (e : Event) (m : State) → P m → P (step rules s e m)) (settles : (now : ℕ) (limit : Option ℕ) (m : State) → P m → P (try_settle rules s now limit m).state) where
    pub done_kept : (now : ℕ) (limit : Option ℕ) (d : Deed) (m : State) → P m → P (done rules s now limit d m)
    done_kept now limit (Mutate p x) m h = steps (Mutated p x) m h
    done_kept now limit (ShelfPut name text) m h = steps (PutOnShelf name text) m h
    done_kept now limit (ShelfDrop name) m h = steps (DroppedFromShelf name) m h
    done_kept now limit (Refresh r) m h = steps (Refreshed r) m h
    done_kept now limit (Forget r) m h = steps (Forgotten r) m h
    done_kept now limit (ForgetNumber number) m h = steps (NumberForgotten number) m h
    done_kept now limit Take m h = steps (Taken now) m h
    done_kept now limit (Finish order) m h = steps (Finished order now) m h
    done_kept now limit (TakeStitch after) m h = h
    done_kept now limit (PutStitch order) m h = steps (StitchPut order) m h
    done_kept now limit Settle m h = settles now limit m h

    deed_kept : (now : ℕ) (w : Word) (d : Deed) (m : State) → P m → P (after_deed rules s now w d m)
    deed_kept now plain d m h = done_kept now None d m h
    deed_kept now memory d m h = h
    deed_kept now (cut n) d m h = done_kept now (Some n) d m h
    deed_kept now unkept d m h = done_kept now None d m h
    deed_kept now (cut_unkept n) d m h = done_kept now None d m h

    pub run_kept : (m : State) (steps : List Step) → P m → P (after_run rules s m steps)
    run_kept m [] h = h
    run_kept m (x ∷ steps) h = run_kept (after_deed rules s x.moment x.word x.deed m) steps (deed_kept x.moment x.word x.deed m h)

  pub run_sound : (m : State) (steps : List Step) → Sound rules m → Sound rules (after_run rules s m steps)
  run_sound m steps sound = run_kept (Sound rules) (step_kept rules s) (λ now limit m sound. (settle_keeps rules s now limit m).sound sound) m steps sound

  pub run_ordered : (m : State) (steps : List Step) → AreOrdered m → AreOrdered (after_run rules s m steps)
  run_ordered m steps ordered = run_kept AreOrdered (step_ordered rules s) (settle_ordered rules s) m steps ordered

  pub run_has_none : s.orphans ≡ Delete → (m : State) (steps : List Step) → m.orphans ≡ [] → (after_run rules s m steps).orphans ≡ []
  run_has_none deletes m steps none = run_kept (λ n. n.orphans ≡ [])
      (λ e n none. still_none n (step rules s e n) (step_makes rules s deletes e n) none)
      (λ now limit n none. still_none n (try_settle rules s now limit n).state (settle_makes rules s deletes now limit n) none) m steps none

  pub run_just_fresh : (m : State) (steps : List Step) (now : ℕ) → Sound rules m → AreOrdered m → s.orphans ≡ Delete → m.orphans ≡ [] → Quiet (after_run rules s m steps) now
      → (after_run rules s m steps).documents ≡ fresh_docs rules (facts_of rules (after_run rules s m steps))
  run_just_fresh m steps now sound ordered deletes none quiet =
      just_fresh rules (after_run rules s m steps) now (run_sound m steps sound) (run_ordered m steps ordered) (run_has_none deletes m steps none) quiet

  -- one run after another
  pub run_append : (m : State) (first second : List Step) → after_run rules s m (first ++ second) ≡ after_run rules s (after_run rules s m first) second
  run_append m [] second = refl
  run_append m (x ∷ first) second = run_append (after_deed rules s x.moment x.word x.deed m) first second
