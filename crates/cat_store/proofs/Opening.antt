-- What opens and passes the test is told by its rows, and opens again as itself.
use Rattle.std.proofs.Common.{◌≡◌, true, false, sym, ap, subst, ◌∙◌, is_some, true≢false}
use Rattle.std.specs.Prelude.{IfSome}
use Rattle.std.specs.declared.option.Option.{Option}
use Rattle.std.specs.declared.option.Option.TheVariants.{None, Some}
use Rattle.cat_events.specs.Coming.{IsSteady}
use Rattle.cat_model.specs.Catalogue.{Rules}
use Rattle.cat_model.specs.Sound.{AreBegun}
use Rattle.cat_model.specs.Step.{reopened}
use Rattle.cat_model.specs.declared.types.State.{State}
use Rattle.cat_state_check.specs.Candidate.{is_candidate}
use Rattle.cat_state_check.specs.declared.reopen.Opening.{Opening}
use Rattle.cat_store.specs.Opened.{IsOpening}
use Rattle.cat_store.specs.Tells.{is_telling}
use Rattle.cat_store.proofs.Again.{reopens_as_itself}
use Rattle.cat_store.proofs.Telling.{first_rows_narrow, is_told, passed}

-- what holds of what was found holds of what is kept of it
pub still_holds : (P : Opening → Type 0) (found kept : Option Opening) → IfSome kept (λ x. found ≡ Some x) → IfSome found P → IfSome kept P
still_holds P found None same h = tt
still_holds P found (Some x) same h = subst (λ v. IfSome v P) same h

-- what is kept of what was found, where its rows tell it, is a state to begin with
pub opening_kept : (rules : Rules) (m : State) (found kept : Option Opening) → IfSome kept (λ x. found ≡ Some x) → IfSome kept (λ x. is_telling x.state.value ≡ true)
    → IfSome found (λ x. IsSteady rules x.links x.state.value) → IfSome found (λ x. AreBegun x.state.value) → IfSome found (λ x. x.state.value ≡ reopened rules m)
    → IfSome kept (λ x. IsOpening rules x.links x.state.value)
opening_kept rules m found None same tells steady begun is = tt
opening_kept rules m found (Some x) same tells steady begun is =
    let s : IsSteady rules x.links x.state.value = still_holds (λ y. IsSteady rules y.links y.state.value) found (Some x) same steady in
    let opens : x.state.value ≡ reopened rules m = still_holds (λ y. y.state.value ≡ reopened rules m) found (Some x) same is in
    record {
      steady = s;
      begun = still_holds (λ y. AreBegun y.state.value) found (Some x) same begun;
      tells = is_told rules x.state.value s.sound s.small s.ordered (passed x.state.value tells);
      tells_first = first_rows_narrow rules x.state.value s.sound s.small s.ordered (passed x.state.value tells);
      again = reopens_as_itself rules m x.state.value opens s.sound s.ordered;
    }

-- where the candidate is a state and its rows tell what it opens as, it opens
pub opens_told : (rules : Rules) (m : State) (found kept : Option Opening) → is_some found ≡ is_candidate m → IfSome found (λ x. x.state.value ≡ reopened rules m)
    → (kept ≡ None → IfSome found (λ x. is_telling x.state.value ≡ false)) → is_candidate m ≡ true → is_telling (reopened rules m) ≡ true → kept ≡ None → ⊥
opens_told rules m None kept exact state refused right tells none = true≢false (sym (exact ∙ right))
opens_told rules m (Some x) kept exact state refused right tells none = true≢false (sym (ap is_telling state ∙ tells) ∙ refused none)
