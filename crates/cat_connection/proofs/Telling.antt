-- What stands written of a line.
use Rattle.std.proofs.Common.{ℕ, List, ◌⊎◌, inl, inr}
use Rattle.std.specs.Prelude.{Option, OnOk, OnErr}
use Rattle.std.specs.Io.KnownBytes.{Appends}
use Rattle.std.specs.declared.result.Result.{Result}
use Rattle.std.specs.declared.result.Result.TheVariants.{Ok, Err}
use Rattle.cat_io.specs.Causes.{Rose}
use Rattle.cat_io.specs.Sink.{AppendsFront}

pub told : {A E : Type 0} (r : Result A E) (written written' : Option (List ℕ)) (line : List ℕ) (faults faults' : ℕ) → OnOk r (Appends written written' line) → OnErr r (AppendsFront written written' line) → OnErr r (Rose faults faults')
    → Appends written written' line ⊎ (AppendsFront written written' line × Rose faults faults')
told (Ok x) written written' line faults faults' whole front cause = inl whole
told (Err e) written written' line faults faults' whole front cause = inr (front, cause)
