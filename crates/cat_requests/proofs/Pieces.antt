-- The pieces of paths.
use Rattle.std.proofs.Common.{◌≡◌, ℕ, Bool, true, false, List, refl, sym, ap, ◌∙◌, Ok, Err}
use Rattle.std.specs.Prelude.{IsUtf8, if◌then◌else◌}
use Rattle.std.specs.Str.{is_utf8}
use Rattle.std.proofs.lemmas.Str.{IsUtf8-from_is_utf8, is_utf8-from_IsUtf8}
use Rattle.percent_encoding.specs.Percent.{percent_decode}
use Rattle.cat_requests.specs.Paths.{decoded}
use Rattle.cat_requests.specs.declared.refusal.Refusal.TheVariants.{Route}

pub decoded_ok : (piece text : List ℕ) → text ≡ percent_decode piece → IsUtf8 (percent_decode piece) → decoded piece ≡ Ok text
decoded_ok piece text is utf8 =
    ap (λ t. if t then Ok (percent_decode piece) else Err Route) (is_utf8-from_IsUtf8 (percent_decode piece) utf8) ∙ ap Ok (sym is)

pub decoded_err : (piece : List ℕ) → ¬ (IsUtf8 (percent_decode piece)) → decoded piece ≡ Err Route
decoded_err piece not =
    let M : Bool → Type 0 = λ t. is_utf8 (percent_decode piece) ≡ t → (if t then Ok (percent_decode piece) else Err Route) ≡ Err Route in
    elim (is_utf8 (percent_decode piece)) as M [
      | true ↦ (λ is. absurd (not (IsUtf8-from_is_utf8 (percent_decode piece) is)))
      | false ↦ (λ is. refl)
    ] refl
