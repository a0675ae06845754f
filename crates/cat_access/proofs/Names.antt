-- What stands before the first colon.
use Rattle.std.proofs.Common.{◌≡◌, ℕ, ◌<◌, ◌≤◌, Bool, true, false, List, length, take, get_or, refl, ap, ◌∙◌, arith}
use Rattle.std.specs.Prelude.{◌==◌}
use Rattle.std.specs.List.{before_first}
use Rattle.std.proofs.Math.Seq.{take-length}
use Rattle.std.proofs.lemmas.List.Sums.{position_or_len_is}

pub named_at : (host : List ℕ) (i : ℕ) → i < length host → ((k : ℕ) → k < i → (get_or host k 0 == 58) ≡ false) → (get_or host i 0 == 58) ≡ true
    → before_first (λ b. b == 58) host ≡ take i host
named_at host i inside before here =
    let within : i ≤ length host = omega arith in
    ap (λ n. take n host) (position_or_len_is (λ b. b == 58) host i 0 within before (λ h. here))

pub named_whole : (host : List ℕ) → ((k : ℕ) → k < length host → (get_or host k 0 == 58) ≡ false) → before_first (λ b. b == 58) host ≡ host
named_whole host none =
    let within : length host ≤ length host = omega arith in
    ap (λ n. take n host) (position_or_len_is (λ b. b == 58) host (length host) 0 within none (λ h. absurd (omega (arith, h)))) ∙ take-length host
