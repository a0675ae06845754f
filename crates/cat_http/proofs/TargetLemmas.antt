-- How an authority goes from byte to byte.
use Rattle.std.proofs.Common.{◌≡◌, ◌≢◌, ℕ, add-one, ◌+◌, ◌<◌, true, false, List, ◌∷◌, length, drop, get_or, sym, ap, ◌∙◌}
use Rattle.std.proofs.Math.Seq.{drop-cons}
use Rattle.std.specs.Prelude.{if◌then◌else◌, ◌==◌, not, codes, nat_eq}
use Rattle.std.specs.List.{starts_with}
use Rattle.std.proofs.lemmas.Bool.{ne_eqb}
use Rattle.cat_http.specs.Head.{after_authority, ends_authority, origin}

-- a byte that doesn't end the authority belongs to it
pub after_authority-moved : (bytes : List ℕ) (i : ℕ) → i < length bytes → ends_authority (get_or bytes i 0) ≡ false
    → after_authority (drop i bytes) ≡ after_authority (drop (i + 1) bytes)
after_authority-moved bytes i inside on =
    let e : drop i bytes ≡ get_or bytes i 0 ∷ drop (i + 1) bytes = rw add-one (drop-cons bytes i 0 inside) in
    let b = get_or bytes i 0 in
    let rest = drop (i + 1) bytes in
    ap after_authority e ∙ ap (λ t. if not t then after_authority rest else (if b == 63 then 47 ∷ b ∷ rest else b ∷ rest)) on

-- the rest behind an authority that a question mark doesn't end
rest_stays : (b : ℕ) (rest : List ℕ) → ends_authority b ≡ true → ((q : List ℕ) → b ∷ rest ≢ 63 ∷ q) → after_authority (b ∷ rest) ≡ b ∷ rest
rest_stays b rest ends other =
    let e : (b == 63) ≡ false = ne_eqb b 63 (λ e. other rest (ap (λ n. n ∷ rest) e)) in
    ap (λ t. if not t then after_authority rest else (if b == 63 then 47 ∷ b ∷ rest else b ∷ rest)) ends
    ∙ ap (λ t. if t then 47 ∷ b ∷ rest else b ∷ rest) e

-- a target with an authority is what follows it
pub origin-rest : (target : List ℕ) (at : ℕ) → starts_with nat_eq target (codes "http://") ≡ true
    → after_authority (drop 7 target) ≡ after_authority (drop at target) → at < length target
    → ends_authority (get_or target at 0) ≡ true → ((q : List ℕ) → drop at target ≢ 63 ∷ q)
    → drop at target ≡ origin target
origin-rest target at starts behind inside ends other =
    let e : drop at target ≡ get_or target at 0 ∷ drop (at + 1) target = rw add-one (drop-cons target at 0 inside) in
    let stays = rest_stays (get_or target at 0) (drop (at + 1) target) ends (λ q is. other q (e ∙ is)) in
    sym (ap (λ t. if t then after_authority (drop 7 target) else target) starts ∙ behind ∙ ap after_authority e ∙ stays ∙ sym e)
