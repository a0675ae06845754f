-- Where a comment or a colon stands, one byte further.
use Rattle.std.proofs.Common.{◌≡◌, ℕ, suc, ◌+◌, ◌<◌, false, List, ◌∷◌, length, drop, get_or, Some, None, if◌then◌else◌, ap, sym, subst, ◌∙◌, add-one, drop-cons}
use Rattle.cat_yaml.specs.Scan.{begins_comment, comment_from, begins_colon, colon_from}

comment_cons : (i x : ℕ) (t : List ℕ) → begins_comment (x ∷ t) ≡ false → comment_from (suc i) t ≡ comment_from i (x ∷ t)
comment_cons i x t h = ap (λ b. if b then i else comment_from (suc i) t) (sym h)

pub comment_further : (s : List ℕ) (i : ℕ) → i < length s → begins_comment (drop i s) ≡ false → comment_from (i + 1) (drop (i + 1) s) ≡ comment_from i (drop i s)
comment_further s i inside h =
    let e = drop-cons s i 0 inside in
    rw (add-one i) (comment_cons i (get_or s i 0) (drop (suc i) s) (subst (λ l. begins_comment l ≡ false) e h) ∙ ap (comment_from i) (sym e))

colon_cons : (i x : ℕ) (t : List ℕ) → begins_comment (x ∷ t) ≡ false → begins_colon (x ∷ t) ≡ false → colon_from (suc i) t ≡ colon_from i (x ∷ t)
colon_cons i x t h k =
    ap (λ b. if b then Some i else colon_from (suc i) t) (sym k)
    ∙ ap (λ b. if b then None else if begins_colon (x ∷ t) then Some i else colon_from (suc i) t) (sym h)

pub colon_further : (s : List ℕ) (i : ℕ) → i < length s → begins_comment (drop i s) ≡ false → begins_colon (drop i s) ≡ false → colon_from (i + 1) (drop (i + 1) s) ≡ colon_from i (drop i s)
colon_further s i inside h k =
    let e = drop-cons s i 0 inside in
    rw (add-one i) (colon_cons i (get_or s i 0) (drop (suc i) s) (subst (λ l. begins_comment l ≡ false) e h) (subst (λ l. begins_colon l ≡ false) e k) ∙ ap (colon_from i) (sym e))
