-- The words of errors.
use Rattle.std.proofs.Common.{◌≡◌, ℕ, List, [], ◌∷◌, ◌++◌, refl, sym, ap, ◌∙◌, append_assoc, codes}
use Rattle.std.specs.Fmt.{decimal}
use Rattle.cat_feed.specs.Place.{since_text}
use Rattle.cat_feed.specs.declared.change.Since.{Since}
use Rattle.cat_http.specs.Errors.{error_body}
use Rattle.cat_http.specs.Status.{code}
use Rattle.cat_http.specs.declared.status.Status.{Status}
use Rattle.cat_replies.specs.Line.{joined}

joined_onto : (ts : List (List ℕ)) (rest : List (List ℕ)) → joined ts ++ joined rest ≡ joined (ts ++ rest)
joined_onto [] rest = refl
joined_onto (t ∷ ts) rest = append_assoc t (joined ts) (joined rest) ∙ ap (λ l. t ++ l) (joined_onto ts rest)

-- the body of an error is its parts, one after the other
pub error_parts : (status : Status) (a b c d : List ℕ) → error_body status (joined (a ∷ b ∷ c ∷ d ∷ []))
    ≡ joined (codes "{\"error\":{\"message\":\"" ∷ a ∷ b ∷ c ∷ d ∷ codes "\"},\"response\":{\"statusCode\":" ∷ decimal (code status) ∷ codes "}}" ∷ [])
error_parts status a b c d =
    ap (λ l. codes "{\"error\":{\"message\":\"" ++ l) (joined_onto (a ∷ b ∷ c ∷ d ∷ []) (codes "\"},\"response\":{\"statusCode\":" ∷ decimal (code status) ∷ codes "}}" ∷ []))

-- the words of a place are its numbers with a point between them
pub place_parts : (words : List ℕ) (place : Since) → joined (words ∷ decimal place.epoch ∷ codes "." ∷ decimal place.number ∷ []) ≡ joined (words ∷ since_text place ∷ [])
place_parts words place = ap (λ l. words ++ l) (sym (append_assoc (decimal place.epoch) (46 ∷ decimal place.number) []))
