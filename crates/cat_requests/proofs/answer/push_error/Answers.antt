use Rattle.std.proofs.Common.{◌≡◌, ◌++◌, ◌∷◌, [], ◌∙◌, ap, sym, subst, codes, List, ℕ}
use Rattle.std.specs.Prelude.{OnOk}
use Rattle.std.specs.Fmt.{decimal}
use Rattle.cat_http.specs.Errors.{error_body}
use Rattle.cat_replies.specs.Line.{joined}
use Rattle.cat_replies.specs.Piece.{piece_text}
use Rattle.cat_requests.proofs.Words.{error_parts}
use Rattle.cat_requests.proofs.answer.push_error.Goals as goal

pub returns-clause-ok : goal.returns-clause-ok
returns-clause-ok c =
    let parts : ℕ → List ℕ = λ n. joined (
    codes "{\"error\":{\"message\":\"" ∷ piece_text c.args.one ∷ piece_text c.args.two ∷ piece_text c.args.three ∷ piece_text c.args.four
    ∷ codes "\"},\"response\":{\"statusCode\":" ∷ decimal n ∷ codes "}}" ∷ []) in
    let whole : parts c.code.result ≡ error_body c.args.status (joined (piece_text c.args.one ∷ piece_text c.args.two ∷ piece_text c.args.three ∷ piece_text c.args.four ∷ [])) =
    ap parts c.code.ensures ∙ sym (error_parts c.args.status (piece_text c.args.one) (piece_text c.args.two) (piece_text c.args.three) (piece_text c.args.four)) in
    subst (λ (t : List ℕ). OnOk c.push_text.result (c.push_text.new.out.items ≡ c.args.out.now.items ++ t)) whole c.push_text.ensures.appends.ok
