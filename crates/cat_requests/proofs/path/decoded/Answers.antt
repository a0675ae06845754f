use Rattle.std.proofs.Common.{◌≡◌, ◌∙◌, ap, sym, subst, inl}
use Rattle.std.specs.Prelude.{IsUtf8}
use Rattle.percent_encoding.specs.Percent.{percent_decode}
use Rattle.percent_encoding.specs.declared.DecodeError.TheVariants.{OutOfMemory}
use Rattle.cat_requests.proofs.Pieces.{decoded_ok, decoded_err}
use Rattle.cat_requests.proofs.path.decoded.Goals as goal

pub returns-in_ok-into_owned-in-Ok-clause-ok : goal.returns-in_ok-into_owned-in-Ok-clause-ok
returns-in_ok-into_owned-in-Ok-clause-ok c =
    let is = c.percent_decode.ensures.bytes ∙ ap percent_decode c.as_bytes.ensures.value in
    decoded_ok c.args.piece.now c.from_string.result (c.from_string.ensures ∙ c.in_ok-into_owned-in-Ok.ensures.ok ∙ c.in-Ok.ensures.value ∙ is)
    (subst IsUtf8 is c.in-Ok.ensures.ok_only_if_utf8)

pub returns-in-Err-Utf8-clause-err : goal.returns-in-Err-Utf8-clause-err
returns-in-Err-Utf8-clause-err c =
    let is = c.percent_decode.ensures.bytes ∙ ap percent_decode c.as_bytes.ensures.value in
    inl (decoded_err c.args.piece.now (λ utf8.
    let none : c.in-Err-Utf8.field-0 ≡ OutOfMemory = c.in-Err-Utf8.ensures.utf8 (subst IsUtf8 (sym is) utf8) in
    let some = c.in-Err-Utf8.field-0-is in cc))
