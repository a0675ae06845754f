use Rattle.std.proofs.Common.{◌∙◌, sym, subst, refl, inl, inr}
use Rattle.cat_http.specs.Message.{Stands}
use Rattle.cat_http.proofs.Stability.{used-within}
use Rattle.cat_connection.specs.Items.{message, refusal}
use Rattle.cat_connection.proofs.Connections.{lack_reply}
use Rattle.cat_connection.proofs.Fronts.{refused_is}
use Rattle.cat_pieces.proofs.Messages.{replies_with}
use Rattle.cat_pieces.proofs.next.next_step.Goals as goal

pub returns-in-Ok-Whole-clause-answers : goal.returns-in-Ok-Whole-clause-answers
returns-in-Ok-Whole-clause-answers g c =
    let m = c.in-Ok-Whole.message in
    let stands = subst (λ n. Stands c.args.bytes.now n) c.in-Ok-Whole.field-0-is c.in-Ok-Whole.ensures.exact in
    let inside = used-within c.args.bytes.now m c.in-Ok-Whole.used stands in
    rw c.step_after.ensures (replies_with g.M.Machine.answers g.M.Machine.lacks _ _ c.args.bytes.now (message m) m.last c.in-Ok-Whole.used _ refl stands inside.0 inside.1 c.reply-text.ensures)

pub returns-in-Ok-More-clause-answers : goal.returns-in-Ok-More-clause-answers
returns-in-Ok-More-clause-answers g c =
    (subst (λ n. Stands c.args.bytes.now n) c.in-Ok-More.field-0-is c.in-Ok-More.ensures.exact, refl, c.blank_length-blank.ensures.value)

pub returns-in-Ok-Refused-clause-answers : goal.returns-in-Ok-Refused-clause-answers
returns-in-Ok-Refused-clause-answers g c =
    let rule = c.in-Ok-Refused.rule in
    let stands = subst (λ n. Stands c.args.bytes.now n) c.in-Ok-Refused.field-0-is c.in-Ok-Refused.ensures.exact in
    (refusal rule, 0, refused_is c.args.bytes.now _ rule stands, refl, (c.refusal.ensures, refl))

pub returns-in-Err-clause-answers : goal.returns-in-Err-clause-answers
returns-in-Err-clause-answers g c =
    let lack = c.in-Err.ensures.lack in
    let inside = used-within c.args.bytes.now lack.0 c.in-Err.lack.used lack.1 in
    rw c.step_after-in-Err.ensures (replies_with g.M.Machine.answers g.M.Machine.lacks _ _ c.args.bytes.now (message lack.0) c.in-Err.lack.last c.in-Err.lack.used _ (sym lack.2) lack.1 inside.0 inside.1
    (inr (c.no_memory.ensures ∙ lack_reply lack.0 c.in-Err.lack.last c.in-Err.lack.bare lack.2 lack.3, inl refl)))
