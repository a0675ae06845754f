use Rattle.std.proofs.Common.{◌∙◌, sym, subst, refl, inl, inr}
use Rattle.cat_http.specs.Message.{Stands}
use Rattle.cat_http.proofs.Stability.{used-within}
use Rattle.cat_connection.specs.Items.{message, refusal}
use Rattle.cat_connection.proofs.Fronts.{refused_is}
use Rattle.cat_connection.proofs.Connections.{serves, serves_part, steps, lack_reply}
use Rattle.cat_connection.proofs.message_loop.serve_next.Goals as goal

pub returns-in-Ok-clause-ok : goal.returns-in-Ok-clause-ok
returns-in-Ok-clause-ok g c =
    let m = c.in-Ok-Whole.message in
    let stands = subst (λ n. Stands c.args.bytes.now n) c.in-Ok-Whole.field-0-is c.in-Ok-Whole.ensures.exact in
    let inside = used-within c.args.bytes.now m c.in-Ok-Whole.used stands in
    rw c.step_after.ensures (steps _ _ _ _ _ _ c.args.bytes.now (message m) m.last c.in-Ok-Whole.used refl stands inside.0 inside.1 c.in-Ok.ensures.ok)

pub returns-in-Ok-More-clause-ok : goal.returns-in-Ok-More-clause-ok
returns-in-Ok-More-clause-ok g c =
    (subst (λ n. Stands c.args.bytes.now n) c.in-Ok-More.field-0-is c.in-Ok-More.ensures.exact, refl, refl)

pub returns-in-Ok-write_all-clause-ok : goal.returns-in-Ok-write_all-clause-ok
returns-in-Ok-write_all-clause-ok g c =
    let rule = c.in-Ok-Refused.rule in
    let stands = subst (λ n. Stands c.args.bytes.now n) c.in-Ok-Refused.field-0-is c.in-Ok-Refused.ensures.exact in (
      refusal rule,
      0,
      refused_is c.args.bytes.now _ rule stands,
      refl,
      serves g.M.Machine.answers g.M.Machine.lacks _ _ _ _ (refusal rule) _ _ c.refusal.ensures (refl, refl) c.in-Ok-write_all.ensures.whole,
    )

pub returns-in-Ok-Refused-clause-err : goal.returns-in-Ok-Refused-clause-err
returns-in-Ok-Refused-clause-err g c =
    let rule = c.in-Ok-Refused.rule in
    let stands = subst (λ n. Stands c.args.bytes.now n) c.in-Ok-Refused.field-0-is c.in-Ok-Refused.ensures.exact in (
      refusal rule,
      0,
      refused_is c.args.bytes.now _ rule stands,
      serves_part g.M.Machine.answers g.M.Machine.lacks _ _ _ _ (refusal rule) _ _ c.refusal.ensures (refl, refl) c.in-Err-write_all.ensures.front,
    )

pub returns-in-Ok-write_all-2-clause-ok : goal.returns-in-Ok-write_all-2-clause-ok
returns-in-Ok-write_all-2-clause-ok g c =
    let lack = c.in-Err.ensures.lack in
    let inside = used-within c.args.bytes.now lack.0 c.in-Err.lack.used lack.1 in
    rw c.step_after-in-Ok-write_all-2.ensures (steps _ _ _ _ _ _ c.args.bytes.now (message lack.0) c.in-Err.lack.last c.in-Err.lack.used (sym lack.2) lack.1 inside.0 inside.1
    (serves g.M.Machine.answers g.M.Machine.lacks _ _ c.args.machine.now c.args.machine.now (message lack.0) _ _ (c.no_memory.ensures ∙ lack_reply lack.0 c.in-Err.lack.last c.in-Err.lack.bare lack.2 lack.3) (inr (refl, inl refl)) c.in-Ok-write_all-2.ensures.whole))

pub returns-clause-err : goal.returns-clause-err
returns-clause-err g c =
    let lack = c.in-Err.ensures.lack in (
      message lack.0,
      c.in-Err.lack.used,
      lack.1,
      serves_part g.M.Machine.answers g.M.Machine.lacks _ _ c.args.machine.now c.args.machine.now (message lack.0) _ _ (c.no_memory.ensures ∙ lack_reply lack.0 c.in-Err.lack.last c.in-Err.lack.bare lack.2 lack.3) (inr (refl, inl refl)) c.in-Err-write_all-2.ensures.front,
    )
