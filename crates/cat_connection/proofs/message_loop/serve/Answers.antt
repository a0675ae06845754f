use Rattle.std.proofs.Common.{◌∙◌, ap, refl, codes, inl, inr}
use Rattle.std.specs.Prelude.{bytes_eq}
use Rattle.std.proofs.lemmas.Result.{on_ok_weaker, on_err_weaker}
use Rattle.cat_http.specs.Errors.{no_memory}
use Rattle.cat_http.specs.Reply.{reply_bytes}
use Rattle.cat_connection.specs.Items.{message}
use Rattle.cat_connection.proofs.Connections.{serves, serves_part}
use Rattle.cat_connection.proofs.message_loop.serve.Goals as goal

pub returns-in-Ok-clause-ok : goal.returns-in-Ok-clause-ok
returns-in-Ok-clause-ok g c =
    on_ok_weaker c.write_all.result (serves g.M.Machine.answers g.M.Machine.lacks _ _ c.args.machine.now _ (message c.args.message.now) _ _ c.as_slice.ensures.value (inl c.in-Ok.ensures.ok)) c.write_all.ensures.whole

pub returns-in-Ok-clause-err : goal.returns-in-Ok-clause-err
returns-in-Ok-clause-err g c =
    on_err_weaker c.write_all.result (serves_part g.M.Machine.answers g.M.Machine.lacks _ _ c.args.machine.now _ (message c.args.message.now) _ _ c.as_slice.ensures.value (inl c.in-Ok.ensures.ok)) c.write_all.ensures.front

pub returns-in-Err-clause-ok : goal.returns-in-Err-clause-ok
returns-in-Err-clause-ok g c =
    let bare = c.eq-bare.ensures ∙ ap (λ l. bytes_eq l (codes "HEAD")) c.as_str.ensures in
    let is = c.no_memory.ensures ∙ ap (λ b. reply_bytes (no_memory c.args.message.now.last b)) bare in
    on_ok_weaker c.write_all-in-Err.result (serves g.M.Machine.answers g.M.Machine.lacks _ _ c.args.machine.now _ (message c.args.message.now) _ _ is (inr (refl, inr c.in-Err.ensures.err))) c.write_all-in-Err.ensures.whole

pub returns-in-Err-clause-err : goal.returns-in-Err-clause-err
returns-in-Err-clause-err g c =
    let bare = c.eq-bare.ensures ∙ ap (λ l. bytes_eq l (codes "HEAD")) c.as_str.ensures in
    let is = c.no_memory.ensures ∙ ap (λ b. reply_bytes (no_memory c.args.message.now.last b)) bare in
    on_err_weaker c.write_all-in-Err.result (serves_part g.M.Machine.answers g.M.Machine.lacks _ _ c.args.machine.now _ (message c.args.message.now) _ _ is (inr (refl, inr c.in-Err.ensures.err))) c.write_all-in-Err.ensures.front
