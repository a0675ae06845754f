use Rattle.std.proofs.Common.{◌≡◌, ap, refl}
use Rattle.cat_http.specs.Reply.{reply_bytes}
use Rattle.cat_requests.specs.Answers.{reply_to}
use Rattle.cat_requests.specs.Requests.{admitted, request_of}
use Rattle.cat_api.specs.Wire.{after_requested, requested_answer, wire_after, wire_reply}
use Rattle.cat_api.proofs.law.foreign_pages_change_nothing.Goals as goal

pub returns : goal.returns
unfolding wire_after wire_reply request_of
returns c = λ out rules word w. (
  ap (λ t. after_requested rules word (admitted t c.args._message.now) w) out,
  ap (λ t. reply_bytes (reply_to c.args._message.now (requested_answer rules word (admitted t c.args._message.now) w))) out,
)
