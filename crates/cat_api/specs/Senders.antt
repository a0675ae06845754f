-- What messages that aren't admitted may do.
use Rattle.std.specs.Prelude.{◌≡◌, false}
use Rattle.cat_access.specs.Browser.{is_admitted, no_access}
use Rattle.cat_connection.specs.Worded.{Word}
use Rattle.cat_http.specs.Reply.{reply_bytes}
use Rattle.cat_http.specs.declared.message.Message.{Message}
use Rattle.cat_model.specs.Catalogue.{Rules}
use Rattle.cat_requests.specs.Answers.{reply_to}
use Rattle.cat_requests.specs.declared.answer.Answer.TheVariants.{Refused}
use Rattle.cat_requests.specs.declared.refusal.Refusal.TheVariants.{Origin}
use Rattle.cat_api.specs.Wire.{Wired, wire_after, wire_reply}

-- A message that isn't admitted leaves the catalogue and its feed as they were, and is answered so whatever they are.
abbrev pub ChangesNothing : Message → Type 0
ChangesNothing m =
    is_admitted no_access m ≡ false → (rules : Rules) (word : Word) (w : Wired)
    → (wire_after rules w word m ≡ w) × (wire_reply rules w word m ≡ reply_bytes (reply_to m (Refused Origin)))
