-- What a desk may have done where memory was wanted.
use Rattle.std.proofs.Common.{refl, inl, inr}
use Rattle.std.specs.declared.result.Result.{Result}
use Rattle.std.specs.declared.result.Result.TheVariants.{Ok, Err}
use Rattle.cat_http.specs.declared.message.Message.{Message}
use Rattle.cat_http.specs.declared.reply.HttpReply.{HttpReply}
use Rattle.cat_api.specs.Answering.{Acting, Asking, Telling, Carries, Answers, LacksIn, Lacks}
use Rattle.cat_api.specs.Operations.{Operation, operation}
use Rattle.cat_api.specs.Operations.Operation.{Act, Ask, Tell, Show}
use Rattle.cat_api.specs.Room.{IsBrief, IsBriefBy, IsBriefTo}
use Rattle.cat_requests.specs.declared.refusal.Refusal.{Refusal}
use Rattle.cat_requests.specs.declared.request.Request.{Request}

module _ {A : Type 0} (acts : Acting A) (asks : Asking A) (tells : Telling A) where
  lacks_in : (a : A) (o : Operation) → LacksIn acts asks tells a a o
  lacks_in a (Act d k) = inl refl
  lacks_in a (Ask question) = inl refl
  lacks_in a (Tell since) = inl refl
  lacks_in a (Show file) = refl

  -- where nothing was done, memory may have been wanted
  pub lacks_none : (a : A) (asked : Result Request Refusal) → Lacks acts asks tells a a asked
  lacks_none a (Ok request) = lacks_in a (operation request)
  lacks_none a (Err refusal) = refl

  long_in : (old new : A) (o : Operation) (m : Message) (r : HttpReply) → Carries acts asks tells old new o m r → IsBriefTo o r → (IsBrief r → ⊥) → LacksIn acts asks tells old new o
  long_in old new (Act d k) m r h brief long = absurd (long brief)
  long_in old new (Ask question) m r h brief long = inr (h.0, h.1, h.2)
  long_in old new (Tell since) m r h brief long = inr (h.0, h.1, h.2)
  long_in old new (Show file) m r h brief long = h.0

  -- where a reply found no room, no command was done
  pub lacks_long : (old new : A) (asked : Result Request Refusal) (m : Message) (r : HttpReply) → Answers acts asks tells old new asked m r → IsBriefBy asked r → (IsBrief r → ⊥) → Lacks acts asks tells old new asked
  lacks_long old new (Ok request) m r h brief long = long_in old new (operation request) m r h brief long
  lacks_long old new (Err refusal) m r h brief long = h.0
