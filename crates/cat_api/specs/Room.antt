-- How long the replies to commands are.
use Rattle.std.specs.Prelude.{◌≡◌, ⊤, ◌^◌, ◌<◌, ◌≤◌, [], length, Result, Ok, Err}
use Rattle.cat_http.specs.declared.reply.HttpReply.{HttpReply}
use Rattle.cat_model.specs.declared.types.Counts.{Counts}
use Rattle.cat_requests.specs.declared.answer.Answer.{Answer}
use Rattle.cat_requests.specs.declared.answer.Answer.TheVariants.{Settled, Refused}
use Rattle.cat_requests.specs.declared.refusal.Refusal.{Refusal}
use Rattle.cat_requests.specs.declared.refusal.Refusal.TheVariants.{Reference, Gone, Ahead, OldSerial, TooLarge, CutByCounter, CutByMemory, CutByKeeper}
use Rattle.cat_requests.specs.declared.request.Request.{Request}
use Rattle.cat_api.specs.Operations.{Operation, operation}
use Rattle.cat_api.specs.Operations.Operation.{Act, Ask, Tell, Show}

-- the numbers of a refusal are of 64 bits
abbrev pub HasNumbers : Refusal → Type 0
HasNumbers (Reference i) = i < 2 ^ 64
HasNumbers (Gone place) = (place.epoch < 2 ^ 64) × (place.number < 2 ^ 64)
HasNumbers (Ahead place) = (place.epoch < 2 ^ 64) × (place.number < 2 ^ 64)
HasNumbers (OldSerial last) = last < 2 ^ 64
HasNumbers (TooLarge sum) = sum < 2 ^ 64
HasNumbers (CutByCounter events counter) = events < 2 ^ 64
HasNumbers (CutByMemory events) = events < 2 ^ 64
HasNumbers (CutByKeeper events) = events < 2 ^ 64
HasNumbers _ = ⊤

-- and so are those of counts
abbrev pub AreNumbers : Counts → Type 0
AreNumbers n = (n.rounds < 2 ^ 64) × (n.leases < 2 ^ 64) × (n.stitched < 2 ^ 64)

-- the numbers of an answer are of 64 bits
abbrev pub AreSmall : Answer → Type 0
AreSmall (Settled counts) = AreNumbers counts
AreSmall (Refused refusal) = HasNumbers refusal
AreSmall _ = ⊤

-- the reply has a body of at most 160 bytes, and tells no methods
abbrev pub IsBrief : HttpReply → Type 0
IsBrief r = (length r.body ≤ 160) × (r.allow ≡ [])

-- the reply to a deed is brief
abbrev pub IsBriefTo : Operation → HttpReply → Type 0
IsBriefTo (Act d k) r = IsBrief r
IsBriefTo (Ask question) r = ⊤
IsBriefTo (Tell since) r = ⊤
IsBriefTo (Show file) r = ⊤

-- The reply to a request for a deed is brief; of other requests, and of refused ones, nothing is said.
abbrev pub IsBriefBy : Result Request Refusal → HttpReply → Type 0
IsBriefBy (Ok request) r = IsBriefTo (operation request) r
IsBriefBy (Err refusal) r = ⊤
