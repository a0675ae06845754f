-- The reply to a message, by what is answered to its request.
use Rattle.std.specs.Prelude.{⊤, ℕ, List, [], ◌∷◌, bytes_eq, codes}
use Rattle.std.specs.Fmt.{decimal}
use Rattle.cat_access.specs.Browser.{is_from_browser}
use Rattle.cat_http.specs.declared.message.Message.{Message}
use Rattle.cat_http.specs.declared.reply.HttpReply.{HttpReply}
use Rattle.cat_http.specs.Errors.{error_body}
use Rattle.cat_http.specs.declared.content.Content.{Content}
use Rattle.cat_http.specs.declared.content.Content.TheVariants as content
use Rattle.cat_http.specs.declared.status.Status.{Status}
use Rattle.cat_http.specs.declared.status.Status.TheVariants as status
use Rattle.cat_model.specs.declared.types.Acted.{Acted}
use Rattle.cat_model.specs.declared.types.Acted.TheVariants.{Now, Again}
use Rattle.cat_model.specs.declared.types.Counts.{Counts}
use Rattle.cat_page.specs.Files as files
use Rattle.cat_replies.specs.Line.{joined}
use Rattle.cat_requests.specs.Refusals.{allowed, status_of, words_of}
use Rattle.cat_requests.specs.declared.answer.Answer.{Answer}
use Rattle.cat_requests.specs.declared.answer.Answer.TheVariants.{Shown, Line, Page, Mutated, Done, Refreshed, Settled, Refused}
use Rattle.cat_requests.specs.declared.refusal.Refusal.{Refusal}
use Rattle.cat_requests.specs.declared.refusal.Refusal.TheVariants as refusal

-- the status of an answer
abbrev pub answer_status : Answer → Status
answer_status (Shown text) = status.Ok
answer_status (Line text) = status.Ok
answer_status (Page file) = status.Ok
answer_status (Mutated acted) = status.Ok
answer_status Done = status.NoContent
answer_status Refreshed = status.Ok
answer_status (Settled counts) = status.Ok
answer_status (Refused r) = status_of r

-- whether a mutation acted, or its serial is the last one again
abbrev pub acted_body : Acted → List ℕ
acted_body Now = codes "{\"again\":false}"
acted_body Again = codes "{\"again\":true}"

-- the leases, rounds and stitches of a settle
abbrev pub counts_body : Counts → List ℕ
counts_body n = joined (
    codes "{\"leases\":" ∷ decimal n.leases ∷ codes ",\"rounds\":" ∷ decimal n.rounds ∷ codes ",\"stitched\":" ∷ decimal n.stitched ∷ codes "}"
    ∷ [])

-- what the body of an answer is: JSON, but for a line and the page
abbrev pub answer_content : Answer → Content
answer_content (Line text) = content.Line
answer_content (Page file) = files.content file
answer_content _ = content.Json

-- the body of an answer
abbrev pub answer_body : Answer → List ℕ
answer_body (Shown text) = text
answer_body (Line text) = text
answer_body (Page file) = files.bytes file
answer_body (Mutated acted) = acted_body acted
answer_body Done = []
answer_body Refreshed = codes "{}"
answer_body (Settled counts) = counts_body counts
answer_body (Refused r) = error_body (status_of r) (joined (words_of r))

-- the methods that an answer tells
abbrev pub answer_allow : Answer → List (List ℕ)
answer_allow (Refused r) = allowed r
answer_allow _ = []

-- a reply ends the connection where the message does, to a HEAD it has no body, and it goes to a browser where the message comes from one
abbrev pub reply_with : Message → Status → Content → List ℕ → List (List ℕ) → HttpReply
reply_with m told content body allow =
    record { status = told; content = content; body = body; allow = allow; close = m.last; bare = bytes_eq m.method (codes "HEAD"); browser = is_from_browser m }

-- the reply to a message
abbrev pub reply_to : Message → Answer → HttpReply
reply_to m answer = reply_with m (answer_status answer) (answer_content answer) (answer_body answer) (answer_allow answer)

-- ---- room

-- The words of the refusal have at most 60 bytes, and it tells no methods.
abbrev pub IsShortRefusal : Refusal → Type 0
IsShortRefusal (refusal.Method ms) = ⊥
IsShortRefusal (refusal.Input fault) = ⊥
IsShortRefusal (refusal.Query fault) = ⊥
IsShortRefusal _ = ⊤

-- The answer has a body of at most 160 bytes, and tells no methods.
abbrev pub IsShort : Answer → Type 0
IsShort (Shown text) = ⊥
IsShort (Line text) = ⊥
IsShort (Page file) = ⊥
IsShort (Refused r) = IsShortRefusal r
IsShort _ = ⊤
