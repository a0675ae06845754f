-- How long the replies to commands are.
use Rattle.std.proofs.Common.{◌≡◌, ℕ, ◌+◌, ◌^◌, ◌<◌, ◌≤◌, Bool, true, false, List, [], ◌∷◌, ◌++◌, length, length-append, refl, sym, subst, arith, codes}
use Rattle.std.specs.Prelude.{IfOk, Result, Ok, Err, not, if◌then◌else◌, ◌||◌, ◌&&◌}
use Rattle.std.specs.Fmt.{decimal}
use Rattle.std.proofs.lemmas.Fmt.{length-decimal-le}
use Rattle.cat_feed.specs.Place.{since_text}
use Rattle.cat_feed.specs.declared.change.Since.{Since}
use Rattle.cat_http.specs.Content.{has_rules, media_type, rules_of}
use Rattle.cat_http.specs.declared.content.Content.{Content}
use Rattle.cat_http.specs.declared.content.Content.TheVariants as content
use Rattle.cat_http.specs.Errors.{error_body}
use Rattle.cat_http.specs.Status.{code, phrase, has_challenge, has_content, has_methods}
use Rattle.cat_http.specs.declared.status.Status.{Status}
use Rattle.cat_http.specs.declared.status.Status.TheVariants as status
use Rattle.cat_http.specs.Reply.{status_line, content_lines, rule_lines, allow_line, challenge_line, guard_line, close_line, end_of, reply_bytes}
use Rattle.cat_http.specs.declared.message.Message.{Message}
use Rattle.cat_http.specs.declared.reply.HttpReply.{HttpReply}
use Rattle.cat_model.specs.declared.types.Acted.{Acted}
use Rattle.cat_model.specs.declared.types.Acted.TheVariants.{Now, Again}
use Rattle.cat_model.specs.declared.types.Counter.{Counter}
use Rattle.cat_model.specs.declared.types.Counter.TheVariants.{Arrival, Number, Token, Ticket}
use Rattle.cat_model.specs.declared.types.Counts.{Counts}
use Rattle.cat_replies.specs.Events.{counter_text}
use Rattle.cat_replies.specs.Line.{joined}
use Rattle.cat_requests.specs.Answers.{answer_body, answer_allow, counts_body, acted_body, reply_to, IsShort, IsShortRefusal}
use Rattle.cat_requests.specs.Refusals.{allowed, status_of, words_of}
use Rattle.cat_requests.specs.declared.answer.Answer.{Answer}
use Rattle.cat_requests.specs.declared.answer.Answer.TheVariants.{Shown, Line, Page, Mutated, Done, Refreshed, Settled, Refused}
use Rattle.cat_requests.specs.declared.refusal.Refusal.{Refusal}
use Rattle.cat_requests.specs.declared.refusal.Refusal.TheVariants as refusal
use Rattle.cat_api.specs.Room.{AreSmall, HasNumbers, AreNumbers, IsBrief}

short_decimal : (n : ℕ) → n < 2 ^ 64 → length (decimal n) ≤ 20
short_decimal n h = length-decimal-le 20 n (omega arith) (omega (arith, h)) h

-- ---- bodies

code_small : (status : Status) → code status < 2 ^ 64
code_small status.Ok = omega arith
code_small status.NoContent = omega arith
code_small status.BadRequest = omega arith
code_small status.Unauthorized = omega arith
code_small status.Forbidden = omega arith
code_small status.NotFound = omega arith
code_small status.MethodNotAllowed = omega arith
code_small status.Conflict = omega arith
code_small status.Gone = omega arith
code_small status.PayloadTooLarge = omega arith
code_small status.RequestHeaderFieldsTooLarge = omega arith
code_small status.InternalServerError = omega arith
code_small status.NotImplemented = omega arith
code_small status.ServiceUnavailable = omega arith
code_small status.InsufficientStorage = omega arith

error_short : (s : Status) (words : List ℕ) → length words ≤ 60 → length (error_body s words) ≤ 160
error_short s words w =
    let d = short_decimal (code s) (code_small s) in
    let rest = decimal (code s) ++ codes "}}" in
    let a = length-append (decimal (code s)) (codes "}}") in
    let b = length-append (codes "\"},\"response\":{\"statusCode\":") rest in
    let c = length-append words (codes "\"},\"response\":{\"statusCode\":" ++ rest) in
    let e = length-append (codes "{\"error\":{\"message\":\"") (words ++ (codes "\"},\"response\":{\"statusCode\":" ++ rest)) in
    omega (arith, a, b, c, e, d, w)

counter_short : (c : Counter) → length (counter_text c) ≤ 7
counter_short Arrival = omega arith
counter_short Number = omega arith
counter_short Token = omega arith
counter_short Ticket = omega arith

numbered_short : (words : List ℕ) (n : ℕ) → length words ≤ 12 → n < 2 ^ 64 → length (joined (words ∷ decimal n ∷ [])) ≤ 60
numbered_short words n w h =
    let a = length-append words (decimal n ++ []) in
    let b = length-append (decimal n) [] in
    omega (arith, a, b, w, short_decimal n h)

place_short : (words : List ℕ) (place : Since) → length words ≤ 12 → (place.epoch < 2 ^ 64) × (place.number < 2 ^ 64) → length (joined (words ∷ since_text place ∷ [])) ≤ 60
place_short words place w h =
    let a = length-append words (since_text place ++ []) in
    let b = length-append (since_text place) [] in
    let c = length-append (decimal place.epoch) (46 ∷ decimal place.number) in
    omega (arith, a, b, c, w, short_decimal place.epoch h.0, short_decimal place.number h.1)

spent_short : (counter : Counter) → length (joined (words_of (refusal.Spent counter))) ≤ 60
spent_short counter =
    let a = length-append (codes "spent ") (counter_text counter ++ []) in
    let b = length-append (counter_text counter) [] in
    omega (arith, a, b, counter_short counter)

cut_short : (events : ℕ) (counter : Counter) → events < 2 ^ 64 → length (joined (words_of (refusal.CutByCounter events counter))) ≤ 60
cut_short events counter h =
    let rest = codes " " ++ (decimal events ++ []) in
    let a = length-append (codes "spent ") (counter_text counter ++ rest) in
    let b = length-append (counter_text counter) rest in
    let c = length-append (codes " ") (decimal events ++ []) in
    let d = length-append (decimal events) [] in
    omega (arith, a, b, c, d, counter_short counter, short_decimal events h)

words_short : (r : Refusal) → IsShortRefusal r → HasNumbers r → length (joined (words_of r)) ≤ 60
words_short refusal.Origin s n = omega arith
words_short refusal.Route s n = omega arith
words_short (refusal.Method ms) s n = absurd s
words_short refusal.Entity s n = omega arith
words_short refusal.Shelf s n = omega arith
words_short refusal.Name s n = omega arith
words_short refusal.Text s n = omega arith
words_short (refusal.Reference i) s n = numbered_short (codes "reference ") i (omega arith) n
words_short (refusal.Input fault) s n = absurd s
words_short (refusal.Query fault) s n = absurd s
words_short refusal.Facet s n = omega arith
words_short refusal.Place s n = omega arith
words_short (refusal.Gone place) s n = place_short (codes "gone ") place (omega arith) n
words_short (refusal.Ahead place) s n = place_short (codes "ahead ") place (omega arith) n
words_short (refusal.OldSerial last) s n = numbered_short (codes "old_serial ") last (omega arith) n
words_short (refusal.TooLarge sum) s n = numbered_short (codes "too_large ") sum (omega arith) n
words_short (refusal.Spent counter) s n = spent_short counter
words_short (refusal.CutByCounter events counter) s n = cut_short events counter n
words_short (refusal.CutByMemory events) s n = numbered_short (codes "memory ") events (omega arith) n
words_short (refusal.CutByKeeper events) s n = numbered_short (codes "keeper ") events (omega arith) n
words_short refusal.SpentFeed s n = omega arith
words_short refusal.Reply s n = omega arith
words_short refusal.Keeper s n = omega arith
words_short refusal.NoMemory s n = omega arith

counts_short : (n : Counts) → AreNumbers n → length (counts_body n) ≤ 160
counts_short n h =
    let e = codes "}" ++ [] in
    let d = decimal n.stitched ++ e in
    let c = codes ",\"stitched\":" ++ d in
    let b = decimal n.rounds ++ c in
    let a = codes ",\"rounds\":" ++ b in
    let z = decimal n.leases ++ a in
    omega (
      arith,
      length-append (codes "{\"leases\":") z,
      length-append (decimal n.leases) a,
      length-append (codes ",\"rounds\":") b,
      length-append (decimal n.rounds) c,
      length-append (codes ",\"stitched\":") d,
      length-append (decimal n.stitched) e,
      short_decimal n.leases h.1,
      short_decimal n.rounds h.0,
      short_decimal n.stitched h.2,
    )

acted_short : (a : Acted) → length (acted_body a) ≤ 160
acted_short Now = omega arith
acted_short Again = omega arith

body_short : (a : Answer) → IsShort a → AreSmall a → length (answer_body a) ≤ 160
body_short (Shown text) s n = absurd s
body_short (Line text) s n = absurd s
body_short (Page file) s n = absurd s
body_short (Mutated acted) s n = acted_short acted
body_short Done s n = omega arith
body_short Refreshed s n = omega arith
body_short (Settled counts) s n = counts_short counts n
body_short (Refused r) s n = error_short (status_of r) (joined (words_of r)) (words_short r s n)

allows_none : (r : Refusal) → IsShortRefusal r → allowed r ≡ []
allows_none refusal.Origin s = refl
allows_none refusal.Route s = refl
allows_none (refusal.Method ms) s = absurd s
allows_none refusal.Entity s = refl
allows_none refusal.Shelf s = refl
allows_none refusal.Name s = refl
allows_none refusal.Text s = refl
allows_none (refusal.Reference i) s = refl
allows_none (refusal.Input fault) s = absurd s
allows_none (refusal.Query fault) s = absurd s
allows_none refusal.Facet s = refl
allows_none refusal.Place s = refl
allows_none (refusal.Gone place) s = refl
allows_none (refusal.Ahead place) s = refl
allows_none (refusal.OldSerial last) s = refl
allows_none (refusal.TooLarge sum) s = refl
allows_none (refusal.Spent counter) s = refl
allows_none (refusal.CutByCounter events counter) s = refl
allows_none (refusal.CutByMemory events) s = refl
allows_none (refusal.CutByKeeper events) s = refl
allows_none refusal.SpentFeed s = refl
allows_none refusal.Reply s = refl
allows_none refusal.Keeper s = refl
allows_none refusal.NoMemory s = refl

tells_none : (a : Answer) → IsShort a → answer_allow a ≡ []
tells_none (Shown text) s = absurd s
tells_none (Line text) s = absurd s
tells_none (Page file) s = absurd s
tells_none (Mutated acted) s = refl
tells_none Done s = refl
tells_none Refreshed s = refl
tells_none (Settled counts) s = refl
tells_none (Refused r) s = allows_none r s

-- the reply of a short answer of small numbers is brief
pub brief : (m : Message) (a : Answer) (r : HttpReply) → IsShort a → AreSmall a → r ≡ reply_to m a → IsBrief r
brief m a r s n is = subst IsBrief (sym is) (body_short a s n, tells_none a s)

-- ---- the whole reply

phrase_short : (s : Status) → length (phrase s) ≤ 31
phrase_short status.Ok = omega arith
phrase_short status.NoContent = omega arith
phrase_short status.BadRequest = omega arith
phrase_short status.Unauthorized = omega arith
phrase_short status.Forbidden = omega arith
phrase_short status.NotFound = omega arith
phrase_short status.MethodNotAllowed = omega arith
phrase_short status.Conflict = omega arith
phrase_short status.Gone = omega arith
phrase_short status.PayloadTooLarge = omega arith
phrase_short status.RequestHeaderFieldsTooLarge = omega arith
phrase_short status.InternalServerError = omega arith
phrase_short status.NotImplemented = omega arith
phrase_short status.ServiceUnavailable = omega arith
phrase_short status.InsufficientStorage = omega arith

line_short : (s : Status) → length (status_line s) ≤ 64
line_short s =
    let c = phrase s ++ codes "\r\n" in
    let b = codes " " ++ c in
    let a = decimal (code s) ++ b in
    omega (
      arith,
      length-append (codes "HTTP/1.1 ") a,
      length-append (decimal (code s)) b,
      length-append (codes " ") c,
      length-append (phrase s) (codes "\r\n"),
      short_decimal (code s) (code_small s),
      phrase_short s,
    )

media_short : (c : Content) → length (media_type c) ≤ 30
media_short content.Json = omega arith
media_short content.Line = omega arith
media_short content.Document = omega arith
media_short content.Style = omega arith
media_short content.Script = omega arith
media_short content.Picture = omega arith

content_short : (s : Status) (c : Content) (body : List ℕ) → length body < 2 ^ 64 → length (content_lines s c body) ≤ 90
content_short s c body h =
    let n = decimal (length body) in
    let y = codes "\r\nContent-Length: " ++ (n ++ codes "\r\n") in
    let x = media_type c ++ y in
    let M : Bool → Type 0 = λ t. length (if t then codes "Content-Type: " ++ x else []) ≤ 90 in
    elim (has_content s) as M [
      | false ↦ omega arith
      | true ↦
          omega (
            arith,
            length-append (codes "Content-Type: ") x,
            length-append (media_type c) y,
            length-append (codes "\r\nContent-Length: ") (n ++ codes "\r\n"),
            length-append n (codes "\r\n"),
            short_decimal (length body) h,
            media_short c,
          )
    ]

rules_short : (c : Content) → length (rules_of c) ≤ 300
rules_short content.Json = omega arith
rules_short content.Line = omega arith
rules_short content.Document = omega arith
rules_short content.Style = omega arith
rules_short content.Script = omega arith
rules_short content.Picture = omega arith

rule_short : (s : Status) (c : Content) → length (rule_lines s c) ≤ 300
rule_short s c = elim (has_content s) as (λ t. length (if t then rules_of c else []) ≤ 300) [ true ↦ rules_short c | false ↦ omega arith ]

allow_short : (s : Status) → length (allow_line s []) ≤ 9
allow_short s = elim (has_methods s) as (λ t. length (if t then codes "Allow: " ++ ([] ++ codes "\r\n") else []) ≤ 9) [ true ↦ omega arith | false ↦ omega arith ]

close_short : (c : Bool) → length (close_line c) ≤ 20
close_short true = omega arith
close_short false = omega arith

end_short : (r : HttpReply) → length (end_of r) ≤ 2 + length r.body
end_short r =
    elim (r.bare || not (has_content r.status)) as (λ t. length (codes "\r\n" ++ (if t then [] else r.body)) ≤ 2 + length r.body) [
      | true ↦ omega arith
      | false ↦ omega (arith, length-append (codes "\r\n") r.body)
    ]

challenge_short : (s : Status) → length (challenge_line s) ≤ 26
challenge_short s = elim (has_challenge s) as (λ t. length (if t then codes "WWW-Authenticate: Bearer\r\n" else []) ≤ 26) [ true ↦ omega arith | false ↦ omega arith ]

guard_short : (b : Bool) (c : Content) → length (guard_line b c) ≤ 33
guard_short b c = elim (b && not (has_rules c)) as (λ t. length (if t then codes "X-Content-Type-Options: nosniff\r\n" else []) ≤ 33) [ true ↦ omega arith | false ↦ omega arith ]

-- a brief reply fits the room that is taken for it
pub reply_short : (r : HttpReply) → IsBrief r → length (reply_bytes r) ≤ 1024
reply_short r b =
    let z = close_line r.close ++ end_of r in
    let v = guard_line r.browser r.content ++ z in
    let u = challenge_line r.status ++ v in
    let y = allow_line r.status r.allow ++ u in
    let w = rule_lines r.status r.content ++ y in
    let x = content_lines r.status r.content r.body ++ w in
    let none : length (allow_line r.status r.allow) ≤ 9 = subst (λ l. length (allow_line r.status l) ≤ 9) (sym b.1) (allow_short r.status) in
    omega (
      arith,
      length-append (status_line r.status) x,
      length-append (content_lines r.status r.content r.body) w,
      length-append (rule_lines r.status r.content) y,
      rule_short r.status r.content,
      length-append (allow_line r.status r.allow) u,
      length-append (challenge_line r.status) v,
      length-append (guard_line r.browser r.content) z,
      length-append (close_line r.close) (end_of r),
      line_short r.status,
      content_short r.status r.content r.body (omega (arith, b.0)),
      none,
      challenge_short r.status,
      guard_short r.browser r.content,
      close_short r.close,
      end_short r,
      b.0,
    )

-- an answer that is there has what follows of it
pub if_ok : {T E : Type 0} (P Q : T → Type 0) (r : Result T E) → ((x : T) → P x → Q x) → IfOk r P → IfOk r Q
if_ok P Q (Ok x) f h = f x h
if_ok P Q (Err e) f h = tt

pub brief_if : {E : Type 0} (m : Message) (a : Answer) (r : Result HttpReply E) → IsShort a → AreSmall a → IfOk r (λ x. x ≡ reply_to m a) → IfOk r IsBrief
brief_if m a r s n h = if_ok (λ x. x ≡ reply_to m a) IsBrief r (λ x is. brief m a x s n is) h
