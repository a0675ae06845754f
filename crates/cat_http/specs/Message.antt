-- What stands at the front of the bytes of a connection: a whole message, a refused one, or less.
use Rattle.std.specs.Prelude.{◌≡◌, ◌≢◌, ℕ, ◌+◌, ◌<◌, ◌≤◌, ⊤, ◌⊎◌, ◌&&◌, not, List, [], ◌∷◌, ◌++◌, length, take, drop, if◌then◌else◌, ◌==◌, nat_lt, nat_le, MatchBool, Option, None, Some, codes, bytes_eq, Result, Ok, Err}
use Rattle.std.specs.List.{list_any}
use Rattle.httparse.specs.Grammar.{RequestHead, IsRequestHead, print_request}
use Rattle.cat_http.specs.declared.message.Field.{Field}
use Rattle.cat_http.specs.declared.message.Field.TheVariants.{Absent, Once, Often}
use Rattle.cat_http.specs.declared.message.Message.{Message}
use Rattle.cat_http.specs.declared.message.Sender.{Sender}
use Rattle.cat_http.specs.declared.message.Lack.{Lack}
use Rattle.cat_http.specs.declared.message.Next.{Next}
use Rattle.cat_http.specs.declared.message.Next.TheVariants.{Whole, More, Refused}
use Rattle.cat_http.specs.declared.message.Rule.{Rule}
use Rattle.cat_http.specs.declared.message.Rule.TheVariants.{HeadSize, Head, Host, TransferCoding, Length, Body}
use Rattle.cat_http.specs.declared.status.Status.{Status}
use Rattle.cat_http.specs.declared.status.Status.TheVariants as status
use Rattle.cat_http.specs.Status.{code}
use Rattle.cat_http.specs.Lines.{blank, head_length, line_count}
use Rattle.cat_http.specs.Head.{Parts, parts_of, values, body_length, is_fetch_name, is_last, origin, path_of, query_of}

-- the status that a broken rule is answered with
abbrev pub rule_status : Rule → Status
rule_status HeadSize = status.RequestHeaderFieldsTooLarge
rule_status Head = status.BadRequest
rule_status Host = status.BadRequest
rule_status TransferCoding = status.NotImplemented
rule_status Length = status.BadRequest
rule_status Body = status.PayloadTooLarge

-- its number
abbrev pub status_of : Rule → ℕ
status_of rule = code (rule_status rule)

-- The bytes are refused for breaking this rule, with its status.
abbrev pub refused : Rule → Next
refused rule = Refused (status_of rule) rule

-- the last two checks: the body's length is well formed, and small enough
abbrev pub sized : Option ℕ → Result ℕ Rule
sized None = Err Length
sized (Some n) = if nat_lt 4194304 n then Err Body else Ok n

-- the first of the checks on the fields that fails, or the length of the body
abbrev pub check : ℕ → List (List ℕ × List ℕ) → Result ℕ Rule
check minor fields =
    if minor == 1 && not (length (values (codes "host") fields) == 1) then Err Host
    else (if not (length (values (codes "transfer-encoding") fields) == 0) then Err TransferCoding
    else sized (body_length (values (codes "content-length") fields)))

-- what stands in the fields that have these values
abbrev pub field_of : List (List ℕ) → Field
field_of [] = Absent
field_of (value ∷ []) = Once value
field_of (value ∷ other ∷ values) = Often

-- what the fields say of who sends the message
abbrev pub sender_of : List (List ℕ × List ℕ) → Sender
sender_of fields = record {
  host = field_of (values (codes "host") fields);
  origin = field_of (values (codes "origin") fields);
  authorization = field_of (values (codes "authorization") fields);
  fetches = list_any (λ f. is_fetch_name f.0) fields;
}

-- the message of a head and its body
abbrev pub message_of : Parts → List ℕ → Message
message_of p body = record {
  method = p.method;
  path = path_of (origin p.target);
  query = query_of (origin p.target);
  body = body;
  last = is_last p.minor p.fields;
  sender = sender_of p.fields;
}

-- a head that breaks no rule is a message once its body is there
abbrev pub framed : Result ℕ Rule → Parts → List ℕ → ℕ → Next
framed (Err rule) p after used = refused rule
framed (Ok n) p after used =
    if nat_le n (length after) then Whole (message_of p (take n after)) (used + n) else More

-- What a head of these parts and the bytes after it are: refused by the first check that fails, or else a message once its body is there.
abbrev pub answered : Parts → List ℕ → ℕ → Next
answered p after used = framed (check p.minor p.fields) p after used

-- the bytes are this head and nothing more
abbrev pub IsJustHead : List ℕ → RequestHead → Type 0
IsJustHead head h = IsRequestHead h × (head ≡ print_request h)

-- what a whole head and the bytes after it are: over 64 field lines are too many; a head that does not read is refused, and another answered by its parts
abbrev pub AnswersHead : List ℕ → List ℕ → ℕ → Next → Type 0
AnswersHead head after used next =
    MatchBool (nat_lt 66 (line_count head))
    (next ≡ refused HeadSize)
    (((next ≡ refused Head) × ((h : RequestHead) → ¬ (IsJustHead head h)))
    ⊎ ((h : RequestHead) × IsJustHead head h × (next ≡ answered (parts_of h) after used)))

-- no whole head in the bytes so far
abbrev pub headless : List ℕ → Next
headless rest = if nat_le 16384 (length rest) then refused HeadSize else More

-- what stands behind the empty lines, of which there are `used` bytes
abbrev pub AnswersRest : List ℕ → ℕ → Option ℕ → Next → Type 0
AnswersRest rest used None next = next ≡ headless rest
AnswersRest rest used (Some n) next = AnswersHead (take n rest) (drop n rest) (used + n) next

-- what stands at the front of the buffer
abbrev pub Stands : List ℕ → Next → Type 0
Stands buffer next =
    let rest = drop (blank buffer) buffer in
    AnswersRest rest (blank buffer) (head_length (take 16384 rest)) next

-- one thing stands at the front of the bytes
abbrev pub OneStands : List ℕ → Type 0
OneStands buffer = (a b : Next) → Stands buffer a → Stands buffer b → a ≡ b

-- what is whole or refused is so whatever follows it
abbrev pub StandsLater : List ℕ → Type 0
StandsLater buffer = (next : Next) (more : List ℕ) → Stands buffer next → next ≢ More → Stands (buffer ++ more) next

-- no prefix of the bytes is a whole message or refused
abbrev pub HasNoEarlier : List ℕ → Type 0
HasNoEarlier buffer =
    (front rest : List ℕ) (next : Next) → buffer ≡ front ++ rest → Stands front next → next ≡ More

-- want of memory: a whole message stands there, and these are how many bytes it takes, whether the connection ends after it, and whether its method is HEAD
abbrev pub Lacks : List ℕ → Lack → Type 0
Lacks buffer lack =
    (m : Message) × Stands buffer (Whole m lack.used) × (lack.last ≡ m.last)
    × (lack.bare ≡ bytes_eq m.method (codes "HEAD"))

-- a whole message takes some bytes, and at most n
abbrev pub TakesWithin : ℕ → Result Next Lack → Type 0
TakesWithin n (Ok (Whole m used)) = (0 < used) × (used ≤ n)
TakesWithin n (Ok More) = ⊤
TakesWithin n (Ok (Refused status rule)) = ⊤
TakesWithin n (Err lack) = (0 < lack.used) × (lack.used ≤ n)

-- want of memory for that answer, which is a whole message
abbrev pub LacksFor : Next → Lack → Type 0
LacksFor (Whole m used) lack =
    (lack.used ≡ used) × (lack.last ≡ m.last) × (lack.bare ≡ bytes_eq m.method (codes "HEAD"))
LacksFor More lack = ⊥
LacksFor (Refused status rule) lack = ⊥

-- the result is that answer, or the want of memory for it
abbrev pub Gives : Result Next Lack → Next → Type 0
Gives (Ok next) answer = next ≡ answer
Gives (Err lack) answer = LacksFor answer lack

-- the result is what stands there, or the want of memory for it
abbrev pub GivesWhat : (Next → Type 0) → Result Next Lack → Type 0
GivesWhat Stands result = (answer : Next) × Stands answer × Gives result answer
