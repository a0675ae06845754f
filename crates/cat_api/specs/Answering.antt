-- What a desk does with a message.
use Rattle.std.specs.Prelude.{◌≡◌, ◌≢◌, ◌⊎◌, ℕ, true, false, List, Result, Ok, Err}
use Rattle.std.specs.declared.option.Option.{Option}
use Rattle.cat_desk.specs.Deed.{Deed}
use Rattle.cat_desk.specs.declared.command.Asked.{Asked}
use Rattle.cat_desk.specs.declared.command.Asked.TheVariants as asked
use Rattle.cat_desk.specs.declared.command.Reply.{Reply}
use Rattle.cat_desk.specs.declared.feed_desk.FeedAnswer.{FeedAnswer}
use Rattle.cat_desk.specs.declared.feed_desk.FeedAnswer.TheVariants as told
use Rattle.cat_feed.specs.declared.change.Since.{Since}
use Rattle.cat_http.specs.Reply.{reply_bytes}
use Rattle.cat_http.specs.declared.message.Message.{Message}
use Rattle.cat_http.specs.declared.reply.HttpReply.{HttpReply}
use Rattle.cat_query.specs.declared.ask.Ask.{Ask as Question}
use Rattle.cat_api.specs.Deeds.{act_answer, asked_answer, lacks_memory, told_answer}
use Rattle.cat_api.specs.Operations.{Operation, operation}
use Rattle.cat_api.specs.Operations.Operation.{Act, Ask, Tell, Show}
use Rattle.cat_api.specs.declared.kind.Kind.{Kind}
use Rattle.cat_requests.specs.Answers.{reply_to}
use Rattle.cat_requests.specs.Requests.{request_of}
use Rattle.cat_requests.specs.declared.answer.Answer.TheVariants.{Page, Refused}
use Rattle.cat_requests.specs.declared.refusal.Refusal.{Refusal}
use Rattle.cat_requests.specs.declared.request.Request.{Request}

-- from the first desk, a deed leads to the second one with this reply
abbrev pub Acting : Type 0 → Type 1
Acting A = A → Deed → A → Reply → Type 0

-- at the first desk, a question leads to the second one with this answer, and appends this text
abbrev pub Asking : Type 0 → Type 1
Asking A = A → Question → A → Asked → List ℕ → Type 0

-- at the first desk, an ask for changes leads to the second one with this answer, and appends this text
abbrev pub Telling : Type 0 → Type 1
Telling A = A → Option Since → A → FeedAnswer → List ℕ → Type 0

-- a command was given to the desk, and the reply says what it answered
abbrev pub ActsBy : {A : Type 0} → Acting A → A → A → Deed → Kind → Message → HttpReply → Type 0
ActsBy acts old new d k m r = (reply : Reply) × acts old d new reply × (lacks_memory reply ≡ false) × (r ≡ reply_to m (act_answer k reply))

-- a question was asked of the desk, and the reply says what it answered
abbrev pub AsksBy : {A : Type 0} → Asking A → A → A → Question → Message → HttpReply → Type 0
AsksBy asks old new q m r = (said : Asked) × (text : List ℕ) × asks old q new said text × (said ≢ asked.NoMemory) × (r ≡ reply_to m (asked_answer q said text))

-- the desk was asked for changes, and the reply says what it answered
abbrev pub TellsBy : {A : Type 0} → Telling A → A → A → Option Since → Message → HttpReply → Type 0
TellsBy tells old new since m r = (said : FeedAnswer) × (text : List ℕ) × tells old since new said text × (said ≢ told.NoMemory) × (r ≡ reply_to m (told_answer said text))

-- an operation was carried out at the desk, once, and this is the reply; a file of the page is shown as it is, whatever the desk has, and leaves it
-- as it was
abbrev pub Carries : {A : Type 0} → Acting A → Asking A → Telling A → A → A → Operation → Message → HttpReply → Type 0
Carries acts asks tells old new (Act d k) m r = ActsBy acts old new d k m r
Carries acts asks tells old new (Ask q) m r = AsksBy asks old new q m r
Carries acts asks tells old new (Tell since) m r = TellsBy tells old new since m r
Carries acts asks tells old new (Show file) m r = (new ≡ old) × (r ≡ reply_to m (Page file))

-- what a message asks for was carried out, or it was refused and nothing was done
abbrev pub Answers : {A : Type 0} → Acting A → Asking A → Telling A → A → A → Result Request Refusal → Message → HttpReply → Type 0
Answers acts asks tells old new (Ok request) m r = Carries acts asks tells old new (operation request) m r
Answers acts asks tells old new (Err refusal) m r = (new ≡ old) × (r ≡ reply_to m (Refused refusal))

-- the same, where the reply is written as these bytes
abbrev pub AnswersBytes : {A : Type 0} → Acting A → Asking A → Telling A → A → Message → A → List ℕ → Type 0
AnswersBytes acts asks tells old m new text = (r : HttpReply) × Answers acts asks tells old new (request_of m) m r × (text ≡ reply_bytes r)

-- Memory was wanted for an operation: the desk wasn't asked for it; or a deed was answered so, and so it wasn't done; or what was
-- answered to a question or an ask for changes has no reply.
abbrev pub LacksIn : {A : Type 0} → Acting A → Asking A → Telling A → A → A → Operation → Type 0
LacksIn acts asks tells old new (Act d k) = (new ≡ old) ⊎ ((reply : Reply) × acts old d new reply × (lacks_memory reply ≡ true))
LacksIn acts asks tells old new (Ask q) = (new ≡ old) ⊎ ((said : Asked) × (text : List ℕ) × asks old q new said text)
LacksIn acts asks tells old new (Tell since) = (new ≡ old) ⊎ ((said : FeedAnswer) × (text : List ℕ) × tells old since new said text)
LacksIn acts asks tells old new (Show file) = new ≡ old

-- the same of what a message asks for; at one that is refused the desk stays
abbrev pub Lacks : {A : Type 0} → Acting A → Asking A → Telling A → A → A → Result Request Refusal → Type 0
Lacks acts asks tells old new (Ok request) = LacksIn acts asks tells old new (operation request)
Lacks acts asks tells old new (Err refusal) = new ≡ old
