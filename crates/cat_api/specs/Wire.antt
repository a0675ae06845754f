-- What a message does to the catalogue and its feed at the moment 0, and the bytes of the reply.
use Rattle.std.specs.Prelude.{Result, Ok, Err}
use Rattle.cat_core.specs.declared.ledger.Ledger.{Ledger}
use Rattle.cat_desk.specs.Acts.{after_deed, deed_reply}
use Rattle.cat_feed.specs.Feed.{asked, feed_after}
use Rattle.cat_feed.specs.declared.ledger.Ledger.{Ledger as Feed}
use Rattle.cat_http.specs.Reply.{reply_bytes}
use Rattle.cat_io.specs.Word as deeds
use Rattle.cat_model.specs.Catalogue.{Rules}
use Rattle.cat_model.specs.declared.types.Settings.{Settings}
use Rattle.cat_model.specs.declared.types.State.{State}
use Rattle.cat_replies.specs.Asks.{ask_text}
use Rattle.cat_api.specs.Deeds.{act_answer, ask_answer, changes_answer}
use Rattle.cat_api.specs.Operations.{Operation, operation}
use Rattle.cat_api.specs.Operations.Operation.{Act, Ask, Tell, Show}
use Rattle.cat_requests.specs.Answers.{reply_to}
use Rattle.cat_requests.specs.Requests.{request_of}
use Rattle.cat_requests.specs.declared.answer.Answer.{Answer}
use Rattle.cat_requests.specs.declared.answer.Answer.TheVariants.{Page, Refused}
use Rattle.cat_requests.specs.declared.refusal.Refusal.{Refusal}
use Rattle.cat_requests.specs.declared.request.Request.{Request}
use Rattle.cat_connection.specs.Worded.{Word, plain, memory, cut, untold, unkept, cut_unkept, After, Reply}

-- a catalogue and its feed
pub record Wired : Type 0 where
  pub catalogue : Ledger
  pub feed : Feed

-- the word of a deed: one whose reply lacks memory isn't done
abbrev pub deed_word : Word → deeds.Word
deed_word plain = deeds.plain
deed_word memory = deeds.memory
deed_word (cut n) = deeds.cut n
deed_word untold = deeds.memory
deed_word unkept = deeds.unkept
deed_word (cut_unkept n) = deeds.cut_unkept n

-- ---- the state

-- the state after an operation with its word: a deed alone changes it
abbrev pub state_after : Rules → Settings → Word → Operation → State → State
state_after rules s word (Act d k) n = after_deed rules s 0 (deed_word word) d n
state_after rules s word (Ask question) n = n
state_after rules s word (Tell since) n = n
state_after rules s word (Show file) n = n

-- the feed after an operation: an ask for changes alone changes it, and has it take the documents in
abbrev pub told_after : Operation → State → Feed → Feed
told_after (Act d k) n feed = feed
told_after (Ask question) n feed = feed
told_after (Tell since) n feed = feed_after n.documents since feed
told_after (Show file) n feed = feed

-- The catalogue and its feed after an operation with its word.
abbrev pub after_operation : Rules → Word → Operation → Wired → Wired
after_operation rules word o w = record {
  catalogue = record w.catalogue { state = state_after rules w.catalogue.settings word o w.catalogue.state };
  feed = told_after o w.catalogue.state w.feed;
}

-- The catalogue and its feed after what a message asks for, with its word; a refused message leaves them as they were.
abbrev pub after_requested : Rules → Word → Result Request Refusal → Wired → Wired
after_requested rules word (Ok request) w = after_operation rules word (operation request) w
after_requested rules word (Err refusal) w = w

-- the catalogue and its feed after a message with its word
unfoldable pub wire_after : Rules → After Wired
wire_after rules old word m = after_requested rules word (request_of m) old

-- ---- the reply

-- the answer to an operation with its word
abbrev pub operation_answer : Rules → Word → Operation → Wired → Answer
operation_answer rules word (Act d k) w = act_answer k (deed_reply rules w.catalogue.settings 0 (deed_word word) d w.catalogue.state)
operation_answer rules word (Ask question) w = ask_answer question (ask_text question 0 w.catalogue.state)
operation_answer rules word (Tell since) w = changes_answer (asked w.catalogue.state.documents since w.feed)
operation_answer rules word (Show file) w = Page file

-- The answer to what a message asks for, with its word; to a refused message it is the refusal.
abbrev pub requested_answer : Rules → Word → Result Request Refusal → Wired → Answer
requested_answer rules word (Ok request) w = operation_answer rules word (operation request) w
requested_answer rules word (Err refusal) w = Refused refusal

-- the bytes of the reply to a message with its word
unfoldable pub wire_reply : Rules → Reply Wired
wire_reply rules old word m = reply_bytes (reply_to m (requested_answer rules word (request_of m) old))
