-- What a machine does over the messages of a connection.
use Rattle.std.specs.Prelude.{◌≡◌, ◌⊎◌, ℕ, List, [], ◌∷◌, ◌++◌, codes, bytes_eq}
use Rattle.cat_http.specs.declared.message.Message.{Message}
use Rattle.cat_http.specs.Errors as errors
use Rattle.cat_http.specs.Reply.{reply_bytes}
use Rattle.cat_connection.specs.Items.{Item, message, refusal}

-- From the first state a message may lead to the second one, with these bytes as the reply.
abbrev pub Answering : Type 0 → Type 1
Answering A = A → Message → A → List ℕ → Type 0

-- From the first state want of memory at a message may lead to the second one.
abbrev pub Lacking : Type 0 → Type 1
Lacking A = A → Message → A → Type 0

-- the reply to a message that lacks memory
abbrev pub memory_reply : Message → List ℕ
memory_reply m = reply_bytes (errors.no_memory m.last (bytes_eq m.method (codes "HEAD")))

-- An item led from one state to another, with these bytes as the reply. A message was answered by the machine, or lacked memory: for
-- itself, and the machine stayed, or in the machine. At a refused message the machine stays.
abbrev pub AnswersItem : {A : Type 0} → Answering A → Lacking A → A → Item → A → List ℕ → Type 0
AnswersItem answers lacks a (message m) new text = answers a m new text ⊎ ((text ≡ memory_reply m) × ((new ≡ a) ⊎ lacks a m new))
AnswersItem answers lacks a (refusal rule) new text = (text ≡ reply_bytes (errors.refusal rule)) × (new ≡ a)

-- The items led from one state to another, one after the other, with these bytes as their replies.
abbrev pub AnswersItems : {A : Type 0} → Answering A → Lacking A → A → List Item → A → List ℕ → Type 0
AnswersItems answers lacks a [] new out = (out ≡ []) × (new ≡ a)
AnswersItems {A = A} answers lacks a (item ∷ items) new out =
    (mid : A) × (text : List ℕ) × (rest : List ℕ) × AnswersItem answers lacks a item mid text × AnswersItems answers lacks mid items new rest × (out ≡ text ++ rest)
