-- Machines whose steps are functions of a message and of a word that says what came of it.
use Rattle.std.specs.Prelude.{◌≡◌, ◌⊎◌, ℕ, List, [], ◌∷◌, ◌++◌, length}
use Rattle.cat_http.specs.declared.message.Message.{Message}
use Rattle.cat_http.specs.Errors as errors
use Rattle.cat_http.specs.Reply.{reply_bytes}
use Rattle.cat_connection.specs.Items.{Item, message, refusal}
use Rattle.cat_connection.specs.Runs.{Answering, Lacking, memory_reply}

-- A message acts; or it lacks memory and acts not; or what it does was cut for want of memory after so many events; or it acts, and
-- its reply lacks memory; or what it would change wasn't kept, and it acts not; or what it does was cut after so many events, since what follows
-- them wasn't kept.
pub data Word : Type 0 where
  plain : Word
  memory : Word
  cut : ℕ → Word
  untold : Word
  unkept : Word
  cut_unkept : ℕ → Word

-- the machine answers a message with this word
abbrev pub IsAnswered : Word → Type 0
IsAnswered plain = Unit {0}
IsAnswered memory = ⊥
IsAnswered (cut n) = Unit {0}
IsAnswered untold = ⊥
IsAnswered unkept = Unit {0}
IsAnswered (cut_unkept n) = Unit {0}

-- the state after a message with its word
abbrev pub After : Type 0 → Type 0
After A = A → Word → Message → A

-- the bytes of the reply to a message with its word
abbrev pub Reply : Type 0 → Type 0
Reply A = A → Word → Message → List ℕ

-- A machine went from one state to another at a message, and these are the bytes of its reply.
abbrev pub AnswersMessage : {A : Type 0} → After A → Reply A → A → Message → A → List ℕ → Type 0
AnswersMessage after reply old m new text = (word : Word) × IsAnswered word × (new ≡ after old word m) × (text ≡ reply old word m)

-- Want of memory left the machine as it was, or came once the message had acted.
abbrev pub LacksMemory : {A : Type 0} → After A → A → Message → A → Type 0
LacksMemory after old m new = (new ≡ old) ⊎ (new ≡ after old untold m)

-- the state after an item with its word
unfoldable pub item_after : {A : Type 0} → After A → A → Word → Item → A
item_after after a plain (message m) = after a plain m
item_after after a memory (message m) = a
item_after after a (cut n) (message m) = after a (cut n) m
item_after after a untold (message m) = after a untold m
item_after after a unkept (message m) = after a unkept m
item_after after a (cut_unkept n) (message m) = after a (cut_unkept n) m
item_after after a word (refusal rule) = a

-- the reply to an item with its word
unfoldable pub item_reply : {A : Type 0} → Reply A → A → Word → Item → List ℕ
item_reply reply a plain (message m) = reply a plain m
item_reply reply a memory (message m) = memory_reply m
item_reply reply a (cut n) (message m) = reply a (cut n) m
item_reply reply a untold (message m) = memory_reply m
item_reply reply a unkept (message m) = reply a unkept m
item_reply reply a (cut_unkept n) (message m) = reply a (cut_unkept n) m
item_reply reply a word (refusal rule) = reply_bytes (errors.refusal rule)

-- the state after the items, each with its word
abbrev pub after_items : {A : Type 0} → After A → A → List Item → List Word → A
after_items after a [] words = a
after_items after a (item ∷ items) [] = a
after_items after a (item ∷ items) (word ∷ words) = after_items after (item_after after a word item) items words

-- the replies to the items, each with its word
abbrev pub replies : {A : Type 0} → After A → Reply A → A → List Item → List Word → List ℕ
replies after reply a [] words = []
replies after reply a (item ∷ items) [] = []
replies after reply a (item ∷ items) (word ∷ words) = item_reply reply a word item ++ replies after reply (item_after after a word item) items words

-- The items led from one state to another, each with a word, with these bytes as their replies.
pub record HasWords {A : Type 0} (after : After A) (reply : Reply A) (a : A) (items : List Item) (new : A) (out : List ℕ) : Type 0 where
  pub words : List Word
  pub each : length words ≡ length items
  pub out_is : out ≡ replies after reply a items words
  pub new_is : new ≡ after_items after a items words

-- Wherever this holds of a machine, it goes on holding, and each step of the machine is one of functions on what is seen of it.
pub record IsWorded {A B : Type 0} (answers : Answering A) (lacks : Lacking A) (Holds : A → Type 0) (seen : A → B) (after : After B) (reply : Reply B) : Type 0 where
  pub answered : (a new : A) (m : Message) (text : List ℕ) → Holds a → answers a m new text → Holds new × AnswersMessage after reply (seen a) m (seen new) text
  pub lacked : (a new : A) (m : Message) → Holds a → lacks a m new → Holds new × LacksMemory after (seen a) m (seen new)
