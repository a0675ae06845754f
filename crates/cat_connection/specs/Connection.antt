-- What is done with the bytes of a connection.
use Rattle.std.specs.Prelude.{◌≡◌, ℕ, ◌^◌, ◌<◌, ◌≤◌, ◌⊎◌, Bool, false, true, if◌then◌else◌, List, [], ◌∷◌, ◌++◌, Option, length, drop}
use Rattle.std.specs.Io.KnownBytes.{Appends, Consumes, IsAtEnd}
use Rattle.cat_io.specs.Sink.{AppendsFront}
use Rattle.cat_http.specs.Lines.{blank}
use Rattle.cat_http.specs.Message.{Stands}
use Rattle.cat_http.specs.declared.message.Next.TheVariants.{More}
use Rattle.cat_connection.specs.Items.{Item, is_last, StandsFirst, AreMessages, AreFirst}
use Rattle.cat_connection.specs.Runs.{Answering, Lacking, AnswersItem, AnswersItems}
use Rattle.cat_connection.specs.declared.message_loop.ConnEnd.{ConnEnd}
use Rattle.cat_connection.specs.declared.message_loop.ConnEnd.TheVariants.{Whole, ReadFault, WriteFault, Bound, NoMemory}
use Rattle.cat_connection.specs.declared.message_loop.Step.{Step}
use Rattle.cat_connection.specs.declared.message_loop.Step.TheVariants.{On, Last, Short}
use Rattle.cat_connection.specs.declared.message_loop.Served.{Served}
use Rattle.cat_connection.specs.declared.message_loop.Served.TheVariants.{Open, Closed}

-- From the first state the items may lead to the second one, with these bytes as their replies.
abbrev pub Run : Type 0 → Type 1
Run A = A → List Item → A → List ℕ → Type 0

-- the replies to the messages were written
pub record WritesReplies {A : Type 0} (run : Run A) (before now : Option (List ℕ)) (a : A) (items : List Item) (new : A) : Type 0 where
  pub out : List ℕ
  pub writes : Appends before now out
  pub answers : run a items new out

-- The reply to the last of the messages was being written: those before it stand whole, and that one doesn't.
pub record WritesPart {A : Type 0} (run : Run A) (before now : Option (List ℕ)) (a : A) (items : List Item) (new : A) : Type 0 where
  pub front : List Item
  pub last : Item
  pub items_are : items ≡ front ++ last ∷ []
  pub mid : A
  pub whole : List ℕ
  pub answers : run a front mid whole
  pub reply : List ℕ
  pub answers_last : run mid (last ∷ []) new reply
  pub part : List ℕ
  pub missing : List ℕ
  pub cut_is : reply ≡ part ++ missing
  pub proper : 0 < length missing
  pub writes : Appends before now (whole ++ part)

-- one message was answered
pub record Serves {A : Type 0} (answers : Answering A) (lacks : Lacking A) (before now : Option (List ℕ)) (a : A) (item : Item) (new : A) : Type 0 where
  pub text : List ℕ
  pub writes : Appends before now text
  pub answered : AnswersItem answers lacks a item new text

-- a write failed in the reply to one message
pub record ServesPart {A : Type 0} (answers : Answering A) (lacks : Lacking A) (before now : Option (List ℕ)) (a : A) (item : Item) (new : A) : Type 0 where
  pub text : List ℕ
  pub front : AppendsFront before now text
  pub answered : AnswersItem answers lacks a item new text

-- ---- one message, and all that are whole

-- the connection ends after the last message, and goes on behind another one
abbrev pub step_by : Bool → ℕ → Step
step_by last used = if last then Last else On used

-- what was done at the front of the bytes: a message was answered, after which the connection goes on or ends, or there is
-- no whole one
abbrev pub Steps : {A : Type 0} → Answering A → Lacking A → Option (List ℕ) → Option (List ℕ) → A → A → List ℕ → Step → Type 0
Steps answers lacks before now a new bytes (On used) = (item : Item) × StandsFirst bytes item used × (is_last item ≡ false) × (0 < used) × (used ≤ length bytes) × Serves answers lacks before now a item new
Steps answers lacks before now a new bytes Last = (item : Item) × (used : ℕ) × StandsFirst bytes item used × (is_last item ≡ true) × Serves answers lacks before now a item new
Steps answers lacks before now a new bytes Short = Stands bytes More × (now ≡ before) × (new ≡ a)

-- a write failed in the reply to the message at the front of the bytes
abbrev pub StepsPart : {A : Type 0} → Answering A → Lacking A → Option (List ℕ) → Option (List ℕ) → A → A → List ℕ → Type 0
StepsPart answers lacks before now a new bytes = (item : Item) × (used : ℕ) × StandsFirst bytes item used × ServesPart answers lacks before now a item new

-- The items stand in the bytes before the rest of them: what follows them there, follows them in the bytes.
pub record Precede (bytes : List ℕ) (items : List Item) (rest : List ℕ) : Type 0 where
  pub all : (more : List ℕ) (others : List Item) → AreMessages (rest ++ more) others → AreMessages (bytes ++ more) (items ++ others)
  pub first : (more : List ℕ) (others : List Item) → AreFirst (rest ++ more) others → AreFirst (bytes ++ more) (items ++ others)

-- the messages that stand whole before the rest of the bytes were answered
pub record Feeding {A : Type 0} (answers : Answering A) (lacks : Lacking A) (before now : Option (List ℕ)) (a new : A) (bytes rest : List ℕ) : Type 0 where
  pub items : List Item
  pub precede : Precede bytes items rest
  pub writes : WritesReplies (AnswersItems answers lacks) before now a items new

-- The whole messages of the bytes were answered: so many bytes are left, which are no whole message, or the connection ends.
abbrev pub Feeds : {A : Type 0} → Answering A → Lacking A → Option (List ℕ) → Option (List ℕ) → A → A → List ℕ → Served → Type 0
Feeds answers lacks before now a new bytes (Open gone) = (rest : List ℕ) × Feeding answers lacks before now a new bytes rest × Stands rest More × (drop gone bytes ≡ drop (blank rest) rest) × (gone ≤ length bytes)
Feeds answers lacks before now a new bytes Closed = (items : List Item) × ((more : List ℕ) → AreMessages (bytes ++ more) items) × WritesReplies (AnswersItems answers lacks) before now a items new

-- a write failed in the reply to one of the messages of the bytes
abbrev pub FeedsPart : {A : Type 0} → Answering A → Lacking A → Option (List ℕ) → Option (List ℕ) → A → A → List ℕ → Type 0
FeedsPart answers lacks before now a new bytes = (items : List Item) × ((more : List ℕ) → AreFirst (bytes ++ more) items) × WritesPart (AnswersItems answers lacks) before now a items new

-- what has been done of a connection at the start of a turn
pub record SoFar {A : Type 0} (answers : Answering A) (lacks : Lacking A) (left left' written written' : Option (List ℕ)) (a new : A) (kept : List ℕ) (count : ℕ) : Type 0 where
  pub taken : List ℕ
  pub reads : Consumes left left' taken
  pub count_is : count ≡ length taken
  pub rest : List ℕ
  pub feeding : Feeding answers lacks written written' a new taken rest
  pub short : Stands rest More
  pub kept_is : kept ≡ drop (blank rest) rest

-- ---- the whole

-- The bytes are all that there were, and these are their messages; or these are the messages whatever follows the bytes.
abbrev pub IsWhole : Option (List ℕ) → List ℕ → List Item → Type 0
IsWhole left taken items = (IsAtEnd left × AreMessages taken items) ⊎ ((more : List ℕ) → AreMessages (taken ++ more) items)

-- What was done with a connection, by its end, between the bytes left before and after it, and the bytes written. It took
-- the bytes `taken`.
abbrev pub Outcome : {A : Type 0} → Run A → ConnEnd → Option (List ℕ) → Option (List ℕ) → Option (List ℕ) → Option (List ℕ) → A → A → Type 0
Outcome run Whole left left' written written' a new = (taken : List ℕ) × (items : List Item) × Consumes left left' taken × IsWhole left' taken items × WritesReplies run written written' a items new
Outcome run ReadFault left left' written written' a new = (taken : List ℕ) × (items : List Item) × Consumes left left' taken × AreMessages taken items × WritesReplies run written written' a items new
Outcome run Bound left left' written written' a new = (taken : List ℕ) × (items : List Item) × Consumes left left' taken × AreMessages taken items × (length taken ≡ 2 ^ 40) × WritesReplies run written written' a items new
Outcome run WriteFault left left' written written' a new = (taken : List ℕ) × (items : List Item) × Consumes left left' taken × ((more : List ℕ) → AreFirst (taken ++ more) items) × WritesPart run written written' a items new
Outcome run NoMemory left left' written written' a new = (left' ≡ left) × (written' ≡ written) × (new ≡ a)

-- the replies to the messages of the bytes were written
pub record WireOut {A : Type 0} (run : Run A) (before now : Option (List ℕ)) (a : A) (bytes : List ℕ) (new : A) : Type 0 where
  pub items : List Item
  pub messages : AreMessages bytes items
  pub writes : WritesReplies run before now a items new

-- What stands written where the source told these bytes: at the end the replies to all of their messages; at a read fault
-- and at the bound those to the messages of the bytes taken; at a write fault those to the first messages of the bytes, up
-- to one that doesn't stand whole; for want of memory nothing.
abbrev pub Transcript : {A : Type 0} → Run A → ConnEnd → Option (List ℕ) → Option (List ℕ) → A → A → List ℕ → Type 0
Transcript run Whole written written' a new bytes = WireOut run written written' a bytes new
Transcript run ReadFault written written' a new bytes = (taken : List ℕ) × (rest : List ℕ) × (bytes ≡ taken ++ rest) × WireOut run written written' a taken new
Transcript run Bound written written' a new bytes = (taken : List ℕ) × (rest : List ℕ) × (bytes ≡ taken ++ rest) × (length taken ≡ 2 ^ 40) × WireOut run written written' a taken new
Transcript run WriteFault written written' a new bytes = (items : List Item) × AreFirst bytes items × WritesPart run written written' a items new
Transcript run NoMemory written written' a new bytes = (written' ≡ written) × (new ≡ a)
