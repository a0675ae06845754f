-- How what a desk says becomes an answer.
use Rattle.std.specs.Prelude.{ℕ, Bool, true, false, List, Result, Ok, Err}
use Rattle.cat_core.specs.declared.fault.CoreFault.{CoreFault}
use Rattle.cat_core.specs.declared.fault.CoreFault.TheVariants as core
use Rattle.cat_desk.specs.declared.command.Asked.{Asked}
use Rattle.cat_desk.specs.declared.command.Asked.TheVariants as asked
use Rattle.cat_desk.specs.declared.command.Reply.{Reply}
use Rattle.cat_desk.specs.declared.command.Reply.TheVariants as replies
use Rattle.cat_tree.specs.Text.{text_of}
use Rattle.cat_feed.specs.declared.change.Changes.{Changes}
use Rattle.cat_feed.specs.declared.fault.FeedFault.{FeedFault}
use Rattle.cat_feed.specs.declared.fault.FeedFault.TheVariants as feed
use Rattle.cat_feed.specs.Written.{changes_data}
use Rattle.cat_desk.specs.declared.feed_desk.FeedAnswer.{FeedAnswer}
use Rattle.cat_desk.specs.declared.feed_desk.FeedAnswer.TheVariants as told
use Rattle.cat_query.specs.declared.ask.Ask.{Ask as Question}
use Rattle.cat_query.specs.declared.ask.Ask.TheVariants as question
use Rattle.cat_replies.specs.Asks.{AskFault}
use Rattle.cat_replies.specs.Asks.AskFault.{not_found, no_facet}
use Rattle.cat_api.specs.declared.kind.Kind.{Kind}
use Rattle.cat_api.specs.declared.kind.Kind.TheVariants.{Mutation, Shelving, Refreshing, Forgetting, Settling}
use Rattle.cat_requests.specs.declared.answer.Answer.{Answer}
use Rattle.cat_requests.specs.declared.answer.Answer.TheVariants.{Shown, Line, Mutated, Done, Refreshed, Settled, Refused}
use Rattle.cat_requests.specs.declared.refusal.Refusal.{Refusal}
use Rattle.cat_requests.specs.declared.refusal.Refusal.TheVariants.{Entity, Shelf, Facet, Gone, Ahead, OldSerial, TooLarge, Spent, CutByCounter, CutByMemory, CutByKeeper, SpentFeed, Reply as Strange, Keeper, NoMemory}

-- what isn't there is an entity, or a text on the shelf
abbrev pub missing : Kind → Refusal
missing Mutation = Entity
missing Shelving = Shelf
missing Refreshing = Entity
missing Forgetting = Entity
missing Settling = Entity

-- why the catalogue refuses a command
abbrev pub fault_refusal : Kind → CoreFault → Refusal
fault_refusal k (core.OldSerial last) = OldSerial last
fault_refusal k core.NotFound = missing k
fault_refusal k (core.TooLarge sum) = TooLarge sum
fault_refusal k (core.Spent counter) = Spent counter
fault_refusal k core.Keeper = Keeper
fault_refusal k core.NoMemory = NoMemory

-- a settle was cut after so many events
abbrev pub cut_by : ℕ → CoreFault → Refusal
cut_by events (core.OldSerial last) = CutByMemory events
cut_by events core.NotFound = CutByMemory events
cut_by events (core.TooLarge sum) = CutByMemory events
cut_by events (core.Spent counter) = CutByCounter events counter
cut_by events core.Keeper = CutByKeeper events
cut_by events core.NoMemory = CutByMemory events

-- a record that is made due is answered by an empty object, and what else changed by nothing
abbrev pub changed : Kind → Answer
changed Mutation = Done
changed Shelving = Done
changed Refreshing = Refreshed
changed Forgetting = Done
changed Settling = Done

-- the answer to a command of this kind, by the desk's reply
abbrev pub act_answer : Kind → Reply → Answer
act_answer k (replies.Mutated acted) = Mutated acted
act_answer k replies.Changed = changed k
act_answer k (replies.Settled counts) = Settled counts
act_answer k (replies.Cut cut) = Refused (cut_by cut.events cut.fault)
act_answer k (replies.Refused fault) = Refused (fault_refusal k fault)
act_answer k (replies.Taken order) = Refused Strange
act_answer k (replies.Finished finished) = Refused Strange
act_answer k (replies.StitchTaken order) = Refused Strange
act_answer k (replies.Placed placed) = Refused Strange

-- what was asked is shown: how much there is as the line of a session, and all else as JSON
abbrev pub shown : Question → List ℕ → Answer
shown question.State text = Line text
shown _ text = Shown text

-- the answer to a question
abbrev pub ask_answer : Question → Result (List ℕ) AskFault → Answer
ask_answer q (Ok text) = shown q text
ask_answer q (Err not_found) = Refused Entity
ask_answer q (Err no_facet) = Refused Facet

-- the same by what the desk says, where it appended this text
abbrev pub asked_answer : Question → Asked → List ℕ → Answer
asked_answer q asked.Written text = shown q text
asked_answer q asked.NotFound text = Refused Entity
asked_answer q asked.NoFacet text = Refused Facet
asked_answer q asked.NoMemory text = Refused NoMemory

-- the answer to an ask for changes
abbrev pub changes_answer : Result Changes FeedFault → Answer
changes_answer (Ok changes) = Shown (text_of (changes_data changes))
changes_answer (Err (feed.Gone place)) = Refused (Gone place)
changes_answer (Err (feed.Ahead place)) = Refused (Ahead place)
changes_answer (Err feed.Spent) = Refused SpentFeed
changes_answer (Err feed.NoMemory) = Refused NoMemory

-- the same by what the desk says, where it appended this text
abbrev pub told_answer : FeedAnswer → List ℕ → Answer
told_answer told.Written text = Shown text
told_answer (told.Gone place) text = Refused (Gone place)
told_answer (told.Ahead place) text = Refused (Ahead place)
told_answer told.Spent text = Refused SpentFeed
told_answer told.NoMemory text = Refused NoMemory

-- the fault is want of memory
abbrev pub is_want : CoreFault → Bool
is_want core.NoMemory = true
is_want core.Keeper = false
is_want (core.OldSerial last) = false
is_want core.NotFound = false
is_want (core.TooLarge sum) = false
is_want (core.Spent counter) = false

-- the reply says that memory was wanted
abbrev pub lacks_memory : Reply → Bool
lacks_memory (replies.Refused fault) = is_want fault
lacks_memory (replies.Mutated acted) = false
lacks_memory replies.Changed = false
lacks_memory (replies.Settled counts) = false
lacks_memory (replies.Cut cut) = false
lacks_memory (replies.Taken order) = false
lacks_memory (replies.Finished finished) = false
lacks_memory (replies.StitchTaken order) = false
lacks_memory (replies.Placed placed) = false
