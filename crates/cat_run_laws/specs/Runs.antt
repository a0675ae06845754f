-- Runs of deeds, and the run that the messages of a connection make.
use Rattle.std.specs.Prelude.{ℕ, List, [], ◌∷◌, ◌++◌}
use Rattle.std.specs.declared.result.Result.{Result}
use Rattle.std.specs.declared.result.Result.TheVariants.{Ok, Err}
use Rattle.cat_api.specs.Operations.{Operation, operation}
use Rattle.cat_api.specs.Operations.Operation.{Act, Ask, Tell, Show}
use Rattle.cat_api.specs.Wire.{Wired, deed_word, wire_after}
use Rattle.cat_connection.specs.Items.{Item, message, refusal}
use Rattle.cat_connection.specs.Worded.{Word as ItemWord, plain, memory, cut, untold, unkept, cut_unkept, after_items}
use Rattle.cat_desk.specs.Acts.{after_deed}
use Rattle.cat_desk.specs.Deed.{Deed}
use Rattle.cat_in_memory.specs.Wires.{wire_start}
use Rattle.cat_io.specs.Word.{Word}
use Rattle.cat_layers.specs.Layered.{layered}
use Rattle.cat_model.specs.Catalogue.{Rules}
use Rattle.cat_model.specs.declared.types.OrphanRule.{OrphanRule}
use Rattle.cat_model.specs.declared.types.Settings.{Settings}
use Rattle.cat_model.specs.declared.types.State.{State}
use Rattle.cat_requests.specs.Requests.{request_of}
use Rattle.cat_requests.specs.declared.refusal.Refusal.{Refusal}
use Rattle.cat_requests.specs.declared.request.Request.{Request}

-- ---- runs

-- a deed at a moment, with the word that says what came of it
pub record Step : Type 0 where
  pub moment : ℕ
  pub word : Word
  pub deed : Deed

-- the state after a run
abbrev pub after_run : Rules → Settings → State → List Step → State
after_run rules s m [] = m
after_run rules s m (x ∷ steps) = after_run rules s (after_deed rules s x.moment x.word x.deed m) steps

-- ---- connections

-- the deed of an operation, at the moment 0; a question, an ask for changes and one for a file of the page have none
abbrev pub operation_run : ItemWord → Operation → List Step
operation_run word (Act d k) = record { moment = 0; word = deed_word word; deed = d } ∷ []
operation_run word (Ask question) = []
operation_run word (Tell since) = []
operation_run word (Show file) = []

-- the deed of what a message asks for; a refused one has none
abbrev pub requested_run : ItemWord → Result Request Refusal → List Step
requested_run word (Ok request) = operation_run word (operation request)
requested_run word (Err fault) = []

-- the deed of a message with its word; one that lacked memory has none
abbrev pub item_run : ItemWord → Item → List Step
item_run plain (message m) = requested_run plain (request_of m)
item_run memory (message m) = []
item_run (cut n) (message m) = requested_run (cut n) (request_of m)
item_run untold (message m) = requested_run untold (request_of m)
item_run unkept (message m) = requested_run unkept (request_of m)
item_run (cut_unkept n) (message m) = requested_run (cut_unkept n) (request_of m)
item_run word (refusal fault) = []

-- the run that messages make, each with its word
abbrev pub items_run : List Item → List ItemWord → List Step
items_run [] words = []
items_run (item ∷ items) [] = []
items_run (item ∷ items) (word ∷ words) = item_run word item ++ items_run items words

-- the program's connection under a rule for orphans after these messages, each with its word
abbrev pub wired_at : OrphanRule → List Item → List ItemWord → Wired
wired_at rule items words = after_items (wire_after layered) (wire_start rule) items words
