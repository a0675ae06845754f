-- Why a request is refused: the status, and the words.
use Rattle.std.specs.Prelude.{ℕ, List, [], ◌∷◌, codes}
use Rattle.std.specs.Fmt.{decimal}
use Rattle.cat_tree.specs.declared.read.TreeFault.{TreeFault}
use Rattle.cat_tree.specs.declared.read.TreeFault.TheVariants as tree
use Rattle.cat_types.specs.Faults.{fault_text}
use Rattle.cat_inputs.specs.Faults.{place_text}
use Rattle.cat_inputs.specs.declared.fault.InputFault.{InputFault}
use Rattle.cat_inputs.specs.declared.fault.InputFault.TheVariants as input
use Rattle.cat_query.specs.declared.fault.QueryFault.{QueryFault}
use Rattle.cat_query.specs.declared.fault.QueryFault.TheVariants as query
use Rattle.cat_feed.specs.Place.{since_text}
use Rattle.cat_http.specs.declared.status.Status.{Status}
use Rattle.cat_http.specs.declared.status.Status.TheVariants as status
use Rattle.cat_replies.specs.Events.{counter_text}
use Rattle.cat_requests.specs.declared.refusal.Methods.{Methods}
use Rattle.cat_requests.specs.declared.refusal.Methods.TheVariants as methods
use Rattle.cat_requests.specs.declared.refusal.Refusal.{Refusal}
use Rattle.cat_requests.specs.declared.refusal.Refusal.TheVariants.{Origin, Route, Method, Entity, Shelf, Name, Text, Reference, Input, Query, Facet, Place, Gone, Ahead, OldSerial, TooLarge, Spent, CutByCounter, CutByMemory, CutByKeeper, SpentFeed, Reply, Keeper, NoMemory}

-- the methods of a path
abbrev pub methods_of : Methods → List (List ℕ)
methods_of methods.Reads = codes "GET" ∷ codes "HEAD" ∷ []
methods_of methods.ReadsAndDeletes = codes "GET" ∷ codes "HEAD" ∷ codes "DELETE" ∷ []
methods_of methods.Posts = codes "POST" ∷ []
methods_of methods.PutsAndDeletes = codes "PUT" ∷ codes "DELETE" ∷ []

-- the methods that are allowed are said with status 405 alone
abbrev pub allowed : Refusal → List (List ℕ)
allowed (Method ms) = methods_of ms
allowed _ = []

-- the status of a refusal
abbrev pub status_of : Refusal → Status
status_of Origin = status.Forbidden
status_of Route = status.NotFound
status_of (Method ms) = status.MethodNotAllowed
status_of Entity = status.NotFound
status_of Shelf = status.NotFound
status_of Name = status.BadRequest
status_of Text = status.BadRequest
status_of (Reference i) = status.BadRequest
status_of (Input fault) = status.BadRequest
status_of (Query fault) = status.BadRequest
status_of Facet = status.BadRequest
status_of Place = status.BadRequest
status_of (Gone since) = status.Gone
status_of (Ahead since) = status.BadRequest
status_of (OldSerial last) = status.Conflict
status_of (TooLarge sum) = status.PayloadTooLarge
status_of (Spent counter) = status.InternalServerError
status_of (CutByCounter events counter) = status.InternalServerError
status_of (CutByMemory events) = status.InsufficientStorage
status_of (CutByKeeper events) = status.ServiceUnavailable
status_of SpentFeed = status.InternalServerError
status_of Reply = status.InternalServerError
status_of Keeper = status.ServiceUnavailable
status_of NoMemory = status.InsufficientStorage

-- why the bytes are no tree
abbrev pub tree_words : TreeFault → List (List ℕ)
tree_words tree.Syntax = codes "json syntax" ∷ []
tree_words tree.Fraction = codes "json fraction" ∷ []
tree_words tree.NoMemory = codes "memory" ∷ []

-- why a body isn't what is asked for
abbrev pub input_words : InputFault → List (List ℕ)
input_words (input.Json fault) = tree_words fault
input_words (input.Shape place) = codes "shape " ∷ place_text place ∷ []
input_words input.TooMany = codes "too_many" ∷ []
input_words (input.Deep i) = codes "deep " ∷ decimal i ∷ []
input_words (input.NoRef i fault) = codes "no_ref " ∷ decimal i ∷ codes " " ∷ fault_text fault ∷ []
input_words (input.Duplicate i) = codes "duplicate " ∷ decimal i ∷ []
input_words input.NoMemory = codes "memory" ∷ []

-- why a text is no query
abbrev pub query_words : QueryFault → List (List ℕ)
query_words (query.Filter filter condition) = codes "filter " ∷ decimal filter ∷ codes " " ∷ decimal condition ∷ []
query_words query.BadOrder = codes "order" ∷ []
query_words query.BadLimit = codes "limit" ∷ []
query_words query.BadCursor = codes "cursor" ∷ []
query_words query.NoMemory = codes "memory" ∷ []

-- the words of a refusal, with the numbers that they tell
abbrev pub words_of : Refusal → List (List ℕ)
words_of Origin = codes "origin" ∷ []
words_of Route = codes "route" ∷ []
words_of (Method ms) = codes "method" ∷ []
words_of Entity = codes "entity" ∷ []
words_of Shelf = codes "shelf" ∷ []
words_of Name = codes "name" ∷ []
words_of Text = codes "text" ∷ []
words_of (Reference i) = codes "reference " ∷ decimal i ∷ []
words_of (Input fault) = input_words fault
words_of (Query fault) = query_words fault
words_of Facet = codes "facet" ∷ []
words_of Place = codes "since" ∷ []
words_of (Gone since) = codes "gone " ∷ since_text since ∷ []
words_of (Ahead since) = codes "ahead " ∷ since_text since ∷ []
words_of (OldSerial last) = codes "old_serial " ∷ decimal last ∷ []
words_of (TooLarge sum) = codes "too_large " ∷ decimal sum ∷ []
words_of (Spent counter) = codes "spent " ∷ counter_text counter ∷ []
words_of (CutByCounter events counter) = codes "spent " ∷ counter_text counter ∷ codes " " ∷ decimal events ∷ []
words_of (CutByMemory events) = codes "memory " ∷ decimal events ∷ []
words_of (CutByKeeper events) = codes "keeper " ∷ decimal events ∷ []
words_of SpentFeed = codes "spent feed" ∷ []
words_of Reply = codes "reply" ∷ []
words_of Keeper = codes "keeper" ∷ []
words_of NoMemory = codes "memory" ∷ []

-- ---- the faults of what is read

-- The refusal of a body that isn't what is asked for; want of memory is refused as such.
abbrev pub input_refusal : InputFault → Refusal
input_refusal (input.Json fault) = Input (input.Json fault)
input_refusal (input.Shape place) = Input (input.Shape place)
input_refusal input.TooMany = Input input.TooMany
input_refusal (input.Deep i) = Input (input.Deep i)
input_refusal (input.NoRef i fault) = Input (input.NoRef i fault)
input_refusal (input.Duplicate i) = Input (input.Duplicate i)
input_refusal input.NoMemory = NoMemory

-- The refusal of parameters that are no query; want of memory is refused as such.
abbrev pub query_refusal : QueryFault → Refusal
query_refusal (query.Filter i j) = Query (query.Filter i j)
query_refusal query.BadOrder = Query query.BadOrder
query_refusal query.BadLimit = Query query.BadLimit
query_refusal query.BadCursor = Query query.BadCursor
query_refusal query.NoMemory = NoMemory
