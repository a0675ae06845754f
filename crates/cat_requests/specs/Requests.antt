-- What a message asks for, or why it is refused.
use Rattle.std.specs.Prelude.{⊤, IsTrue, ℕ, Bool, true, false, List, [], ◌∷◌, ◌++◌, Option, None, Some, Result, Ok, Err, bytes_eq, codes, ◌||◌, if◌then◌else◌}
use Rattle.cat_access.specs.Browser.{is_admitted, no_access}
use Rattle.cat_types.specs.Names.{is_name, is_shelf_name}
use Rattle.cat_types.specs.Reference.{parsed}
use Rattle.cat_types.specs.declared.fault.RefFault.{RefFault}
use Rattle.cat_collections.specs.Table.{Text as Words}
use Rattle.cat_types.specs.declared.input.Mutation.{Mutation}
use Rattle.cat_feed.specs.declared.change.Since.{Since}
use Rattle.cat_feed.specs.Place.{since_of}
use Rattle.cat_inputs.specs.Inputs.{mutation_of}
use Rattle.cat_inputs.specs.declared.fault.InputFault.{InputFault}
use Rattle.cat_inputs.specs.declared.form.Form.{Form}
use Rattle.cat_inputs.specs.WellFormed.{IsWellFormed}
use Rattle.cat_query.specs.Query.{parameters_of, values_named}
use Rattle.cat_query.specs.declared.ask.Ask.{Ask}
use Rattle.cat_query.specs.declared.ask.Ask.TheVariants as ask
use Rattle.cat_query.specs.declared.fault.QueryFault.{QueryFault}
use Rattle.cat_pages.specs.declared.query.Query.{Query}
use Rattle.cat_session_lines.specs.Arguments.{utf8_in}
use Rattle.cat_session_lines.specs.Queries.{query_of}
use Rattle.cat_http.specs.declared.message.Message.{Message}
use Rattle.cat_requests.specs.Bodies.{many_of, reference_of}
use Rattle.cat_requests.specs.Paths.{resource_of}
use Rattle.cat_requests.specs.Refusals.{input_refusal, query_refusal}
use Rattle.cat_requests.specs.Uids.{number_of_uid}
use Rattle.cat_requests.specs.declared.routes.Fixed.{Fixed}
use Rattle.cat_requests.specs.declared.routes.Fixed.TheVariants as fixed
use Rattle.cat_requests.specs.declared.path.Resource.{Resource}
use Rattle.cat_requests.specs.declared.path.Resource.TheVariants as resource
use Rattle.cat_requests.specs.declared.refusal.Methods.TheVariants.{Reads, ReadsAndDeletes, Posts, PutsAndDeletes}
use Rattle.cat_requests.specs.declared.refusal.Refusal.{Refusal}
use Rattle.cat_requests.specs.declared.refusal.Refusal.TheVariants.{Origin, Route, Method, Entity, Name, Text, Place}
use Rattle.cat_requests.specs.declared.request.Request.{Request}
use Rattle.cat_requests.specs.declared.request.Request.TheVariants as request
use Rattle.cat_requests.specs.declared.request.Verb.{Verb}
use Rattle.cat_requests.specs.declared.request.Verb.TheVariants.{Get, Put, Post, Delete}

-- ---- methods

-- a method, if a path may have it; HEAD asks as GET does
abbrev pub verb_of : List ℕ → Option Verb
verb_of s =
    if bytes_eq s (codes "GET") || bytes_eq s (codes "HEAD") then Some Get
    else (if bytes_eq s (codes "PUT") then Some Put
    else (if bytes_eq s (codes "POST") then Some Post
    else (if bytes_eq s (codes "DELETE") then Some Delete else None)))

-- ---- steps

-- what is asked of a value that was read
abbrev pub on : {A B : Type 0} → (A → B) → Result A Refusal → Result B Refusal
on say (Ok x) = Ok (say x)
on say (Err refusal) = Err refusal

-- The query that was read, or the refusal for its fault.
abbrev pub as_query : Result Query QueryFault → Result Query Refusal
as_query (Ok q) = Ok q
as_query (Err fault) = Err (query_refusal fault)

-- the query of a message
abbrev pub query : Message → Result Query Refusal
query m = as_query (query_of m.query)

-- ---- entities

-- What was read, or the refusal that there is no entity so named.
abbrev pub entity_by : {A : Type 0} → Option A → Result A Refusal
entity_by None = Err Entity
entity_by (Some x) = Ok x

-- the number of a unique id
abbrev pub number : Words → Result ℕ Refusal
number uid = entity_by (number_of_uid uid)

-- The reference that was read, or the refusal that there is no entity so named.
abbrev pub entity_named : Result Words RefFault → Result Words Refusal
entity_named (Ok r) = Ok r
entity_named (Err fault) = Err Entity

-- `kind:namespace/name`
abbrev pub full_name : Words → Words → Words → Words
full_name kind namespace name = kind ++ 58 ∷ (namespace ++ 47 ∷ name)

-- the reference of a kind, a namespace and a name
abbrev pub entity : Words → Words → Words → Result Words Refusal
entity kind namespace name = entity_named (parsed (full_name kind namespace name) None (codes "default"))

-- ---- the shelf

-- The only name among these, where it is a shelf name; otherwise the refusal of the name.
abbrev pub name_among : List Words → Result Words Refusal
name_among [] = Err Name
name_among (name ∷ []) = if is_shelf_name name then Ok name else Err Name
name_among (name ∷ other ∷ names) = Err Name

-- the shelf name of a message: its parameter `name`, which stands once
abbrev pub shelf_name : Message → Result Words Refusal
shelf_name m = name_among (values_named (codes "name") (parameters_of m.query))

-- The request that puts a text on the shelf under this name, or the refusal of a body that is no text.
abbrev pub put_text : Words → Option Words → Result Request Refusal
put_text name None = Err Text
put_text name (Some text) = Ok (request.ShelfPut name text)

-- the body is the text, where it is UTF-8
abbrev pub put_by : List ℕ → Result Words Refusal → Result Request Refusal
put_by body (Ok name) = put_text name (utf8_in body)
put_by body (Err refusal) = Err refusal

-- ---- mutations

-- The request for a mutation of this provider, or the refusal that says why the body is none.
abbrev pub mutated : Words → Result Mutation InputFault → Result Request Refusal
mutated provider (Ok m) = Ok (request.Mutate provider m)
mutated provider (Err fault) = Err (input_refusal fault)

-- a provider's name, and the body of its mutation
abbrev pub mutate : Words → Form → Message → Result Request Refusal
mutate provider form m = if is_name provider then mutated provider (mutation_of form m.body) else Err Name

-- ---- changes

-- The place that was read, or the refusal of a text that is no place.
abbrev pub place_by : Option Since → Result (Option Since) Refusal
place_by None = Err Place
place_by (Some since) = Ok (Some since)

-- No place without texts, the place that the only text is, or the refusal of a text that is no place, or of several texts.
abbrev pub place_among : List Words → Result (Option Since) Refusal
place_among [] = Ok None
place_among (text ∷ []) = place_by (since_of text)
place_among (text ∷ other ∷ texts) = Err Place

-- the place from which a message asks for changes, if it says one: its parameter `since`, which stands at most once
abbrev pub place_of : Message → Result (Option Since) Refusal
place_of m = place_among (values_named (codes "since") (parameters_of m.query))

-- ---- requests

-- the method is one that reads, or the path has others
abbrev pub reads : Option Verb → Result (Unit {0}) Refusal
reads (Some Get) = Ok tt
reads (Some Put) = Err (Method Reads)
reads (Some Post) = Err (Method Reads)
reads (Some Delete) = Err (Method Reads)
reads None = Err (Method Reads)

-- the method is POST, or the path has it alone
abbrev pub posts : Option Verb → Result (Unit {0}) Refusal
posts (Some Post) = Ok tt
posts (Some Get) = Err (Method Posts)
posts (Some Put) = Err (Method Posts)
posts (Some Delete) = Err (Method Posts)
posts None = Err (Method Posts)

-- what is asked, where the method is right
abbrev pub with_method : Result (Unit {0}) Refusal → Result Request Refusal → Result Request Refusal
with_method (Ok x) r = r
with_method (Err refusal) r = Err refusal

-- a question of a method that reads
abbrev pub asked_by : Option Verb → Result Ask Refusal → Result Request Refusal
asked_by v a = with_method (reads v) (on request.Ask a)

-- what is asked of a method that posts
abbrev pub posted_by : Option Verb → Result Request Refusal → Result Request Refusal
posted_by v r = with_method (posts v) r

-- a text is put on the shelf, or taken away
abbrev pub shelved_by : Option Verb → Message → Result Request Refusal
shelved_by (Some Put) m = put_by m.body (shelf_name m)
shelved_by (Some Delete) m = on request.ShelfDrop (shelf_name m)
shelved_by (Some Get) m = Err (Method PutsAndDeletes)
shelved_by (Some Post) m = Err (Method PutsAndDeletes)
shelved_by None m = Err (Method PutsAndDeletes)

-- an entity is read or deleted by its unique id
abbrev pub numbered_by : Option Verb → Words → Result Request Refusal
numbered_by (Some Get) uid = on (λ n. request.Ask (ask.Number n)) (number uid)
numbered_by (Some Delete) uid = on request.Forget (number uid)
numbered_by (Some Put) uid = Err (Method ReadsAndDeletes)
numbered_by (Some Post) uid = Err (Method ReadsAndDeletes)
numbered_by None uid = Err (Method ReadsAndDeletes)

-- what a path without pieces asks of the catalogue
abbrev pub question : Fixed → Message → Result Ask Refusal
question fixed.Entities m = on ask.List (query m)
question fixed.ByQuery m = on ask.Page (query m)
question fixed.EntityFacets m = on ask.Facets (query m)
question fixed.ByRefs m = many_of m.body
question fixed.Conflicts m = Ok ask.Conflicts
question fixed.Failed m = Ok ask.Failed
question fixed.Orphans m = Ok ask.Orphans
question fixed.State m = Ok ask.State
question fixed.Refresh m = Err Route
question fixed.Shelf m = Err Route
question fixed.Settle m = Err Route
question fixed.Changes m = Err Route

-- the questions and the changes read, but for that of many references; the commands have methods of their own
abbrev pub fixed_by : Fixed → Option Verb → Message → Result Request Refusal
fixed_by fixed.Shelf v m = shelved_by v m
fixed_by fixed.Settle v m = posted_by v (Ok request.Settle)
fixed_by fixed.Refresh v m = posted_by v (on request.Refresh (reference_of m.body))
fixed_by fixed.ByRefs v m = posted_by v (on request.Ask (question fixed.ByRefs m))
fixed_by fixed.Entities v m = asked_by v (question fixed.Entities m)
fixed_by fixed.ByQuery v m = asked_by v (question fixed.ByQuery m)
fixed_by fixed.EntityFacets v m = asked_by v (question fixed.EntityFacets m)
fixed_by fixed.Conflicts v m = asked_by v (question fixed.Conflicts m)
fixed_by fixed.Failed v m = asked_by v (question fixed.Failed m)
fixed_by fixed.Orphans v m = asked_by v (question fixed.Orphans m)
fixed_by fixed.State v m = asked_by v (question fixed.State m)
fixed_by fixed.Changes v m = with_method (reads v) (on request.Changes (place_of m))

-- What a message asks of a resource by this method, or the first refusal that holds.
abbrev pub resource_asked : Resource → Option Verb → Message → Result Request Refusal
resource_asked (resource.Fixed f) v m = fixed_by f v m
resource_asked (resource.ByUid uid) v m = numbered_by v uid
resource_asked (resource.ByName kind namespace name) v m = asked_by v (on ask.Get (entity kind namespace name))
resource_asked (resource.Mutation provider form) v m = posted_by v (mutate provider form m)
resource_asked (resource.Page file) v m = with_method (reads v) (Ok (request.Page file))

-- What a message asks of the resource that its path names, or the refusal of the path.
abbrev pub requested : Result Resource Refusal → Message → Result Request Refusal
requested (Ok r) m = resource_asked r (verb_of m.method) m
requested (Err refusal) m = Err refusal

-- What a message asks for where it is admitted, and otherwise the refusal of its sender.
abbrev pub admitted : Bool → Message → Result Request Refusal
admitted true m = requested (resource_of m.path) m
admitted false m = Err Origin

-- what a message asks for, or the first refusal that holds
unfoldable pub request_of : Message → Result Request Refusal
request_of m = admitted (is_admitted no_access m) m

-- ---- what holds of every request

-- A provider has a provider's name and a well-formed mutation, and a shelf name is one.
abbrev pub IsReady : Request → Type 0
IsReady (request.Mutate provider m) = IsTrue (is_name provider) × IsWellFormed m
IsReady (request.ShelfPut name text) = IsTrue (is_shelf_name name)
IsReady (request.ShelfDrop name) = IsTrue (is_shelf_name name)
IsReady _ = ⊤
