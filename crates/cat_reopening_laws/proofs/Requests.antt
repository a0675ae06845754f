-- What a message asks for gives what has its form.
use Rattle.std.proofs.Common.{◌≡◌, ℕ, Bool, true, false, List, [], ◌∷◌, Option, None, Some, Result, Ok, Err, IfOk, if◌then◌else◌, refl, subst, codes}
use Rattle.cat_types.specs.Names.{is_name, is_shelf_name}
use Rattle.cat_collections.specs.Table.{Text}
use Rattle.cat_types.specs.declared.input.Mutation.{Mutation}
use Rattle.cat_api.specs.Operations.{Operation, operation}
use Rattle.cat_api.specs.Operations.Operation.{Act, Ask as Asks, Tell, Show}
use Rattle.cat_session_lines.specs.Arguments.{utf8_in}
use Rattle.cat_desk.specs.Deed.{Deed}
use Rattle.cat_desk.specs.Deed.Deed.{Mutate as Mutated, ShelfPut as PutOnShelf}
use Rattle.cat_form_laws.proofs.Bodies.{IsReadMutation, mutation_is_read}
use Rattle.cat_form_laws.proofs.Given.{given_formed}
use Rattle.cat_form_laws.specs.Real.{real_forms}
use Rattle.cat_http.specs.declared.message.Message.{Message}
use Rattle.cat_inputs.specs.Inputs.{mutation_of}
use Rattle.cat_inputs.specs.declared.fault.InputFault.{InputFault}
use Rattle.cat_inputs.specs.declared.form.Form.{Form}
use Rattle.cat_model.specs.Formed.{IsFormedGiven}
use Rattle.cat_query.specs.Query.{parameters_of, values_named}
use Rattle.cat_query.specs.declared.ask.Ask.{Ask}
use Rattle.cat_query.specs.declared.ask.Ask.TheVariants as ask
use Rattle.cat_access.specs.Browser.{is_admitted, no_access}
use Rattle.cat_requests.specs.Bodies.{reference_of}
use Rattle.cat_requests.specs.Paths.{resource_of}
use Rattle.cat_requests.specs.Requests.{admitted, asked_by, entity, fixed_by, mutate, mutated, name_among, number, numbered_by, on, place_of, posted_by, posts, put_by, put_text, question, reads, request_of, requested, resource_asked, shelf_name, shelved_by, verb_of, with_method}
use Rattle.cat_requests.specs.declared.routes.Fixed.{Fixed}
use Rattle.cat_requests.specs.declared.routes.Fixed.TheVariants as fixed
use Rattle.cat_requests.specs.declared.path.Resource.{Resource}
use Rattle.cat_requests.specs.declared.path.Resource.TheVariants as resource
use Rattle.cat_requests.specs.declared.refusal.Refusal.{Refusal}
use Rattle.cat_requests.specs.declared.refusal.Refusal.TheVariants.{Name}
use Rattle.cat_requests.specs.declared.request.Request.{Request}
use Rattle.cat_requests.specs.declared.request.Request.TheVariants as request
use Rattle.cat_requests.specs.declared.request.Verb.{Verb}
use Rattle.cat_requests.specs.declared.request.Verb.TheVariants.{Get, Put, Post, Delete}

-- what a deed gives has its form
abbrev pub IsFormedDeed : Deed → Type 0
IsFormedDeed (Mutated p x) = IsFormedGiven real_forms p x
IsFormedDeed (PutOnShelf name text) = is_shelf_name name ≡ true
IsFormedDeed _ = Unit {0}

-- what an operation gives has its form
abbrev pub IsFormedOperation : Operation → Type 0
IsFormedOperation (Act d k) = IsFormedDeed d
IsFormedOperation (Asks q) = Unit {0}
IsFormedOperation (Tell since) = Unit {0}
IsFormedOperation (Show file) = Unit {0}

-- what a request gives has its form
abbrev pub IsFormedRequest : Request → Type 0
IsFormedRequest r = IsFormedOperation (operation r)

abbrev IsFormedResult : Result Request Refusal → Type 0
IsFormedResult r = IfOk r IsFormedRequest

-- ---- the steps

on_any : {A : Type 0} (say : A → Request) (r : Result A Refusal) → ((a : A) → IsFormedRequest (say a)) → IsFormedResult (on say r)
on_any say (Ok a) h = h a
on_any say (Err refusal) h = tt

with_method_formed : (x : Result (Unit {0}) Refusal) (r : Result Request Refusal) → IsFormedResult r → IsFormedResult (with_method x r)
with_method_formed (Ok x) r h = h
with_method_formed (Err refusal) r h = tt

asked_formed : (v : Option Verb) (a : Result Ask Refusal) → IsFormedResult (asked_by v a)
asked_formed v a = with_method_formed (reads v) (on request.Ask a) (on_any request.Ask a (λ q. tt))

-- ---- the shelf

abbrev IsShelfName : Text → Type 0
IsShelfName name = is_shelf_name name ≡ true

one_formed : (name : Text) (b : Bool) → is_shelf_name name ≡ b → IfOk (if b then Ok name else Err Name) IsShelfName
one_formed name true e = e
one_formed name false e = tt

name_formed : (names : List Text) → IfOk (name_among names) IsShelfName
name_formed [] = tt
name_formed (name ∷ []) = one_formed name (is_shelf_name name) refl
name_formed (name ∷ other ∷ names) = tt

text_formed : (name : Text) (o : Option Text) → IsShelfName name → IsFormedResult (put_text name o)
text_formed name None h = tt
text_formed name (Some text) h = h

put_formed : (body : List ℕ) (r : Result Text Refusal) → IfOk r IsShelfName → IsFormedResult (put_by body r)
put_formed body (Ok name) h = text_formed name (utf8_in body) h
put_formed body (Err refusal) h = tt

shelved_formed : (v : Option Verb) (m : Message) → IsFormedResult (shelved_by v m)
shelved_formed (Some Put) m = put_formed m.body (shelf_name m) (name_formed (values_named (codes "name") (parameters_of m.query)))
shelved_formed (Some Delete) m = on_any request.ShelfDrop (shelf_name m) (λ name. tt)
shelved_formed (Some Get) m = tt
shelved_formed (Some Post) m = tt
shelved_formed None m = tt

-- ---- mutations

mutated_formed : (p : Text) (r : Result Mutation InputFault) → is_name p ≡ true → IfOk r IsReadMutation → IsFormedResult (mutated p r)
mutated_formed p (Ok m) named h = given_formed p m named h.formed h.proper
mutated_formed p (Err fault) named h = tt

mutate_formed : (p : Text) (f : Form) (m : Message) → IsFormedResult (mutate p f m)
mutate_formed p f m = pick (is_name p) refl
  where
    pick : (b : Bool) → is_name p ≡ b → IsFormedResult (if b then mutated p (mutation_of f m.body) else Err Name)
    pick true e = mutated_formed p (mutation_of f m.body) e (mutation_is_read f m.body)
    pick false e = tt

-- ---- requests

numbered_formed : (v : Option Verb) (uid : Text) → IsFormedResult (numbered_by v uid)
numbered_formed (Some Get) uid = on_any (λ n. request.Ask (ask.Number n)) (number uid) (λ n. tt)
numbered_formed (Some Delete) uid = on_any request.Forget (number uid) (λ n. tt)
numbered_formed (Some Put) uid = tt
numbered_formed (Some Post) uid = tt
numbered_formed None uid = tt

posted_formed : (v : Option Verb) (r : Result Request Refusal) → IsFormedResult r → IsFormedResult (posted_by v r)
posted_formed v r h = with_method_formed (posts v) r h

fixed_formed : (f : Fixed) (v : Option Verb) (m : Message) → IsFormedResult (fixed_by f v m)
fixed_formed fixed.Shelf v m = shelved_formed v m
fixed_formed fixed.Settle v m = posted_formed v (Ok request.Settle) tt
fixed_formed fixed.Refresh v m = posted_formed v (on request.Refresh (reference_of m.body)) (on_any request.Refresh (reference_of m.body) (λ r. tt))
fixed_formed fixed.ByRefs v m = posted_formed v (on request.Ask (question fixed.ByRefs m)) (on_any request.Ask (question fixed.ByRefs m) (λ q. tt))
fixed_formed fixed.Entities v m = asked_formed v (question fixed.Entities m)
fixed_formed fixed.ByQuery v m = asked_formed v (question fixed.ByQuery m)
fixed_formed fixed.EntityFacets v m = asked_formed v (question fixed.EntityFacets m)
fixed_formed fixed.Conflicts v m = asked_formed v (question fixed.Conflicts m)
fixed_formed fixed.Failed v m = asked_formed v (question fixed.Failed m)
fixed_formed fixed.Orphans v m = asked_formed v (question fixed.Orphans m)
fixed_formed fixed.State v m = asked_formed v (question fixed.State m)
fixed_formed fixed.Changes v m = with_method_formed (reads v) (on request.Changes (place_of m)) (on_any request.Changes (place_of m) (λ since. tt))

resource_formed : (r : Resource) (v : Option Verb) (m : Message) → IsFormedResult (resource_asked r v m)
resource_formed (resource.Fixed f) v m = fixed_formed f v m
resource_formed (resource.ByUid uid) v m = numbered_formed v uid
resource_formed (resource.ByName kind namespace name) v m = asked_formed v (on ask.Get (entity kind namespace name))
resource_formed (resource.Mutation p f) v m = posted_formed v (mutate p f m) (mutate_formed p f m)
resource_formed (resource.Page file) v m = with_method_formed (reads v) (Ok (request.Page file)) tt

requested_formed : (r : Result Resource Refusal) (m : Message) → IsFormedResult (requested r m)
requested_formed (Ok r) m = resource_formed r (verb_of m.method) m
requested_formed (Err refusal) m = tt

admitted_formed : (t : Bool) (m : Message) → IsFormedResult (admitted t m)
admitted_formed true m = requested_formed (resource_of m.path) m
admitted_formed false m = tt

message_formed : (m : Message) → IsFormedResult (request_of m)
unfolding request_of
message_formed m = admitted_formed (is_admitted no_access m) m

pub request_formed : (m : Message) (r : Request) → request_of m ≡ Ok r → IsFormedRequest r
request_formed m r e = subst IsFormedResult e (message_formed m)
