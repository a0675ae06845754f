-- What a request asks of a desk.
use Rattle.std.specs.declared.option.Option.{Option}
use Rattle.cat_desk.specs.Deed.{Deed, deed}
use Rattle.cat_desk.specs.Deed.Deed.{Mutate as Mutated, ShelfPut as PutOnShelf, ShelfDrop as DroppedFromShelf, Refresh as Refreshed, ForgetNumber as NumberForgotten, Settle as Settles}
use Rattle.cat_feed.specs.declared.change.Since.{Since}
use Rattle.cat_model.specs.Given.{given}
use Rattle.cat_model.specs.declared.types.Order.{Order}
use Rattle.cat_model.specs.declared.types.StitchOrder.{StitchOrder}
use Rattle.cat_page.specs.declared.file.File.{File}
use Rattle.cat_query.specs.declared.ask.Ask.{Ask as Question}
use Rattle.cat_requests.specs.declared.request.Request.{Request}
use Rattle.cat_requests.specs.declared.request.Request.TheVariants as request
use Rattle.cat_api.specs.declared.kind.Kind.{Kind}
use Rattle.cat_api.specs.declared.kind.Kind.TheVariants.{Mutation, Shelving, Refreshing, Forgetting, Settling}
use Rattle.cat_api.specs.declared.task.Task.{Task}
use Rattle.cat_api.specs.declared.task.Task.TheVariants as task

-- a deed of some kind, a question, an ask for the changes since a place, or for a file of the page
pub data Operation : Type 0 where
  Act : Deed → Kind → Operation
  Ask : Question → Operation
  Tell : Option Since → Operation
  Show : File → Operation

-- what a request asks of a desk; a mutation acts with the keys of its items filled in
abbrev pub operation : Request → Operation
operation (request.Mutate provider x) = Act (Mutated provider (given provider x)) Mutation
operation (request.ShelfPut name text) = Act (PutOnShelf name text) Shelving
operation (request.ShelfDrop name) = Act (DroppedFromShelf name) Shelving
operation (request.Refresh reference) = Act (Refreshed reference) Refreshing
operation (request.Forget number) = Act (NumberForgotten number) Forgetting
operation request.Settle = Act Settles Settling
operation (request.Ask question) = Ask question
operation (request.Changes since) = Tell since
operation (request.Page file) = Show file

-- what a task does, given the orders of results and of documents
abbrev pub done_by : {F S : Type 0} → (F → Order) → (S → StitchOrder) → Task F S → Operation
done_by order stitch_order (task.Act command kind) = Act (deed order stitch_order command) kind
done_by order stitch_order (task.Ask question) = Ask question
done_by order stitch_order (task.Tell since) = Tell since
done_by order stitch_order (task.Show file) = Show file
