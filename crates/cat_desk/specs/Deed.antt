-- What a command does.
use Rattle.std.specs.Prelude.{ℕ}
use Rattle.cat_collections.specs.Table.{Text}
use Rattle.cat_events.specs.declared.done.Done.{Done}
use Rattle.cat_events.specs.declared.done.Stitched.{Stitched}
use Rattle.cat_plan.specs.declared.layers.Layers.{Ghosts}
use Rattle.cat_model.specs.Catalogue.{Ref}
use Rattle.cat_model.specs.Given.{given}
use Rattle.cat_model.specs.declared.types.Given.{Given}
use Rattle.cat_model.specs.declared.types.Order.{Order}
use Rattle.cat_model.specs.declared.types.StitchOrder.{StitchOrder}
use Rattle.cat_desk.specs.declared.command.Command.{Command}
use Rattle.cat_desk.specs.declared.command.Command.TheVariants as commands

-- what may be done to a catalogue at a moment: an event, the next stitch order, or a settle
pub data Deed : Type 0 where
  Mutate : Text → Given → Deed
  ShelfPut : Text → Text → Deed
  ShelfDrop : Text → Deed
  Refresh : Ref → Deed
  Forget : Ref → Deed
  ForgetNumber : ℕ → Deed
  Take : Deed
  Finish : Order → Deed
  TakeStitch : ℕ → Deed
  PutStitch : StitchOrder → Deed
  Settle : Deed

-- What a command does, given the orders of results and of documents. A mutation acts with the keys of its items filled in, and
-- of what was worked its order counts, since its type keeps that it is what is worked of that order.
abbrev pub deed : {F S : Type 0} → (F → Order) → (S → StitchOrder) → Command F S → Deed
deed order stitch_order (commands.Mutate provider mutation) = Mutate provider (given provider mutation)
deed order stitch_order (commands.ShelfPut name text) = ShelfPut name text
deed order stitch_order (commands.ShelfDrop name) = ShelfDrop name
deed order stitch_order (commands.Refresh r) = Refresh r
deed order stitch_order (commands.Forget r) = Forget r
deed order stitch_order (commands.ForgetNumber number) = ForgetNumber number
deed order stitch_order commands.Take = Take
deed order stitch_order (commands.Finish done) = Finish (order done)
deed order stitch_order (commands.TakeStitch after) = TakeStitch after
deed order stitch_order (commands.PutStitch stitched) = PutStitch (stitch_order stitched)
deed order stitch_order commands.Settle = Settle

-- what a command does, where results and documents are of the catalogue's own types
abbrev pub deed_of : {X : Type 0} {layers : Ghosts X} → Command (Done X layers) (Stitched X layers) → Deed
deed_of command = deed (λ done. done.order.now) (λ stitched. stitched.order.now) command
