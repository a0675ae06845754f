use Rattle.std.proofs.Common.{refl, ap}
use Rattle.cat_desk.specs.Deed.{deed_of}
use Rattle.cat_desk.specs.declared.command.Reply.TheVariants as replies
use Rattle.cat_desk.proofs.Acting.{acts, lacking, old_needs, other, settles}
use Rattle.cat_desk.proofs.timed.act.Goals as goal

pub returns-in-Mutate : goal.returns-in-Mutate
returns-in-Mutate g c =
    acts g.L.Layers.rules c.args.now c.args.catalogue.now c.mutate.new.self c.mutate.ensures.settings replies.Mutated _ _ _ _ (ap deed_of c.in-Mutate.is) (record { does = refl; tells = refl }) c.mutate.result c.mutate.ensures.state c.mutate.ensures.reply (old_needs _ _ _ c.mutate.ensures.again c.mutate.ensures.old) c.mutated.result c.mutated.ensures

pub returns-in-ShelfPut : goal.returns-in-ShelfPut
returns-in-ShelfPut g c =
    acts g.L.Layers.rules c.args.now c.args.catalogue.now c.shelf_put.new.self c.shelf_put.ensures.settings (λ _. replies.Changed) _ _ _ _ (ap deed_of c.in-ShelfPut.is) (record { does = refl; tells = refl }) c.shelf_put.result c.shelf_put.ensures.state c.shelf_put.ensures.reply (λ lacks none. none) c.changed.result c.changed.ensures

pub returns-in-ShelfDrop : goal.returns-in-ShelfDrop
returns-in-ShelfDrop g c =
    acts g.L.Layers.rules c.args.now c.args.catalogue.now c.shelf_drop.new.self c.shelf_drop.ensures.settings (λ _. replies.Changed) _ _ _ _ (ap deed_of c.in-ShelfDrop.is) (record { does = refl; tells = refl }) c.shelf_drop.result c.shelf_drop.ensures.state c.shelf_drop.ensures.reply (other _ _ _ (λ lacks. lacks) c.shelf_drop.ensures.not_found) c.changed-in-ShelfDrop.result c.changed-in-ShelfDrop.ensures

pub returns-in-Refresh : goal.returns-in-Refresh
returns-in-Refresh g c =
    acts g.L.Layers.rules c.args.now c.args.catalogue.now c.refresh.new.self c.refresh.ensures.settings (λ _. replies.Changed) _ _ _ _ (ap deed_of c.in-Refresh.is) (record { does = refl; tells = refl }) c.refresh.result c.refresh.ensures.state c.refresh.ensures.reply (λ lacks none. c.refresh.ensures.memory (lacking _ lacks)) c.changed-in-Refresh.result c.changed-in-Refresh.ensures

pub returns-in-Forget : goal.returns-in-Forget
returns-in-Forget g c =
    acts g.L.Layers.rules c.args.now c.args.catalogue.now c.forget.new.self c.forget.ensures.settings (λ _. replies.Changed) _ _ _ _ (ap deed_of c.in-Forget.is) (record { does = refl; tells = refl }) c.forget.result c.forget.ensures.state c.forget.ensures.reply (other _ _ _ (λ lacks. lacks) c.forget.ensures.not_found) c.changed-in-Forget.result c.changed-in-Forget.ensures

pub returns-in-ForgetNumber : goal.returns-in-ForgetNumber
returns-in-ForgetNumber g c =
    acts g.L.Layers.rules c.args.now c.args.catalogue.now c.forget_number.new.self c.forget_number.ensures.settings (λ _. replies.Changed) _ _ _ _ (ap deed_of c.in-ForgetNumber.is) (record { does = refl; tells = refl }) c.forget_number.result c.forget_number.ensures.state c.forget_number.ensures.reply (other _ _ _ (λ lacks. lacks) c.forget_number.ensures.not_found) c.changed-in-ForgetNumber.result c.changed-in-ForgetNumber.ensures

pub returns-in-Take : goal.returns-in-Take
returns-in-Take g c =
    acts g.L.Layers.rules c.args.now c.args.catalogue.now c.take.new.self c.take.ensures.settings replies.Taken _ _ _ _ (ap deed_of c.in-Take.is) (record { does = refl; tells = refl }) c.take.result c.take.ensures.state c.take.ensures.reply (λ lacks none. none) c.taken.result c.taken.ensures

pub returns-in-Finish : goal.returns-in-Finish
returns-in-Finish g c =
    acts g.L.Layers.rules c.args.now c.args.catalogue.now c.finish.new.self c.finish.ensures.settings replies.Finished _ _ _ _ (ap deed_of c.in-Finish.is) (record { does = refl; tells = refl }) c.finish.result c.finish.ensures.state c.finish.ensures.reply (λ lacks none. none) c.finished.result c.finished.ensures

pub returns-in-PutStitch : goal.returns-in-PutStitch
returns-in-PutStitch g c =
    acts g.L.Layers.rules c.args.now c.args.catalogue.now c.put_stitch.new.self c.put_stitch.ensures.settings replies.Placed _ _ _ _ (ap deed_of c.in-PutStitch.is) (record { does = refl; tells = refl }) c.put_stitch.result c.put_stitch.ensures.state c.put_stitch.ensures.reply (λ lacks none. none) c.placed.result c.placed.ensures

pub returns-in-Settle : goal.returns-in-Settle
returns-in-Settle g c =
    settles g.L.Layers.rules c.args.now c.args.catalogue.now c.settle.new.self c.settle.ensures.settings _ (ap deed_of c.in-Settle.is) c.settle.result c.settle.ensures.state c.settle.ensures.counts c.settle.ensures.ended c.settle.ensures.cut c.settled.result c.settled.ensures
