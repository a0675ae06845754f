use Rattle.std.proofs.Common.{refl}
use Rattle.cat_keeper.specs.declared.keeper.Committed.TheVariants.{Kept}
use Rattle.cat_stored_rows.specs.Stored.{texts_of}
use Rattle.cat_stored_rows.proofs.Needing.{no_changes}
use Rattle.cat_store.proofs.Told.{committed}
use Rattle.cat_store.proofs.store.Store.take_in.Goals as goal

pub returns-in-Kept-clause-told : goal.returns-in-Kept-clause-told
returns-in-Kept-clause-told g c = λ are.
    committed Kept (g.K.Keeper.tables c.args.self.now.place c.args.self.now.keeper) (g.K.Keeper.tables c.args.self.now.place c.commit.new.keeper) c.args.batch.now
    (texts_of c.args.self.now.rows) (texts_of c.args.rows) (c.in-Kept.ensures.tables c.args.self.now.place) c.requires.leads are

pub returns-in-Kept-clause-still : goal.returns-in-Kept-clause-still
returns-in-Kept-clause-still g c = λ same.
    let none = c.in-Kept.ensures.none (no_changes c.args.self.now.rows c.args.rows c.args.batch.now c.requires.needed same) in (refl, none.1)

pub returns-in-Failed-clause-still : goal.returns-in-Failed-clause-still
returns-in-Failed-clause-still g c = λ same. c.in-Failed.ensures.none (no_changes c.args.self.now.rows c.args.rows c.args.batch.now c.requires.needed same)

pub returns-in-NoMemory-clause-still : goal.returns-in-NoMemory-clause-still
returns-in-NoMemory-clause-still g c = λ same. c.in-NoMemory.ensures.none (no_changes c.args.self.now.rows c.args.rows c.args.batch.now c.requires.needed same)
