-- What the code has of rows and trees, as the definitions see it.
use Rattle.std.specs.Prelude.{List, map, Vec}
use Rattle.std.specs.Borrow.{Bor}
use Rattle.std.specs.declared.alloc.Global.{Global}
use Rattle.cat_tree.specs.Data.{Data}
use Rattle.cat_tree.specs.View.{data_of}
use Rattle.cat_tree.specs.declared.tree.Tree.{Tree}
use Rattle.cat_model.specs.declared.types.Row.{Row}
use Rattle.cat_model.specs.Reply.{RowPlace}
use Rattle.cat_model.specs.Reply as model
use Rattle.cat_replies.specs.declared.conflicts.Conflict.{Conflict}
use Rattle.cat_replies.specs.declared.conflicts.Place.{Place}
use Rattle.cat_replies.specs.Places.{place_of}

-- the rows of a conflict
abbrev pub conflict : Conflict → model.Conflict
conflict c = record { holder = c.holder.now; waiting = c.waiting.now }

-- a row at its place
abbrev pub waiting : Place × Bor Row → RowPlace × Row
waiting e = (place_of e.0, e.1.now)

-- the data of trees
abbrev pub trees : Vec Tree Global → List Data
trees v = map data_of v.items
