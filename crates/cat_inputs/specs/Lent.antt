-- The body that the code lends from a tree.
use Rattle.std.specs.Prelude.{map}
use Rattle.std.specs.Option.{option_copied}
use Rattle.cat_tree.specs.View.{data_of}
use Rattle.cat_inputs.specs.Body as spec
use Rattle.cat_inputs.specs.declared.body.Body.{Body}
use Rattle.cat_inputs.specs.declared.body.Entry.{Entry}

-- the item that was read, its tree and key by value
abbrev pub entry_of : Entry → spec.Entry
entry_of e = record { entity = data_of e.entity.now; key = option_copied e.key }

-- the body that was read, its items and texts by value
abbrev pub body_of : Body → spec.Body
body_of b = record { serial = b.serial; entries = map entry_of b.entries.items; removed = map (λ t. t.now) b.removed.items }
