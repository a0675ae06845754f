-- Changes as a tree.
use Rattle.std.specs.Prelude.{ℕ, List, Option, None, Some, codes, map}
use Rattle.cat_tree.specs.Data.{Data, null, words, list, dict, no_members, member, items_of}
use Rattle.cat_feed.specs.declared.change.Change.{Change}
use Rattle.cat_feed.specs.declared.change.Changes.{Changes}
use Rattle.cat_feed.specs.declared.change.Since.{Since}
use Rattle.cat_feed.specs.Place.{since_text}

-- a place, or null
abbrev pub place_data : Option Since → Data
place_data None = null
place_data (Some since) = words (since_text since)

-- a reference with the document that is set, if one is
abbrev pub set_of : Data → Option Data → Data
set_of r None = dict (member (codes "entityRef") r no_members)
set_of r (Some d) = dict (member (codes "entityRef") r (member (codes "set") d no_members))

-- A change as a tree: its reference, with the document that is set, if one is; its number is not written.
abbrev pub change_data : Change → Data
change_data c = set_of (words c.reference) c.set

-- the changes, and the places that they lead from and to
abbrev pub changes_data : Changes → Data
changes_data c =
    dict (member (codes "changes") (list (items_of (map change_data c.list)))
    (member (codes "from") (place_data c.from)
    (member (codes "to") (words (since_text c.to)) no_members)))
