-- What a page of the code lends.
use Rattle.std.specs.Prelude.{List, map}
use Rattle.cat_pages.specs.Page.{Pair}
use Rattle.cat_pages.specs.Seen.{pair_of}
use Rattle.cat_pages.specs.declared.page.Page.{Page as Lent}

-- the documents of a page
abbrev pub items_seen : Lent → List Pair
items_seen p = map pair_of p.items.items
