-- What the code's lent documents stand for.
use Rattle.cat_tree.specs.View.{data_of}
use Rattle.cat_pages.specs.Page.{Pair, Place, Ranked as Rank}
use Rattle.cat_pages.specs.declared.rank.Ranked.{Ranked}

-- the document with its value
abbrev pub ranked_seen : Ranked → Rank
ranked_seen r = (r.value, (r.reference.now, data_of r.document.now))

-- its place
abbrev pub place_seen : Ranked → Place
place_seen r = (r.value, r.reference.now)

-- its reference with the document
abbrev pub pair_of : Ranked → Pair
pair_of r = (r.reference.now, data_of r.document.now)
