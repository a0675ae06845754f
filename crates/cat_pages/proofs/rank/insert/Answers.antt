use Rattle.cat_pages.proofs.Ordered.{put_in}
use Rattle.cat_pages.proofs.rank.insert.Goals as goal

pub returns : goal.returns
returns c =
    put_in c.args.falls c.args.most c.args.document c.args.kept.now.items c.insert.new.self.items c.truncate.new.self.items c.as_slice.result.now c.place_among-place.result
    c.as_slice.ensures.value c.place_among-place.ensures.put c.in_ok-insert.ensures.items c.truncate.ensures.items
