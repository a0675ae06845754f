use Rattle.std.proofs.Common.{◌≡◌, map, ap, ◌∙◌}
use Rattle.std.specs.List.{flat_map}
use Rattle.std.proofs.lemmas.Result.{on_ok_weaker}
use Rattle.cat_stored_rows.specs.Stored.{emitted, given_in, orphan_row, provider_row, put_rows, record_in, shelf_row}
use Rattle.cat_stored_rows.proofs.Putting.{put_five}
use Rattle.cat_stored_rows.proofs.stored.put_kept.Goals as goal

pub returns : goal.returns
returns c =
    let m = c.args.m.now in
    let given = given_in c.args.version in
    let m1 = c.put_providers.new.made in
    let m2 = c.put_all_given.new.made in
    let m3 = c.put_shelf.new.made in
    let m4 = c.put_records.new.made in
    let m5 = c.put_orphans.new.made in
    let arrivals : c.in_ok-arrivals.arrivals ≡ emitted m.rows = c.in_ok-arrivals.ensures in
    let e1 : m1 ≡ put_rows (map provider_row m.providers) c.args.made.now =
    c.in_ok-put_providers.ensures in
    let e2 : m2 ≡ put_rows (flat_map given m.rows) m1 =
    c.in_ok-put_all_given.ensures in
    let e3 : m3 ≡ put_rows (map shelf_row m.shelf) m2 =
    c.in_ok-put_shelf.ensures in
    let e4 : m4 ≡ put_rows (map (record_in c.args.version m.holders (emitted m.rows)) m.records) m3 =
    c.in_ok-put_records.ensures ∙ ap (λ a. put_rows (map (record_in c.args.version m.holders a) m.records) m3) arrivals in
    on_ok_weaker c.put_orphans.result
    (λ e. put_five (map provider_row m.providers) (flat_map given m.rows) (map shelf_row m.shelf)
    (map (record_in c.args.version m.holders (emitted m.rows)) m.records) (map orphan_row m.orphans) c.args.made.now m1 m2 m3 m4 m5
    e1 e2 e3 e4 e)
    c.put_orphans.ensures
