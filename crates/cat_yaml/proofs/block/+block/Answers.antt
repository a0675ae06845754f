use Rattle.std.proofs.Common.{◌-◌, map, inl, sym, ◌∙◌, arith}
use Rattle.cat_yaml.specs.SeenLine.{seen_line}
use Rattle.cat_yaml.proofs.Nodes.{no_list, is_list, no_map, is_map, is_alone}
use Rattle.cat_yaml.proofs.block.+block.Goals as goal

pub block-returns-then-levels-eq0-clause-err : goal.block-returns-then-levels-eq0-clause-err
block-returns-then-levels-eq0-clause-err t c =
    inl (no_list _ (seen_line c.args.line.now) (map seen_line c.args.below.now) c.if-levels-eq0.true (sym c.is_item.ensures ∙ c.if-is_item.true))

pub block-returns-then-is_item : goal.block-returns-then-is_item
block-returns-then-is_item t c =
    let e = is_list c.args.levels (c.args.levels - 1) (seen_line c.args.line.now) (map seen_line c.args.below.now) (omega arith) (sym c.is_item.ensures ∙ c.if-is_item.true) in
    record { ok = rw e c.list_node.ensures.ok; err = rw e c.list_node.ensures.err }

pub block-returns-then-levels-eq0-2-clause-err : goal.block-returns-then-levels-eq0-2-clause-err
block-returns-then-levels-eq0-2-clause-err t c =
    inl (no_map _ (seen_line c.args.line.now) (map seen_line c.args.below.now) c.if-levels-eq0-2.true (sym c.is_item.ensures ∙ c.if-is_item.false) (sym c.has_key.ensures ∙ c.if-has_key.true))

pub block-returns-then-has_key : goal.block-returns-then-has_key
block-returns-then-has_key t c =
    let e = is_map c.args.levels (c.args.levels - 1) (seen_line c.args.line.now) (map seen_line c.args.below.now) (omega arith) (sym c.is_item.ensures ∙ c.if-is_item.false) (sym c.has_key.ensures ∙ c.if-has_key.true) in
    record { ok = rw e c.map_node.ensures.ok; err = rw e c.map_node.ensures.err }

pub block-returns : goal.block-returns
block-returns t c =
    let e = is_alone c.args.levels (seen_line c.args.line.now) (map seen_line c.args.below.now) (sym c.is_item.ensures ∙ c.if-is_item.false) (sym c.has_key.ensures ∙ c.if-has_key.false) in
    record { ok = rw e c.alone.ensures.ok; err = rw e c.alone.ensures.err }
