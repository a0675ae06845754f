use Rattle.std.proofs.Common.{◌∙◌}
use Rattle.cat_collections.proofs.Tables.{text_antisymmetric, text_total}
use Rattle.cat_model.specs.Reply.{is_leased}
use Rattle.cat_model.specs.Settle.{is_due}
use Rattle.cat_settle.proofs.Held.{count_in_order}
use Rattle.cat_core.proofs.questions.counts_of.Goals as goal

pub returns : goal.returns
returns c =
    let due = c.count_due.ensures ∙ count_in_order text_total text_antisymmetric (is_due c.args.now) c.args.m.now.records c.requires in
    let leased = c.count_leased.ensures ∙ count_in_order text_total text_antisymmetric (is_leased c.args.now) c.args.m.now.records c.requires in
    λ i. record { records = c.len.ensures.records i; orphans = c.len-2.ensures.entries i; due = due i; leased = leased i; marked = c.len-3.ensures i }
