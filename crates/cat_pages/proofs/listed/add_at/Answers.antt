use Rattle.std.proofs.Common.{◌≡◌, ◌++◌, ap, map, subst, sym, take, ◌∙◌}
use Rattle.std.specs.Prelude.{IfSome}
use Rattle.std.proofs.lemmas.List.{append-nil}
use Rattle.cat_pages.specs.Seen.{ranked_seen}
use Rattle.cat_pages.specs.Walked.{at_entry, candidates, key_of}
use Rattle.cat_pages.proofs.Walks.{entry_listed}
use Rattle.cat_search.proofs.Finds.{after_ok}
use Rattle.cat_pages.proofs.listed.add_at.Goals as goal

pub add_under-requires-clause-listed : goal.add_under-requires-clause-listed
add_under-requires-clause-listed c = entry_listed c.args.docs.now c.args.lists.now c.args.place c.in-Some.entry.now c.requires.listed c.in_order.ensures (sym c.in-Some.ensures)

pub add_under-requires-clause-key : goal.add_under-requires-clause-key
add_under-requires-clause-key c = subst (λ o. IfSome o (λ e. e.0.0 ≡ key_of c.args.query.now.order)) (sym c.in-Some.ensures) c.requires.key

pub returns-in-Some : goal.returns-in-Some
returns-in-Some c =
    after_ok c.add_under.result _ _
    (λ e. e ∙ ap (λ o. take c.args.most (map ranked_seen c.args.found.now.items ++ at_entry o (candidates c.args.query.now c.args.docs.now))) c.in-Some.ensures)
    c.add_under.ensures

pub returns-in-None : goal.returns-in-None
returns-in-None c =
    ap (take c.args.most) (sym (append-nil (map ranked_seen c.args.found.now.items)))
    ∙ ap (λ o. take c.args.most (map ranked_seen c.args.found.now.items ++ at_entry o (candidates c.args.query.now c.args.docs.now))) c.in-None.ensures
