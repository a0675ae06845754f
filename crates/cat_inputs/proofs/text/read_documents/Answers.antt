use Rattle.std.proofs.Common.{Ok, Err, map, ap, sym, ◌∙◌}
use Rattle.cat_tree.specs.Data.{list, items_of}
use Rattle.cat_tree.specs.View.{data_of}
use Rattle.cat_inputs.proofs.Documents.{documents_ok, documents_err}
use Rattle.cat_inputs.proofs.text.read_documents.Goals as goal

pub returns-in-Ok-clause-ok : goal.returns-in-Ok-clause-ok
returns-in-Ok-clause-ok c =
    documents_ok c.args.bytes.now (map data_of c.in-Ok.documents.items) c.in-Ok.ensures.ok c.in-Ok.ensures.narrow
    ∙ ap (λ ds. Ok (list (items_of ds))) (sym c.from_vec.ensures)

pub returns-in-Err-clause-err : goal.returns-in-Err-clause-err
returns-in-Err-clause-err c = documents_err c.args.bytes.now c.in-Err.fault (λ h. c.in-Err.ensures.syntax (ap Err h)) (λ h. c.in-Err.ensures.fraction (ap Err h))
