use Rattle.std.proofs.Common.{◌++◌, ap, ◌∙◌, map}
use Rattle.cat_replies.specs.Line.{line}
use Rattle.cat_replies.specs.Piece.{piece_text}
use Rattle.cat_sample.specs.Summary.{counted_texts, owned_texts, relation_count, summary}
use Rattle.cat_sample.proofs.summary.summary.Goals as goal

pub returns : goal.returns
unfolding summary
returns c =
    c.in_ok-push_line.ensures.appends.ok
    ∙ (ap (λ x. x ++ line (map piece_text c.as_slice.result.now)) c.new-out.ensures.items
    ∙ (ap (λ x. line (map piece_text x)) c.as_slice.ensures.value
    ∙ ap line
    (c.in_ok-push_owned.ensures
    ∙ (ap (λ x. x ++ owned_texts c.args.documents.now 0 10) c.in_ok-pieces.ensures
    ∙ (ap (λ r. counted_texts c.args.count c.args.settled c.len.result r ++ owned_texts c.args.documents.now 0 10) c.relation_count-relations.ensures
    ∙ ap (λ n. counted_texts c.args.count c.args.settled n (relation_count c.args.documents.now) ++ owned_texts c.args.documents.now 0 10) c.len.ensures.entries)))))
