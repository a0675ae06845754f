-- The list of all documents is that of a question for them.
use Rattle.std.proofs.Common.{◌≡◌, [], ◌∷◌, ◌++◌, refl, sym, ap, ◌∙◌}
use Rattle.cat_feed.specs.Changes.{Documents}
use Rattle.cat_mirror.specs.Answers.{documents_line}
use Rattle.cat_query.specs.Answers.{list_data, shown}
use Rattle.cat_pages.specs.Page.{matching}
use Rattle.cat_pages.specs.declared.query.Query.{Query}
use Rattle.cat_tree.specs.Data.{items_of, list}
use Rattle.cat_tree.specs.Text.{text_of}

all_match : (ds : Documents) → matching [] ds ≡ ds
all_match [] = refl
all_match (d ∷ ds) = ap (λ l. d ∷ l) (all_match ds)

pub lists_as_asked : (query : Query) (ds : Documents) → query.filters ≡ [] → query.fields ≡ [] → documents_line ds ≡ text_of (list_data query ds) ++ 10 ∷ []
unfolding documents_line
lists_as_asked query ds filters fields =
    ap (λ l. text_of (list (items_of (shown [] l))) ++ 10 ∷ []) (sym (all_match ds))
    ∙ ap (λ fs. text_of (list (items_of (shown [] (matching fs ds)))) ++ 10 ∷ []) (sym filters)
    ∙ ap (λ ps. text_of (list (items_of (shown ps (matching query.filters ds)))) ++ 10 ∷ []) (sym fields)
