-- Questions that are answered from the documents alone.
use Rattle.std.specs.Prelude.{ℕ, List, Bool, true, false}
use Rattle.std.specs.declared.result.Result.{Result}
use Rattle.std.specs.declared.result.Result.TheVariants.{Ok, Err}
use Rattle.cat_query.specs.Answers.{facets_answer, list_data, many_data, page_data}
use Rattle.cat_pages.specs.Page.{Pair}
use Rattle.cat_query.specs.declared.ask.Ask.{Ask}
use Rattle.cat_query.specs.declared.ask.Ask.TheVariants as ask
use Rattle.cat_replies.specs.Asks.{AskFault, text_or}
use Rattle.cat_replies.specs.Asks.AskFault.{not_found, no_facet}
use Rattle.cat_collections.specs.Table.{get}
use Rattle.cat_tree.specs.Text.{text_of}

-- whether a question asks for documents alone
abbrev pub is_shown : Ask → Bool
is_shown (ask.Get reference) = true
is_shown (ask.Number number) = false
is_shown (ask.List query) = true
is_shown (ask.Page query) = true
is_shown (ask.Facets query) = true
is_shown (ask.Many references fields) = true
is_shown ask.Conflicts = false
is_shown ask.Failed = false
is_shown ask.Orphans = false
is_shown ask.State = false
is_shown ask.Quiet = false

-- its answer, as a text without LF; other questions have none here
abbrev pub shown_text : Ask → List Pair → Result (List ℕ) AskFault
shown_text (ask.Get reference) ds = text_or not_found (get ds reference)
shown_text (ask.Number number) ds = Err not_found
shown_text (ask.List query) ds = Ok (text_of (list_data query ds))
shown_text (ask.Page query) ds = Ok (text_of (page_data query ds))
shown_text (ask.Facets query) ds = text_or no_facet (facets_answer query ds)
shown_text (ask.Many references fields) ds = Ok (text_of (many_data references fields ds))
shown_text ask.Conflicts ds = Err not_found
shown_text ask.Failed ds = Err not_found
shown_text ask.Orphans ds = Err not_found
shown_text ask.State ds = Err not_found
shown_text ask.Quiet ds = Err not_found
