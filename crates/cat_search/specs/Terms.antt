-- What documents are listed under, in lower case, and what a condition asks for among it.
pub use Rattle.cat_state_parts.specs.Terms.{Term, behind, term, row_terms, terms, document_terms}
use Rattle.cat_search.specs.declared.condition.Condition.{Condition}

-- the term of a condition
abbrev pub condition_term : Condition → Term
condition_term c = term c.key c.value
