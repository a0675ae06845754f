-- What a query of the code asks for.
use Rattle.cat_query.specs.Query.{Asked}
use Rattle.cat_pages.specs.declared.query.Query.{Query}

-- all but the cursor
abbrev pub asked : Query → Asked
asked q = record { filters = q.filters; fields = q.fields; facets = q.facets; order = q.order; limit = q.limit }
