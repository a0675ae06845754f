-- A candidate whose state is in a box, as a candidate.
use Rattle.cat_row_reader.specs.declared.types.Candidate.{Candidate}
use Rattle.cat_store.specs.declared.open.BoxedCandidate.{BoxedCandidate}

-- the same, out of its box
abbrev pub unboxed : BoxedCandidate → Candidate
unboxed c = record { rule = c.rule; state = c.state.value }
