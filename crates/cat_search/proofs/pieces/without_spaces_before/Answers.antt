use Rattle.std.proofs.Common.{lit<, sym, ◌∙◌}
use Rattle.std.specs.Prelude.{None}
use Rattle.std.proofs.lemmas.Str.Pattern.{strip_prefix_char}
use Rattle.cat_search.proofs.Cuts.{unspaced_same}
use Rattle.cat_search.proofs.pieces.without_spaces_before.Goals as goal

pub returns-in-None : goal.returns-in-None
returns-in-None c =
    sym (unspaced_same c.loop-rest.left.now (strip_prefix_char 32 c.loop-rest.left.now None c.in-None.ensures.cases (lit< tt))) ∙ c.loop-rest.invariant.1
