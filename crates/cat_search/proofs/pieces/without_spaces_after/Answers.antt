use Rattle.std.proofs.Common.{lit<, ap, sym, ◌∙◌}
use Rattle.std.specs.Prelude.{None, reverse}
use Rattle.std.proofs.lemmas.Str.Pattern.{strip_suffix_char}
use Rattle.cat_search.proofs.Cuts.{unspaced_end}
use Rattle.cat_search.proofs.pieces.without_spaces_after.Goals as goal

pub returns-in-None : goal.returns-in-None
returns-in-None c =
    sym (unspaced_end c.loop-rest.left.now (strip_suffix_char 32 c.loop-rest.left.now None c.in-None.ensures.cases (lit< tt))) ∙ ap reverse c.loop-rest.invariant.1
