-- The order of texts.
use Rattle.std.specs.Prelude.{ℕ, List}
use Rattle.std.specs.declared.cmp.Ordering.{Ordering}
use Rattle.std.specs.Ordering.{nat_cmp}
use Rattle.std.specs.Cmp.{IsTotalOrder}
use Rattle.std.specs.Cmp.Lexicographic.{slice_cmp, nat_list_cmp_total}
use Rattle.std.specs.FinMap.{IsAntisymmetric, nat_cmp-IsAntisymmetric, slice_cmp-IsAntisymmetric}

-- a text is the list of its bytes
abbrev pub Text : Type 0
Text = List ℕ

-- texts are ordered by their bytes
abbrev pub text_cmp : Text → Text → Ordering
text_cmp = slice_cmp nat_cmp

pub text_total : IsTotalOrder text_cmp
text_total = nat_list_cmp_total

pub text_antisymmetric : IsAntisymmetric text_cmp
text_antisymmetric = slice_cmp-IsAntisymmetric nat_cmp-IsAntisymmetric
