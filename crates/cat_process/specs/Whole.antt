-- Whether each target text that stands in a Location is read.
use Rattle.std.specs.Prelude.{◌≡◌, ◌+◌, length, codes}
use Rattle.cat_tree.specs.Data.{Data}
use Rattle.cat_kinds.specs.Whole.{field_count}
use Rattle.cat_target.specs.Location.{grandchild_of, target_texts}

-- there are as many target texts as `spec.target` and `spec.targets` stand for
abbrev pub ReadsEachTarget : Data → Type 0
ReadsEachTarget d =
    length (target_texts d)
    ≡ field_count (grandchild_of (codes "spec") (codes "target") d) + field_count (grandchild_of (codes "spec") (codes "targets") d)
