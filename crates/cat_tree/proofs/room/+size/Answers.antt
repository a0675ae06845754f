use Rattle.std.proofs.Common.{◌≡◌, ◌^◌, min, length, ap, sym, ◌∙◌, rules}
use Rattle.std.specs.Fmt.{signed_decimal}
use Rattle.cat_tree.specs.Text.{text_of}
use Rattle.cat_tree.specs.View.{data_of}
use Rattle.cat_tree.proofs.Sizes.{whole_size}
use Rattle.cat_tree.proofs.room.+size.Goals as goal

pub returns-in-Whole : goal.returns-in-Whole
returns-in-Whole t c =
    let size : c.number_size.result ≡ length (signed_decimal c.in-Whole.z) = search rules in
    whole_size c.in-Whole.z c.number_size.result size c.number_size.ensures.most ∙ ap (λ u. min (length (text_of (data_of u))) (2 ^ 62)) (sym c.in-Whole.is)
