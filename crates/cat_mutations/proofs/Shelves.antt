-- Shelves of which one has a text more or less.
use Rattle.std.proofs.Common.{◌≡◌, false, cond, refl, sym, ap, ◌∙◌}
use Rattle.std.specs.declared.option.Option.{Option}
use Rattle.std.specs.declared.option.Option.TheVariants.{None, Some}
use Rattle.std.specs.Option.{option_and_then}
use Rattle.std.specs.Cmp.{eq_by_cmp_equiv}
use Rattle.cat_collections.specs.Table.{Text, get, put, same_text, text_cmp}
use Rattle.cat_collections.proofs.Tables.{find-over, find-put_other, text_antisymmetric, text_total}
use Rattle.cat_model.specs.Catalogue.{Shelf}
use Rattle.cat_model.specs.Step.{without_key}
use Rattle.cat_events.specs.Shelf.{DifferAt}

pub put_differs : (name text : Text) (shelf : Shelf) → DifferAt name shelf (put text_cmp name text shelf)
put_differs name text shelf t n = sym (find-put_other text_total text_antisymmetric t name text shelf n)

pub drop_differs : (name : Text) (shelf : Shelf) → DifferAt name shelf (without_key name shelf)
drop_differs name shelf t n =
    let e = eq_by_cmp_equiv text_total in
    sym (find-over text_total text_antisymmetric t shelf (λ q x. cond (same_text name q) None (Some x))
    ∙ (ap (λ b. option_and_then (λ x. cond b None (Some x)) (get shelf t)) (e.symm name t ∙ n) ∙ kept (get shelf t)))
  where
    kept : (v : Option Text) → option_and_then (λ x. cond {A = Option Text} false None (Some x)) v ≡ v
    kept None = refl
    kept (Some x) = refl
