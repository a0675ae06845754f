use Rattle.std.proofs.Common.{◌≡◌, ◌∷◌, ◌++◌, List, Err, ap, subst, sym, refl, ◌∙◌}
use Rattle.std.specs.Prelude.{IsUtf8}
use Rattle.cat_row_format.specs.Spelled.{IsSpelling}
use Rattle.cat_row_format.specs.declared.row.StoredRow.{StoredRow}
use Rattle.cat_collections.specs.Left.{items_left}
use Rattle.cat_row_reader.specs.Read.{AreRead, AreTextsOf, IsSpelled}
use Rattle.cat_row_reader.proofs.Reading.{all_read, none_read, rest_read, rest_texts}
use Rattle.cat_row_reader.proofs.read.read_rows.Goals as goal

pub loop-entry-init : goal.loop-entry-init
loop-entry-init c =
    let start : items_left c.into_iter-entry-iterator.result ≡ c.args.texts.now = ap items_left c.into_iter-entry-iterator.ensures.into_iter_gives ∙ c.iter-entry-items.ensures in (
      tt,
      tt,
      (λ xs h. subst (λ made. AreRead c.args.texts.now (made ++ xs)) (sym c.new-rows.ensures.items) (subst (λ l. AreRead l xs) start h)),
      (λ xs h. (xs, subst (λ l. AreTextsOf l xs) (sym start) h)),
    )

pub loop-entry-preserved : goal.loop-entry-preserved
loop-entry-preserved c =
    let all = c.args.texts.now in
    let left = items_left c.loop-entry.entry-iterator in
    let e = c.in-Some.entry.now in
    let es = items_left c.next.new.self in
    let step : left ≡ e ∷ es = c.in-Some.ensures.steps in
    let spells : IsSpelled e c.in-Ok.row =
    subst (λ k. IsSpelling c.in-Ok.row e.0.0 k e.1) c.as_str.ensures
    (subst (λ v. IsSpelling c.in-Ok.row e.0.0 c.as_str.result.now v) c.as_str-in-loop-entry.ensures c.in-Ok.ensures.ok) in (
      tt,
      tt,
      (λ xs h. subst (λ made. AreRead all (made ++ xs)) (sym c.in_ok-push-in-Ok.ensures.items) (rest_read all left e es c.loop-entry.rows.items c.in-Ok.row step c.loop-entry.invariant.2 spells xs h)),
      rest_texts all left e es step c.loop-entry.invariant.3,
    )

pub returns-in-Err-BadRow : goal.returns-in-Err-BadRow
returns-in-Err-BadRow c =
    let e = c.in-Some.entry.now in
    let none : (row : StoredRow) → IsSpelled e row → ⊥ = λ row s.
    c.in-Err-BadRow.ensures.bad (ap Err c.in-Err-BadRow.field-0-is) row
    (subst (λ k. IsSpelling row e.0.0 k c.as_str-in-loop-entry.result.now) (sym c.as_str.ensures)
    (subst (λ v. IsSpelling row e.0.0 e.0.1 v) (sym c.as_str-in-loop-entry.ensures) s)) in
    none_read c.args.texts.now (items_left c.loop-entry.entry-iterator) e (items_left c.next.new.self) c.in-Some.ensures.steps c.loop-entry.invariant.3
    (subst IsUtf8 c.as_str-in-loop-entry.ensures c.as_str-in-loop-entry.utf8) none

pub returns : goal.returns
returns c = all_read c.args.texts.now (items_left c.loop-entry.entry-iterator) c.loop-entry.rows.items c.in-None.ensures.steps.0 c.loop-entry.invariant.2
