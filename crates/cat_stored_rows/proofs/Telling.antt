-- Texts are told as they are.
use Rattle.std.proofs.Common.{◌≡◌, [], ◌∷◌, refl, sym, ap, subst, ◌∙◌}
use Rattle.std.specs.Prelude.{Result, Ok, Err, IfOk}
use Rattle.cat_keeper.specs.Store.{Changes, Rows, applied}
use Rattle.cat_stored_rows.specs.Differing.{AreNeeded}
use Rattle.cat_stored_rows.specs.Walk.{told_all}

pub told_texts : (rows : Rows) → told_all (λ t. t) rows ≡ rows
told_texts [] = refl
told_texts (e ∷ rows) = ap (λ l. e ∷ l) (told_texts rows)

-- what leads from texts as they are told leads from texts
pub leads_texts : {E : Type 0} (old told new : Rows) (r : Result Changes E) → told ≡ new
    → IfOk r (λ b. applied b (told_all (λ t. t) old) ≡ told_all (λ t. t) told) → IfOk r (λ b. applied b old ≡ new)
leads_texts old told new (Ok b) e h = ap (applied b) (sym (told_texts old)) ∙ (h ∙ (told_texts told ∙ e))
leads_texts old told new (Err x) e h = h

-- changes that are needed between texts are needed between equal texts
pub needed_texts : {E : Type 0} (old told new : Rows) (r : Result Changes E) → told ≡ new → IfOk r (λ b. AreNeeded old told b) → IfOk r (λ b. AreNeeded old new b)
needed_texts old told new (Ok b) e h = subst (λ (l : Rows). AreNeeded old l b) e h
needed_texts old told new (Err x) e h = h
