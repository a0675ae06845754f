-- Runs of a machine, one after another.
use Rattle.std.proofs.Common.{ℕ, List, [], ◌∷◌, ◌++◌, refl, sym, ◌∙◌, ap, subst, append_assoc}
use Rattle.std.proofs.lemmas.List.{append-nil}
use Rattle.cat_connection.specs.Items.{Item}
use Rattle.cat_connection.specs.Runs.{Answering, Lacking, AnswersItem, AnswersItems}

module _ {A : Type 0} (answers : Answering A) (lacks : Lacking A) where
  pub items_none : (a : A) → AnswersItems answers lacks a [] a []
  items_none a = (refl, refl)

  pub items_one : (a new : A) (x : Item) (text : List ℕ) → AnswersItem answers lacks a x new text → AnswersItems answers lacks a (x ∷ []) new text
  items_one a new x text h = (new, text, [], h, (refl, refl), sym (append-nil text))

  pub items_then : (a mid new : A) (xs ys : List Item) (out out' : List ℕ) → AnswersItems answers lacks a xs mid out → AnswersItems answers lacks mid ys new out' → AnswersItems answers lacks a (xs ++ ys) new (out ++ out')
  items_then a mid new [] ys out out' p q =
      let here : AnswersItems answers lacks a ys new out' = subst (λ k. AnswersItems answers lacks k ys new out') p.1 q in
      subst (λ l. AnswersItems answers lacks a ys new (l ++ out')) (sym p.0) here
  items_then a mid new (x ∷ xs) ys out out' p q =
      (p.0, p.1, p.2 ++ out', p.3, items_then p.0 mid new xs ys p.2 out' p.4 q, ap (λ l. l ++ out') p.5 ∙ append_assoc p.1 p.2 out')
