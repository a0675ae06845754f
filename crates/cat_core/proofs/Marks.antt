-- The first above a ticket of the marks in order of ticket is the one with the least ticket above.
use Rattle.std.proofs.Common.{◌≡◌, ℕ, Bool, true, false, cond, nat_le, nat_lt, List, [], ◌∷◌, refl, sym, ap, ◌∙◌, true≢false, arith}
use Rattle.std.proofs.lemmas.Bool.Decides.{nat_tests}
use Rattle.std.specs.declared.option.Option.{Option}
use Rattle.std.specs.declared.option.Option.TheVariants.{Some}
use Rattle.cat_model.specs.Catalogue.{Ref}
use Rattle.cat_model.specs.Reply.{mark_above}
use Rattle.cat_model.specs.Settle.{insert_mark, marks_in_order}
use Rattle.cat_state_parts.specs.Marks.{least_above, lesser_ticket}

module _ (after : ℕ) where
  above_more : (a b : ℕ) → nat_le a b ≡ true → nat_lt after a ≡ true → nat_lt after b ≡ true
  above_more a b p q = grind (arith, nat_tests)

  not_above : (a b : ℕ) → nat_le a b ≡ false → nat_lt after a ≡ false → nat_lt after b ≡ false
  not_above a b p q = grind (arith, nat_tests)

  above_inserted : (e : Ref × ℕ) (fs : List (Ref × ℕ)) → mark_above after (insert_mark e fs) ≡ cond (nat_lt after e.1) (lesser_ticket e (mark_above after fs)) (mark_above after fs)
  above_inserted e [] = refl
  above_inserted e (f ∷ fs) = go (nat_le e.1 f.1) refl (above_inserted e fs)
    where
      rest : Option (Ref × ℕ)
      rest = mark_above after fs

      ahead : nat_le e.1 f.1 ≡ true → (c : Bool) → nat_lt after e.1 ≡ c → (d : Bool) → nat_lt after f.1 ≡ d
          → cond c (Some e) (cond d (Some f) rest) ≡ cond c (lesser_ticket e (cond d (Some f) rest)) (cond d (Some f) rest)
      ahead p true q true r = sym (ap (λ b. cond b (Some e) (Some f)) p)
      ahead p true q false r = absurd (true≢false (sym (above_more e.1 f.1 p q) ∙ r))
      ahead p false q d r = refl

      behind : nat_le e.1 f.1 ≡ false → (c : Bool) → nat_lt after e.1 ≡ c → (d : Bool) → nat_lt after f.1 ≡ d → (v : Option (Ref × ℕ)) → v ≡ cond c (lesser_ticket e rest) rest
          → cond d (Some f) v ≡ cond c (lesser_ticket e (cond d (Some f) rest)) (cond d (Some f) rest)
      behind p true q true r v ih = sym (ap (λ b. cond b (Some e) (Some f)) p)
      behind p true q false r v ih = ih
      behind p false q true r v ih = absurd (true≢false (sym r ∙ not_above e.1 f.1 p q))
      behind p false q false r v ih = ih

      go : (b : Bool) → nat_le e.1 f.1 ≡ b → mark_above after (insert_mark e fs) ≡ cond (nat_lt after e.1) (lesser_ticket e rest) rest
          → mark_above after (cond b (e ∷ f ∷ fs) (f ∷ insert_mark e fs)) ≡ cond (nat_lt after e.1) (lesser_ticket e (cond (nat_lt after f.1) (Some f) rest)) (cond (nat_lt after f.1) (Some f) rest)
      go true p ih = ahead p (nat_lt after e.1) refl (nat_lt after f.1) refl
      go false p ih = behind p (nat_lt after e.1) refl (nat_lt after f.1) refl (mark_above after (insert_mark e fs)) ih

  -- the first above of the marks in order
  pub above_in_order : (marks : List (Ref × ℕ)) → mark_above after (marks_in_order marks) ≡ least_above after marks
  above_in_order [] = refl
  above_in_order (e ∷ es) = above_inserted e (marks_in_order es) ∙ ap (λ v. cond (nat_lt after e.1) (lesser_ticket e v) v) (above_in_order es)
