-- What a keeper tells after a commit.
use Rattle.std.proofs.Common.{◌≡◌, ◌==◌, ℕ, suc, true, [], ◌∷◌, length, option_map, refl, sym, ap, subst, ◌∙◌, arith}
use Rattle.std.proofs.lemmas.Bool.Decides.{nat_tests}
use Rattle.std.specs.declared.option.Option.{Option}
use Rattle.std.specs.declared.option.Option.TheVariants.{None, Some}
use Rattle.cat_keeper.specs.Answers.{Are, Commits}
use Rattle.cat_keeper.specs.Store.{Changes, Rows, applied}
use Rattle.cat_keeper.specs.declared.keeper.Committed.{Committed}
use Rattle.cat_keeper.specs.declared.keeper.Committed.TheVariants.{Kept, Failed, NoMemory}

-- what is told is what a batch leads to
led : (told : Option Rows) (batch : Changes) (rows rows' : Rows) → applied batch rows ≡ rows' → Are told rows → Are (option_map (applied batch) told) rows'
led None batch rows rows' law are = tt
led (Some told) batch rows rows' law are = ap (applied batch) are ∙ law

-- the rows that are told after a commit, given those before it and those that it leads to
abbrev pub after_commit : Committed → Rows → Rows → Rows
after_commit Kept rows rows' = rows'
after_commit Failed rows rows' = rows
after_commit NoMemory rows rows' = rows

pub committed : (came : Committed) (old new : Option Rows) (batch : Changes) (rows rows' : Rows) → Commits old new came batch → applied batch rows ≡ rows' → Are old rows → Are new (after_commit came rows rows')
committed Kept old new batch rows rows' e law are = subst (λ t. Are t rows') (sym e) (led old batch rows rows' law are)
committed Failed old new batch rows rows' e law are = subst (λ t. Are t rows) (sym e) are
committed NoMemory old new batch rows rows' e law are = subst (λ t. Are t rows) (sym e) are

never : (n : ℕ) → (suc n == 0) ≡ true → ⊥
never n h = grind (arith, nat_tests)

-- nothing is changed by a batch without changes
pub unchanged : (told : Option Rows) (batch : Changes) → (length batch == 0) ≡ true → told ≡ option_map (applied batch) told
unchanged None batch h = refl
unchanged (Some told) [] h = refl
unchanged (Some told) (c ∷ cs) h = absurd (never (length cs) h)
