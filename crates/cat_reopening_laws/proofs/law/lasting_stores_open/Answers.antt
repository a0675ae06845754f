use Rattle.std.proofs.Common.{inl, inr, refl, subst, sym}
use Rattle.cat_reopening_laws.specs.Reached.{IsLasting}
use Rattle.cat_reopening_laws.specs.Reached.IsLasting.{reopens}
use Rattle.cat_reopening_laws.proofs.Lasting.{lasting_may_open}
use Rattle.cat_reopening_laws.proofs.law.lasting_stores_open.Goals as goal

pub returns-clause-opens : goal.returns-clause-opens
returns-clause-opens c rule m is none = none m (lasting_may_open m is) (inl (rule, refl))

pub returns-clause-first_opens : goal.returns-clause-first_opens
returns-clause-first_opens c m is none = none m (lasting_may_open m is) (inr refl)

pub returns-clause-next : goal.returns-clause-next
returns-clause-next c rule m n is opens = let may = lasting_may_open m is in (opens m may.told may.placed).0 rule refl

pub returns-clause-first_next : goal.returns-clause-first_next
returns-clause-first_next c m n is opens = let may = lasting_may_open m is in (opens m may.told may.placed).1 refl

pub returns-clause-lasts : goal.returns-clause-lasts
returns-clause-lasts c rule m n is opens = let may = lasting_may_open m is in subst IsLasting (sym ((opens m may.told may.placed).0 rule refl)) (reopens m is)

pub returns-clause-first_lasts : goal.returns-clause-first_lasts
returns-clause-first_lasts c m n is opens = let may = lasting_may_open m is in subst IsLasting (sym ((opens m may.told may.placed).1 refl)) (reopens m is)
