use Rattle.std.proofs.Common.{rules, ◌≡◌, [], ◌∷◌, sym, refl, subst}
use Rattle.atomic_table.specs.Table.{opening}
use Rattle.cat_turns.specs.Law.{IsFair, first_view}
use Rattle.cat_turns.proofs.Steps.{opens}
use Rattle.cat_turns.proofs.turns.Turns.new.Goals as goal

pub new-requires : goal.new-requires
new-requires g c =
    let items : c.push.new.self.items ≡ record { value = c.args.value; out = 1; drawn = 1 } ∷ [] = search rules in
    subst (λ l. IsFair g.V.Tells.list g.V.Tells.pass_of (opening (0 ∷ 0 ∷ 0 ∷ []) l first_view)) (sym items) (opens g.V.Tells.list g.V.Tells.pass_of record { value = c.args.value; out = 1; drawn = 1 } c.requires.empty refl refl)
