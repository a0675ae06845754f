use Rattle.std.proofs.Common.{sym, subst}
use Rattle.cat_core.specs.Numbered.{AreApart}
use Rattle.cat_core.specs.declared.catalogue.Held.{Held}
use Rattle.cat_core.proofs.Numbers.{apart_of}
use Rattle.cat_core.proofs.catalogue.Saved.ref_at.Goals as goal

pub with_number-requires : goal.with_number-requires
with_number-requires g c =
    let held = c.self.inside.held.value in
    subst (λ (h : Held). AreApart h.state) (sym c.deref.ensures) (apart_of g.L.Layers.rules held.links held.state c.self.invariant.steady)
