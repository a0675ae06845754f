use Rattle.std.proofs.Common.{◌≡◌, sym, ap, subst, ◌∙◌}
use Rattle.cat_core.specs.declared.catalogue.Held.{Held}
use Rattle.cat_core.specs.declared.ledger.Ledger.{Ledger}
use Rattle.cat_core.specs.Kept.{IsSaved}
use Rattle.cat_core.proofs.catalogue.Catalogue.saved_with.Goals as goal

-- what is made is what the catalogue holds, of which its own invariant says the same
pub invariant_of-result : goal.invariant_of-result
invariant_of-result g c =
    let m = c.self.inside.ledger.state in
    let records : c.args.records ≡ m.records = c.requires ∙ ap (λ (l : Ledger). l.state.records) (sym c.self.view_is) in
    let same : c.in_ok-state.state ≡ m = c.in_ok-state.ensures ∙ (λ i. record m { records = records i }) in
    subst (λ (h : Held). IsSaved g.L.Layers.rules h.links h.state) (sym c.in_ok-new.ensures.ok)
    (subst (IsSaved g.L.Layers.rules c.in_ok-links.links) (sym same)
    (subst (λ links. IsSaved g.L.Layers.rules links m) (sym c.in_ok-links.ensures) (record { steady = c.self.invariant.steady; begun = c.self.invariant.begun })))
