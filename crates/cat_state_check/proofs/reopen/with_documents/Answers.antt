use Rattle.std.proofs.Common.{◌≡◌, is_some, sym, subst}
use Rattle.std.specs.Option.{option_map}
use Rattle.cat_collections.specs.Table.{get, tabulate, text_cmp}
use Rattle.cat_model.specs.Catalogue.{Ref, held, known_refs, parts}
use Rattle.cat_model.specs.Sound.{AreBegun}
use Rattle.cat_model.specs.Step.{reopened}
use Rattle.cat_model.specs.declared.types.State.{State}
use Rattle.cat_events.specs.Coming.{IsSteady}
use Rattle.cat_plan.specs.Linked.{AreLinked}
use Rattle.cat_state_check.proofs.Opening.{opens_as, opens_begun, opens_steady}
use Rattle.cat_state_check.proofs.Reopening.{passed, recorded}
use Rattle.cat_state_check.specs.Candidate.{names_of}
use Rattle.cat_state_check.specs.Indexed.{row_index}
use Rattle.cat_state_check.proofs.reopen.with_documents.Goals as goal

pub documents_of-requires-clause-recorded : goal.documents_of-requires-clause-recorded
documents_of-requires-clause-recorded g c =
    let m = c.args.candidate.value in
    subst (λ k. (r : Ref) → is_some (get k.records r) ≡ held k.holders r) (sym c.deref-2.ensures) (recorded m (row_index m.rows) (names_of m) (passed m c.requires))

pub returns-clause-steady : goal.returns-clause-steady
returns-clause-steady g c =
    let rules = g.L.Layers.rules in
    let m = c.args.candidate.value in
    let made = subst (λ k. c.in_ok-documents.documents ≡ tabulate text_cmp (known_refs k) (λ r. option_map rules.doc (parts rules k r))) c.deref-2.ensures c.in_ok-documents.ensures in
    let linked = subst (AreLinked rules c.in_ok-links.links) c.deref.ensures c.in_ok-links.ensures in
    subst (λ (k : State). IsSteady rules c.in_ok-links.links (record k { documents = c.in_ok-documents.documents })) (sym c.deref_mut.ensures.value)
    (opens_steady rules m c.requires c.in_ok-documents.documents made c.in_ok-links.links linked)

pub returns-clause-begun : goal.returns-clause-begun
returns-clause-begun g c =
    let rules = g.L.Layers.rules in
    let made = subst (λ k. c.in_ok-documents.documents ≡ tabulate text_cmp (known_refs k) (λ r. option_map rules.doc (parts rules k r))) c.deref-2.ensures c.in_ok-documents.ensures in
    subst (λ (k : State). AreBegun (record k { documents = c.in_ok-documents.documents })) (sym c.deref_mut.ensures.value)
    (opens_begun rules c.args.candidate.value c.requires c.in_ok-documents.documents made)

pub returns-clause-state : goal.returns-clause-state
returns-clause-state g c =
    let rules = g.L.Layers.rules in
    let made = subst (λ k. c.in_ok-documents.documents ≡ tabulate text_cmp (known_refs k) (λ r. option_map rules.doc (parts rules k r))) c.deref-2.ensures c.in_ok-documents.ensures in
    subst (λ (k : State). record k { documents = c.in_ok-documents.documents } ≡ reopened rules c.args.candidate.value) (sym c.deref_mut.ensures.value)
    (opens_as rules c.args.candidate.value c.requires c.in_ok-documents.documents made)
