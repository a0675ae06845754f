use Rattle.std.proofs.Common.{◌≡◌, ◌≤◌, arith, List, length, sym, ap, subst, ◌∙◌}
use Rattle.cat_types.specs.declared.relation.Relation.{Relation}
use Rattle.cat_links.specs.Links.{Emitted, emitted_by, only_in}
use Rattle.cat_links.specs.Changes.{with_emitter}
use Rattle.cat_links.specs.Counts.{AreCounts, Counts, count_at, emitters_of, gained, lost}
use Rattle.cat_links.proofs.Counted.{are_counts, emitters-le}
use Rattle.cat_links.proofs.links.Links.with_change.Goals as goal

pub gain-requires : goal.gain-requires
gain-requires c = record {
  room = λ x.
      let m : Emitted = c.self.inside.emitted in
      let a : count_at c.self.inside.counts x ≡ emitters_of m x = c.self.invariant.exact x in
      let b : emitters_of m x ≤ length m = emitters-le m x in
      let n = c.len-emitters.ensures.entries in
      let o = c.len-emitters.ensures.most in
      let t = c.as_slice-4.type_inv.1 in
      omega arith;
}

pub invariant_of-result : goal.invariant_of-result
invariant_of-result c =
    let m : Emitted = c.self.inside.emitted in
    let counts : Counts = c.self.inside.counts in
    let k = c.args.change.now.emitter in
    let v : List Relation = c.args.change.now.relations in
    let es : c.put_emitter.new.emitted ≡ with_emitter k v m = c.in_ok-put_emitter.ensures in
    let before : c.emitted_by-before.result.now ≡ emitted_by m k = c.emitted_by-before.ensures in
    let come : c.as_slice-4.result.now ≡ only_in v (emitted_by m k) = c.as_slice-4.ensures.value ∙ (c.in_ok-moved.ensures.come ∙ (λ i. only_in (c.as_slice.ensures i) (before i))) in
    let gone : c.as_slice-5.result.now ≡ only_in (emitted_by m k) v = c.as_slice-5.ensures.value ∙ (c.in_ok-moved.ensures.gone ∙ (λ i. only_in (before i) (c.as_slice.ensures i))) in
    let more : c.gain.new.counts ≡ gained (only_in v (emitted_by m k)) counts = c.in_ok-gain.ensures ∙ ap (λ l. gained l counts) come in
    let cs : c.lose.new.counts ≡ lost (only_in (emitted_by m k) v) (gained (only_in v (emitted_by m k)) counts) = c.in_ok-lose.ensures ∙ (λ i. lost (gone i) (more i)) in
    subst (λ (l : Emitted). AreCounts l c.lose.new.counts) (sym es) (subst (λ (l : Counts). AreCounts (with_emitter k v m) l) (sym cs) (are_counts m counts k v c.self.invariant))
