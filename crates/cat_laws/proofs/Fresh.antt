-- Where a sound state is quiet, its documents are those computed afresh.
use Rattle.std.proofs.Common.{◌≡◌, ℕ, zero, suc, ◌<◌, Bool, true, false, cond, ◌⊎◌, inl, inr, length, refl, sym, ap, subst, ◌∙◌, is_some, unwrap_or, arith, true≢false}
use mathlib.Core.Path.{fun_ext}
use Rattle.std.proofs.lemmas.List.{length-map}
use Rattle.std.specs.declared.option.Option.{Option}
use Rattle.std.specs.declared.option.Option.TheVariants.{None, Some}
use Rattle.std.specs.Option.{option_and_then, option_map}
use Rattle.std.specs.List.{list_any}
use Rattle.cat_collections.specs.Table.{Text, get, keys, same_text}
use Rattle.cat_model.specs.Catalogue.{Ref, Tree, Rules, held, row_at, holding, work_of, climbs_row, climbs_origin, climbs, work, output_of, parts, parts_from, records_emit, parts_of_record, parts_of_orphan, emitted, from_source}
use Rattle.cat_types.specs.declared.input.Offered.{Offered}
use Rattle.cat_types.specs.declared.work.Output.{Output}
use Rattle.cat_types.specs.declared.work.Outcome.{Outcome}
use Rattle.cat_types.specs.declared.parts.Parts.{Parts}
use Rattle.cat_types.specs.declared.work.Work.{Work}
use Rattle.cat_model.specs.declared.types.Origin.{Origin}
use Rattle.cat_model.specs.declared.types.Row.{Row}
use Rattle.cat_model.specs.declared.types.Record.{Record}
use Rattle.cat_model.specs.declared.types.State.{State}
use Rattle.cat_model.specs.declared.types.Orphan.{Orphan}
use Rattle.cat_types.specs.declared.work.Outcome.TheVariants.{Good, Bad}
use Rattle.cat_model.specs.declared.types.Origin.TheVariants.{Provider, Entity}
use Rattle.cat_model.specs.Sound.{offered, Sound, Quiet, IsRight, IsOutcome, IsStitched}
use Rattle.cat_model.specs.Fresh.{Claim, claim_of, claimed_tree, Facts, with_key, tree_from, fresh_work, good_output, issues_of, fresh_output, fresh_outputs, fresh_parts, fresh_doc, bad_output, number_at, facts_of, fresh_offered, IsOffered, Complete, fresh_docs, unless_orphan, entity_docs, IsFresh}
use Rattle.cat_collections.proofs.Tables.{some_or_none, none_or_some, text_total, text_antisymmetric, same_self, same_tabulated, find-over, find-tabulate_all, no_key}

module _ (rules : Rules) (m : State) where
  abbrev facts : Facts
  facts = facts_of rules m

  tree_from-offered : (outputs : Ref → Option Output) (r : Ref) (key : Text) (o : Origin) → ((e : Ref) → o ≡ Entity e → outputs e ≡ output_of m.records e)
      → tree_from facts outputs r key o ≡ option_and_then (with_key key) (offered m o r)
  tree_from-offered outputs r key (Provider p) agree = refl
  tree_from-offered outputs r key (Entity e) agree = ap (λ v. option_and_then (with_key key) (option_and_then (λ x. get x.offers r) v)) (agree e refl)

  with_own_key : (x : Offered) → with_key x.key x ≡ Some x.tree
  with_own_key x = ap (λ b. cond b (Some x.tree) None) (same_self text_total text_antisymmetric x.key)

  module _ (s : Sound rules m) where
    holding_row : (r : Ref) (row : Row) → holding m.rows m.holders r ≡ Some row → offered m row.origin r ≡ Some row.offered
    holding_row r row h = go (get m.holders r) refl h
      where
        go : (a : Option ℕ) → get m.holders r ≡ a → option_and_then (row_at m.rows) a ≡ Some row → offered m row.origin r ≡ Some row.offered
        go None e h = absurd (true≢false (sym (ap is_some h)))
        go (Some a) e h =
            let w = s.holders.rows_of r a e in
            let same : w.row ≡ row = ap (λ v. unwrap_or v w.row) (sym w.at ∙ h) in
            let names : row.reference ≡ r = ap (λ x. x.reference) (sym same) ∙ w.names in
            subst (λ q. offered m row.origin q ≡ Some row.offered) names (s.offers.given a row h)

    fresh_work-is : (outputs : Ref → Option Output) (r : Ref) (row : Row) → holding m.rows m.holders r ≡ Some row
        → ((e : Ref) → row.origin ≡ Entity e → outputs e ≡ output_of m.records e) → fresh_work rules facts outputs r ≡ work rules m r
    fresh_work-is outputs r row h agree =
        let tree : tree_from facts outputs r row.offered.key row.origin ≡ Some row.offered.tree = tree_from-offered outputs r row.offered.key row.origin agree
        ∙ ap (option_and_then (with_key row.offered.key)) (holding_row r row h) ∙ with_own_key row.offered in
        ap (λ v. option_map (work_of rules m.shelf) (option_and_then (claimed_tree facts outputs r) (option_map claim_of v))) h
        ∙ ap (option_map (work_of rules m.shelf)) tree
        ∙ sym (ap (option_map (λ (x : Row). work_of rules m.shelf x.offered.tree)) h)

    held_from_holding : (r : Ref) (row : Row) → holding m.rows m.holders r ≡ Some row → held m.holders r ≡ true
    held_from_holding r row h = go (get m.holders r) h
      where
        go : (a : Option ℕ) → option_and_then (row_at m.rows) a ≡ Some row → is_some a ≡ true
        go None h = ap is_some h
        go (Some a) h = refl

    -- a record has a holding row
    row_of_record : (r : Ref) (x : Record) → get m.records r ≡ Some x → (row : Row) × (holding m.rows m.holders r ≡ Some row)
    row_of_record r x h =
        let a = some_or_none (get m.holders r) (sym (s.records r) ∙ ap is_some h) in
        let w = s.holders.rows_of r a.0 a.1 in
        (w.row, ap (option_and_then (row_at m.rows)) a.1 ∙ w.at)

    module _ (now : ℕ) (quiet : Quiet m now) where
      module _ (r : Ref) (w : Work) (hw : work rules m r ≡ Some w) (x : Record) (hx : get m.records r ≡ Some x) where
        outcome_is : IsOutcome (rules.result w) x
        outcome_is = go (subst (λ v. IsRight rules v x) hw (s.right r x hx)) (quiet.none_due r x hx)
          where
            go : (x.due ≡ 0) ⊎ IsOutcome (rules.result w) x → now < x.due → IsOutcome (rules.result w) x
            go (inl e) h = absurd (omega arith)
            go (inr o) h = o

        -- a kept output is that of the record's work, or the last good one
        kept_is : good_output (rules.result w) (facts.last r) ≡ output_of m.records r
        kept_is = ap (λ v. good_output (rules.result w) (option_and_then (λ (w : Work). bad_output (rules.result w) (output_of m.records r)) v)) hw ∙ go (rules.result w) outcome_is
          where
            go : (u : Outcome) → IsOutcome u x → good_output u (bad_output u (output_of m.records r)) ≡ output_of m.records r
            go (Good output issues) e = sym (ap (option_and_then (λ (x : Record). x.output)) hx ∙ e.0)
            go (Bad issues) e = refl

        issues_are : issues_of (rules.result w) ≡ x.issues
        issues_are = go (rules.result w) outcome_is
          where
            go : (u : Outcome) → IsOutcome u x → issues_of u ≡ x.issues
            go (Good output issues) e = sym e.1
            go (Bad issues) e = sym e

      module _ (outputs : Ref → Option Output) (r : Ref) (row : Row) (h : holding m.rows m.holders r ≡ Some row)
          (agree : (e : Ref) → row.origin ≡ Entity e → outputs e ≡ output_of m.records e) where
        work_is : fresh_work rules facts outputs r ≡ Some (work_of rules m.shelf row.offered.tree)
        work_is = fresh_work-is outputs r row h agree ∙ ap (option_map (λ (x : Row). work_of rules m.shelf x.offered.tree)) h

        output_is : option_and_then (λ w. good_output (rules.result w) (facts.last r)) (fresh_work rules facts outputs r) ≡ output_of m.records r
        output_is =
            let x = some_or_none (get m.records r) (s.records r ∙ held_from_holding r row h) in
            ap (option_and_then (λ w. good_output (rules.result w) (facts.last r))) work_is
            ∙ kept_is r (work_of rules m.shelf row.offered.tree) (ap (option_map (λ (x : Row). work_of rules m.shelf x.offered.tree)) h) x.0 x.1

      climbed_row : (n : ℕ) → ((e : Ref) → climbs m.rows m.holders n e ≡ true → fresh_output rules facts n e ≡ output_of m.records e)
          → (r : Ref) (v : Option Row) → holding m.rows m.holders r ≡ v → climbs_row (climbs m.rows m.holders n) v ≡ true → fresh_output rules facts (suc n) r ≡ output_of m.records r
      climbed_row n above r None e h = absurd (true≢false (sym h))
      climbed_row n above r (Some row) e h =
          output_is (fresh_output rules facts n) r row e (λ q is. above q (subst (λ o. climbs_origin (climbs m.rows m.holders n) o ≡ true) is h))

      climbed : (n : ℕ) (r : Ref) → climbs m.rows m.holders n r ≡ true → fresh_output rules facts n r ≡ output_of m.records r
      climbed zero r h = absurd (true≢false (sym h))
      climbed (suc n) r h = climbed_row n (climbed n) r (holding m.rows m.holders r) refl h

      no_holder : (r : Ref) → get m.holders r ≡ None → (outputs : Ref → Option Output) → fresh_work rules facts outputs r ≡ None
      no_holder r e outputs = ap (λ v. option_map (work_of rules m.shelf) (option_and_then (claimed_tree facts outputs r) (option_map claim_of (option_and_then (row_at m.rows) v)))) e

      not_held : (n : ℕ) (r : Ref) → get m.holders r ≡ None → fresh_output rules facts n r ≡ None
      not_held zero r e = refl
      not_held (suc n) r e = ap (option_and_then (λ w. good_output (rules.result w) (facts.last r))) (no_holder r e (fresh_output rules facts n))

      no_record : (r : Ref) → held m.holders r ≡ false → get m.records r ≡ None
      no_record r e = none_or_some _ (s.records r ∙ e)

      outputs_are : (r : Ref) → fresh_outputs rules facts r ≡ output_of m.records r
      outputs_are r = go (held m.holders r) refl
        where
          go : (b : Bool) → held m.holders r ≡ b → fresh_outputs rules facts r ≡ output_of m.records r
          go true e = ap (λ n. fresh_output rules facts n r) (length-map m.holders (λ (e : Ref × ℕ). e.0)) ∙ climbed (length m.holders) r (s.holders.all_rooted r e)
          go false e = not_held (length facts.refs) r (none_or_some _ e) ∙ sym (ap (option_and_then (λ (x : Record). x.output)) (no_record r e))

      all_outputs : fresh_outputs rules facts ≡ output_of m.records
      all_outputs = fun_ext outputs_are

      doc_of : (r : Ref) → (mark : Option ℕ) → mark ≡ None → (p : Option Parts) (document : Option Tree) → IsStitched rules p mark document → document ≡ option_map rules.doc p
      doc_of r mark none None document h = h.1
      doc_of r mark none (Some p) document (inl h) = absurd (true≢false (sym (ap is_some (sym none) ∙ h)))
      doc_of r mark none (Some p) document (inr h) = h

      document_is : (r : Ref) → get m.documents r ≡ option_map rules.doc (parts rules m r)
      document_is r = doc_of r (get m.marks r) (quiet.none_marked r) (parts rules m r) (get m.documents r) (s.stitched r)

      module _ (r : Ref) (x : Record) (hx : get m.records r ≡ Some x) (row : Row) (h : holding m.rows m.holders r ≡ Some row) where
        abbrev its_work : Work
        its_work = work_of rules m.shelf row.offered.tree

        fresh_doc-is : (output : Option Output) → x.output ≡ output → fresh_doc rules facts r ≡ option_map (λ output. rules.doc (fresh_parts rules facts r its_work output)) output
        fresh_doc-is output e =
            ap (option_and_then (λ w. option_map (λ output. rules.doc (fresh_parts rules facts r w output)) (fresh_outputs rules facts r))) (work_is (fresh_outputs rules facts) r row h (λ q is. outputs_are q))
            ∙ ap (option_map (λ output. rules.doc (fresh_parts rules facts r its_work output))) (outputs_are r ∙ ap (option_and_then (λ (x : Record). x.output)) hx ∙ e)

        fresh_record : (output : Option Output) → x.output ≡ output → option_map rules.doc (parts_of_record (records_emit rules m) r x output) ≡ fresh_doc rules facts r
        fresh_record None e = sym (fresh_doc-is None e)
        fresh_record (Some output) e =
            let number : x.number ≡ number_at (get m.records r) = sym (ap number_at hx) in
            let outputs : output_of m.records ≡ fresh_outputs rules facts = sym all_outputs in
            let issues : x.issues ≡ issues_of (rules.result its_work) = sym (issues_are r its_work (ap (option_map (λ (x : Row). work_of rules m.shelf x.offered.tree)) h) x hx) in
            let same : parts_of_record (records_emit rules m) r x (Some output) ≡ Some (fresh_parts rules facts r its_work output) =
            (λ i. Some (record { entity = output.entity; number = number i; orphan = false; relations = from_source r (emitted rules (keys m.holders) (outputs i)); issues = issues i })) in
            ap (option_map rules.doc) same ∙ sym (fresh_doc-is (Some output) e)

      -- the document of a reference that is no orphan is the one computed afresh
      pub fresh : (r : Ref) → get m.orphans r ≡ None → get m.documents r ≡ fresh_doc rules facts r
      fresh r none = document_is r ∙ go (get m.records r) refl
        where
          go : (v : Option Record) → get m.records r ≡ v → option_map rules.doc (parts_from rules (records_emit rules m) r (get m.orphans r) v) ≡ fresh_doc rules facts r
          go None e = ap (λ v. option_map rules.doc (parts_of_orphan rules (records_emit rules m) r v)) none
              ∙ sym (ap (option_and_then (λ w. option_map (λ output. rules.doc (fresh_parts rules facts r w output)) (fresh_outputs rules facts r)))
              (no_holder r (none_or_some _ (sym (s.records r) ∙ ap is_some e)) (fresh_outputs rules facts)))
          go (Some x) e = let h = row_of_record r x e in fresh_record r x e h.0 h.1 x.output refl

      -- and that of an orphan is that of its parts
      pub orphan_document : (r : Ref) → get m.documents r ≡ option_map rules.doc (parts rules m r)
      orphan_document r = document_is r

      fresh_offered-is : (o : Origin) (r : Ref) → fresh_offered rules facts o r ≡ offered m o r
      fresh_offered-is (Provider p) r = refl
      fresh_offered-is (Entity e) r = ap (option_and_then (λ (x : Output). get x.offers r)) (outputs_are e)

      claim_offered : (r : Ref) (v : Option Row) → holding m.rows m.holders r ≡ v → (claim : Claim) → option_map claim_of v ≡ Some claim → IsOffered rules facts r claim
      claim_offered r None h claim e = absurd (true≢false (sym (ap is_some e)))
      claim_offered r (Some row) h claim e =
          let is : claim_of row ≡ claim = ap (λ v. unwrap_or v claim) e in
          subst (IsOffered rules facts r) is (record { offer = row.offered; given = fresh_offered-is row.origin r ∙ holding_row r row h; key = refl })

      -- the claims leave nothing out
      pub complete : Complete rules facts
      complete = record {
        claims_offered = λ r claim e. claim_offered r (holding m.rows m.holders r) refl claim e;
        offers_claimed = λ o r x e.
            let w = s.offers.shown o r x (sym (fresh_offered-is o r) ∙ e) in
            let a = some_or_none (get m.holders r) (s.holders.all_held w.arrival _ w.row) in
            let b = s.holders.rows_of r a.0 a.1 in
            ap (λ v. is_some (option_map claim_of (option_and_then (row_at m.rows) v))) a.1 ∙ ap (λ v. is_some (option_map claim_of v)) b.at;
      }

      no_claim : (r : Ref) → list_any (same_text r) facts.refs ≡ false → fresh_doc rules facts r ≡ None
      no_claim r e = ap (option_and_then (λ w. option_map (λ output. rules.doc (fresh_parts rules facts r w output)) (fresh_outputs rules facts r)))
          (no_holder r (no_key text_total text_antisymmetric r m.holders e) (fresh_outputs rules facts))

      orphan_not_fresh : (r : Ref) (x : Orphan) → get m.orphans r ≡ Some x → fresh_doc rules facts r ≡ None
      orphan_not_fresh r x e = go (get m.holders r) refl
        where
          go : (v : Option ℕ) → get m.holders r ≡ v → fresh_doc rules facts r ≡ None
          go None h = ap (option_and_then (λ w. option_map (λ output. rules.doc (fresh_parts rules facts r w output)) (fresh_outputs rules facts r))) (no_holder r h (fresh_outputs rules facts))
          go (Some a) h = absurd (true≢false (ap is_some (sym e ∙ s.orphans r (ap is_some h))))

      entity_doc : (r : Ref) → get (entity_docs m) r ≡ get (fresh_docs rules facts) r
      entity_doc r = find-over text_total text_antisymmetric r m.documents (λ r document. unless_orphan (get m.orphans r) document) ∙ go (get m.orphans r) refl
          ∙ sym (find-tabulate_all text_total text_antisymmetric r facts.refs (λ r. fresh_doc rules facts r) (no_claim r))
        where
          same : (v : Option Tree) → option_and_then (λ x. Some x) v ≡ v
          same None = refl
          same (Some x) = refl

          drop : (v : Option Tree) → option_and_then {U = Tree} (λ x. None) v ≡ None
          drop None = refl
          drop (Some x) = refl

          go : (v : Option Orphan) → get m.orphans r ≡ v → option_and_then (unless_orphan v) (get m.documents r) ≡ fresh_doc rules facts r
          go None e = same (get m.documents r) ∙ fresh r e
          go (Some x) e = drop (get m.documents r) ∙ sym (orphan_not_fresh r x e)

      all_work : (r : Ref) → fresh_work rules facts (fresh_outputs rules facts) r ≡ work rules m r
      all_work r = go (holding m.rows m.holders r) refl
        where
          go : (v : Option Row) → holding m.rows m.holders r ≡ v → fresh_work rules facts (fresh_outputs rules facts) r ≡ work rules m r
          go None e = ap (λ v. option_map (work_of rules m.shelf) (option_and_then (claimed_tree facts (fresh_outputs rules facts) r) (option_map claim_of v))) e
              ∙ sym (ap (option_map (λ (x : Row). work_of rules m.shelf x.offered.tree)) e)
          go (Some row) e = fresh_work-is (fresh_outputs rules facts) r row e (λ q is. outputs_are q)

      pub is_fresh : IsFresh rules m
      is_fresh = record {
        entities = same_tabulated text_total text_antisymmetric (keys m.documents) facts.refs (λ k. option_and_then (λ document. unless_orphan (get m.orphans k) document) (get m.documents k)) (λ r. fresh_doc rules facts r) entity_doc;
        orphans = λ r x e. document_is r;
        complete = complete;
        last = λ r. ap (option_and_then (λ w. bad_output (rules.result w) (output_of m.records r))) (sym (all_work r));
      }
