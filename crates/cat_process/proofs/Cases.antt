-- The cases of a result.
use Rattle.std.proofs.Common.{◌≡◌, ℕ, ◌≤◌, ◌==◌, Bool, true, false, List, [], ◌∷◌, map, length, if◌then◌else◌, refl, ap, sym, ◌∙◌, arith}
use Rattle.cat_tree.specs.Data.{Data}
use Rattle.cat_types.specs.declared.issue.Issue.{Issue}
use Rattle.cat_types.specs.declared.work.Output.{Output}
use Rattle.cat_types.specs.declared.work.Outcome.{Outcome}
use Rattle.cat_types.specs.declared.work.Outcome.TheVariants.{Good, Bad}
use Rattle.cat_types.specs.declared.work.Work.{Work}
use Rattle.cat_schema.specs.Rules.{breaches}
use Rattle.cat_schema.specs.declared.faults.SchemaFault.{SchemaFault}
use Rattle.cat_process.specs.Offers.{all_offers, firsts}
use Rattle.cat_process.specs.Process.{schema_issue, schema_issues, reference_issues, target_issues, content_issues, bad_or, good, from_contents, result_of}

none_of : (faults : List SchemaFault) → length (map schema_issue faults) ≤ 0 → faults ≡ []
none_of [] h = refl
none_of (fault ∷ faults) h = absurd (omega arith)

-- where there is no issue, no rule is broken
pub no_breaches : (d : Data) (issues : List Issue) (n : ℕ) → issues ≡ schema_issues d → n ≡ length issues → n ≤ 0 → breaches d ≡ []
unfolding schema_issues
no_breaches d issues n e l h =
    let same : length issues ≡ length (map schema_issue (breaches d)) = ap length e in
    none_of (breaches d) (omega arith)

good_after : (issues : List Issue) (next : Outcome) (output : Output) (warnings : List Issue) → bad_or issues next ≡ Good output warnings → next ≡ Good output warnings
good_after issues next output warnings h =
    elim (length issues == 0) as (λ b. (if b then next else Bad issues) ≡ Good output warnings → next ≡ Good output warnings) [
      | true ↦ λ e. e
      | false ↦ λ e. cc
    ] h

-- a good result is that of the offers of all contents
pub result_is_good : (w : Work) (output : Output) (warnings : List Issue) → result_of w ≡ Good output warnings → good w.tree (all_offers w.tree w.contents) ≡ Good output warnings
unfolding result_of
result_is_good w output warnings h =
    good_after (content_issues w.tree w.contents) (good w.tree (all_offers w.tree w.contents)) output warnings
    (good_after (target_issues w.tree) (from_contents w.tree w.contents) output warnings
    (good_after (reference_issues w.tree) (bad_or (target_issues w.tree) (from_contents w.tree w.contents)) output warnings
    (good_after (schema_issues w.tree) (bad_or (reference_issues w.tree) (bad_or (target_issues w.tree) (from_contents w.tree w.contents))) output warnings h)))

-- it offers the first of each reference
pub offers_are : (w : Work) (output : Output) (warnings : List Issue) → result_of w ≡ Good output warnings → firsts [] (all_offers w.tree w.contents) ≡ output.offers
offers_are w output warnings h =
    let e : good w.tree (all_offers w.tree w.contents) ≡ Good output warnings = result_is_good w output warnings h in
    cc
