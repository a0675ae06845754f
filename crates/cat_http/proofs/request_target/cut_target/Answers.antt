use Rattle.std.proofs.Common.{rules, ◌≡◌, ◌<◌, ◌∙◌, ap, drop, length, true, get_or, arith}
use Rattle.std.specs.Prelude.{codes, nat_eq}
use Rattle.std.specs.List.{starts_with}
use Rattle.std.proofs.lemmas.Str.Pattern.{strip_prefix_char}
use Rattle.cat_http.specs.Head.{origin, path_of, query_of, ends_authority}
use Rattle.cat_http.proofs.TargetLemmas.{origin-rest}
use Rattle.cat_http.proofs.request_target.cut_target.Goals as goal

rest : (c : goal.After-cut_origin-in-None) → c.range_from-rest.result.now ≡ origin c.args.target.now
rest c =
    let at = c.authority_end-at.result in
    let target = c.args.target.now in
    let inside : at < length target = search rules in
    let starts : starts_with nat_eq target (codes "http://") ≡ true = search rules in
    let is : c.range_from-rest.result.now ≡ drop at target = c.range_from-rest.ensures.value in
    let stops : ends_authority (get_or target at 0) ≡ true = search rules in
    let other = rw c.in-None.is at (strip_prefix_char 63 c.range_from-rest.result.now c.strip_prefix.result c.strip_prefix.ensures.cases (omega arith)) in
    is ∙ origin-rest target at starts (search rules) inside stops (λ q e. other q (is ∙ e))

pub returns-in-None-clause-path : goal.returns-in-None-clause-path
returns-in-None-clause-path c = c.cut_origin-in-None.ensures.path ∙ ap path_of (rest c)

pub returns-in-None-clause-query : goal.returns-in-None-clause-query
returns-in-None-clause-query c = c.cut_origin-in-None.ensures.query ∙ ap query_of (rest c)
