use Rattle.std.proofs.Common.{◌≡◌, ◌⊎◌, subst}
use Rattle.std.specs.Prelude.{IfOk, IfErr, Ok, Err}
use Rattle.cat_requests.specs.Paths.{resource_by}
use Rattle.cat_requests.specs.declared.refusal.Refusal.TheVariants.{NoMemory}
use Rattle.cat_requests.proofs.Files.{names_file, routed_err, routed_ok}
use Rattle.cat_requests.proofs.path.resource_of.Goals as goal

pub returns-in-Some-clause-ok : goal.returns-in-Some-clause-ok
returns-in-Some-clause-ok c = names_file c.args.path.now c.as_bytes.result.now c.in-Some.file c.as_bytes.ensures.value c.in-Some.ensures

pub returns-in-None-clause-ok : goal.returns-in-None-clause-ok
returns-in-None-clause-ok c =
    routed_ok c.args.path.now c.as_bytes.result.now c.routed.result c.as_bytes.ensures.value c.in-None.ensures
    (subst (λ o. IfOk c.routed.result (λ r. resource_by o c.args.path.now ≡ Ok r)) c.route_of.ensures c.routed.ensures.ok)

pub returns-in-None-clause-err : goal.returns-in-None-clause-err
returns-in-None-clause-err c =
    routed_err c.args.path.now c.as_bytes.result.now c.routed.result c.as_bytes.ensures.value c.in-None.ensures
    (subst (λ o. IfErr c.routed.result (λ e. (resource_by o c.args.path.now ≡ Err e) ⊎ (e ≡ NoMemory))) c.route_of.ensures c.routed.ensures.err)
