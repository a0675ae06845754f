use Rattle.std.proofs.Common.{nat_eq, refl, option_map, sym, ap, ◌∙◌}
use Rattle.std.specs.Option.{option_or}
use Rattle.cat_core.specs.Numbered.{key_where}
use Rattle.cat_core.proofs.Numbers.{numbered_is}
use Rattle.cat_core.proofs.known.with_number.Goals as goal

pub returns-in-Some : goal.returns-in-Some
returns-in-Some c =
    let n = c.args.number in
    let orphan = key_where (λ x. nat_eq n x.number) c.args.m.now.orphans in
    sym (ap (λ r. option_or (option_map (λ r. r.now) r) orphan) c.in-Some.is)
    ∙ numbered_is c.args.m.now c.requires n (option_map (λ r. r.now) c.record_numbered.result) orphan c.record_numbered.ensures refl

pub returns-in-None : goal.returns-in-None
returns-in-None c =
    let n = c.args.number in
    let orphan = option_map (λ r. r.now) c.orphan_numbered.result in
    sym (ap (λ r. option_or (option_map (λ r. r.now) r) orphan) c.in-None.is)
    ∙ numbered_is c.args.m.now c.requires n (option_map (λ r. r.now) c.record_numbered.result) orphan c.record_numbered.ensures c.orphan_numbered.ensures
