use Rattle.std.proofs.Common.{ap, ◌∙◌, length}
use Rattle.std.proofs.lemmas.Result.{IfOk-weaker}
use Rattle.cat_collections.specs.Table.{keys}
use Rattle.cat_model.specs.Mend.{below}
use Rattle.cat_claims.proofs.Released.{they_wait_then, reheld_then, touched_then}
use Rattle.cat_claims.proofs.mend.mend.Goals as goal

pub claim_waiting-requires : goal.claim_waiting-requires
claim_waiting-requires c =
    let x = c.args.replaced.now in
    let holders = c.args.holders.now in
    let cut = c.in_ok-cut.cut.items in
    record {
      waits = they_wait_then x holders c.requires cut (c.in_ok-cut.ensures ∙ ap (below (length holders) x.numbered.rows holders) (c.into_vec.ensures ∙ c.in_ok-lost.ensures)) c.as_slice-2.result.now c.withdraw.new.holders
          c.as_slice-2.ensures.value c.in_ok-withdraw.ensures c.in_ok-waiting.waiting c.call_all.new.waiting c.as_slice.result.now c.in_ok-waiting.ensures c.as_slice.ensures.value c.in_ok-call_all.ensures;
    }

pub returns-clause-holders : goal.returns-clause-holders
returns-clause-holders c =
    let x = c.args.replaced.now in
    let holders = c.args.holders.now in
    let cut = c.in_ok-cut.cut.items in
    IfOk-weaker c.noted.result _ _ (λ touched have. reheld_then x holders c.requires cut (c.in_ok-cut.ensures ∙ ap (below (length holders) x.numbered.rows holders) (c.into_vec.ensures ∙ c.in_ok-lost.ensures)) c.as_slice-2.result.now c.withdraw.new.holders
    c.as_slice-2.ensures.value c.in_ok-withdraw.ensures c.claim_waiting.new.holders c.in_ok-claimed.ensures.holders) c.noted.ensures

pub returns-clause-others : goal.returns-clause-others
returns-clause-others c =
    let x = c.args.replaced.now in
    let holders = c.args.holders.now in
    let cut = c.in_ok-cut.cut.items in
    IfOk-weaker c.noted.result _ _ (λ touched have. touched_then x holders c.requires cut (c.in_ok-cut.ensures ∙ ap (below (length holders) x.numbered.rows holders) (c.into_vec.ensures ∙ c.in_ok-lost.ensures)) c.as_slice-2.result.now c.withdraw.new.holders
    c.as_slice-2.ensures.value c.in_ok-withdraw.ensures c.in_ok-claimed.claimed (keys touched) c.claim_waiting.new.holders c.in_ok-claimed.ensures.others have) c.noted.ensures
