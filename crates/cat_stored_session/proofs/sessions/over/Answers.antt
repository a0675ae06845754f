use Rattle.std.proofs.Common.{refl, ap, inl, inr}
use Rattle.std.specs.declared.option.Option.TheVariants.{Some}
use Rattle.cat_stored_session.proofs.sessions.over.Goals as goal

pub returns : goal.returns
returns g c =
    let e = c.run_stored.ensures in
    elim e.ran [
      | inl shut ↦ inl (
        shut.1.same,
        elim shut.1.cause [
          | inl fault ↦ inl (fault.0, fault.2)
          | inr other ↦ elim other [
            | inl row ↦ inr (inl row)
            | inr memory ↦ inr (inr (memory.0, ap g.O.Sink.written memory.1))
          ]
        ],
      )
      | inr kept ↦ inr (Some c.run_stored.new.source.left, (λ p. g.K.Keeper.tables p c.run_stored.result.keeper), refl, e.causes.write_fault, kept)
    ]
