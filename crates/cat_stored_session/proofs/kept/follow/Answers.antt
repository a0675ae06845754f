use Rattle.std.proofs.Common.{◌≡◌, refl, sym, subst, ◌∙◌, inr}
use Rattle.cat_keeper.specs.declared.keeper.Committed.TheVariants.{Kept, Failed}
use Rattle.cat_stored_session.specs.Carried.{IsCut}
use Rattle.cat_stored_session.proofs.Beyond.{line_reaches}
use Rattle.cat_stored_session.proofs.Lines.{followed_back, lacked, lost, taken_back_is}
use Rattle.cat_stored_session.proofs.kept.follow.Goals as goal

pub keep-requires-clause-beyond : goal.keep-requires-clause-beyond
keep-requires-clause-beyond g c =
    let x = c.in_ok-outcome.field-0 in
    line_reaches g.L.Layers.rules c.args.line c.requires.changes c.args.session.now c.carry.new.session x.outcome.text.items c.in_ok-outcome.ensures.text c.sound_state-before.ensures.sound c.in_ok-about.about c.in_ok-about.ensures x.outcome.reached c.in_ok-outcome.ensures.settled _ _ c.in_ok-outcome.ensures.saved c.sound_state.ensures.state

pub returns-in_ok-answer-in-Failed-clause-ok : goal.returns-in_ok-answer-in-Failed-clause-ok
returns-in_ok-answer-in-Failed-clause-ok g c =
    let old = c.args.session.now in
    let x = c.in_ok-outcome.field-0 in
    let same = taken_back_is g.L.Layers.rules c.args.line old c.carry.new.session c.put_back.new.self x.outcome.text.items _ c.in_ok-outcome.ensures.text c.requires.changes c.in_ok-outcome.ensures.saved c.put_back.ensures in
    let text = c.in_ok-answer-in-Failed.answer.items in
    inr (
      lost g.L.Layers.rules c.args.line old c.unkept.new.session text c.is_settle-is_settle.result c.is_settle-is_settle.ensures c.requires.changes
          (λ h. subst (λ o. IsCut g.L.Layers.rules o c.unkept.new.session text) same (c.in_ok-answer-in-Failed.ensures.cut h))
          (λ h. (let w = c.in_ok-answer-in-Failed.ensures.whole h in (w.0 ∙ same, w.1))),
      c.saturating_add.ensures,
    )

pub returns-in_ok-answer-in-Failed-clause-followed : goal.returns-in_ok-answer-in-Failed-clause-followed
returns-in_ok-answer-in-Failed-clause-followed g c =
    let old = c.args.session.now in
    let x = c.in_ok-outcome.field-0 in
    let same = taken_back_is g.L.Layers.rules c.args.line old c.carry.new.session c.put_back.new.self x.outcome.text.items _ c.in_ok-outcome.ensures.text c.requires.changes c.in_ok-outcome.ensures.saved c.put_back.ensures in
    followed_back _ _ _ _ _ _ old c.put_back.new.self c.unkept.new.session c.requires.followed c.keep.ensures.orphans
    (c.keep.ensures.same (λ k. (let no : Failed ≡ Kept = sym c.in-Failed.is ∙ k in cc))) c.keep.ensures.told same c.unkept.ensures.rule c.unkept.ensures.rows

pub returns-in_err-answer-in-Failed-clause-err : goal.returns-in_err-answer-in-Failed-clause-err
returns-in_err-answer-in-Failed-clause-err g c =
    let old = c.args.session.now in
    let x = c.in_ok-outcome.field-0 in
    let same = taken_back_is g.L.Layers.rules c.args.line old c.carry.new.session c.put_back.new.self x.outcome.text.items _ c.in_ok-outcome.ensures.text c.requires.changes c.in_ok-outcome.ensures.saved c.put_back.ensures in
    let back : (c.unkept.new.session ≡ old) × (c.args.refusals.now ≡ c.args.refusals.now) = (c.in_err-answer-in-Failed.ensures.err ∙ same, refl) in
    lacked _ _ back

pub returns-in_err-answer-in-Failed-clause-followed : goal.returns-in_err-answer-in-Failed-clause-followed
returns-in_err-answer-in-Failed-clause-followed g c =
    let old = c.args.session.now in
    let x = c.in_ok-outcome.field-0 in
    let same = taken_back_is g.L.Layers.rules c.args.line old c.carry.new.session c.put_back.new.self x.outcome.text.items _ c.in_ok-outcome.ensures.text c.requires.changes c.in_ok-outcome.ensures.saved c.put_back.ensures in
    followed_back _ _ _ _ _ _ old c.put_back.new.self c.unkept.new.session c.requires.followed c.keep.ensures.orphans
    (c.keep.ensures.same (λ k. (let no : Failed ≡ Kept = sym c.in-Failed.is ∙ k in cc))) c.keep.ensures.told same c.unkept.ensures.rule c.unkept.ensures.rows
