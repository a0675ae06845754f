-- Beyond what a line reached nothing that is stored changes.
use Rattle.std.proofs.Common.{◌≡◌, ℕ, true, true≢false, List, refl, sym, ap, subst, ◌∙◌}
use Rattle.std.specs.Option.{option_map}
use Rattle.std.specs.declared.option.Option.{Option}
use Rattle.std.specs.declared.option.Option.TheVariants.{None, Some}
use Rattle.cat_session_lines.specs.declared.line.Line.{Line}
use Rattle.cat_session_lines.specs.declared.line.Line.TheVariants as asks
use Rattle.cat_core.specs.declared.ledger.Ledger.{Ledger}
use Rattle.cat_desk.specs.Acts.{Acts, deed_reply, done}
use Rattle.cat_desk.specs.Deed.{Deed}
use Rattle.cat_desk.specs.Deed.Deed.{Mutate, ShelfPut, ShelfDrop, Forget, Finish}
use Rattle.cat_desk.specs.declared.command.Reply.{Reply}
use Rattle.cat_io.specs.Word.{Word, plain}
use Rattle.cat_model.specs.Catalogue.{Ref, Rules}
use Rattle.cat_model.specs.Given.{given}
use Rattle.cat_model.specs.Sound.{Sound}
use Rattle.cat_model.specs.declared.types.Given.{Given}
use Rattle.cat_model.specs.declared.types.Order.{Order}
use Rattle.cat_model.specs.declared.types.Settings.{Settings}
use Rattle.cat_model.specs.declared.types.State.{State}
use Rattle.cat_affected.proofs.Stepped.{unchanged}
use Rattle.cat_affected.specs.Gathered.{IsWithin}
use Rattle.cat_affected.specs.Reach.{AreSameBeyond, AreSameInputs, given_refs, reached}
use Rattle.cat_row_updates.specs.Renewed.{IsBeyond}
use Rattle.cat_row_updates.specs.declared.reached.Reached.{Reached}
use Rattle.cat_session.specs.Carried.{Carries}
use Rattle.cat_collections.specs.Table.{Text, get}
use Rattle.cat_session_model.specs.Program.{program_settings}
use Rattle.cat_session_model.specs.Session.{after_finish, after_reading, order_numbered}
use Rattle.cat_session_model.specs.declared.state.RuledSession.{RuledSession}
use Rattle.cat_session_model.specs.declared.state.SessionState.{SessionState}
use Rattle.cat_stored_session.specs.About.{IsAbout, IsInputs, IsReachedFrom, entity_about}
use Rattle.cat_stored_session.specs.Kept.{changes}
use Rattle.cat_stored_session.specs.declared.about.About.{About}
use Rattle.cat_stored_session.specs.declared.about.About.TheVariants.{Inputs, Shelf, Entity, Nothing, Settle}
use Rattle.cat_stored_desk.proofs.Beyond.{deed_reaches}
use Rattle.cat_stored_desk.specs.Reached.{IsReached}

module _ (rules : Rules) (s : Settings) (m : SessionState) (sound : Sound rules m.state) (settled : Option (List Ref)) (x : Reached) where
  -- the state after a deed
  abbrev come : Deed → State
  come d = done rules s m.now None d m.state

  -- beyond what a deed reached that is no settle nothing that is stored has changed
  reaches : (d : Deed) → IsReached d None m.state (come d) x → IsBeyond x m.state (come d)
  reaches d is =
      let old : Ledger = record { settings = s; state = m.state } in
      let new : Ledger = record { settings = s; state = come d } in
      let reply : Reply = deed_reply rules s m.now plain d m.state in
      let acts : Acts rules m.now d old new reply = record { word = plain; state = refl; settings = refl; answer = refl; spare = λ none. refl; exact = tt } in
      deed_reaches rules m.now d old new reply None acts sound tt x is

  -- the same of what is about inputs
  mutate_reaches : (about : About) (p : Text) (y : Given) → IsInputs p (given_refs p y m.state) about → (let n = come (Mutate p y) in IsReachedFrom about settled m.state n x → IsBeyond x m.state n)
  mutate_reaches (Inputs provider seeds) p y is from =
      let n : State = come (Mutate p y) in
      reaches (Mutate p y) (record {
        references = ap (λ refs. Some (reached refs m.state n)) (sym is.1) ∙ from.references;
        provider = from.provider ∙ ap (λ q. Some q) is.0;
        name = from.name;
      })
  mutate_reaches (Shelf name) p y is from = absurd is
  mutate_reaches (Entity r) p y is from = absurd is
  mutate_reaches Nothing p y is from = absurd is
  mutate_reaches Settle p y is from = absurd is

  -- and of what is about anything else
  module _ (about : About) where
    put_reaches : (name text : Text) → about ≡ Shelf name → (let n = come (ShelfPut name text) in IsReachedFrom about settled m.state n x → IsBeyond x m.state n)
    put_reaches name text is from =
        let n : State = come (ShelfPut name text) in
        let f = subst (λ a. IsReachedFrom a settled m.state n x) is from in
        reaches (ShelfPut name text) (record { references = f.references; provider = f.provider; name = f.name })

    drop_reaches : (name : Text) → about ≡ Shelf name → (let n = come (ShelfDrop name) in IsReachedFrom about settled m.state n x → IsBeyond x m.state n)
    drop_reaches name is from =
        let n : State = come (ShelfDrop name) in
        let f = subst (λ a. IsReachedFrom a settled m.state n x) is from in
        reaches (ShelfDrop name) (record { references = f.references; provider = f.provider; name = f.name })

    forget_reaches : (r : Text) → about ≡ entity_about (Some r) → (let n = come (Forget r) in IsReachedFrom about settled m.state n x → IsBeyond x m.state n)
    forget_reaches r is from =
        let n : State = come (Forget r) in
        let f = subst (λ a. IsReachedFrom a settled m.state n x) is from in
        reaches (Forget r) (record { references = f.references; provider = f.provider; name = f.name })

    finish_reaches : (o : Option Order) → about ≡ entity_about (option_map (λ order. order.reference) o)
        → (let n = (after_finish rules s o m).state in IsReachedFrom about settled m.state n x → IsBeyond x m.state n)
    finish_reaches None is from = record { references = unchanged x.references.items m.state; providers = λ q out. refl; shelf = λ t out. refl }
    finish_reaches (Some order) is from =
        let n : State = come (Finish order) in
        let f = subst (λ a. IsReachedFrom a settled m.state n x) is from in
        reaches (Finish order) (record { references = f.references; provider = f.provider; name = f.name })

    -- of a settle it is what was gathered
    settle_reaches : (n : State) → about ≡ Settle → IsWithin settled m.state n → IsReachedFrom about settled m.state n x → IsBeyond x m.state n
    settle_reaches n is within from =
        let f = subst (λ a. IsReachedFrom a settled m.state n x) is from in
        let all : AreSameBeyond x.references.items m.state n × AreSameInputs m.state n = subst (λ refs. IsWithin refs m.state n) f.references within in
        record { references = all.0; providers = λ q out. ap (λ ps. get ps q) all.1.providers; shelf = λ t out. ap (λ ts. get ts t) all.1.shelf }

module _ (rules : Rules) (s : Settings) (word : Word) (m : SessionState) (sound : Sound rules m.state) (settled : Option (List Ref)) (x : Reached) where
  -- beyond what was reached from what a line is about nothing that is stored has changed
  reading_reaches : (about : About) (line : Line) → changes line ≡ true → IsAbout line m about
      → (let n = (after_reading rules s word line m).state in IsWithin settled m.state n → IsReachedFrom about settled m.state n x → IsBeyond x m.state n)
  reading_reaches about (asks.Mutate p y) may is within from = mutate_reaches rules s m sound settled x about p (given p y) is from
  reading_reaches about (asks.ShelfPut name text) may is within from = put_reaches rules s m sound settled x about name text is from
  reading_reaches about (asks.ShelfDrop name) may is within from = drop_reaches rules s m sound settled x about name is from
  reading_reaches about (asks.Refresh r) may is within from = absurd (true≢false (sym may))
  reading_reaches about (asks.Forget r) may is within from = forget_reaches rules s m sound settled x about r is from
  reading_reaches about (asks.Clock now) may is within from = absurd (true≢false (sym may))
  reading_reaches about asks.Take may is within from = absurd (true≢false (sym may))
  reading_reaches about (asks.Finish token) may is within from = finish_reaches rules s m sound settled x about (order_numbered token m.orders) is from
  reading_reaches about (asks.Stitch after) may is within from = absurd (true≢false (sym may))
  reading_reaches about (asks.Place ticket) may is within from = absurd (true≢false (sym may))
  reading_reaches about asks.Settle may is within from = settle_reaches rules s m sound settled x about (after_reading rules s word asks.Settle m).state is within from
  reading_reaches about (asks.Ask ask) may is within from = absurd (true≢false (sym may))

-- the same of a line that was carried out, between a state that was held before it and one that is held after it
pub line_reaches : (rules : Rules) (line : Line) → changes line ≡ true → (old new : RuledSession) (text : List ℕ) → Carries rules line old new text → Sound rules old.session.state
    → (about : About) → IsAbout line old.session about → (settled : Option (List Ref)) → IsWithin settled old.session.state new.session.state
    → (m n : State) → m ≡ old.session.state → n ≡ new.session.state → (x : Reached) → IsReachedFrom about settled m n x → IsBeyond x m n
line_reaches rules line may old new text carries sound about is settled within m n before after x from =
    let s : Settings = program_settings old.orphans in
    let k : State = (after_reading rules s carries.0 line old.session).state in
    let come : new.session.state ≡ k = ap (λ (r : RuledSession). r.session.state) carries.2 in
    let same : n ≡ k = after ∙ come in
    subst (λ q. IsBeyond x q n) (sym before)
    (subst (λ q. IsBeyond x old.session.state q) (sym same)
    (reading_reaches rules s carries.0 old.session sound settled x about line may is
    (subst (λ q. IsWithin settled old.session.state q) come within)
    (subst (λ q. IsReachedFrom about settled old.session.state q x) same (subst (λ q. IsReachedFrom about settled q n x) before from))))
