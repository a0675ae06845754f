-- What a question that asks for documents alone is answered is what the documents of the catalogue show.
use Rattle.std.proofs.Common.{◌≡◌, ℕ, Bool, true, false, refl, sym, true≢false}
use Rattle.cat_desk.specs.Shown.{is_shown, shown_text}
use Rattle.cat_model.specs.declared.types.State.{State}
use Rattle.cat_query.specs.declared.ask.Ask.{Ask}
use Rattle.cat_query.specs.declared.ask.Ask.TheVariants as ask
use Rattle.cat_replies.specs.Asks.{ask_text}

pub shown_is : (a : Ask) → is_shown a ≡ true → (now : ℕ) (m : State) → ask_text a now m ≡ shown_text a m.documents
shown_is (ask.Get reference) h now m = refl
shown_is (ask.Number number) h now m = absurd (true≢false (sym h))
shown_is (ask.List query) h now m = refl
shown_is (ask.Page query) h now m = refl
shown_is (ask.Facets query) h now m = refl
shown_is (ask.Many references fields) h now m = refl
shown_is ask.Conflicts h now m = absurd (true≢false (sym h))
shown_is ask.Failed h now m = absurd (true≢false (sym h))
shown_is ask.Orphans h now m = absurd (true≢false (sym h))
shown_is ask.State h now m = absurd (true≢false (sym h))
shown_is ask.Quiet h now m = absurd (true≢false (sym h))
