-- What was told, by what the feed answered.
use Rattle.std.proofs.Common.{◌≡◌, ◌⊎◌, inl, inr, ℕ, List, [], ◌++◌, Result, Ok, Err, refl, sym, ap, ◌∙◌}
use Rattle.std.specs.Prelude.{if◌then◌else◌, OnOk, OnErr}
use Rattle.std.proofs.lemmas.List.{append-nil}
use Rattle.std.specs.declared.option.Option.{Option}
use Rattle.cat_tree.specs.Text.{text_of}
use Rattle.cat_feed.specs.Changes.{Documents}
use Rattle.cat_feed.specs.Feed.{asked, is_taken, taken_in}
use Rattle.cat_feed.specs.declared.change.Changes.{Changes}
use Rattle.cat_feed.specs.declared.change.Since.{Since}
use Rattle.cat_feed.specs.declared.fault.FeedFault.{FeedFault}
use Rattle.cat_feed.specs.declared.fault.FeedFault.TheVariants.{Gone, Ahead, Spent, NoMemory}
use Rattle.cat_feed.specs.declared.ledger.Ledger.{Ledger}
use Rattle.cat_feed.specs.Written.{changes_data}
use Rattle.cat_desk.specs.Told.{Tells, refused_as, written_as}
use Rattle.cat_desk.specs.declared.feed_desk.FeedAnswer.{FeedAnswer}

-- this was told, and appended by a text
abbrev pub HasTold : Documents → Option Since → Ledger → Ledger → FeedAnswer → List ℕ → List ℕ → Type 0
HasTold ds since old new said out out' = (text : List ℕ) × (out' ≡ out ++ text) × Tells ds since old new said text

module _ (ds : Documents) (since : Option Since) (old new : Ledger) (out out' : List ℕ) where
  pub told_changes : {E : Type 0} (c : Changes) (pushed : Result (Unit {0}) E) → asked ds since old ≡ Ok c → new ≡ taken_in ds old
      → OnOk pushed (out' ≡ out ++ text_of (changes_data c)) → OnErr pushed (out' ≡ out) → HasTold ds since old new (written_as pushed) out out'
  told_changes c (Ok x) e is whole none = (text_of (changes_data c), whole, (c, e, is, refl))
  told_changes c (Err f) e is whole none = ([], none ∙ sym (append-nil out), (inr (c, e, is), refl))

  nothing : out' ≡ out → out' ≡ out ++ []
  nothing same = same ∙ sym (append-nil out)

  pub told_refusal : (f : FeedFault) → (asked ds since old ≡ Err f) ⊎ (f ≡ NoMemory) → new ≡ (if is_taken (Err f) then taken_in ds old else old) → out' ≡ out → HasTold ds since old new (refused_as f) out out'
  told_refusal (Gone s) (inl e) is same = ([], nothing same, (e, is, refl))
  told_refusal (Gone s) (inr e) is same = absurd (cc)
  told_refusal (Ahead s) (inl e) is same = ([], nothing same, (e, is, refl))
  told_refusal (Ahead s) (inr e) is same = absurd (cc)
  told_refusal Spent (inl e) is same = ([], nothing same, (e, is, refl))
  told_refusal Spent (inr e) is same = absurd (cc)
  told_refusal NoMemory e is same = ([], nothing same, (inl is, refl))
