-- A message at the moment 0, carried out by a desk that is a catalogue with a clock and a feed.
use Rattle.std.proofs.Common.{◌≡◌, ◌≢◌, ◌⊎◌, ℕ, List, refl, sym, ap, ◌∙◌, subst, inl, inr}
use Rattle.std.specs.Prelude.{if◌then◌else◌, Option}
use Rattle.std.specs.declared.result.Result.{Result}
use Rattle.std.specs.declared.result.Result.TheVariants.{Ok, Err}
use Rattle.cat_core.specs.declared.ledger.Ledger.{Ledger}
use Rattle.cat_desk.specs.Acts.{Acts, ActsOnce, after_deed, deed_reply}
use Rattle.cat_desk.specs.Asks.{AsksOnce, IsAnswer}
use Rattle.cat_desk.specs.Deed.{Deed}
use Rattle.cat_desk.specs.declared.command.Asked.{Asked}
use Rattle.cat_desk.specs.declared.command.Asked.TheVariants.{Written, NotFound, NoFacet, NoMemory}
use Rattle.cat_desk.specs.declared.command.Reply.{Reply}
use Rattle.cat_desk.specs.Told.{Tells}
use Rattle.cat_desk.specs.declared.feed_desk.FeedAnswer.{FeedAnswer}
use Rattle.cat_desk.specs.declared.feed_desk.FeedAnswer.TheVariants as told
use Rattle.cat_feed.specs.Changes.{Documents}
use Rattle.cat_feed.specs.Feed.{asked, feed_after, is_taken, taken_in}
use Rattle.cat_feed.specs.declared.change.Changes.{Changes}
use Rattle.cat_feed.specs.declared.change.Since.{Since}
use Rattle.cat_feed.specs.declared.fault.FeedFault.{FeedFault}
use Rattle.cat_feed.specs.declared.fault.FeedFault.TheVariants as fault
use Rattle.cat_feed.specs.declared.ledger.Ledger.{Ledger as Feed}
use Rattle.cat_http.specs.Reply.{reply_bytes}
use Rattle.cat_http.specs.declared.message.Message.{Message}
use Rattle.cat_http.specs.declared.reply.HttpReply.{HttpReply}
use Rattle.cat_io.specs.Word as deeds
use Rattle.cat_model.specs.Catalogue.{Rules}
use Rattle.cat_model.specs.declared.types.State.{State}
use Rattle.cat_query.specs.declared.ask.Ask.{Ask as Question}
use Rattle.cat_replies.specs.Asks.{AskFault, ask_text}
use Rattle.cat_api.specs.Answering.{Acting, Asking, Telling, Carries, Answers, AnswersBytes, LacksIn, Lacks}
use Rattle.cat_api.specs.Deeds.{act_answer, ask_answer, asked_answer, changes_answer, told_answer}
use Rattle.cat_api.specs.Operations.{Operation, operation}
use Rattle.cat_api.specs.Operations.Operation.{Act, Ask, Tell, Show}
use Rattle.cat_api.specs.Wire.{Wired, after_operation, after_requested, operation_answer, requested_answer, wire_after, wire_reply}
use Rattle.cat_api.specs.declared.kind.Kind.{Kind}
use Rattle.cat_api.proofs.Said.{IsDone, did, stayed}
use Rattle.cat_requests.specs.Answers.{reply_to}
use Rattle.cat_requests.specs.Requests.{request_of}
use Rattle.cat_requests.specs.declared.refusal.Refusal.{Refusal}
use Rattle.cat_requests.specs.declared.request.Request.{Request}
use Rattle.cat_connection.specs.Worded.{Word, plain, cut, untold, unkept, cut_unkept, IsAnswered, AnswersMessage, LacksMemory, IsWorded}

-- what the desk says to a question is the answer to it
asked_is : (q : Question) (answer : Result (List ℕ) AskFault) (said : Asked) (text : List ℕ) → IsAnswer answer said text → said ≢ NoMemory
    → asked_answer q said text ≡ ask_answer q answer
asked_is q answer Written text is some = ap (ask_answer q) (sym is)
asked_is q answer NotFound text is some = ap (ask_answer q) (sym is.0)
asked_is q answer NoFacet text is some = ap (ask_answer q) (sym is.0)
asked_is q answer NoMemory text is some = absurd (some refl)

-- the feed after an ask, by what was answered
after_is : (ds : Documents) (since : Option Since) (old : Feed) (a : Result Changes FeedFault) → asked ds since old ≡ a → feed_after ds since old ≡ (if is_taken a then taken_in ds old else old)
after_is ds since old a e = ap (λ b. if is_taken b then taken_in ds old else old) e

-- what the desk says to an ask for changes is the answer to it, and the feed is as after it
told_is : (ds : Documents) (since : Option Since) (old new : Feed) (said : FeedAnswer) (text : List ℕ) → Tells ds since old new said text → said ≢ told.NoMemory
    → (told_answer said text ≡ changes_answer (asked ds since old)) × (new ≡ feed_after ds since old)
told_is ds since old new told.Written text t some = (ap (λ l. told_answer told.Written l) t.3 ∙ ap changes_answer (sym t.1), t.2 ∙ sym (after_is ds since old (Ok t.0) t.1))
told_is ds since old new (told.Gone s) text t some = (ap changes_answer (sym t.0), t.1 ∙ sym (after_is ds since old (Err (fault.Gone s)) t.0))
told_is ds since old new (told.Ahead s) text t some = (ap changes_answer (sym t.0), t.1 ∙ sym (after_is ds since old (Err (fault.Ahead s)) t.0))
told_is ds since old new told.Spent text t some = (ap changes_answer (sym t.0), t.1 ∙ sym (after_is ds since old (Err fault.Spent) t.0))
told_is ds since old new told.NoMemory text t some = absurd (some refl)

-- where memory was wanted, the feed stayed, or is as after the ask
untold_is : (ds : Documents) (since : Option Since) (old new : Feed) (said : FeedAnswer) (text : List ℕ) → Tells ds since old new said text → (new ≡ old) ⊎ (new ≡ feed_after ds since old)
untold_is ds since old new told.Written text t = inr (t.2 ∙ sym (after_is ds since old (Ok t.0) t.1))
untold_is ds since old new (told.Gone s) text t = inr (t.1 ∙ sym (after_is ds since old (Err (fault.Gone s)) t.0))
untold_is ds since old new (told.Ahead s) text t = inr (t.1 ∙ sym (after_is ds since old (Err (fault.Ahead s)) t.0))
untold_is ds since old new told.Spent text t = inl t.1
untold_is ds since old new told.NoMemory text t = elim t.0 [ inl e ↦ inl e | inr k ↦ inr (k.2 ∙ sym (after_is ds since old (Ok k.0) k.1)) ]

-- ---- a catalogue with a clock and a feed

module _ {A T : Type 0} (rules : Rules) (timed : A → T) (catalogue : T → Ledger) (moment readings : T → ℕ) (feed : A → Feed) where
  abbrev pub acts_at : Acting A
  acts_at old d new reply =
      (ActsOnce rules (moment (timed new)) (readings (timed old)) (readings (timed new)) d (catalogue (timed old)) (catalogue (timed new)) reply × (moment (timed new) ≡ moment (timed old)))
      × (feed new ≡ feed old)

  abbrev pub asks_at : Asking A
  asks_at old q new said text =
      (AsksOnce (moment (timed new)) (readings (timed old)) (readings (timed new)) q (catalogue (timed old)) (catalogue (timed new)) said text × (moment (timed new) ≡ moment (timed old)))
      × (feed new ≡ feed old)

  abbrev pub tells_at : Telling A
  tells_at old since new said text = Tells (catalogue (timed old)).state.documents since (feed old) (feed new) said text × (timed new ≡ timed old)

  -- it stands at the moment 0
  abbrev pub IsAtZero : A → Type 0
  IsAtZero a = moment (timed a) ≡ 0

  -- the catalogue and its feed
  abbrev pub wired : A → Wired
  wired a = record { catalogue = catalogue (timed a); feed = feed a }

  wired_is : (old new : A) (state : State) (told : Feed) → (catalogue (timed new)).state ≡ state → (catalogue (timed new)).settings ≡ (catalogue (timed old)).settings → feed new ≡ told
      → wired new ≡ record { catalogue = record (catalogue (timed old)) { state = state }; feed = told }
  wired_is old new state told e f g = λ i. record { catalogue = record { settings = f i; state = e i }; feed = g i }

  same_is : (old new : A) → (catalogue (timed new)).state ≡ (catalogue (timed old)).state → (catalogue (timed new)).settings ≡ (catalogue (timed old)).settings → feed new ≡ feed old → wired new ≡ wired old
  same_is old new e f g = λ i. record { catalogue = record { settings = f i; state = e i }; feed = g i }

  -- an operation was done with a word
  abbrev Done : A → A → Operation → Message → HttpReply → Type 0
  Done old new o m r =
      IsAtZero new × ((word : Word) × IsAnswered word × (wired new ≡ after_operation rules word o (wired old)) × (r ≡ reply_to m (operation_answer rules word o (wired old))))

  module _ (old new : A) (zero : IsAtZero old) where
    did_at : (d : Deed) (reply : Reply) → acts_at old d new reply → Acts rules 0 d (catalogue (timed old)) (catalogue (timed new)) reply
    did_at d reply h = subst (λ n. Acts rules n d (catalogue (timed old)) (catalogue (timed new)) reply) (h.0.1 ∙ zero) h.0.0.acts

    said_at : (q : Question) (said : Asked) (text : List ℕ) → asks_at old q new said text → IsAnswer (ask_text q 0 (catalogue (timed old)).state) said text
    said_at q said text h = subst (λ n. IsAnswer (ask_text q n (catalogue (timed old)).state) said text) (h.0.1 ∙ zero) h.0.0.answer

    acted_by : (d : Deed) (k : Kind) (m : Message) (r : HttpReply) (reply : Reply) (word : deeds.Word) → IsDone word
        → (catalogue (timed new)).state ≡ after_deed rules (catalogue (timed old)).settings 0 word d (catalogue (timed old)).state
        → (catalogue (timed new)).settings ≡ (catalogue (timed old)).settings → feed new ≡ feed old
        → reply ≡ deed_reply rules (catalogue (timed old)).settings 0 word d (catalogue (timed old)).state → r ≡ reply_to m (act_answer k reply) → IsAtZero new → Done old new (Act d k) m r
    acted_by d k m r reply deeds.plain acts state settings told answer is at = (at, (plain, tt, wired_is old new _ _ state settings told, is ∙ ap (λ x. reply_to m (act_answer k x)) answer))
    acted_by d k m r reply deeds.memory acts state settings told answer is at = absurd acts
    acted_by d k m r reply deeds.unkept acts state settings told answer is at = (at, (unkept, tt, wired_is old new _ _ state settings told, is ∙ ap (λ x. reply_to m (act_answer k x)) answer))
    acted_by d k m r reply (deeds.cut_unkept i) acts state settings told answer is at = (at, ((cut_unkept i), tt, wired_is old new _ _ state settings told, is ∙ ap (λ x. reply_to m (act_answer k x)) answer))
    acted_by d k m r reply (deeds.cut n) acts state settings told answer is at = (at, (cut n, tt, wired_is old new _ _ state settings told, is ∙ ap (λ x. reply_to m (act_answer k x)) answer))

    done_at : (o : Operation) (m : Message) (r : HttpReply) → Carries acts_at asks_at tells_at old new o m r → Done old new o m r
    done_at (Act d k) m r h =
        let w = did rules 0 d (catalogue (timed old)) (catalogue (timed new)) h.0 (did_at d h.0 h.1) h.2 in
        acted_by d k m r h.0 w.word w.acts w.state w.settings h.1.1 w.answer h.3 (h.1.0.1 ∙ zero)
    done_at (Ask q) m r h =
        let same = h.2.0.0.same in (
          h.2.0.1 ∙ zero,
          (
            plain,
            tt,
            wired_is old new _ _ (ap (λ l. l.state) same) (ap (λ l. l.settings) same) h.2.1,
            h.4 ∙ ap (λ a. reply_to m a) (asked_is q (ask_text q 0 (catalogue (timed old)).state) h.0 h.1 (said_at q h.0 h.1 h.2) h.3),
          ),
        )
    done_at (Tell since) m r h =
        let t = told_is (catalogue (timed old)).state.documents since (feed old) (feed new) h.0 h.1 h.2.0 h.3 in (
          ap moment h.2.1 ∙ zero,
          (
            plain,
            tt,
            wired_is old new _ _ (ap (λ x. (catalogue x).state) h.2.1) (ap (λ x. (catalogue x).settings) h.2.1) t.1,
            h.4 ∙ ap (λ a. reply_to m a) t.0,
          ),
        )
    done_at (Show file) m r h = (subst IsAtZero (sym h.0) zero, (plain, tt, ap wired h.0, h.1))

    -- memory was wanted for an operation
    lacked_at : (o : Operation) → LacksIn acts_at asks_at tells_at old new o → IsAtZero new × ((wired new ≡ wired old) ⊎ (wired new ≡ after_operation rules untold o (wired old)))
    lacked_at (Act d k) h = elim h [
      | inl e ↦ (subst IsAtZero (sym e) zero, inl (ap wired e))
      | inr a ↦
          let s = stayed rules 0 d (catalogue (timed old)) (catalogue (timed new)) a.0 (did_at d a.0 a.1) a.2 in
          (a.1.0.1 ∙ zero, inl (same_is old new s.0 s.1 a.1.1))
    ]
    lacked_at (Ask q) h = elim h [
      | inl e ↦ (subst IsAtZero (sym e) zero, inl (ap wired e))
      | inr a ↦ (a.2.0.1 ∙ zero, inl (same_is old new (ap (λ l. l.state) a.2.0.0.same) (ap (λ l. l.settings) a.2.0.0.same) a.2.1))
    ]
    lacked_at (Tell since) h = elim h [
      | inl e ↦ (subst IsAtZero (sym e) zero, inl (ap wired e))
      | inr a ↦
          let state = ap (λ x. (catalogue x).state) a.2.1 in
          let settings = ap (λ x. (catalogue x).settings) a.2.1 in (
            ap moment a.2.1 ∙ zero,
            elim (untold_is (catalogue (timed old)).state.documents since (feed old) (feed new) a.0 a.1 a.2.0) [
              | inl e ↦ inl (same_is old new state settings e)
              | inr e ↦ inr (wired_is old new _ _ state settings e)
            ],
          )
    ]
    lacked_at (Show file) h = (subst IsAtZero (sym h) zero, inl (ap wired h))

    requested_at : (asked : Result Request Refusal) (m : Message) (r : HttpReply) → Answers acts_at asks_at tells_at old new asked m r
        → IsAtZero new × ((word : Word) × IsAnswered word × (wired new ≡ after_requested rules word asked (wired old)) × (r ≡ reply_to m (requested_answer rules word asked (wired old))))
    requested_at (Ok request) m r h = done_at (operation request) m r h
    requested_at (Err refusal) m r h = (subst IsAtZero (sym h.0) zero, (plain, tt, ap wired h.0, h.1))

    wanted_at : (asked : Result Request Refusal) → Lacks acts_at asks_at tells_at old new asked → IsAtZero new × ((wired new ≡ wired old) ⊎ (wired new ≡ after_requested rules untold asked (wired old)))
    wanted_at (Ok request) h = lacked_at (operation request) h
    wanted_at (Err refusal) h = (subst IsAtZero (sym h) zero, inl (ap wired h))

    answered_at : (m : Message) (text : List ℕ) → AnswersBytes acts_at asks_at tells_at old m new text → IsAtZero new × AnswersMessage (wire_after rules) (wire_reply rules) (wired old) m (wired new) text
    unfolding wire_after wire_reply
    answered_at m text h =
        let a = requested_at (request_of m) m h.0 h.1 in
        (a.0, (a.1.0, a.1.1, a.1.2, h.2 ∙ ap reply_bytes a.1.3))

    wants_at : (m : Message) → Lacks acts_at asks_at tells_at old new (request_of m) → IsAtZero new × LacksMemory (wire_after rules) (wired old) m (wired new)
    unfolding wire_after
    wants_at m h = wanted_at (request_of m) h

  -- a service with such a desk at the moment 0 answers by words
  pub is_worded : {S : Type 0} (desk : S → A)
      → IsWorded (λ old m new text. AnswersBytes acts_at asks_at tells_at (desk old) m (desk new) text) (λ old m new. Lacks acts_at asks_at tells_at (desk old) (desk new) (request_of m))
      (λ s. IsAtZero (desk s)) (λ s. wired (desk s)) (wire_after rules) (wire_reply rules)
  is_worded desk = record {
    answered = λ old new m text zero h. answered_at (desk old) (desk new) zero m text h;
    lacked = λ old new m zero h. wants_at (desk old) (desk new) zero m h;
  }
