-- A message at the moment 0, carried out by a desk whose catalogue is kept.
use Rattle.std.proofs.Common.{◌≡◌, ◌⊎◌, ℕ, Bool, List, true, false, true≢false, not, ◌&&◌, if◌then◌else◌, refl, sym, ap, ◌∙◌, subst, inl, inr}
use Rattle.std.specs.Prelude.{Option, Some, IfSome}
use Rattle.std.specs.declared.result.Result.{Result}
use Rattle.std.specs.declared.result.Result.TheVariants.{Ok, Err}
use Rattle.cat_api.proofs.Serving.{acts_at, asks_at, tells_at, is_worded}
use Rattle.cat_api.specs.Answering.{Acting, Asking, Telling, ActsBy, Carries, Answers, AnswersBytes, LacksIn, Lacks}
use Rattle.cat_api.specs.Deeds.{act_answer, lacks_memory}
use Rattle.cat_api.specs.Operations.{Operation, operation}
use Rattle.cat_api.specs.Operations.Operation.{Act, Ask, Tell, Show}
use Rattle.cat_api.specs.Wire.{Wired, after_operation, after_requested, operation_answer, requested_answer, wire_after, wire_reply}
use Rattle.cat_api.specs.declared.kind.Kind.{Kind}
use Rattle.cat_core.specs.declared.ledger.Ledger.{Ledger}
use Rattle.cat_desk.specs.Acts.{after_deed}
use Rattle.cat_desk.specs.Asks.{AsksOnce}
use Rattle.cat_desk.specs.Deed.{Deed}
use Rattle.cat_desk.specs.Told.{Tells}
use Rattle.cat_feed.specs.declared.ledger.Ledger.{Ledger as Feed}
use Rattle.cat_http.specs.Reply.{reply_bytes}
use Rattle.cat_http.specs.declared.message.Message.{Message}
use Rattle.cat_http.specs.declared.reply.HttpReply.{HttpReply}
use Rattle.cat_io.specs.Clock.{CountsReading}
use Rattle.cat_keeper.specs.declared.keeper.Place.{Place}
use Rattle.cat_desk.specs.Kept.{KeptActs, one_more}
use Rattle.cat_desk.proofs.Answered.{settle_is}
use Rattle.cat_io.specs.Word as deeds
use Rattle.cat_model.specs.Catalogue.{Rules}
use Rattle.cat_model.specs.Settle.{try_settle}
use Rattle.cat_requests.specs.Answers.{reply_to}
use Rattle.cat_requests.specs.Requests.{request_of}
use Rattle.cat_requests.specs.declared.answer.Answer.TheVariants.{Refused}
use Rattle.cat_requests.specs.declared.refusal.Refusal.{Refusal}
use Rattle.cat_requests.specs.declared.refusal.Refusal.TheVariants.{CutByKeeper, Keeper}
use Rattle.cat_requests.specs.declared.request.Request.{Request}
use Rattle.cat_connection.proofs.Wording.{outcome_worded, transcript_worded}
use Rattle.cat_connection.specs.Connection.{Outcome, Transcript}
use Rattle.cat_connection.specs.Runs.{Answering, Lacking, AnswersItems}
use Rattle.cat_connection.specs.Worded.{Word, plain, memory, cut, untold, unkept, cut_unkept, IsAnswered, AnswersMessage, LacksMemory, HasWords, IsWorded}
use Rattle.cat_connection.specs.declared.message_loop.ConnEnd.{ConnEnd}
use Rattle.cat_stored_session.specs.Wire.{KeptWired, cut_reply, is_single, kept_wire_after, kept_wire_reply, may_be_cut, may_be_refused, one_refused, settle_events, settles, unkept_reply}

-- ---- a catalogue that isn't kept refuses nothing that it would keep

module _ (rules : Rules) (w : Wired) where
  operated : (o : Operation) → after_operation rules unkept o w ≡ after_operation rules plain o w
  operated (Act d k) = refl
  operated (Ask q) = refl
  operated (Tell since) = refl
  operated (Show file) = refl

  told : (o : Operation) → operation_answer rules unkept o w ≡ operation_answer rules plain o w
  told (Act d k) = refl
  told (Ask q) = refl
  told (Tell since) = refl
  told (Show file) = refl

  requested_after : (asked : Result Request Refusal) → after_requested rules unkept asked w ≡ after_requested rules plain asked w
  requested_after (Ok request) = operated (operation request)
  requested_after (Err refusal) = refl

  requested_told : (asked : Result Request Refusal) → requested_answer rules unkept asked w ≡ requested_answer rules plain asked w
  requested_told (Ok request) = told (operation request)
  requested_told (Err refusal) = refl

  after_plain : (m : Message) → wire_after rules w unkept m ≡ wire_after rules w plain m
  unfolding wire_after
  after_plain m = requested_after (request_of m)

  reply_plain : (m : Message) → wire_reply rules w unkept m ≡ wire_reply rules w plain m
  unfolding wire_reply
  reply_plain m = ap (λ a. reply_bytes (reply_to m a)) (requested_told (request_of m))

  -- the same of one that is said to be cut
  module _ (n : ℕ) where
    operated_cut : (o : Operation) → after_operation rules (cut_unkept n) o w ≡ after_operation rules plain o w
    operated_cut (Act d k) = refl
    operated_cut (Ask q) = refl
    operated_cut (Tell since) = refl
    operated_cut (Show file) = refl

    told_cut : (o : Operation) → operation_answer rules (cut_unkept n) o w ≡ operation_answer rules plain o w
    told_cut (Act d k) = refl
    told_cut (Ask q) = refl
    told_cut (Tell since) = refl
    told_cut (Show file) = refl

    requested_after_cut : (asked : Result Request Refusal) → after_requested rules (cut_unkept n) asked w ≡ after_requested rules plain asked w
    requested_after_cut (Ok request) = operated_cut (operation request)
    requested_after_cut (Err refusal) = refl

    requested_told_cut : (asked : Result Request Refusal) → requested_answer rules (cut_unkept n) asked w ≡ requested_answer rules plain asked w
    requested_told_cut (Ok request) = told_cut (operation request)
    requested_told_cut (Err refusal) = refl

    after_cut : (m : Message) → wire_after rules w (cut_unkept n) m ≡ wire_after rules w plain m
    unfolding wire_after
    after_cut m = requested_after_cut (request_of m)

    reply_cut : (m : Message) → wire_reply rules w (cut_unkept n) m ≡ wire_reply rules w plain m
    unfolding wire_reply
    reply_cut m = ap (λ a. reply_bytes (reply_to m a)) (requested_told_cut (request_of m))

    -- what a settle does of which just so many events were kept
    abbrev first_events : Wired
    first_events = record w { catalogue = record w.catalogue { state = (try_settle rules w.catalogue.settings 0 (Some n) w.catalogue.state).state } }

    operation_first : (o : Operation) → settles o ≡ true → after_operation rules (cut n) o w ≡ first_events
    operation_first (Act d k) h = ap (λ e. record w { catalogue = record w.catalogue { state = after_deed rules w.catalogue.settings 0 (deeds.cut n) e w.catalogue.state } }) (settle_is d h)
    operation_first (Ask q) h = absurd (true≢false (sym h))
    operation_first (Tell since) h = absurd (true≢false (sym h))
    operation_first (Show file) h = absurd (true≢false (sym h))

    requested_first : (asked : Result Request Refusal) → may_be_cut asked ≡ true → after_requested rules (cut n) asked w ≡ first_events
    requested_first (Ok request) h = operation_first (operation request) h
    requested_first (Err refusal) h = absurd (true≢false (sym h))

    after_first : (m : Message) → may_be_cut (request_of m) ≡ true → wire_after rules w (cut n) m ≡ first_events
    unfolding wire_after
    after_first m h = requested_first (request_of m) h

-- ---- a catalogue that is kept, with a clock and a feed

module _ {A C : Type 0} (rules : Rules) (catalogue : A → Ledger) (clock : A → C) (moment readings : C → ℕ) (feed : A → Feed) (place : A → Place) (refusals : A → ℕ) where
  -- it stands at the moment 0
  abbrev pub IsAtZero : A → Type 0
  IsAtZero a = moment (clock a) ≡ 0

  -- what is seen of it
  abbrev pub seen : A → KeptWired
  seen a = record { wired = record { catalogue = catalogue a; feed = feed a }; place = place a; refusals = refusals a }

  -- the place and the count stay
  abbrev Stays : A → A → Type 0
  Stays old new = (place new ≡ place old) × (refusals new ≡ refusals old)

  abbrev pub acts_kept : Acting A
  acts_kept old d new reply =
      (KeptActs rules (moment (clock new)) d (catalogue old) (catalogue new) (refusals old) (refusals new) reply × (CountsReading (readings (clock old)) (readings (clock new)) × (moment (clock new) ≡ moment (clock old))))
      × ((feed new ≡ feed old) × (place new ≡ place old))

  abbrev pub asks_kept : Asking A
  asks_kept old q new said text =
      (AsksOnce (moment (clock new)) (readings (clock old)) (readings (clock new)) q (catalogue old) (catalogue new) said text × (moment (clock new) ≡ moment (clock old)))
      × ((feed new ≡ feed old) × Stays old new)

  abbrev pub tells_kept : Telling A
  tells_kept old since new said text =
      Tells (catalogue old).state.documents since (feed old) (feed new) said text × ((catalogue new ≡ catalogue old) × ((clock new ≡ clock old) × Stays old new))

  -- ---- the same of a catalogue that isn't kept

  abbrev timed : A → Ledger × C
  timed a = (catalogue a, clock a)

  abbrev acts_plain : Acting A
  acts_plain = acts_at rules timed (λ t. t.0) (λ t. moment t.1) (λ t. readings t.1) feed

  abbrev asks_plain : Asking A
  asks_plain = asks_at rules timed (λ t. t.0) (λ t. moment t.1) (λ t. readings t.1) feed

  abbrev tells_plain : Telling A
  tells_plain = tells_at rules timed (λ t. t.0) (λ t. moment t.1) (λ t. readings t.1) feed

  -- a message wasn't kept
  record IsRefused (old new : A) (m : Message) (r : HttpReply) : Type 0 where
    pub state : (catalogue new).state ≡ (catalogue old).state
    pub settings : (catalogue new).settings ≡ (catalogue old).settings
    pub counted : refusals new ≡ one_more (refusals old)
    pub moment_is : moment (clock new) ≡ moment (clock old)
    pub feed_is : feed new ≡ feed old
    pub place_is : place new ≡ place old
    pub reply_is : r ≡ reply_to m (Refused Keeper)

  -- of a settle just the first event was kept
  record IsCut (old new : A) (m : Message) (r : HttpReply) : Type 0 where
    pub state : (catalogue new).state ≡ (try_settle rules (catalogue old).settings (moment (clock new)) (Some 1) (catalogue old).state).state
    pub exact : (try_settle rules (catalogue old).settings (moment (clock new)) (Some 1) (catalogue old).state).events ≡ 1
    pub settings : (catalogue new).settings ≡ (catalogue old).settings
    pub counted : refusals new ≡ one_more (refusals old)
    pub moment_is : moment (clock new) ≡ moment (clock old)
    pub feed_is : feed new ≡ feed old
    pub place_is : place new ≡ place old
    pub reply_is : r ≡ reply_to m (Refused (CutByKeeper 1))

  single_is : (leaves settle : Bool) → leaves ≡ false → settle ≡ false → (not leaves && not settle) ≡ true
  single_is leaves settle a b = λ i. not (a i) && not (b i)

  module _ (old new : A) where
    acted : (d : Deed) (k : Kind) (m : Message) (r : HttpReply) → ActsBy acts_kept old new d k m r
        → (ActsBy acts_plain old new d k m r × Stays old new) ⊎ ((IsRefused old new m r × (is_single (Act d k) (catalogue old).state ≡ true)) ⊎ (IsCut old new m r × (settles (Act d k) ≡ true)))
    acted d k m r h = elim h.1.0.0 [
      | inl a ↦ inl ((h.0, ((record { acts = a.0; reads = h.1.0.1.0 }, h.1.0.1.1), h.1.1.0), h.2, h.3), (h.1.1.1, a.1))
      | inr u ↦ inr (elim u.0 [
        | inl w ↦ inl (
          record {
            state = w.state;
            settings = w.settings;
            counted = u.1;
            moment_is = h.1.0.1.1;
            feed_is = h.1.1.0;
            place_is = h.1.1.1;
            reply_is = h.3 ∙ ap (λ x. reply_to m (act_answer k x)) w.answer;
          },
          single_is _ _ w.changes w.single,
        )
        | inr w ↦ inr (
          record {
            state = w.state;
            exact = w.exact;
            settings = w.settings;
            counted = u.1;
            moment_is = h.1.0.1.1;
            feed_is = h.1.1.0;
            place_is = h.1.1.1;
            reply_is = h.3 ∙ ap (λ x. reply_to m (act_answer k x)) w.answer;
          },
          ap (λ e. settles (Act e k)) w.settles,
        )
      ])
    ]

    carried : (o : Operation) (m : Message) (r : HttpReply) → Carries acts_kept asks_kept tells_kept old new o m r
        → (Carries acts_plain asks_plain tells_plain old new o m r × Stays old new) ⊎ ((IsRefused old new m r × (is_single o (catalogue old).state ≡ true)) ⊎ (IsCut old new m r × (settles o ≡ true)))
    carried (Act d k) m r h = acted d k m r h
    carried (Ask q) m r h = inl ((h.0, h.1, (h.2.0, h.2.1.0), h.3, h.4), h.2.1.1)
    carried (Tell since) m r h = inl ((h.0, h.1, (h.2.0, λ i. (h.2.1.0 i, h.2.1.1.0 i)), h.3, h.4), h.2.1.1.1)
    carried (Show file) m r h = inl (h, (ap place h.0, ap refusals h.0))

    requested : (asked : Result Request Refusal) (m : Message) (r : HttpReply) → Answers acts_kept asks_kept tells_kept old new asked m r
        → (Answers acts_plain asks_plain tells_plain old new asked m r × Stays old new) ⊎ ((IsRefused old new m r × (may_be_refused asked (catalogue old).state ≡ true)) ⊎ (IsCut old new m r × (may_be_cut asked ≡ true)))
    requested (Ok request) m r h = carried (operation request) m r h
    requested (Err refusal) m r h = inl (h, (ap place h.0, ap refusals h.0))

    lacked_act : (d : Deed) (k : Kind) → LacksIn acts_kept asks_kept tells_kept old new (Act d k) → LacksIn acts_plain asks_plain tells_plain old new (Act d k) × Stays old new
    lacked_act d k h = elim h [
      | inl e ↦ (inl e, (ap place e, ap refusals e))
      | inr l ↦ elim l.1.0.0 [
        | inl a ↦ (inr (l.0, ((record { acts = a.0; reads = l.1.0.1.0 }, l.1.0.1.1), l.1.1.0), l.2), (l.1.1.1, a.1))
        | inr u ↦ elim u.0 [
          | inl w ↦ (let e : true ≡ false = sym l.2 ∙ ap lacks_memory w.answer in cc)
          | inr w ↦ (let e : true ≡ false = sym l.2 ∙ ap lacks_memory w.answer in cc)
        ]
      ]
    ]

    lacked_in : (o : Operation) → LacksIn acts_kept asks_kept tells_kept old new o → LacksIn acts_plain asks_plain tells_plain old new o × Stays old new
    lacked_in (Act d k) h = lacked_act d k h
    lacked_in (Ask q) h = elim h [
      | inl e ↦ (inl e, (ap place e, ap refusals e))
      | inr l ↦ (inr (l.0, l.1, (l.2.0, l.2.1.0)), l.2.1.1)
    ]
    lacked_in (Tell since) h = elim h [
      | inl e ↦ (inl e, (ap place e, ap refusals e))
      | inr l ↦ (inr (l.0, l.1, (l.2.0, λ i. (l.2.1.0 i, l.2.1.1.0 i))), l.2.1.1.1)
    ]
    lacked_in (Show file) h = (h, (ap place h, ap refusals h))

    lacked : (asked : Result Request Refusal) → Lacks acts_kept asks_kept tells_kept old new asked → Lacks acts_plain asks_plain tells_plain old new asked × Stays old new
    lacked (Ok request) h = lacked_in (operation request) h
    lacked (Err refusal) h = (h, (ap place h, ap refusals h))

    -- ---- by words

    seen_is : (w : Wired) → (seen new).wired ≡ w → Stays old new → seen new ≡ record (seen old) { wired = w }
    seen_is w e s = λ i. record { wired = e i; place = s.0 i; refusals = s.1 i }

    refused_is : (m : Message) (r : HttpReply) → IsRefused old new m r → may_be_refused (request_of m) (catalogue old).state ≡ true → seen new ≡ kept_wire_after rules (seen old) unkept m
    refused_is m r u may =
        let is : seen new ≡ one_refused (seen old).wired (seen old) = λ i. record { wired = record { catalogue = record { settings = u.settings i; state = u.state i }; feed = u.feed_is i }; place = u.place_is i; refusals = u.counted i } in
        is ∙ ap (λ (b : Bool). if b then one_refused (seen old).wired (seen old) else record (seen old) { wired = wire_after rules (seen old).wired plain m }) (sym may)

    -- the state of a settle of which just the first event was kept, at the moment 0
    first_state : (m : Message) (r : HttpReply) (u : IsCut old new m r) → moment (clock new) ≡ 0 → (catalogue new).state ≡ (try_settle rules (catalogue old).settings 0 (Some 1) (catalogue old).state).state
    first_state m r u zero = u.state ∙ ap (λ k. (try_settle rules (catalogue old).settings k (Some 1) (catalogue old).state).state) zero

    cut_is : (m : Message) (r : HttpReply) (u : IsCut old new m r) → moment (clock new) ≡ 0 → may_be_cut (request_of m) ≡ true → seen new ≡ kept_wire_after rules (seen old) (cut_unkept 1) m
    cut_is m r u zero may =
        let state = first_state m r u zero in
        let is : seen new ≡ one_refused (first_events rules (seen old).wired 1) (seen old) = λ i. record { wired = record { catalogue = record { settings = u.settings i; state = state i }; feed = u.feed_is i }; place = u.place_is i; refusals = u.counted i } in
        is ∙ (ap (λ w. one_refused w (seen old)) (sym (after_first rules (seen old).wired 1 m may))
        ∙ ap (λ (b : Bool). if b then one_refused (wire_after rules (seen old).wired (cut 1) m) (seen old) else record (seen old) { wired = wire_after rules (seen old).wired plain m }) (sym may))

    cut_told : (m : Message) (r : HttpReply) (u : IsCut old new m r) → moment (clock new) ≡ 0 → may_be_cut (request_of m) ≡ true → reply_bytes r ≡ kept_wire_reply rules (seen old) (cut_unkept 1) m
    cut_told m r u zero may =
        let exact : 1 ≡ settle_events rules (seen old).wired = sym u.exact ∙ ap (λ k. (try_settle rules (catalogue old).settings k (Some 1) (catalogue old).state).events) zero in
        ap reply_bytes u.reply_is ∙ (ap (cut_reply m) exact
        ∙ ap (λ (b : Bool). if b then cut_reply m (settle_events rules (seen old).wired) else wire_reply rules (seen old).wired plain m) (sym may))

    kept_word : (m : Message) (text : List ℕ) (word : Word) → IsAnswered word → (seen new).wired ≡ wire_after rules (seen old).wired word m → text ≡ wire_reply rules (seen old).wired word m → Stays old new
        → AnswersMessage (kept_wire_after rules) (kept_wire_reply rules) (seen old) m (seen new) text
    kept_word m text plain acts e t s = (plain, tt, seen_is _ e s, t)
    kept_word m text memory acts e t s = absurd acts
    kept_word m text (cut n) acts e t s = (cut n, tt, seen_is _ e s, t)
    kept_word m text untold acts e t s = absurd acts
    kept_word m text unkept acts e t s = (plain, tt, seen_is _ (e ∙ after_plain rules (seen old).wired m) s, t ∙ reply_plain rules (seen old).wired m)
    kept_word m text (cut_unkept n) acts e t s = (plain, tt, seen_is _ (e ∙ after_cut rules (seen old).wired n m) s, t ∙ reply_cut rules (seen old).wired n m)

  plain_worded : IsWorded (λ old m new text. AnswersBytes acts_plain asks_plain tells_plain old m new text) (λ old m new. Lacks acts_plain asks_plain tells_plain old new (request_of m))
      IsAtZero (λ a. (seen a).wired) (wire_after rules) (wire_reply rules)
  plain_worded = is_worded rules timed (λ t. t.0) (λ t. moment t.1) (λ t. readings t.1) feed (λ a. a)

  answered_kept : (old new : A) (m : Message) (text : List ℕ) → IsAtZero old → AnswersBytes acts_kept asks_kept tells_kept old m new text
      → IsAtZero new × AnswersMessage (kept_wire_after rules) (kept_wire_reply rules) (seen old) m (seen new) text
  answered_kept old new m text zero h = elim (requested old new (request_of m) m h.0 h.1) [
    | inl p ↦
        let a = plain_worded.answered old new m text zero (h.0, p.0, h.2) in
        (a.0, kept_word old new m text a.1.0 a.1.1 a.1.2 a.1.3 p.1)
    | inr lost ↦ elim lost [
      | inl u ↦ (
        u.0.moment_is ∙ zero,
        (
          unkept,
          tt,
          refused_is old new m h.0 u.0 u.1,
          h.2 ∙ (ap reply_bytes u.0.reply_is ∙ ap (λ (b : Bool). if b then unkept_reply m else wire_reply rules (seen old).wired plain m) (sym u.1)),
        ),
      )
      | inr u ↦ (
          let at = u.0.moment_is ∙ zero in
          (at, (cut_unkept 1, tt, cut_is old new m h.0 u.0 at u.1, h.2 ∙ cut_told old new m h.0 u.0 at u.1))
          )
    ]
  ]

  lacked_kept : (old new : A) (m : Message) → IsAtZero old → Lacks acts_kept asks_kept tells_kept old new (request_of m) → IsAtZero new × LacksMemory (kept_wire_after rules) (seen old) m (seen new)
  lacked_kept old new m zero h =
      let l = lacked old new (request_of m) h in
      let a = plain_worded.lacked old new m zero l.0 in
      (a.0, elim a.1 [ inl e ↦ inl (seen_is old new _ e l.1) | inr e ↦ inr (seen_is old new _ e l.1) ])

  -- ---- a service with such a desk

  module _ {S : Type 0} (desk : S → A) where
    abbrev answers : Answering S
    answers old m new text = AnswersBytes acts_kept asks_kept tells_kept (desk old) m (desk new) text

    abbrev lacks : Lacking S
    lacks old m new = Lacks acts_kept asks_kept tells_kept (desk old) (desk new) (request_of m)

    -- at the moment 0 it answers by words
    worded : IsWorded answers lacks (λ s. IsAtZero (desk s)) (λ s. seen (desk s)) (kept_wire_after rules) (kept_wire_reply rules)
    worded = record {
      answered = λ old new m text zero h. answered_kept (desk old) (desk new) m text zero h;
      lacked = λ old new m zero h. lacked_kept (desk old) (desk new) m zero h;
    }

    module _ (end : ConnEnd) (left left' written written' : Option (List ℕ)) (a new : S) (first last : A) (begun : desk a ≡ first) (ended : last ≡ desk new) (zero : IsAtZero first) where
      pub outcome_kept : Outcome (AnswersItems answers lacks) end left left' written written' a new → Outcome (HasWords (kept_wire_after rules) (kept_wire_reply rules)) end left left' written written' (seen first) (seen last)
      outcome_kept h =
          subst (λ b. Outcome (HasWords (kept_wire_after rules) (kept_wire_reply rules)) end left left' written written' (seen b) (seen last)) begun
          (subst (λ b. Outcome (HasWords (kept_wire_after rules) (kept_wire_reply rules)) end left left' written written' (seen (desk a)) (seen b)) (sym ended)
          (outcome_worded answers lacks (λ s. IsAtZero (desk s)) (λ s. seen (desk s)) (kept_wire_after rules) (kept_wire_reply rules) worded end left left' written written' a new (subst IsAtZero (sym begun) zero) h))

      pub transcript_kept : IfSome left (Transcript (AnswersItems answers lacks) end written written' a new) → IfSome left (Transcript (HasWords (kept_wire_after rules) (kept_wire_reply rules)) end written written' (seen first) (seen last))
      transcript_kept h =
          subst (λ b. IfSome left (Transcript (HasWords (kept_wire_after rules) (kept_wire_reply rules)) end written written' (seen b) (seen last))) begun
          (subst (λ b. IfSome left (Transcript (HasWords (kept_wire_after rules) (kept_wire_reply rules)) end written written' (seen (desk a)) (seen b))) (sym ended)
          (transcript_worded answers lacks (λ s. IsAtZero (desk s)) (λ s. seen (desk s)) (kept_wire_after rules) (kept_wire_reply rules) worded end left written written' a new (subst IsAtZero (sym begun) zero) h))
