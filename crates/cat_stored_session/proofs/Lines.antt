-- What a line does to a session that is kept.
use Rattle.std.proofs.Common.{◌≡◌, ◌<◌, ◌≤◌, ◌⊎◌, ℕ, Bool, true, false, not, ◌&&◌, true≢false, if◌then◌else◌, inl, inr, List, refl, sym, ap, subst, ◌∙◌, arith, IfOk, OnErr}
use Rattle.std.proofs.Math.Nat.{eq-or-lt_of_le}
use Rattle.std.specs.declared.option.Option.{Option}
use Rattle.std.specs.declared.option.Option.TheVariants.{None, Some}
use Rattle.std.specs.declared.result.Result.{Result}
use Rattle.std.specs.declared.result.Result.TheVariants.{Ok, Err}
use Rattle.std.specs.FinMap.Entries.{is_sorted}
use Rattle.std.specs.Ordering.{nat_cmp}
use Rattle.cat_collections.specs.Table.{find, text_cmp}
use Rattle.cat_session_lines.specs.Lines.{line_of}
use Rattle.cat_session_lines.specs.declared.fault.LineFault.{LineFault}
use Rattle.cat_session_lines.specs.declared.line.Line.{Line}
use Rattle.cat_session_lines.specs.declared.line.Line.TheVariants as asks
use Rattle.cat_io.specs.Word.{Word, plain, memory, cut, unkept, cut_unkept, AnswersLine, IsActing}
use Rattle.cat_model.specs.Catalogue.{Rules}
use Rattle.cat_model.specs.Reply.{next_stitch}
use Rattle.cat_model.specs.Settle.{try_settle}
use Rattle.cat_model.specs.declared.types.Order.{Order}
use Rattle.cat_model.specs.declared.types.OrphanRule.{OrphanRule}
use Rattle.cat_model.specs.declared.types.Settings.{Settings}
use Rattle.cat_model.specs.declared.types.State.{State}
use Rattle.cat_model.specs.declared.types.StitchOrder.{StitchOrder}
use Rattle.cat_session.specs.Carried.{Carries}
use Rattle.cat_session.specs.Replies.{IsLineRefusal}
use Rattle.cat_session_lines.specs.declared.fault.LineFault.TheVariants as faults
use Rattle.cat_store.proofs.Begun.{first_still}
use Rattle.cat_store.proofs.Unstored.{put_stitch_still, refresh_still, take_still}
use Rattle.cat_stored_rows.specs.Stored.{Stored, stored, texts_of}
use Rattle.cat_session_model.specs.Program.{program_settings, ruled_after, ruled_reply}
use Rattle.cat_session_model.specs.Session.{after_finish, after_place, after_reading, after_result, line_fault, order_numbered, reply_to, reply_to_result, session_after, session_reply, with_stitch}
use Rattle.cat_session_model.specs.declared.state.RuledSession.{RuledSession}
use Rattle.cat_session_model.specs.declared.state.SessionState.{SessionState}
use Rattle.cat_replies.specs.Events.{cut_by_keeper}
use Rattle.cat_stored_session.specs.Carried.{CarriesKept, IsCut, IsRefused}
use Rattle.cat_stored_session.specs.Kept.{changes, is_settle, is_single, kept_after, kept_reply, may_be_cut, may_be_refused, one_refused, refused_keeper, settle_events}
use Rattle.cat_stored_session.specs.declared.state.KeptState.{KeptState}
use Rattle.cat_desk.specs.Kept.{one_more}
use Rattle.cat_stored_desk.specs.Followed.{IsFollowed}
use Rattle.cat_keeper.specs.Answers.{Are}
use Rattle.cat_keeper.specs.Store.{Rows}

-- ---- a settle that was cut behind its first event

-- one at most, where it isn't none, is one
one_event : (n : ℕ) → n ≤ 1 → (n ≡ 0 → ⊥) → n ≡ 1
one_event n small some = at (eq-or-lt_of_le small)
  where
    at : (n ≡ 1) ⊎ (n < 1) → n ≡ 1
    at (inl is) = is
    at (inr below) = absurd (some (omega (arith, below)))

-- just that event stands, and the reply says so
pub first_stands : (rules : Rules) (old new : RuledSession) (n : ℕ) (text : List ℕ) → n ≤ 1 → (n ≡ 0 → ⊥)
    → new ≡ record old { session = after_reading rules (program_settings old.orphans) (cut n) asks.Settle old.session }
    → (try_settle rules (program_settings old.orphans) old.session.now (Some n) old.session.state).events ≡ n → text ≡ cut_by_keeper n → IsCut rules old new text
first_stands rules old new n text small some state exact says =
    let s : Settings = program_settings old.orphans in
    let one : n ≡ 1 = one_event n small some in
    record {
      session = subst (λ k. new ≡ record old { session = after_reading rules s (cut k) asks.Settle old.session }) one state;
      exact = subst (λ k. (try_settle rules s old.session.now (Some k) old.session.state).events ≡ k) one exact;
      text_is = says ∙ ap cut_by_keeper one;
    }

-- the first event leaves the stored rows
pub cut_rows : (rules : Rules) (old new : RuledSession) (n : ℕ) → n ≤ 1 → new ≡ record old { session = after_reading rules (program_settings old.orphans) (cut n) asks.Settle old.session }
    → is_sorted text_cmp old.session.state.records ≡ true → stored old.orphans new.session.state ≡ stored old.orphans old.session.state
cut_rows rules old new n small is sorted =
    ap (λ (r : RuledSession). stored old.orphans r.session.state) is ∙ first_still rules (program_settings old.orphans) old.orphans old.session.now n small old.session.state sorted

-- ---- a line is taken back

-- the session with the state that it had
abbrev pub taken_back : SessionState → SessionState → SessionState
taken_back m n = record n { state = m.state }

module _ (rules : Rules) (s : Settings) where
  finish_back : (m : SessionState) (o : Option Order) → taken_back m (after_finish rules s o m) ≡ m
  finish_back m None = refl
  finish_back m (Some x) = refl

  -- a line that may change the stored rows changes the state alone
  pub back : (word : Word) (line : Line) → changes line ≡ true → (m : SessionState) → taken_back m (after_reading rules s word line m) ≡ m
  back word (asks.Mutate p x) may m = refl
  back word (asks.ShelfPut name text) may m = refl
  back word (asks.ShelfDrop name) may m = refl
  back word (asks.Refresh r) may m = absurd (true≢false (sym may))
  back word (asks.Forget r) may m = refl
  back word (asks.Clock now) may m = absurd (true≢false (sym may))
  back word asks.Take may m = absurd (true≢false (sym may))
  back word (asks.Finish token) may m = finish_back m (order_numbered token m.orders)
  back word (asks.Stitch after) may m = absurd (true≢false (sym may))
  back word (asks.Place ticket) may m = absurd (true≢false (sym may))
  back word asks.Settle may m = refl
  back word (asks.Ask ask) may m = absurd (true≢false (sym may))

  -- ---- a line that may not change the stored rows

  stitch_still : (rule : OrphanRule) (o : Option StitchOrder) (m : SessionState) → stored rule (with_stitch o m).state ≡ stored rule m.state
  stitch_still rule None m = refl
  stitch_still rule (Some x) m = refl

  place_still : (rule : OrphanRule) (o : Option StitchOrder) (m : SessionState) → stored rule (after_place rules s o m).state ≡ stored rule m.state
  place_still rule None m = refl
  place_still rule (Some x) m = put_stitch_still rules s rule x m.state

  pub still : (rule : OrphanRule) (word : Word) (line : Line) → changes line ≡ false → (m : SessionState) → is_sorted text_cmp m.state.records ≡ true
      → stored rule (after_reading rules s word line m).state ≡ stored rule m.state
  still rule word (asks.Mutate p x) never m sorted = absurd (true≢false never)
  still rule word (asks.ShelfPut name text) never m sorted = absurd (true≢false never)
  still rule word (asks.ShelfDrop name) never m sorted = absurd (true≢false never)
  still rule word (asks.Refresh r) never m sorted = refresh_still rules s rule r m.state sorted
  still rule word (asks.Forget r) never m sorted = absurd (true≢false never)
  still rule word (asks.Clock now) never m sorted = refl
  still rule word asks.Take never m sorted = take_still rules s rule m.now m.state sorted
  still rule word (asks.Finish token) never m sorted = absurd (true≢false never)
  still rule word (asks.Stitch after) never m sorted = stitch_still rule (next_stitch rules m.state after) m
  still rule word (asks.Place ticket) never m sorted = place_still rule (find nat_cmp ticket m.stitches) m
  still rule word asks.Settle never m sorted = absurd (true≢false never)
  still rule word (asks.Ask ask) never m sorted = refl

  -- ---- to a session that isn't kept

  -- a line that wasn't kept, or not all of it, does what one does that acts
  after_plain : (line : Line) (m : SessionState) → after_reading rules s unkept line m ≡ after_reading rules s plain line m
  after_plain (asks.Mutate p x) m = refl
  after_plain (asks.ShelfPut name text) m = refl
  after_plain (asks.ShelfDrop name) m = refl
  after_plain (asks.Refresh r) m = refl
  after_plain (asks.Forget r) m = refl
  after_plain (asks.Clock now) m = refl
  after_plain asks.Take m = refl
  after_plain (asks.Finish token) m = refl
  after_plain (asks.Stitch after) m = refl
  after_plain (asks.Place ticket) m = refl
  after_plain asks.Settle m = refl
  after_plain (asks.Ask ask) m = refl

  -- and is answered as one
  reply_plain : (line : Line) (m : SessionState) → reply_to rules s unkept line m ≡ reply_to rules s plain line m
  reply_plain (asks.Mutate p x) m = refl
  reply_plain (asks.ShelfPut name text) m = refl
  reply_plain (asks.ShelfDrop name) m = refl
  reply_plain (asks.Refresh r) m = refl
  reply_plain (asks.Forget r) m = refl
  reply_plain (asks.Clock now) m = refl
  reply_plain asks.Take m = refl
  reply_plain (asks.Finish token) m = refl
  reply_plain (asks.Stitch after) m = refl
  reply_plain (asks.Place ticket) m = refl
  reply_plain asks.Settle m = refl
  reply_plain (asks.Ask ask) m = refl

  after_cut : (n : ℕ) (line : Line) (m : SessionState) → after_reading rules s (cut_unkept n) line m ≡ after_reading rules s plain line m
  after_cut n (asks.Mutate p x) m = refl
  after_cut n (asks.ShelfPut name text) m = refl
  after_cut n (asks.ShelfDrop name) m = refl
  after_cut n (asks.Refresh r) m = refl
  after_cut n (asks.Forget r) m = refl
  after_cut n (asks.Clock now) m = refl
  after_cut n asks.Take m = refl
  after_cut n (asks.Finish token) m = refl
  after_cut n (asks.Stitch after) m = refl
  after_cut n (asks.Place ticket) m = refl
  after_cut n asks.Settle m = refl
  after_cut n (asks.Ask ask) m = refl

  reply_cut : (n : ℕ) (line : Line) (m : SessionState) → reply_to rules s (cut_unkept n) line m ≡ reply_to rules s plain line m
  reply_cut n (asks.Mutate p x) m = refl
  reply_cut n (asks.ShelfPut name text) m = refl
  reply_cut n (asks.ShelfDrop name) m = refl
  reply_cut n (asks.Refresh r) m = refl
  reply_cut n (asks.Forget r) m = refl
  reply_cut n (asks.Clock now) m = refl
  reply_cut n asks.Take m = refl
  reply_cut n (asks.Finish token) m = refl
  reply_cut n (asks.Stitch after) m = refl
  reply_cut n (asks.Place ticket) m = refl
  reply_cut n asks.Settle m = refl
  reply_cut n (asks.Ask ask) m = refl

module _ (rules : Rules) (rule : OrphanRule) (line : Line) (old new : RuledSession) where
  -- a line that may not change the stored rows leaves them, whether memory lacked or not
  pub passed : {A E : Type 0} (came : Result A E) (items : A → List ℕ) → IfOk came (λ t. Carries rules line old new (items t)) → OnErr came (new ≡ old) → changes line ≡ false
      → is_sorted text_cmp old.session.state.records ≡ true → stored rule new.session.state ≡ stored rule old.session.state
  passed (Ok t) items ok err never sorted = ap (λ (n : RuledSession). stored rule n.session.state) ok.2 ∙ still rules (program_settings old.orphans) rule ok.0 line never old.session sorted
  passed (Err e) items ok err never sorted = ap (λ (n : RuledSession). stored rule n.session.state) err

-- ---- a line whose change wasn't kept

-- a session that is put back to the state from before a line is as before it
pub taken_back_is : (rules : Rules) (line : Line) (old mid new : RuledSession) (text : List ℕ) (saved : State) → Carries rules line old mid text → changes line ≡ true → saved ≡ old.session.state
    → new ≡ record mid { session = record mid.session { state = saved } } → new ≡ old
taken_back_is rules line old mid new text saved h may is e =
    e ∙ ((λ i. record (h.2 i) { session = record (h.2 i).session { state = is i } }) ∙ ap (λ (m : SessionState). record old { session = m }) (back rules (program_settings old.orphans) h.0 line may old.session))

-- what a store follows before a line it follows after it, where the session is put back, and what is done then leaves the stored rows
pub followed_back : (told told' : Option Rows) (o o' : OrphanRule) (rows rows' : Stored) (old mid new : RuledSession) → IsFollowed told o rows old.orphans old.session.state
    → o' ≡ o → rows' ≡ rows → (Are told (texts_of rows) → Are told' (texts_of rows')) → mid ≡ old → new.orphans ≡ mid.orphans
    → stored mid.orphans new.session.state ≡ stored mid.orphans mid.session.state → IsFollowed told' o' rows' new.orphans new.session.state
followed_back told told' o o' rows rows' old mid new f orphans same tells back rule kept = record {
  rule_is = orphans ∙ (f.rule_is ∙ sym (rule ∙ ap (λ (r : RuledSession). r.orphans) back));
  rows_are = same ∙ (f.rows_are ∙ sym (ap (λ o. stored o new.session.state) rule ∙ (kept ∙ ap (λ (r : RuledSession). stored r.orphans r.session.state) back)));
  told_are = tells f.told_are;
}

-- want of memory is answered where nothing has changed
pub lacked : {A E : Type 0} (came : Result A E) (P : Type 0) → P → OnErr came P
lacked (Ok x) P h = tt
lacked (Err e) P h = h

-- a settle is cut, and any other line is refused
pub lost : (rules : Rules) (line : Line) (old new : RuledSession) (text : List ℕ) (b : Bool) → b ≡ is_settle line → changes line ≡ true → (b ≡ true → IsCut rules old new text)
    → (b ≡ false → (new ≡ old) × (text ≡ refused_keeper)) → IsRefused rules line old new text
lost rules line old new text true is may short whole = inr (short refl, sym is)
lost rules line old new text false is may short whole = let w = whole refl in inl (w.0, w.1, λ i. may i && not (sym is i))

-- ---- what was answered

-- a settle alone is one
settle_is : (line : Line) → is_settle line ≡ true → line ≡ asks.Settle
settle_is (asks.Mutate p x) h = absurd (true≢false (sym h))
settle_is (asks.ShelfPut name text) h = absurd (true≢false (sym h))
settle_is (asks.ShelfDrop name) h = absurd (true≢false (sym h))
settle_is (asks.Refresh r) h = absurd (true≢false (sym h))
settle_is (asks.Forget r) h = absurd (true≢false (sym h))
settle_is (asks.Clock now) h = absurd (true≢false (sym h))
settle_is asks.Take h = absurd (true≢false (sym h))
settle_is (asks.Finish token) h = absurd (true≢false (sym h))
settle_is (asks.Stitch after) h = absurd (true≢false (sym h))
settle_is (asks.Place ticket) h = absurd (true≢false (sym h))
settle_is asks.Settle h = refl
settle_is (asks.Ask ask) h = absurd (true≢false (sym h))

module _ (rules : Rules) (bytes : List ℕ) where
  abbrev Answered : KeptState → KeptState → List ℕ → Type 0
  Answered old new text = AnswersLine (kept_after rules) (kept_reply rules) old new bytes text

  module _ (old new : KeptState) (place : new.place ≡ old.place) where
    -- the states are the same where their parts are
    kept_is : (ruled : RuledSession) (refusals : ℕ) → new.ruled ≡ ruled → new.refusals ≡ refusals → new ≡ record { ruled = ruled; place = old.place; refusals = refusals }
    kept_is ruled refusals e f = λ i. record { ruled = e i; place = place i; refusals = f i }

    module _ (line : Line) (reads : line_of bytes ≡ Ok line) where
      abbrev s : Settings
      s = program_settings old.ruled.orphans

      -- what is read is what the bytes do
      after_is : (w : Word) → record old.ruled { session = after_reading rules s w line old.ruled.session } ≡ ruled_after rules old.ruled w bytes
      unfolding session_after
      after_is w = ap (λ o. record old.ruled { session = after_result rules s w o old.ruled.session }) (sym reads)

      reply_is : (w : Word) → reply_to rules s w line old.ruled.session ≡ ruled_reply rules old.ruled w bytes
      unfolding session_reply
      reply_is w = ap (λ o. reply_to_result rules s w o old.ruled.session) (sym reads)

      module _ (text : List ℕ) where
        by_word : new.refusals ≡ old.refusals → (w : Word) → IsActing w → new.ruled ≡ record old.ruled { session = after_reading rules s w line old.ruled.session } → text ≡ reply_to rules s w line old.ruled.session → Answered old new text
        by_word none plain acts e t = (plain, tt, kept_is _ old.refusals (e ∙ after_is plain) none, t ∙ reply_is plain)
        by_word none memory acts e t = absurd acts
        by_word none (cut n) acts e t = (cut n, tt, kept_is _ old.refusals (e ∙ after_is (cut n)) none, t ∙ reply_is (cut n))
        by_word none unkept acts e t = (
          plain,
          tt,
          kept_is _ old.refusals (e ∙ (ap (λ n. record old.ruled { session = n }) (after_plain rules s line old.ruled.session) ∙ after_is plain)) none,
          t ∙ (reply_plain rules s line old.ruled.session ∙ reply_is plain),
        )
        by_word none (cut_unkept n) acts e t = (
          plain,
          tt,
          kept_is _ old.refusals (e ∙ (ap (λ n. record old.ruled { session = n }) (after_cut rules s n line old.ruled.session) ∙ after_is plain)) none,
          t ∙ (reply_cut rules s n line old.ruled.session ∙ reply_is plain),
        )

        -- a line that was carried out is answered
        carried : new.refusals ≡ old.refusals → Carries rules line old.ruled new.ruled text → Answered old new text
        carried none h = by_word none h.0 h.1 h.2 h.3

        -- one whose change wasn't kept too
        refused_whole : new.ruled ≡ old.ruled → text ≡ refused_keeper → is_single line ≡ true → new.refusals ≡ one_more old.refusals → Answered old new text
        refused_whole same says may more =
            let read : may_be_refused (line_of bytes) ≡ true = ap may_be_refused reads ∙ may in (
              unkept,
              tt,
              kept_is old.ruled _ same more ∙ ap (λ (b : Bool). if b then one_refused old.ruled old else record old { ruled = ruled_after rules old.ruled plain bytes }) (sym read),
              says ∙ ap (λ (b : Bool). if b then refused_keeper else ruled_reply rules old.ruled plain bytes) (sym read),
            )

        -- and a settle that was cut behind its first event
        refused_rest : (h : IsCut rules old.ruled new.ruled text) → line ≡ asks.Settle → new.refusals ≡ one_more old.refusals → Answered old new text
        refused_rest h settles more =
            let read : may_be_cut (line_of bytes) ≡ true = ap may_be_cut reads ∙ ap is_settle settles in
            let after : record old.ruled { session = after_reading rules s (cut 1) asks.Settle old.ruled.session } ≡ ruled_after rules old.ruled (cut 1) bytes
            = ap (λ l. record old.ruled { session = after_reading rules s (cut 1) l old.ruled.session }) (sym settles) ∙ after_is (cut 1) in (
              cut_unkept 1,
              tt,
              kept_is (ruled_after rules old.ruled (cut 1) bytes) _ (h.session ∙ after) more
                  ∙ ap (λ (b : Bool). if b then one_refused (ruled_after rules old.ruled (cut 1) bytes) old else record old { ruled = ruled_after rules old.ruled plain bytes }) (sym read),
              h.text_is ∙ (ap cut_by_keeper (sym h.exact) ∙ ap (λ (b : Bool). if b then cut_by_keeper (settle_events rules old.ruled) else ruled_reply rules old.ruled plain bytes) (sym read)),
            )

        carried_kept : CarriesKept rules line old.ruled new.ruled old.refusals new.refusals text → Answered old new text
        carried_kept (inl h) = carried h.1 h.0
        carried_kept (inr h) = elim h.0 [ inl k ↦ refused_whole k.0 k.1 k.2 h.1 | inr k ↦ refused_rest k.0 (settle_is line k.1) h.1 ]

      -- the same of whatever came of it, but for want of memory
      pub follows : {A E : Type 0} (came : Result A E) (items : A → List ℕ) → IfOk came (λ t. CarriesKept rules line old.ruled new.ruled old.refusals new.refusals (items t)) → IfOk came (λ t. Answered old new (items t))
      follows (Ok t) items h = carried_kept (items t) h
      follows (Err e) items h = h

      pub passes : {A E : Type 0} (came : Result A E) (items : A → List ℕ) → new.refusals ≡ old.refusals → IfOk came (λ t. Carries rules line old.ruled new.ruled (items t)) → IfOk came (λ t. Answered old new (items t))
      passes (Ok t) items none h = carried (items t) none h
      passes (Err e) items none h = h

    module _ (fault : LineFault) (same : new.ruled ≡ old.ruled) (none : new.refusals ≡ old.refusals) where
      -- a line that is no command changes nothing
      refused : line_of bytes ≡ Err fault → (text : List ℕ) → text ≡ line_fault fault → Answered old new text
      unfolding session_after session_reply
      refused reads text t = (
        plain,
        tt,
        kept_is _ old.refusals (same ∙ ap (λ o. record old.ruled { session = after_result rules (program_settings old.ruled.orphans) plain o old.ruled.session }) (sym reads)) none,
        t ∙ ap (λ o. reply_to_result rules (program_settings old.ruled.orphans) plain o old.ruled.session) (sym reads),
      )

      named : (f : LineFault) → f ≡ fault → (text : List ℕ) → IsLineRefusal f text → text ≡ line_fault fault
      named faults.LongLine e text h = h ∙ ap line_fault e
      named faults.BadWord e text h = h ∙ ap line_fault e
      named faults.BadArguments e text h = h ∙ ap line_fault e
      named (faults.Input f) e text h = h ∙ ap line_fault e
      named (faults.Reference place) e text h = h ∙ ap line_fault e
      named (faults.Query f) e text h = h ∙ ap line_fault e
      named faults.NoMemory e text h = absurd h

      pub refuses : {A E : Type 0} (came : Result A E) (items : A → List ℕ) → (line_of bytes ≡ Err fault) ⊎ (fault ≡ faults.NoMemory) → IfOk came (λ t. IsLineRefusal fault (items t)) → IfOk came (λ t. Answered old new (items t))
      refuses (Ok t) items (inl reads) h = refused reads (items t) (named fault refl (items t) h)
      refuses (Ok t) items (inr e) h = absurd (subst (λ f. IsLineRefusal f (items t)) e h)
      refuses (Err e) items told h = h
