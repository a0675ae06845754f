-- What a feed answers, and who follows it afterwards.
use Rattle.std.proofs.Common.{T, ◌≡◌, ◌⊎◌, inl, inr, ℕ, ◌≤◌, ltb, Bool, true, false, not, ◌==◌, ◌||◌, List, [], Result, Ok, Err, refl, sym, ap, subst, ◌∙◌, true≢false}
use Rattle.std.specs.Prelude.{if◌then◌else◌, IfOk, IfErr}
use Rattle.std.specs.declared.option.Option.{Option}
use Rattle.std.specs.declared.option.Option.TheVariants.{None, Some}
use Rattle.std.specs.FinMap.Entries.{is_sorted}
use Rattle.cat_collections.specs.Table.{text_cmp}
use Rattle.cat_feed.specs.Changes.{Difference, Documents, above, applied, differences, numbered, sets}
use Rattle.cat_feed.specs.Feed.{Follows, IsKept, answer, asked, changes_since, feed_after, first_place, is_gone, is_over, is_spent, is_taken, least, place, refused, taken_in, with_changes}
use Rattle.cat_feed.specs.declared.change.Change.{Change}
use Rattle.cat_feed.specs.declared.change.Changes.{Changes}
use Rattle.cat_feed.specs.declared.change.Since.{Since}
use Rattle.cat_feed.specs.declared.fault.FeedFault.{FeedFault}
use Rattle.cat_feed.specs.declared.fault.FeedFault.TheVariants.{Gone, Ahead, Spent, NoMemory}
use Rattle.cat_feed.specs.declared.ledger.Ledger.{Ledger}
use Rattle.cat_feed.proofs.Finds.{to_T}
use Rattle.cat_feed.proofs.Kept.{follows_on, kept_on, kept_taken, not_over, taken_in_is}
use Rattle.cat_feed.proofs.Leads.{sets_lead}

or_right : (a b : Bool) → (a || b) ≡ false → b ≡ false
or_right true b e = absurd (true≢false e)
or_right false b e = e

-- the changes of an answer, if it has any
list_of : Result Changes FeedFault → List Change
list_of (Ok c) = c.list
list_of (Err f) = []

is_answered : Result Changes FeedFault → Bool
is_answered (Ok c) = true
is_answered (Err f) = false

refuses : (f : FeedFault) (c : Changes) (r : Result Changes FeedFault) → r ≡ Err f → r ≡ Ok c → ⊥
unfolding is_answered
refuses f c r e o = true≢false (sym (ap is_answered o) ∙ ap is_answered e)

-- an answer to a place keeps that place
near : (since : Since) (taken : Ledger) (c : Changes) → answer (Some since) taken ≡ Ok c → (least taken ≤ since.number) × (c.list ≡ above since.number taken.kept)
unfolding list_of
near since taken c e = go (is_gone since taken) refl (ltb taken.number since.number) e
  where
    go : (a : Bool) → is_gone since taken ≡ a → (b : Bool) → changes_since since taken (if a then Err (Gone (first_place taken)) else if b then Err (Ahead (place taken)) else Ok tt) ≡ Ok c
        → (least taken ≤ since.number) × (c.list ≡ above since.number taken.kept)
    go true gone b e = absurd (refuses (Gone (first_place taken)) c (changes_since since taken (Err (Gone (first_place taken)))) refl e)
    go false gone true e = absurd (refuses (Ahead (place taken)) c (changes_since since taken (Err (Ahead (place taken)))) refl e)
    go false gone false e = (not_over since.number (least taken) (or_right (not (since.epoch == taken.epoch)) (ltb since.number (least taken)) gone), sym (ap list_of e))

module _ (docs : Documents) (feed : Ledger) (k : IsKept feed) (g : is_sorted text_cmp feed.copy ≡ true) (h : is_sorted text_cmp docs ≡ true) where
  -- an answer is that of the feed with the documents taken in
  answer_of : (since : Option Since) (c : Changes) → asked docs since feed ≡ Ok c → answer since (taken_in docs feed) ≡ Ok c
  answer_of since c e = go (is_spent docs feed) e
    where
      go : (b : Bool) → (if b then Err Spent else answer since (taken_in docs feed)) ≡ Ok c → answer since (taken_in docs feed) ≡ Ok c
      go true e = absurd (refuses Spent c (Err Spent) refl e)
      go false e = e

  -- the changes of an answer lead from documents that followed to those that were lent
  pub answer_leads : (since : Since) (c : Changes) → asked docs (Some since) feed ≡ Ok c → (ds : Documents) → Follows ds since.number feed → applied c.list ds ≡ docs
  answer_leads since c e ds f =
      let n : (least (taken_in docs feed) ≤ since.number) × (c.list ≡ above since.number (taken_in docs feed).kept) = near since (taken_in docs feed) c (answer_of (Some since) c e) in
      ap (λ cs. applied cs ds) n.1 ∙ (follows_on docs feed k (to_T _ g) (to_T _ h) ds since.number f n.0).leads

  -- and those of an answer to no place lead from none
  pub whole_leads : (c : Changes) → asked docs None feed ≡ Ok c → applied c.list [] ≡ docs
  unfolding list_of
  whole_leads c e =
      sym (ap (λ cs. applied cs []) (ap list_of (answer_of None c e))) ∙ sets_lead 0 docs (to_T _ h)

  -- who followed goes on following
  pub goes_on : (b : Bool) (ds : Documents) (n : ℕ) → Follows ds n feed → least (if b then taken_in docs feed else feed) ≤ n → Follows ds n (if b then taken_in docs feed else feed)
  goes_on true ds n f far = follows_on docs feed k (to_T _ g) (to_T _ h) ds n f far
  goes_on false ds n f far = f

  -- an answer with which the documents are taken in isn't Spent, so the feed is as feeds are
  not_spent : (since : Option Since) → is_taken (asked docs since feed) ≡ true → is_spent docs feed ≡ false
  not_spent since t = go (is_spent docs feed) t
    where
      go : (b : Bool) → is_taken (if b then Err Spent else answer since (taken_in docs feed)) ≡ true → b ≡ false
      go true t = absurd (true≢false (sym t))
      go false t = refl

  pub taken_kept : is_spent docs feed ≡ false → IsKept (taken_in docs feed)
  taken_kept fits = kept_taken docs feed k (to_T _ g) (to_T _ h) fits

  pub taken_is : with_changes (differences feed.copy docs) feed ≡ taken_in docs feed
  taken_is = taken_in_is docs feed (to_T _ g) (to_T _ h)

-- the answer of the feed with the documents taken in is the answer
pub asked_of : (docs : Documents) (since : Option Since) (feed next : Ledger) (r : Result Changes FeedFault) → is_spent docs feed ≡ false → next ≡ taken_in docs feed → answer since next ≡ r → asked docs since feed ≡ r
asked_of docs since feed next r fits is e =
    ap (λ b. if b then Err Spent else answer since (taken_in docs feed)) fits ∙ (ap (answer since) (sym is) ∙ e)

pub asked_spent : (docs : Documents) (since : Option Since) (feed : Ledger) → is_spent docs feed ≡ true → asked docs since feed ≡ Err Spent
asked_spent docs since feed over = ap (λ b. if b then Err Spent else answer since (taken_in docs feed)) over

-- ---- what a call answers

pub if_asked_ok : (docs : Documents) (since : Option Since) (feed next : Ledger) (r : Result Changes FeedFault) → is_spent docs feed ≡ false → next ≡ taken_in docs feed
    → IfOk r (λ c. answer since next ≡ Ok c) → IfOk r (λ c. asked docs since feed ≡ Ok c)
if_asked_ok docs since feed next (Ok c) fits is e = asked_of docs since feed next (Ok c) fits is e
if_asked_ok docs since feed next (Err f) fits is e = tt

pub if_asked_err : (docs : Documents) (since : Option Since) (feed next : Ledger) (r : Result Changes FeedFault) → is_spent docs feed ≡ false → next ≡ taken_in docs feed
    → IfErr r (λ f. (answer since next ≡ Err f) ⊎ (f ≡ NoMemory)) → IfErr r (λ f. (asked docs since feed ≡ Err f) ⊎ (f ≡ NoMemory))
if_asked_err docs since feed next (Ok c) fits is e = tt
if_asked_err docs since feed next (Err f) fits is e = elim e [ inl a ↦ inl (asked_of docs since feed next (Err f) fits is a) | inr m ↦ inr m ]

pub refused_as : (docs : Documents) (since : Option Since) (feed : Ledger) (f : FeedFault) → ((is_spent docs feed ≡ true) × (f ≡ Spent)) ⊎ (f ≡ NoMemory) → (asked docs since feed ≡ Err f) ⊎ (f ≡ NoMemory)
refused_as docs since feed f (inl h) = inl (asked_spent docs since feed h.0 ∙ ap Err (sym h.1))
refused_as docs since feed f (inr m) = inr m

pub refused_keeps : (docs : Documents) (feed : Ledger) (f : FeedFault) → ((is_spent docs feed ≡ true) × (f ≡ Spent)) ⊎ (f ≡ NoMemory) → feed ≡ (if is_taken (Err f) then taken_in docs feed else feed)
refused_keeps docs feed f (inl h) = sym (ap (λ x. if is_taken (Err x) then taken_in docs feed else feed) h.1)
refused_keeps docs feed f (inr m) = sym (ap (λ x. if is_taken (Err x) then taken_in docs feed else feed) m)

-- the feed after an answer that the documents are taken in with, or not
pub fed : (docs : Documents) (feed : Ledger) (b : Bool) (r : Result Changes FeedFault) → b ≡ is_taken r → (now : Ledger) → now ≡ (if b then taken_in docs feed else feed) → now ≡ (if is_taken r then taken_in docs feed else feed)
fed docs feed b r e now is = is ∙ ap (λ t. if t then taken_in docs feed else feed) e

-- ---- the clauses of an ask

pub asks_follow : (docs : Documents) (since : Option Since) (feed : Ledger) (r : Result Changes FeedFault) → IsKept feed → is_sorted text_cmp feed.copy ≡ true → is_sorted text_cmp docs ≡ true
    → IfOk r (λ c. asked docs since feed ≡ Ok c) → IfOk r (λ c. (ds : Documents) (s : Since) → since ≡ Some s → Follows ds s.number feed → applied c.list ds ≡ docs)
asks_follow docs since feed (Ok c) k g h e = λ ds s at f. answer_leads docs feed k g h s c (ap (λ p. asked docs p feed) (sym at) ∙ e) ds f
asks_follow docs since feed (Err f) k g h e = tt

pub asks_whole : (docs : Documents) (since : Option Since) (feed : Ledger) (r : Result Changes FeedFault) → IsKept feed → is_sorted text_cmp feed.copy ≡ true → is_sorted text_cmp docs ≡ true
    → IfOk r (λ c. asked docs since feed ≡ Ok c) → IfOk r (λ c. since ≡ None → applied c.list [] ≡ docs)
asks_whole docs since feed (Ok c) k g h e = λ at. whole_leads docs feed k g h c (ap (λ p. asked docs p feed) (sym at) ∙ e)
asks_whole docs since feed (Err f) k g h e = tt

pub asks_keep : (docs : Documents) (feed now : Ledger) (b : Bool) → IsKept feed → is_sorted text_cmp feed.copy ≡ true → is_sorted text_cmp docs ≡ true → now ≡ (if b then taken_in docs feed else feed)
    → (ds : Documents) (n : ℕ) → Follows ds n feed → least now ≤ n → Follows ds n now
asks_keep docs feed now b k g h is ds n f far =
    subst (λ l. Follows ds n l) (sym is) (goes_on docs feed k g h b ds n f (subst (λ l. least l ≤ n) is far))

-- ---- the feed once it has taken documents in

pub advance_ok : (docs : Documents) (feed : Ledger) (found : List Difference) (r : Result Ledger FeedFault) → is_sorted text_cmp feed.copy ≡ true → is_sorted text_cmp docs ≡ true → found ≡ differences feed.copy docs
    → IfOk r (λ l. (is_over found feed ≡ false) × (l ≡ with_changes found feed)) → IfOk r (λ l. (is_spent docs feed ≡ false) × (l ≡ taken_in docs feed))
advance_ok docs feed found (Ok l) g h is e =
    (ap (λ f. is_over f feed) (sym is) ∙ e.0, e.1 ∙ (ap (λ f. with_changes f feed) is ∙ taken_in_is docs feed (to_T _ g) (to_T _ h)))
advance_ok docs feed found (Err f) g h is e = tt

pub advance_kept : (feed : Ledger) (found : List Difference) (r : Result Ledger FeedFault) → IsKept feed
    → IfOk r (λ l. (is_over found feed ≡ false) × (l ≡ with_changes found feed)) → IfOk r IsKept
advance_kept feed found (Ok l) k e = subst IsKept (sym e.1) (kept_on found feed k e.0)
advance_kept feed found (Err f) k e = tt
