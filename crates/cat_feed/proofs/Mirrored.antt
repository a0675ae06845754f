-- A mirror follows a feed.
use Rattle.std.proofs.Common.{T, ◌≡◌, ℕ, ◌+◌, ◌-◌, ◌<◌, ◌≤◌, ltb, eqb, not, ◌||◌, Bool, true, false, cond, List, [], ◌∷◌, ◌++◌, Option, None, Some, Result, Ok, Err, length, drop, refl, sym, ap, subst, ◌∙◌, true≢false, arith, length-append, length-drop}
use Rattle.std.proofs.lemmas.Bool.Decides.{nat_tests}
use Rattle.std.specs.Prelude.{if◌then◌else◌, IsTrue}
use Rattle.std.specs.FinMap.Entries.{is_sorted}
use Rattle.cat_collections.specs.Table.{text_cmp}
use Rattle.cat_feed.specs.Changes.{Documents, above, applied, differences, numbered, sets}
use Rattle.cat_feed.specs.Feed.{AreNumbered, Follows, IsKept, answer, asked, begun, changes_since, feed_after, first_place, is_gone, is_spent, is_taken, least, place, refused, taken_in}
use Rattle.cat_feed.specs.declared.change.Change.{Change}
use Rattle.cat_feed.specs.declared.change.Changes.{Changes}
use Rattle.cat_feed.specs.declared.change.Since.{Since}
use Rattle.cat_feed.specs.declared.fault.FeedFault.{FeedFault}
use Rattle.cat_feed.specs.declared.fault.FeedFault.TheVariants.{Gone, Ahead, Spent}
use Rattle.cat_feed.specs.declared.ledger.Ledger.{Ledger}
use Rattle.cat_feed.proofs.Kept.{above_none, follows_on, kept_taken, least_grows}
use Rattle.cat_feed.proofs.Finds.{to_T}
use Rattle.cat_feed.proofs.Leads.{sets_lead}
use Rattle.cat_feed.specs.Mirror.{empty, mirrored}
use Rattle.cat_feed.specs.Turns.{AreInOrder, AreMirrored, IsMirrored, Turn, mirror_after}
use Rattle.cat_feed.specs.Turns.Turn.{own, others}
use Rattle.cat_feed.specs.declared.mirror.Mirror.{Mirror}

-- what holds of a feed between two turns
record IsSteady (feed : Ledger) : Type 0 where
  kept : IsKept feed
  order : T (is_sorted text_cmp feed.copy)

-- a place was told, and the documents follow from it as long as it is kept
record IsKnown (since : Since) (ds : Documents) (feed : Ledger) : Type 0 where
  told : since.number ≤ feed.number
  leads : least feed ≤ since.number → applied (above since.number feed.kept) ds ≡ feed.copy

Knows : Option Since → Documents → Ledger → Type 0
Knows None ds feed = Unit {0}
Knows (Some since) ds feed = IsKnown since ds feed

not_below : (a b : ℕ) → ltb a b ≡ false → b ≤ a
not_below a b e = grind (arith, nat_tests)

or_left : (a b : Bool) → (a || b) ≡ false → a ≡ false
or_left true b e = absurd (true≢false e)
or_left false b e = refl

or_right : (a b : Bool) → (a || b) ≡ false → b ≡ false
or_right true b e = absurd (true≢false e)
or_right false b e = e

-- ---- the feed goes on

steady_on : (ds : Documents) (feed : Ledger) → IsSteady feed → T (is_sorted text_cmp ds) → is_spent ds feed ≡ false → IsSteady (taken_in ds feed)
steady_on ds feed s h fits = record { kept = kept_taken ds feed s.kept s.order h fits; order = h }

known_on : (since : Since) (docs ds : Documents) (feed : Ledger) → IsSteady feed → T (is_sorted text_cmp ds) → IsKnown since docs feed → IsKnown since docs (taken_in ds feed)
known_on since docs ds feed s h k =
    let grown : least feed ≤ least (taken_in ds feed) = least_grows ds feed in
    let was : since.number ≤ feed.number = k.told in
    record {
      told = omega arith;
      leads = λ far. (follows_on ds feed s.kept s.order h docs since.number (record { kept = omega arith; told = k.told; leads = k.leads (omega arith) }) far).leads;
    }

knows_on : (since : Option Since) (docs ds : Documents) (feed : Ledger) → IsSteady feed → T (is_sorted text_cmp ds) → Knows since docs feed → Knows since docs (taken_in ds feed)
unfolding Knows
knows_on None docs ds feed s h k = tt
knows_on (Some since) docs ds feed s h k = known_on since docs ds feed s h k

-- documents that are the copy are known at the feed's place
known_here : (feed : Ledger) → IsSteady feed → IsKnown (place feed) feed.copy feed
known_here feed s =
    let enough : length feed.kept ≤ feed.number = s.kept.within in
    record {
      told = omega arith;
      leads = λ far. ap (λ cs. applied cs feed.copy) (above_none (least feed) feed.number feed.kept (omega arith) s.kept.numbers);
    }

-- ---- an ask, by its answer

-- what an answer leaves: the feed, and the mirror that applied it
record IsLeft (ds : Documents) (taken : Ledger) (r : Result Changes FeedFault) (m : Mirror) : Type 0 where
  shown : IsMirrored ds r m
  knows : Knows (mirror_after r m).place (mirror_after r m).documents taken

abbrev refusal_by : Bool → Bool → Since → Since → Result (Unit {0}) FeedFault
refusal_by a b first here = if a then Err (Gone first) else if b then Err (Ahead here) else Ok tt

abbrev lets : Result (Unit {0}) FeedFault → Bool
lets (Ok u) = true
lets (Err fault) = false

not_gone : (a b : Bool) (first here : Since) (u : Unit {0}) → refusal_by a b first here ≡ Ok u → a ≡ false
not_gone true b first here u e = absurd (true≢false (sym (ap lets e)))
not_gone false b first here u e = refl

left_since : (since : Since) (m : Mirror) (taken : Ledger) → m.place ≡ Some since → IsSteady taken → IsKnown since m.documents taken → (r : Result (Unit {0}) FeedFault) → refused since taken ≡ r → IsLeft taken.copy taken (changes_since since taken r) m
unfolding Knows
left_since since m taken at s k (Err fault) e = record { shown = tt; knows = subst (λ p. Knows p m.documents taken) (sym at) k }
left_since since m taken at s k (Ok u) e =
    let kept : is_gone since taken ≡ false = not_gone (is_gone since taken) (ltb taken.number since.number) (first_place taken) (place taken) u e in
    let near : least taken ≤ since.number = not_below since.number (least taken) (or_right (not (eqb since.epoch taken.epoch)) (ltb since.number (least taken)) kept) in
    let here : applied (above since.number taken.kept) m.documents ≡ taken.copy = k.leads near in
    record { shown = here; knows = subst (λ ds. IsKnown (place taken) ds taken) (sym here) (known_here taken s) }

left : (p : Option Since) (m : Mirror) (taken : Ledger) → m.place ≡ p → IsSteady taken → Knows p m.documents taken → IsLeft taken.copy taken (answer p taken) m
unfolding Knows
left None m taken at s k =
    let here : applied (numbered 0 (sets taken.copy)) [] ≡ taken.copy = sets_lead 0 taken.copy s.order in
    record { shown = here; knows = subst (λ ds. IsKnown (place taken) ds taken) (sym here) (known_here taken s) }
left (Some since) m taken at s k = left_since since m taken at s k (refused since taken) refl

-- an answer other than Spent takes the documents in
taken_answer : (p : Option Since) (taken : Ledger) → is_taken (answer p taken) ≡ true
taken_answer None taken = refl
taken_answer (Some since) taken = go (is_gone since taken) (ltb taken.number since.number)
  where
    go : (a b : Bool) → is_taken (changes_since since taken (if a then Err (Gone (first_place taken)) else if b then Err (Ahead (place taken)) else Ok tt)) ≡ true
    go true b = refl
    go false true = refl
    go false false = refl

-- ---- whole runs

-- the feed and the mirror after an answer
record IsOn (ds : Documents) (fed : Ledger) (r : Result Changes FeedFault) (m : Mirror) : Type 0 where
  steady : IsSteady fed
  shown : IsMirrored ds r m
  knows : Knows (mirror_after r m).place (mirror_after r m).documents fed

-- where numbers are spent nothing changes
spent_turn : (ds : Documents) (feed : Ledger) (m : Mirror) → IsSteady feed → Knows m.place m.documents feed → IsOn ds feed (Err Spent) m
spent_turn ds feed m s k = record { steady = s; shown = tt; knows = k }

taken_turn : (ds : Documents) (feed : Ledger) (m : Mirror) → T (is_sorted text_cmp ds) → IsSteady feed → Knows m.place m.documents feed → is_spent ds feed ≡ false → IsOn ds (taken_in ds feed) (answer m.place (taken_in ds feed)) m
taken_turn ds feed m h s k fits =
    let l : IsLeft ds (taken_in ds feed) (answer m.place (taken_in ds feed)) m = left m.place m (taken_in ds feed) refl (steady_on ds feed s h fits) (knows_on m.place m.documents ds feed s h k) in
    record { steady = steady_on ds feed s h fits; shown = l.shown; knows = l.knows }

own_turn : (ds : Documents) (feed : Ledger) (m : Mirror) → T (is_sorted text_cmp ds) → IsSteady feed → Knows m.place m.documents feed → IsOn ds (feed_after ds m.place feed) (asked ds m.place feed) m
own_turn ds feed m h s k = go (is_spent ds feed) refl
  where
    go : (b : Bool) → is_spent ds feed ≡ b → IsOn ds (if is_taken (if b then Err Spent else answer m.place (taken_in ds feed)) then taken_in ds feed else feed) (if b then Err Spent else answer m.place (taken_in ds feed)) m
    go true over = spent_turn ds feed m s k
    go false fits = subst (λ t. IsOn ds (if t then taken_in ds feed else feed) (answer m.place (taken_in ds feed)) m) (sym (taken_answer m.place (taken_in ds feed))) (taken_turn ds feed m h s k fits)

other_turn : (ds : Documents) (since : Option Since) (feed : Ledger) (m : Mirror) → T (is_sorted text_cmp ds) → IsSteady feed → Knows m.place m.documents feed → IsSteady (feed_after ds since feed) × Knows m.place m.documents (feed_after ds since feed)
other_turn ds since feed m h s k = go (is_spent ds feed) refl
  where
    go : (b : Bool) → is_spent ds feed ≡ b → IsSteady (if is_taken (if b then Err Spent else answer since (taken_in ds feed)) then taken_in ds feed else feed) × Knows m.place m.documents (if is_taken (if b then Err Spent else answer since (taken_in ds feed)) then taken_in ds feed else feed)
    go true over = (s, k)
    go false fits = subst (λ t. IsSteady (if t then taken_in ds feed else feed) × Knows m.place m.documents (if t then taken_in ds feed else feed)) (sym (taken_answer since (taken_in ds feed))) (steady_on ds feed s h fits, knows_on m.place m.documents ds feed s h k)

follow : (turns : List Turn) (feed : Ledger) (m : Mirror) → AreInOrder turns → IsSteady feed → Knows m.place m.documents feed → AreMirrored turns feed m
follow [] feed m h s k = tt
follow (own ds ∷ turns) feed m h s k =
    let t : IsOn ds (feed_after ds m.place feed) (asked ds m.place feed) m = own_turn ds feed m (to_T _ h.0) s k in
    (t.shown, follow turns (feed_after ds m.place feed) (mirror_after (asked ds m.place feed) m) h.1 t.steady t.knows)
follow (others ds since ∷ turns) feed m h s k =
    let t : IsSteady (feed_after ds since feed) × Knows m.place m.documents (feed_after ds since feed) = other_turn ds since feed m (to_T _ h.0) s k in
    follow turns (feed_after ds since feed) m h.1 t.0 t.1

pub mirrors_follow : (epoch : ℕ) (turns : List Turn) → AreInOrder turns → AreMirrored turns (begun epoch) empty
unfolding Knows
mirrors_follow epoch turns h = follow turns (begun epoch) empty h (record { kept = record { numbers = tt; within = omega arith; most = omega arith; bound = omega arith }; order = tt }) tt
