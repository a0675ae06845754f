-- Each step keeps the rule.
use Rattle.std.proofs.Common.{◌≡◌, ◌≢◌, ◌⊎◌, ℕ, zero, suc, ◌+◌, ◌%◌, ◌^◌, ◌<◌, ◌≤◌, true, false, List, [], ◌∷◌, ◌++◌, length, set, get_or, All, sym, refl, ap, ◌∙◌, subst, inl, inr, ⊎_elim, arith, append_assoc, append-nil}
use Rattle.std.specs.Option.{ForSome}
use Rattle.std.proofs.lemmas.List.Elements.{All-append, All-nil, All-tail}
use mathlib.Core.Logic.{dite}
use mathlib.Core.Option as Cell
use mathlib.Core.List.{IsPrefix}
use native.Mathlib.Decide.{ℕ_discrete}
use lib.ListN.{get_elem?}
use lib.Seq.{set-get_or}
use Rattle.std.specs.declared.option.Option.{Option}
use Rattle.std.specs.declared.option.Option.TheVariants.{None, Some}
use Rattle.atomic_table.specs.Table.{State, Me, step, keeps, takes, gives, rest, stepped, Allows, Splits, Joins, opening, Seen, Final}
use Rattle.atomic_table.proofs.Lists.{one_turn, set_else, set_again, at_longer}
use Rattle.cat_turns.specs.declared.law.Held.{Held}
use Rattle.cat_turns.specs.declared.law.Stage.{Stage}
use Rattle.cat_turns.specs.declared.law.Stage.TheVariants.{Idle, Waiting, Turn, Out}
use Rattle.cat_turns.specs.declared.law.View.{View}
use Rattle.cat_turns.specs.Law.{most, ticket_of, due, is_out, one_if, view, first_view, parent, newcomer, joined, spent, ticket, number, HasNumber, how_many, GrowsBeside, GrowsBy, IsBehind, IsMet, Stands, Sits, Counts, Keeps, IsFair}
use Rattle.cat_turns.specs.Steps as tells
use Rattle.cat_turns.proofs.Views.{sum_set, sum_snoc, sum_le, at_self, same_at, each_set, each_snoc, prefix_on, apart_set, apart_fresh, apart_snoc, apart_more}

module _ {E : Type 0} where
  all_more : (P Q : E → Type 0) (xs : List E) → ((e : E) → P e → Q e) → All P xs → All Q xs
  all_more P Q xs h a k d lt = h (get_or xs k d) (a k d lt)

  two_lists : (P : E → Type 0) (xs ys : List E) → All P xs → All P ys → All P (xs ++ ys)
  two_lists P xs ys a b = All-append P xs ys a b

  -- a view that met none, or has changed nothing of what counts there
  met_none : (came : ℕ) (v : View E) → v.met ≡ None → IsMet came v
  met_none came v none m k = absurd (cc (none, k))

  met_same : (came came' : ℕ) (v w : View E) → came ≤ came' → w.met ≡ v.met → w.number ≡ v.number → IsMet came v → IsMet came' w
  met_same came came' v w le met num old m k = let o = old m (sym met ∙ k) in (omega (arith, le, o.0), λ e. o.1 (sym num ∙ e))

module _ {V E : Type 0} (entries : V → List E) (pass_of : E → ℕ) where
  abbrev W : Type 0
  W = View E

  abbrev St : Type 0
  St = State (Held V) W

  abbrev M : Type 0
  M = Me (Held V) W

  abbrev Rule : St → Type 0
  Rule = IsFair entries pass_of

  -- What a view's place says.
  module _ (log : List E) (served drawn came gone : ℕ) (v : W) where
    has_ticket : (st : Stage) (n : ℕ) → Stands pass_of log served drawn came gone v st → ticket_of st ≡ Some n → (served ≤ n) × (n < drawn) × HasNumber v
    has_ticket Idle n p e = absurd (cc e)
    has_ticket (Waiting t) n p e = let same : t ≡ n = cc e in (omega (arith, p.0, same), omega (arith, p.1, same), p.2)
    has_ticket (Turn t) n p e = let same : t ≡ n = cc e in (omega (arith, p.0, same), omega (arith, p.1, same), p.2)
    has_ticket (Out t) n p e = let same : t ≡ n = cc e in (omega (arith, p.0, same), omega (arith, p.1, same), p.2)

    one_le : (st : Stage) → Stands pass_of log served drawn came gone v st → one_if (ticket_of st) ≤ one_if v.number
    one_le Idle p = omega arith
    one_le (Waiting t) p = let n = ap one_if p.2.1 in omega (arith, n)
    one_le (Turn t) p = let n = ap one_if p.2.1 in omega (arith, n)
    one_le (Out t) p = let n = ap one_if p.2.1 in omega (arith, n)

    -- more tickets are drawn
    stands_drawn : (drawn' : ℕ) → drawn ≤ drawn' → (st : Stage) → Stands pass_of log served drawn came gone v st → Stands pass_of log served drawn' came gone v st
    stands_drawn drawn' le Idle p = tt
    stands_drawn drawn' le (Waiting t) p = (p.0, omega (arith, p.1), p.2)
    stands_drawn drawn' le (Turn t) p = (p.0, omega (arith, p.1), p.2, p.3, p.4, p.5)
    stands_drawn drawn' le (Out t) p = (p.0, omega (arith, p.1), p.2, p.3, p.4, p.5)

    -- a view that hasn't the turn does not care for the list and the counts, and the next may be served
    stands_by : (log' : List E) (served' came' gone' : ℕ) → served' ≤ served + 1 → (st : Stage) → ticket_of st ≢ Some served → Stands pass_of log served drawn came gone v st → Stands pass_of log' served' drawn came' gone' v st
    stands_by log' served' came' gone' le Idle other p = tt
    stands_by log' served' came' gone' le (Waiting t) other p = let ne : t ≢ served = λ e. other (ap Some e) in (omega (arith, p.0, ne), p.1, p.2)
    stands_by log' served' came' gone' le (Turn t) other p = absurd (other (ap Some p.0))
    stands_by log' served' came' gone' le (Out t) other p = absurd (other (ap Some p.0))

    out_served : (st : Stage) → is_out st ≡ true → Stands pass_of log served drawn came gone v st → ticket_of st ≡ Some served
    out_served Idle e p = absurd (cc e)
    out_served (Waiting t) e p = absurd (cc e)
    out_served (Turn t) e p = absurd (cc e)
    out_served (Out t) e p = ap Some p.0

    out_at : (t : ℕ) → v.stage ≡ Out t → Stands pass_of log served drawn came gone v v.stage → Stands pass_of log served drawn came gone v (Out t)
    out_at t is p = subst (Stands pass_of log served drawn came gone v) is p

  out_or_home : (st : Stage) → ((is_out st ≡ true) × (ticket_of st ≡ Some (due st))) ⊎ (is_out st ≡ false)
  out_or_home Idle = inr refl
  out_or_home (Waiting t) = inr refl
  out_or_home (Turn t) = inr refl
  out_or_home (Out t) = inl (refl, refl)

  behind_on : (log log' add : List E) (v : W) → log ++ add ≡ log' → ForSome v.number (λ n. All (λ e. pass_of e ≢ n) add) → IsBehind pass_of log v → IsBehind pass_of log' v
  behind_on log log' add v e new b = (
    b.0 ++ add,
    sym (append_assoc v.seen b.0 add) ∙ (ap (λ l. l ++ add) b.1 ∙ e),
    λ n is. two_lists (λ e. pass_of e ≢ n) b.0 add (b.2 n is) (new n is),
  )

  whole_seen : (log : List E) (v : W) → v.seen ≡ log → IsBehind pass_of log v
  whole_seen log v e = ([], append-nil v.seen ∙ e, λ n _. All-nil (λ e. pass_of e ≢ n))

  -- Of one state.
  pub ticket_here : (s : St) (r : Rule s) (j : ℕ) (d : W) (n : ℕ) → get_elem? s.views j ≡ Cell.some d → ticket d ≡ Some n → (r.served ≤ n) × (n < r.drawn) × HasNumber d
  ticket_here s r j d n e k = has_ticket r.log r.served r.drawn r.came r.gone d d.stage n (r.each j d e).stands k

  pub line_is_short : (s : St) (r : Rule s) → r.drawn ≤ r.served + most
  line_is_short s r = let le : how_many ticket s.views ≤ how_many number s.views = sum_le (λ v. one_if (ticket v)) (λ v. one_if (number v)) s.views (λ j v e. one_le r.log r.served r.drawn r.came r.gone v v.stage (r.each j v e).stands) in
      let a = r.in_line in let b = r.numbered in let c = r.most_came in omega (arith, le, a, b, c)

  -- no other view has the ticket of this one
  not_others : (s : St) (r : Rule s) (id : ℕ) (v : W) (n : ℕ) → get_elem? s.views id ≡ Cell.some v → ticket v ≡ Some n → (j : ℕ) (d : W) → j ≢ id → get_elem? s.views j ≡ Cell.some d → ticket d ≢ Some n
  not_others s r id v n at is j d ne e k = ne (r.tickets j id d v n e at k is)

  -- and no other has the value out
  home_with_others : (s : St) (r : Rule s) (id : ℕ) (v : W) → get_elem? s.views id ≡ Cell.some v → ticket v ≡ Some r.served → (j : ℕ) (d : W) → j ≢ id → get_elem? s.views j ≡ Cell.some d → is_out d.stage ≡ false
  home_with_others s r id v at is j d ne e = ⊎_elim (λ (t : (is_out d.stage ≡ true) × (ticket_of d.stage ≡ Some (due d.stage))). absurd (not_others s r id v r.served at is j d ne e (out_served r.log r.served r.drawn r.came r.gone d d.stage t.0 (r.each j d e).stands)))
      (λ x. x) (out_or_home d.stage)

  no_one_out : (s : St) (r : Rule s) (id : ℕ) (v : W) → get_elem? s.views id ≡ Cell.some v → ticket v ≡ Some r.served → is_out v.stage ≡ false → (j : ℕ) (d : W) → get_elem? s.views j ≡ Cell.some d → is_out d.stage ≡ false
  no_one_out s r id v at is home j d e = dite (ℕ_discrete j id) (λ same. subst (λ (x : W). is_out x.stage ≡ false) (same_at s.views id j v d (sym same) at e) home) (λ ne. home_with_others s r id v at is j d ne e)

  module _ (log : List E) (came gone : ℕ) where
    abbrev Home : List W → Cell.Option (Held V) → Type 0
    Home = Keeps pass_of entries log came gone

    is_home : (vs : List W) (slot : Cell.Option (Held V)) → Home vs slot → ((j : ℕ) (d : W) → get_elem? vs j ≡ Cell.some d → is_out d.stage ≡ false) → (h : Held V) × (slot ≡ Cell.some h) × (entries h.value ≡ log) × Counts came gone h
    is_home vs (Cell.some h) k none_out = (h, refl, k.0, k.2)
    is_home vs Cell.none k none_out = absurd (cc (none_out k.0 k.1 k.2, k.3))

    is_away : (vs : List W) (slot : Cell.Option (Held V)) → Home vs slot → (id : ℕ) (v : W) → get_elem? vs id ≡ Cell.some v → is_out v.stage ≡ true → slot ≡ Cell.none
    is_away vs (Cell.some h) k id v at out = absurd (cc (k.1 id v at, out))
    is_away vs Cell.none k id v at out = refl

    -- a view changes, but not whether the value is out with it
    stays_home : (vs : List W) (id : ℕ) (v w : W) → get_elem? vs id ≡ Cell.some v → is_out w.stage ≡ is_out v.stage → (slot : Cell.Option (Held V)) → Home vs slot → Home (set vs id w) slot
    stays_home vs id v w at same (Cell.some h) k = (k.0, each_set (λ d. is_out d.stage ≡ false) vs id w (same ∙ k.1 id v at) (λ j d _ e. k.1 j d e), k.2)
    stays_home vs id v w at same Cell.none k = dite (ℕ_discrete k.0 id)
        (λ here. (id, w, at_self vs id v w at, same ∙ (ap (λ (x : W). is_out x.stage) (same_at vs id k.0 v k.1 (sym here) at k.2) ∙ k.3)))
        (λ other. (k.0, k.1, set_else vs id k.0 w other ∙ k.2, k.3))

  sum_same : (key : W → Option ℕ) (vs : List W) (id : ℕ) (v w : W) → get_elem? vs id ≡ Cell.some v → key w ≡ key v → how_many key (set vs id w) ≡ how_many key vs
  sum_same key vs id v w at same = let s = sum_set (λ x. one_if (key x)) vs id v w at in let k : one_if (key w) ≡ one_if (key v) = ap one_if same in omega (arith, s, k)

  -- the numbers are counted as before
  same_numbers : (s : St) (r : Rule s) (id : ℕ) (v w : W) → get_elem? s.views id ≡ Cell.some v → w.number ≡ v.number → how_many number (set s.views id w) + r.gone ≡ r.came + 1
  same_numbers s r id v w at same = ap (λ (k : ℕ). k + r.gone) (sum_same number s.views id v w at same) ∙ r.numbered

  -- a pass that is out isn't gone
  stays : (s : St) (r : Rule s) (id : ℕ) (v : W) (n : ℕ) → get_elem? s.views id ≡ Cell.some v → v.number ≡ Some n → r.gone ≤ r.came
  stays s r id v n at num = let sum = sum_set (λ x. one_if (number x)) s.views id v spent at in let one : one_if v.number ≡ 1 = ap one_if num in let all = r.numbered in omega (arith, sum, one, all)

  only : (x : W) (i : ℕ) (v : W) → get_elem? (x ∷ []) i ≡ Cell.some v → i ≡ 0
  only x zero v e = refl
  only x (suc i) v e = absurd (Cell.some-ne-none v (sym e))

  -- The steps.
  pub draws : (slots id : ℕ) (me : M) (n : ℕ) → me.0.stage ≡ Idle → me.0.number ≡ Some n → Allows Rule slots id me 1 (λ x. (x + 1) % 2 ^ 64) (tells.drawn entries pass_of (step slots 1 1 0 Cell.none) me)
  draws slots id me n idle num s r _ at _ =
      let v : W = me.0 in let t : ℕ = r.drawn in let w : W = view (Waiting t) v.number v.seen v.came v.gone v.noted v.met in let old = r.each id v at in let line = r.in_line in
      let none_yet : ticket v ≡ None = ap ticket_of idle in
      let sum : how_many ticket (set s.views id w) + one_if (ticket v) ≡ how_many ticket s.views + 1 = sum_set (λ x. one_if (ticket x)) s.views id v w at in
      let zero_yet : one_if (ticket v) ≡ 0 = ap one_if none_yet in
      let wraps : (t % 2 ^ 64 + 1) % 2 ^ 64 ≡ (t + 1) % 2 ^ 64 = omega arith in (
        w,
        keeps,
        tt,
        record {
          log = r.log;
          drawn = t + 1;
          served = r.served;
          came = r.came;
          gone = r.gone;
          slot = r.slot;
          words = ap (λ (l : List ℕ). set l 1 ((get_or l 1 0 + 1) % 2 ^ 64)) r.words ∙ ap (λ (k : ℕ). length r.log ∷ k ∷ r.served % 2 ^ 64 ∷ []) wraps;
          homes = r.homes;
          most_came = r.most_came;
          numbered = same_numbers s r id v w at refl;
          in_line = omega (arith, sum, zero_yet, line);
          made_by = r.made_by;
          keeps = stays_home r.log r.came r.gone s.views id v w at (sym (ap is_out idle)) r.slot r.keeps;
          each = each_set (Sits pass_of r.log r.served (t + 1) r.came r.gone) s.views id w
              record { behind = old.behind; noted = old.noted; met = old.met; below = old.below; counts = old.counts; stands = (omega (arith, line), omega arith, (n, num)) }
              (λ j d _ e. let o = r.each j d e in record {
                behind = o.behind;
                noted = o.noted;
                met = o.met;
                below = o.below;
                counts = o.counts;
                stands = stands_drawn r.log r.served t r.came r.gone d (t + 1) (omega arith) d.stage o.stands;
              });
          tickets = apart_fresh ticket s.views id w t refl (λ j d e k. let h = ticket_here s r j d t e k in absurd (omega (arith, h.1))) r.tickets;
          numbers = apart_set number s.views id v w at (λ _ k. k) r.numbers;
        },
        (t, refl, ap (λ (l : List ℕ). get_or l 1 0) r.words),
      )

  -- a view stays, and no word changes
  unmoved : (s : St) (r : Rule s) (i id : ℕ) (v : W) (cs : List (ℕ × Held V)) → get_elem? s.views id ≡ Cell.some v → Rule (stepped s i (get_or s.words i 0) id cs v keeps)
  unmoved s r i id v cs at = subst Rule (λ k. record { words = sym (set-get_or s.words i 0) k; homes = s.homes; views = sym (set_again s.views id v at) k }) r

  -- a seat whose ticket is served takes the value out
  takes_out : (s : St) (r : Rule s) (id : ℕ) (v : W) (t n : ℕ) → get_elem? s.views id ≡ Cell.some v → v.stage ≡ Waiting t → v.number ≡ Some n → r.served ≡ t
      → (h : Held V) → r.slot ≡ Cell.some h → entries h.value ≡ r.log
      → Rule (stepped s 2 (get_or s.words 2 0) id [] (view (Out (due v.stage)) v.number (entries h.value) r.came r.gone v.noted v.met) (takes 0 h))
  takes_out s r id v t n at waits num served h there seen =
      let old = r.each id v at in
      let w : W = view (Out (due v.stage)) v.number (entries h.value) r.came r.gone v.noted v.met in
      let its : due v.stage ≡ t = ap due waits in
      let has : ticket v ≡ Some t = ap ticket_of waits in
      let place = ticket_here s r id v t at has in
      let home : s.homes ≡ Cell.some h ∷ [] = r.homes ∙ ap (λ (x : Cell.Option (Held V)). x ∷ []) there in
      let right : due v.stage ≡ r.served = its ∙ sym served in
      let tick : ticket w ≡ ticket v = ap Some its ∙ sym has in record {
        log = r.log;
        drawn = r.drawn;
        served = r.served;
        came = r.came;
        gone = r.gone;
        slot = Cell.none;
        words = set-get_or s.words 2 0 ∙ r.words;
        homes = ap (λ (l : List (Cell.Option (Held V))). set l 0 Cell.none) home;
        most_came = r.most_came;
        numbered = same_numbers s r id v w at refl;
        in_line = ap (λ (k : ℕ). r.served + k) (sum_same ticket s.views id v w at tick) ∙ r.in_line;
        made_by = r.made_by;
        keeps = (id, w, at_self s.views id v w at, refl);
        each = each_set (Sits pass_of r.log r.served r.drawn r.came r.gone) s.views id w
            record {
              behind = whole_seen r.log w seen;
              noted = old.noted;
              met = old.met;
              below = old.below;
              counts = (omega arith, omega arith);
              stands = (right, omega (arith, place.1, its), (n, num), seen, refl, refl);
            }
            (λ j d _ e. r.each j d e);
        tickets = apart_set ticket s.views id v w at (λ m k. sym tick ∙ k) r.tickets;
        numbers = apart_set number s.views id v w at (λ _ k. k) r.numbers;
      }

  -- Once a seat's ticket is served, the value is out with it.
  looks_with : (slots id : ℕ) (v : W) (t n : ℕ) → v.stage ≡ Waiting t → v.number ≡ Some n → Allows Rule slots id (v, []) 2 (λ x. x) (tells.looked entries pass_of (step slots 2 0 0 Cell.none) (v, []))
  looks_with slots id v t n waits num s r _ at _ =
      let old = r.each id v at in
      let its : due v.stage ≡ t = ap due waits in
      let has : ticket v ≡ Some t = ap ticket_of waits in
      let place = ticket_here s r id v t at has in
      let short = line_is_short s r in
      let found : get_or s.words 2 0 ≡ r.served % 2 ^ 64 = ap (λ (l : List ℕ). get_or l 2 0) r.words in
      dite (ℕ_discrete (get_or s.words 2 0) (due v.stage % 2 ^ 64))
      (λ hit.
      let less : t < r.served + 2 ^ 64 = omega (arith, short, place.1) in
      let served : r.served ≡ t = one_turn r.served t (2 ^ 64) place.0 less (sym found ∙ (hit ∙ ap (λ (k : ℕ). k % 2 ^ 64) its)) in
      let is : ticket v ≡ Some r.served = has ∙ ap Some (sym served) in
      let home = is_home r.log r.came r.gone s.views r.slot r.keeps (no_one_out s r id v at is (ap is_out waits)) in
      let h : Held V = home.0 in
      let there : s.homes ≡ Cell.some h ∷ [] = r.homes ∙ ap (λ (x : Cell.Option (Held V)). x ∷ []) home.1 in (
        view (Out (due v.stage)) v.number (entries h.value) r.came r.gone v.noted v.met,
        takes 0 h,
        ap (λ (l : List (Cell.Option (Held V))). get_elem? l 0) there,
        takes_out s r id v t n at waits num served h home.1 home.2,
        (
          (λ _. (
            h,
            (
              refl,
              record {
                behind = (old.behind.0, old.behind.1 ∙ sym home.2, old.behind.2);
                made_by = subst (All (λ e. pass_of e ≤ r.came)) (sym home.2) r.made_by;
                later = old.counts;
                below = old.below;
                counts = home.3;
                stays = stays s r id v n at num;
                most = r.most_came;
              },
            ),
          )),
          (λ miss. absurd (miss hit)),
        ),
      ))
      (λ miss. (v, keeps, tt, unmoved s r 2 id v [] at, ((λ hit. absurd (miss hit)), λ _. refl)))

  pub looks : (slots id : ℕ) (me : M) (t n : ℕ) → me.0.stage ≡ Waiting t → me.1 ≡ [] → me.0.number ≡ Some n → Allows Rule slots id me 2 (λ x. x) (tells.looked entries pass_of (step slots 2 0 0 Cell.none) me)
  looks slots id me t n waits empty num = subst (λ (l : List (ℕ × Held V)). Allows Rule slots id (me.0, l) 2 (λ x. x) (tells.looked entries pass_of (step slots 2 0 0 Cell.none) (me.0, l))) (sym empty) (looks_with slots id me.0 t n waits num)

  -- the seat's own ticket is served
  pub entered : (v : W) (t r : ℕ) (m m' : M) → m ≡ (view (Waiting t) v.number v.seen v.came v.gone v.noted v.met, []) → tells.looked entries pass_of (step 1 2 0 0 Cell.none) m r m' → r ≡ t % 2 ^ 64 → (h : Held V) × tells.Has entries pass_of v t h m'
  entered v t r m m' is look hit =
      let found = (subst (λ (x : M). tells.looked entries pass_of (step 1 2 0 0 Cell.none) x r m') is look).0 hit in
      let f = found.1.1 in (found.0, (found.1.0, record { behind = f.behind; made_by = f.made_by; later = f.later; below = f.below; counts = f.counts; stays = f.stays; most = f.most }))

  -- the value is out with a seat that has the turn
  pub carries : (v : W) (t : ℕ) (h : Held V) (m : M) → tells.Has entries pass_of v t h m → tells.Carries entries pass_of t h m
  carries v t h m has = (ap (λ (x : M). x.0.stage) has.0, ap (λ (x : M). x.1) has.0, has.1.counts, has.1.most)

  -- what was done with the value leaves the counts
  pub counts_stay : (v v' : W) (h h' : Held V) → v' ≡ v → h'.out ≡ h.out → h'.drawn ≡ h.drawn → Counts v.came v.gone h → v.came < most → Counts v'.came v'.gone h' × (v'.came < most)
  counts_stay v v' h h' same out drawn counted room =
      let a : v'.came ≡ v.came = ap (λ (x : W). x.came) same in let b : v'.gone ≡ v.gone = ap (λ (x : W). x.gone) same in
      let o = counted.0 in let p = counted.1 in ((omega (arith, o, drawn, a), omega (arith, p, out, a, b)), omega (arith, room, a))

  -- one pass more is out
  pub one_more : (m m' : M) (t : ℕ) (h : Held V) (out drawn : ℕ) → m' ≡ (parent m.0, (0, record { value = h.value; out = out + 1; drawn = drawn + 1 }) ∷ []) → out ≡ h.out → drawn ≡ h.drawn → drawn ≢ most → tells.Carries entries pass_of t h m
      → tells.Carries entries pass_of t (record { value = h.value; out = out + 1; drawn = drawn + 1 }) m'
  one_more m m' t h out drawn same o d free has =
      let a : m'.0.came ≡ m.0.came + 1 = ap (λ (x : M). x.0.came) same in let b : m'.0.gone ≡ m.0.gone = ap (λ (x : M). x.0.gone) same in
      let p = has.2.0 in let q = has.2.1 in let l = has.3 in
      (ap (λ (x : M). x.0.stage) same ∙ has.0, ap (λ (x : M). x.1) same, (omega (arith, a, d, p), omega (arith, a, b, o, q)), omega (arith, a, l, d, p, free))

  -- one pass fewer is out
  pub one_fewer : (m m' : M) (t : ℕ) (h : Held V) (w : W) (out drawn : ℕ) → m' ≡ (joined m.0 w, (0, record { value = h.value; out = out; drawn = drawn }) ∷ []) → out + 1 ≡ h.out → drawn ≡ h.drawn → tells.Carries entries pass_of t h m
      → tells.Carries entries pass_of t (record { value = h.value; out = out; drawn = drawn }) m'
  one_fewer m m' t h w out drawn same o d has =
      let a : m'.0.came ≡ m.0.came = ap (λ (x : M). x.0.came) same in let b : m'.0.gone ≡ m.0.gone + 1 = ap (λ (x : M). x.0.gone) same in
      let p = has.2.0 in let q = has.2.1 in let l = has.3 in
      (ap (λ (x : M). x.0.stage) same ∙ has.0, ap (λ (x : M). x.1) same, (omega (arith, a, d, p), omega (arith, a, b, o, q)), omega (arith, a, l))

  pub at_front : (cs : List (ℕ × Held V)) (h : Held V) → cs ≡ (0, h) ∷ [] → cs ≡ (0, h) ∷ rest cs
  at_front cs h e = e ∙ ap (λ (l : List (ℕ × Held V)). (0, h) ∷ l) (sym (ap rest e))

  abbrev pub first_or : Held V → List (ℕ × Held V) → Held V
  first_or d [] = d
  first_or d (x ∷ xs) = x.1

  pub tells_length : (slots id : ℕ) (v : W) (cs : List (ℕ × Held V)) (h : Held V) (t n new : ℕ) → v.stage ≡ Out t → v.number ≡ Some n → cs ≡ (0, h) ∷ [] → GrowsBy pass_of n v.seen (entries h.value) → new ≡ length (entries h.value)
      → Allows Rule slots id (v, cs) 0 (λ _. new) (λ _. tells.told entries pass_of (step slots 0 new 0 Cell.none) (v, cs) new)
  tells_length slots id v cs h t n new is num has grows long s r _ at _ =
      let old = r.each id v at in
      let place = out_at r.log r.served r.drawn r.came r.gone v t is old.stands in
      let log : List E = entries h.value in
      let add : List E = grows.0 in
      let goes_on : r.log ++ add ≡ log = ap (λ (l : List E). l ++ add) (sym place.3) ∙ grows.1 in
      let here : ticket v ≡ Some r.served = ap ticket_of is ∙ ap Some place.0 in
      let below : n ≤ r.came = old.below n num in
      let away : r.slot ≡ Cell.none = is_away r.log r.came r.gone s.views r.slot r.keeps id v at (ap is_out is) in
      let w : W = view v.stage v.number log v.came v.gone v.noted v.met in (
        w,
        keeps,
        tt,
        record {
          log = log;
          drawn = r.drawn;
          served = r.served;
          came = r.came;
          gone = r.gone;
          slot = Cell.none;
          words = ap (λ (l : List ℕ). set l 0 new) r.words ∙ ap (λ (k : ℕ). k ∷ r.drawn % 2 ^ 64 ∷ r.served % 2 ^ 64 ∷ []) long;
          homes = r.homes ∙ ap (λ (x : Cell.Option (Held V)). x ∷ []) away;
          most_came = r.most_came;
          numbered = same_numbers s r id v w at refl;
          in_line = ap (λ (k : ℕ). r.served + k) (sum_same ticket s.views id v w at refl) ∙ r.in_line;
          made_by = subst (All (λ e. pass_of e ≤ r.came)) goes_on
              (two_lists (λ e. pass_of e ≤ r.came) r.log add r.made_by (all_more (λ e. pass_of e ≡ n) (λ e. pass_of e ≤ r.came) add (λ e p. subst (λ (k : ℕ). k ≤ r.came) (sym p) below) grows.2));
          keeps = (id, w, at_self s.views id v w at, ap is_out is);
          each = each_set (Sits pass_of log r.served r.drawn r.came r.gone) s.views id w
              record {
                behind = whole_seen log w refl;
                noted = prefix_on v.noted r.log add log old.noted goes_on;
                met = old.met;
                below = old.below;
                counts = old.counts;
                stands = subst (Stands pass_of log r.served r.drawn r.came r.gone w) (sym is) (place.0, place.1, place.2, refl, place.4, place.5);
              }
              (λ j d ne e. let o = r.each j d e in record {
                behind = behind_on r.log log add d goes_on
                    (λ m k. all_more (λ e. pass_of e ≡ n) (λ e. pass_of e ≢ m) add (λ x p q. ne (r.numbers j id d v n e at (k ∙ ap Some (sym q ∙ p)) num)) grows.2) o.behind;
                noted = prefix_on d.noted r.log add log o.noted goes_on;
                met = o.met;
                below = o.below;
                counts = o.counts;
                stands = stands_by r.log r.served r.drawn r.came r.gone d log r.served r.came r.gone (omega arith) d.stage (not_others s r id v r.served at here j d ne e) o.stands;
              });
          tickets = apart_set ticket s.views id v w at (λ _ k. k) r.tickets;
          numbers = apart_set number s.views id v w at (λ _ k. k) r.numbers;
        },
        λ h' has'. let same : h' ≡ h = ap (first_or h) (sym has' ∙ has) in ap (λ (x : Held V). (view v.stage v.number (entries x.value) v.came v.gone v.noted v.met, cs)) (sym same),
      )

  passes_on_with : (slots id : ℕ) (v : W) (h : Held V) (t new : ℕ) → v.stage ≡ Out t → entries h.value ≡ v.seen → Counts v.came v.gone h → new ≡ (t + 1) % 2 ^ 64
      → Allows Rule slots id (v, (0, h) ∷ []) 2 (λ _. new) (λ _. tells.passed_on entries pass_of (step slots 2 new 0 Cell.none) (v, (0, h) ∷ []) new)
  passes_on_with slots id v h t new is same counted next s r _ at _ =
      let old = r.each id v at in
      let place = out_at r.log r.served r.drawn r.came r.gone v t is old.stands in
      let here : ticket v ≡ Some r.served = ap ticket_of is ∙ ap Some place.0 in
      let w : W = view Idle v.number v.seen v.came v.gone [] None in
      let line = r.in_line in
      let sum : how_many ticket (set s.views id w) + one_if (ticket v) ≡ how_many ticket s.views + 0 = sum_set (λ x. one_if (ticket x)) s.views id v w at in
      let one : one_if (ticket v) ≡ 1 = ap one_if here in
      let number_is : new ≡ (r.served + 1) % 2 ^ 64 = next ∙ ap (λ (k : ℕ). (k + 1) % 2 ^ 64) place.0 in (
        w,
        gives,
        tt,
        record {
          log = r.log;
          drawn = r.drawn;
          served = r.served + 1;
          came = r.came;
          gone = r.gone;
          slot = Cell.some h;
          words = ap (λ (l : List ℕ). set l 2 new) r.words ∙ ap (λ (k : ℕ). length r.log ∷ r.drawn % 2 ^ 64 ∷ k ∷ []) number_is;
          homes = ap (λ (l : List (Cell.Option (Held V))). set l 0 (Cell.some h)) r.homes;
          most_came = r.most_came;
          numbered = same_numbers s r id v w at refl;
          in_line = omega (arith, sum, one, line);
          made_by = r.made_by;
          keeps = (same ∙ place.3, each_set (λ d. is_out d.stage ≡ false) s.views id w refl (home_with_others s r id v at here), (omega (arith, counted.0, place.4), omega (arith, counted.1, place.4, place.5)));
          each = each_set (Sits pass_of r.log (r.served + 1) r.drawn r.came r.gone) s.views id w
              record { behind = old.behind; noted = (r.log, refl); met = met_none {E = E} r.came w refl; below = old.below; counts = old.counts; stands = tt }
              (λ j d ne e. let o = r.each j d e in record {
                behind = o.behind;
                noted = o.noted;
                met = o.met;
                below = o.below;
                counts = o.counts;
                stands = stands_by r.log r.served r.drawn r.came r.gone d r.log (r.served + 1) r.came r.gone (omega arith) d.stage (not_others s r id v r.served at here j d ne e) o.stands;
              });
          tickets = apart_set ticket s.views id v w at (λ m k. absurd (cc k)) r.tickets;
          numbers = apart_set number s.views id v w at (λ _ k. k) r.numbers;
        },
        (refl, subst (IsPrefix v.noted) (sym place.3) old.noted, subst (λ (k : ℕ). IsMet k v) (sym place.4) old.met),
      )

  pub passes_on : (slots id : ℕ) (v : W) (cs : List (ℕ × Held V)) (h : Held V) (t new : ℕ) → v.stage ≡ Out t → cs ≡ (0, h) ∷ [] → entries h.value ≡ v.seen → Counts v.came v.gone h → new ≡ (t + 1) % 2 ^ 64
      → Allows Rule slots id (v, cs) 2 (λ _. new) (λ _. tells.passed_on entries pass_of (step slots 2 new 0 Cell.none) (v, cs) new)
  passes_on slots id v cs h t new is has same counted next = subst (λ (l : List (ℕ × Held V)). Allows Rule slots id (v, l) 2 (λ _. new) (λ _. tells.passed_on entries pass_of (step slots 2 new 0 Cell.none) (v, l) new)) (sym has)
      (passes_on_with slots id v h t new is same counted next)

  -- the two steps that end a turn, one after the other
  pub passes_on_told : (slots id : ℕ) (v : W) (cs : List (ℕ × Held V)) (m : M) (h : Held V) (t new : ℕ) → m ≡ (view v.stage v.number (entries h.value) v.came v.gone v.noted v.met, cs) → tells.Carries entries pass_of t h (v, cs) → new ≡ (t + 1) % 2 ^ 64
      → Allows Rule slots id m 2 (λ _. new) (λ _. tells.passed_on entries pass_of (step slots 2 new 0 Cell.none) m new)
  passes_on_told slots id v cs m h t new told out next = subst (λ (x : M). Allows Rule slots id x 2 (λ _. new) (λ _. tells.passed_on entries pass_of (step slots 2 new 0 Cell.none) x new)) (sym told)
      (passes_on slots id (view v.stage v.number (entries h.value) v.came v.gone v.noted v.met) cs h t new out.0 out.1 refl out.2 next)

  pub left_with : (v : W) (cs : List (ℕ × Held V)) (m m' : M) (h : Held V) (r : ℕ) → m ≡ (view v.stage v.number (entries h.value) v.came v.gone v.noted v.met, cs) → tells.passed_on entries pass_of (step 1 2 r 0 Cell.none) m r m'
      → (m' ≡ (view Idle v.number (entries h.value) v.came v.gone [] None, [])) × IsPrefix v.noted (entries h.value) × IsMet v.came v
  left_with v cs m m' h r told passed = let p = subst (λ (x : M). tells.passed_on entries pass_of (step 1 2 r 0 Cell.none) x r m') told passed in (p.0, p.1, p.2)

  -- what a pass knows of the value that came out with its seat
  pub beside : (v : W) (n : ℕ) (h : Held V) → v.number ≡ Some n → IsBehind pass_of (entries h.value) v → GrowsBeside pass_of n v.seen (entries h.value)
  beside v n h num b = (b.0, b.1, b.2 n num)

  pub grown : (seen : List E) (n : ℕ) (h h' : Held V) → seen ≡ entries h.value → GrowsBy pass_of n (entries h.value) (entries h'.value) → GrowsBy pass_of n seen (entries h'.value)
  grown seen n h h' e g = subst (λ (x : List E). GrowsBy pass_of n x (entries h'.value)) (sym e) g

  -- the value went in as it came out
  pub not_grown : (seen : List E) (n : ℕ) (h h' : Held V) → seen ≡ entries h.value → h'.value ≡ h.value → GrowsBy pass_of n seen (entries h'.value)
  not_grown seen n h h' e same = ([], append-nil seen ∙ (e ∙ ap entries (sym same)), All-nil (λ x. pass_of x ≡ n))

  -- a number above those that have come made no entry
  pub all_above : (log : List E) (came : ℕ) (seen : List E) (n : ℕ) → seen ≡ log → n ≡ came + 1 → All (λ e. pass_of e ≤ came) log → All (λ e. pass_of e ≢ n) seen
  all_above log came seen n same is all = subst (All (λ e. pass_of e ≢ n)) (sym same) (all_more (λ e. pass_of e ≤ came) (λ e. pass_of e ≢ n) log (λ e l eq. omega (arith, l, eq, is)) all)

  pub opens : (h : Held V) → entries h.value ≡ [] → h.out ≡ 1 → h.drawn ≡ 1 → Rule (opening (0 ∷ 0 ∷ 0 ∷ []) (h ∷ []) first_view)
  opens h none_yet one_out one_drawn = record {
    log = [];
    drawn = 0;
    served = 0;
    came = 0;
    gone = 0;
    slot = Cell.some h;
    words = refl;
    homes = refl;
    most_came = omega arith;
    numbered = omega arith;
    in_line = refl;
    made_by = All-nil (λ e. pass_of e ≤ 0);
    keeps = (none_yet, each_snoc (λ d. is_out d.stage ≡ false) [] first_view refl (λ j d e. absurd (Cell.some-ne-none d (sym e))), (one_drawn, omega (arith, one_out)));
    each = each_snoc (Sits pass_of [] 0 0 0 0) [] first_view
        record {
          behind = ([], refl, λ n _. All-nil (λ e. pass_of e ≢ n));
          noted = ([], refl);
          met = met_none {E = E} 0 first_view refl;
          below = λ n k. let z : 0 ≡ n = cc k in omega (arith, z);
          counts = (omega arith, omega arith);
          stands = tt;
        }
        (λ j d e. absurd (Cell.some-ne-none d (sym e)));
    tickets = λ i j v w n ei ej _ _. only first_view i v ei ∙ sym (only first_view j w ej);
    numbers = λ i j v w n ei ej _ _. only first_view i v ei ∙ sym (only first_view j w ej);
  }

  -- The steps of a seat that comes and goes.
  all_right : (P : E → Type 0) (xs ys : List E) → All P (xs ++ ys) → All P ys
  all_right P [] ys h = h
  all_right P (x ∷ xs) ys h = all_right P xs ys (All-tail P x (xs ++ ys) h)

  -- a new view that has nothing out
  out_after : (vs : List W) (w : W) (j : ℕ) (v : W) → get_elem? vs j ≡ Cell.some v → is_out v.stage ≡ true → (log : List E) (came gone : ℕ) → Keeps pass_of entries log came gone (vs ++ w ∷ []) Cell.none
  out_after vs w j v at out log came gone = (j, v, at_longer vs (w ∷ []) j v at, out)

  -- the state in which the one that splits has counted the newcomer, which isn't there yet, is not one that keeps the rule; so both come at once
  pub splits : (id : ℕ) (v : W) (t : ℕ) → v.stage ≡ Out t → v.came + 1 < most → Splits Rule id v (parent v) (newcomer v)
  splits id v t is room s r at =
      let old = r.each id v at in
      let p : W = parent v in let w : W = newcomer v in let came : ℕ = r.came + 1 in
      let place = out_at r.log r.served r.drawn r.came r.gone v t is old.stands in
      let here : ticket v ≡ Some r.served = ap ticket_of is ∙ ap Some place.0 in
      let vs : List W = set s.views id p in
      let there : get_elem? vs id ≡ Cell.some p = at_self s.views id v p at in
      let away : r.slot ≡ Cell.none = is_away r.log r.came r.gone s.views r.slot r.keeps id v at (ap is_out is) in
      let numbers_before : how_many number vs + r.gone ≡ r.came + 1 = same_numbers s r id v p at refl in
      let more_numbers : how_many number (vs ++ w ∷ []) ≡ how_many number vs + 1 = sum_snoc (λ x. one_if (number x)) vs w in
      let same_tickets : how_many ticket vs ≡ how_many ticket s.views = sum_same ticket s.views id v p at refl in
      let more_tickets : how_many ticket (vs ++ w ∷ []) ≡ how_many ticket vs + 0 = sum_snoc (λ x. one_if (ticket x)) vs w in
      let line = r.in_line in
      let now = place.4 in
      let gone_now = place.5 in record {
        log = r.log;
        drawn = r.drawn;
        served = r.served;
        came = came;
        gone = r.gone;
        slot = Cell.none;
        words = r.words;
        homes = r.homes ∙ ap (λ (x : Cell.Option (Held V)). x ∷ []) away;
        most_came = omega (arith, room, now);
        numbered = omega (arith, numbers_before, more_numbers);
        in_line = omega (arith, same_tickets, more_tickets, line);
        made_by = all_more (λ e. pass_of e ≤ r.came) (λ e. pass_of e ≤ came) r.log (λ e l. omega (arith, l)) r.made_by;
        keeps = out_after vs w id p there (ap is_out is) r.log came r.gone;
        each = each_snoc (Sits pass_of r.log r.served r.drawn came r.gone) vs w
            record {
              behind = (
                old.behind.0,
                old.behind.1,
                λ m k. let same : v.came + 1 ≡ m = cc k in
                    all_more (λ e. pass_of e ≤ r.came) (λ e. pass_of e ≢ m) old.behind.0 (λ e l eq. omega (arith, l, eq, same, now))
                    (all_right (λ e. pass_of e ≤ r.came) v.seen old.behind.0 (subst (All (λ e. pass_of e ≤ r.came)) (sym old.behind.1) r.made_by)),
              );
              noted = (r.log, refl);
              met = met_none {E = E} came w refl;
              below = λ m k. let same : v.came + 1 ≡ m = cc k in omega (arith, same, now);
              counts = (omega (arith, now), omega (arith, gone_now));
              stands = tt;
            }
            (each_set (Sits pass_of r.log r.served r.drawn came r.gone) s.views id p
            record {
              behind = old.behind;
              noted = old.noted;
              met = met_same r.came came v p (omega arith) refl refl old.met;
              below = λ m k. let l = old.below m k in omega (arith, l);
              counts = (omega (arith, now), omega (arith, gone_now));
              stands = subst (Stands pass_of r.log r.served r.drawn came r.gone p) (sym is) (place.0, place.1, place.2, place.3, omega (arith, now), gone_now);
            }
            (λ j d ne e. let o = r.each j d e in record {
              behind = o.behind;
              noted = o.noted;
              met = met_same r.came came d d (omega arith) refl refl o.met;
              below = λ m k. let l = o.below m k in omega (arith, l);
              counts = (let l = o.counts.0 in omega (arith, l), o.counts.1);
              stands = stands_by r.log r.served r.drawn r.came r.gone d r.log r.served came r.gone (omega arith) d.stage (not_others s r id v r.served at here j d ne e) o.stands;
            }));
        tickets = apart_snoc ticket vs w refl (apart_set ticket s.views id v p at (λ _ k. k) r.tickets);
        numbers = apart_more number vs w (v.came + 1) refl
            (each_set (λ d. number d ≢ Some (v.came + 1)) s.views id p (λ k. let l = old.below (v.came + 1) k in absurd (omega (arith, l, now))) (λ j d _ e k. let l = (r.each j d e).below (v.came + 1) k in absurd (omega (arith, l, now))))
            (apart_set number s.views id v p at (λ _ k. k) r.numbers);
      }

  pub joins : (id : ℕ) (v : W) (other : ℕ) (w : W) (t n m : ℕ) → v.stage ≡ Out t → v.number ≡ Some n → w.stage ≡ Idle → w.number ≡ Some m → Joins Rule id v other w (joined v w) spent
  joins id v other w t n m is num idle numbered s r at apart there =
      let was : get_elem? s.views other ≡ Cell.some w = sym (set_else s.views id other (joined v w) apart) ∙ there in
      let p : W = joined v w in let gone : ℕ = r.gone + 1 in
      let vs : List W = set s.views id p in
      let old = r.each id v at in let its = r.each other w was in
      let place = out_at r.log r.served r.drawn r.came r.gone v t is old.stands in
      let here : ticket v ≡ Some r.served = ap ticket_of is ∙ ap Some place.0 in
      let here_p : get_elem? vs id ≡ Cell.some p = at_self s.views id v p at in
      let away : r.slot ≡ Cell.none = is_away r.log r.came r.gone s.views r.slot r.keeps id v at (ap is_out is) in
      let numbers_before : how_many number vs + r.gone ≡ r.came + 1 = same_numbers s r id v p at refl in
      let fewer : how_many number (set vs other spent) + one_if w.number ≡ how_many number vs + 0 = sum_set (λ x. one_if (number x)) vs other w spent there in
      let one : one_if w.number ≡ 1 = ap one_if numbered in
      let same_tickets : how_many ticket vs ≡ how_many ticket s.views = sum_same ticket s.views id v p at refl in
      let tickets_after : how_many ticket (set vs other spent) ≡ how_many ticket vs = sum_same ticket vs other w spent there (sym (ap ticket_of idle)) in
      let line = r.in_line in
      let now = place.5 in
      let differs : m ≢ n = λ e. apart (r.numbers other id w v m was at numbered (num ∙ ap Some (sym e))) in record {
        log = r.log;
        drawn = r.drawn;
        served = r.served;
        came = r.came;
        gone = gone;
        slot = Cell.none;
        words = r.words;
        homes = r.homes ∙ ap (λ (x : Cell.Option (Held V)). x ∷ []) away;
        most_came = r.most_came;
        numbered = omega (arith, numbers_before, fewer, one);
        in_line = omega (arith, same_tickets, tickets_after, line);
        made_by = r.made_by;
        keeps = stays_home r.log r.came gone vs other w spent there (sym (ap is_out idle)) Cell.none (id, p, here_p, ap is_out is);
        each = each_set (Sits pass_of r.log r.served r.drawn r.came gone) vs other spent
            record {
              behind = (r.log, refl, λ k e. absurd (cc e));
              noted = (r.log, refl);
              met = met_none {E = E} r.came spent refl;
              below = λ k e. absurd (cc e);
              counts = (omega arith, omega arith);
              stands = tt;
            }
            (λ j d _ e. each_set (Sits pass_of r.log r.served r.drawn r.came gone) s.views id p
            record {
              behind = old.behind;
              noted = (its.behind.0, its.behind.1);
              met = λ k e. (its.below k e, λ same. differs (cc (numbered, e, num, same)));
              below = old.below;
              counts = (old.counts.0, let l = now in omega (arith, l));
              stands = subst (Stands pass_of r.log r.served r.drawn r.came gone p) (sym is) (place.0, place.1, place.2, place.3, place.4, ap (λ (k : ℕ). k + 1) place.5);
            }
            (λ j d ne e. let o = r.each j d e in record {
              behind = o.behind;
              noted = o.noted;
              met = o.met;
              below = o.below;
              counts = (o.counts.0, let l = o.counts.1 in omega (arith, l));
              stands = stands_by r.log r.served r.drawn r.came r.gone d r.log r.served r.came gone (omega arith) d.stage (not_others s r id v r.served at here j d ne e) o.stands;
            }) j d e);
        tickets = apart_set ticket vs other w spent there (λ _ k. absurd (cc k)) (apart_set ticket s.views id v p at (λ _ k. k) r.tickets);
        numbers = apart_set number vs other w spent there (λ _ k. absurd (cc k)) (apart_set number s.views id v p at (λ _ k. k) r.numbers);
      }

  -- The steps that close.
  puts_back_with : (slots id : ℕ) (v : W) (h : Held V) (t : ℕ) → v.stage ≡ Out t → entries h.value ≡ v.seen → Counts v.came v.gone h
      → Allows Rule slots id (v, (0, h) ∷ []) 0 (λ x. x) (tells.put_back entries pass_of (step slots 0 0 0 Cell.none) (v, (0, h) ∷ []))
  puts_back_with slots id v h t is same counted s r _ at _ =
      let old = r.each id v at in
      let place = out_at r.log r.served r.drawn r.came r.gone v t is old.stands in
      let here : ticket v ≡ Some r.served = ap ticket_of is ∙ ap Some place.0 in
      let w : W = view (Turn (due v.stage)) v.number v.seen v.came v.gone v.noted v.met in
      let its : due v.stage ≡ t = ap due is in
      let tick : ticket w ≡ ticket v = ap Some its ∙ sym (ap ticket_of is) in (
        w,
        gives,
        tt,
        record {
          log = r.log;
          drawn = r.drawn;
          served = r.served;
          came = r.came;
          gone = r.gone;
          slot = Cell.some h;
          words = set-get_or s.words 0 0 ∙ r.words;
          homes = ap (λ (l : List (Cell.Option (Held V))). set l 0 (Cell.some h)) r.homes;
          most_came = r.most_came;
          numbered = same_numbers s r id v w at refl;
          in_line = ap (λ (k : ℕ). r.served + k) (sum_same ticket s.views id v w at tick) ∙ r.in_line;
          made_by = r.made_by;
          keeps = (same ∙ place.3, each_set (λ d. is_out d.stage ≡ false) s.views id w refl (home_with_others s r id v at here), (omega (arith, counted.0, place.4), omega (arith, counted.1, place.4, place.5)));
          each = each_set (Sits pass_of r.log r.served r.drawn r.came r.gone) s.views id w
              record {
                behind = old.behind;
                noted = old.noted;
                met = old.met;
                below = old.below;
                counts = old.counts;
                stands = (its ∙ place.0, subst (λ (k : ℕ). k < r.drawn) (sym its) place.1, place.2, place.3, place.4, place.5);
              }
              (λ j d _ e. r.each j d e);
          tickets = apart_set ticket s.views id v w at (λ m k. sym tick ∙ k) r.tickets;
          numbers = apart_set number s.views id v w at (λ _ k. k) r.numbers;
        },
        refl,
      )

  pub puts_back : (slots id : ℕ) (m : M) (v : W) (h : Held V) (t : ℕ) → m ≡ (v, (0, h) ∷ []) → v.stage ≡ Out t → entries h.value ≡ v.seen → Counts v.came v.gone h
      → Allows Rule slots id m 0 (λ x. x) (tells.put_back entries pass_of (step slots 0 0 0 Cell.none) m)
  puts_back slots id m v h t has is same counted = subst (λ (x : M). Allows Rule slots id x 0 (λ x. x) (tells.put_back entries pass_of (step slots 0 0 0 Cell.none) x)) (sym has) (puts_back_with slots id v h t is same counted)

  -- a seat that closes while it has the turn knows the value
  pub closes : (id : ℕ) (v : W) (t : ℕ) (ws : List ℕ) (xs : List (Held V)) → v.stage ≡ Turn t → Final (Seen Rule id v) ws xs → (h : Held V) × (get_elem? xs 0 ≡ Cell.some h) × (entries h.value ≡ v.seen)
  closes id v t ws xs is f =
      let s : St = f.0 in let r : Rule s = f.1.0 in let at : get_elem? s.views id ≡ Cell.some v = f.1.1 in
      let place = subst (Stands pass_of r.log r.served r.drawn r.came r.gone v) is (r.each id v at).stands in
      let here : ticket v ≡ Some r.served = ap ticket_of is ∙ ap Some place.0 in
      let home = is_home r.log r.came r.gone s.views r.slot r.keeps (no_one_out s r id v at here (ap is_out is)) in
      let there : s.homes ≡ Cell.some home.0 ∷ [] = r.homes ∙ ap (λ (x : Cell.Option (Held V)). x ∷ []) home.1 in
      (home.0, f.4 0 home.0 (ap (λ (l : List (Cell.Option (Held V))). get_elem? l 0) there), home.2 ∙ sym place.3)
