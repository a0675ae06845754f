-- What a feed keeps of its changes, and who goes on following it.
use Rattle.std.proofs.Common.{T, ◌≡◌, ◌≢◌, ℕ, zero, suc, ◌+◌, ◌-◌, ◌^◌, ◌<◌, ◌≤◌, ltb, Bool, true, false, cond, List, [], ◌∷◌, ◌++◌, length, drop, refl, sym, ap, subst, ◌∙◌, true≢false, arith, length-append, length-drop, inl, inr, ◌⊎◌}
use Rattle.std.proofs.lemmas.Bool.Decides.{nat_tests}
use Rattle.std.specs.Prelude.{if◌then◌else◌, nat_lt}
use Rattle.std.specs.List.{filter}
use Rattle.std.proofs.lemmas.Bool.{cases_lt}
use Rattle.std.proofs.lemmas.List.{drop_all}
use Rattle.std.proofs.lemmas.List.Elements.{filter-append}
use Rattle.std.specs.FinMap.Entries.{is_sorted}
use Rattle.cat_collections.specs.Table.{text_cmp}
use Rattle.cat_feed.specs.Changes.{Difference, Documents, above, applied, differences, last, numbered}
use Rattle.cat_feed.specs.Feed.{AreNumbered, Follows, IsKept, is_over, is_spent, least, taken_in, with_changes}
use Rattle.cat_feed.specs.declared.change.Change.{Change}
use Rattle.cat_feed.specs.declared.ledger.Ledger.{Ledger}
use Rattle.cat_feed.proofs.Leads.{differences_lead}

-- dropping as much as there is, or more, leaves nothing
drop_alike : (cs : List Change) (i j : ℕ) → (i ≡ j) ⊎ ((length cs ≤ i) × (length cs ≤ j)) → drop i cs ≡ drop j cs
drop_alike cs i j (inl e) = ap (λ k. drop k cs) e
drop_alike cs i j (inr h) = drop_all i cs h.0 ∙ sym (drop_all j cs h.1)

drop_at : (es : List Change) (i j : ℕ) → i ≡ j → drop i es ≡ drop j es
drop_at es i j e = ap (λ k. drop k es) e

drop-append : (k : ℕ) (cs es : List Change) → drop k (cs ++ es) ≡ drop k cs ++ drop (k - length cs) es
drop-append zero cs es = ap (λ l. cs ++ l) (drop_at es 0 (0 - length cs) (omega arith))
drop-append (suc k) [] es = drop_at es (suc k) (suc k - 0) (omega arith)
drop-append (suc k) (c ∷ cs) es = drop-append k cs es ∙ ap (λ l. drop k cs ++ l) (drop_at es (k - length cs) (suc k - suc (length cs)) (omega arith))

pub applied-append : (cs es : List Change) (ds : Documents) → applied (cs ++ es) ds ≡ applied es (applied cs ds)
applied-append [] es ds = refl
applied-append (c ∷ cs) es ds = applied-append cs es _

-- the last of two lists one after the other
pub last_joined : (n : ℕ) (cs es : List Change) → last (n - length es) cs ++ last n es ≡ last n (cs ++ es)
last_joined n cs es =
    let first : drop (length cs - (n - length es)) cs ≡ drop (length cs + length es - n) cs =
    drop_alike cs (length cs - (n - length es)) (length cs + length es - n) (elim (cases_lt (length es) n) [ inl h ↦ inl (omega arith) | inr h ↦ inr (omega arith, omega arith) ]) in
    let second : drop (length es - n) es ≡ drop (length cs + length es - n - length cs) es = drop_at es (length es - n) (length cs + length es - n - length cs) (omega arith) in
    (λ i. first i ++ second i)
    ∙ (sym (drop-append (length cs + length es - n) cs es) ∙ ap (λ i. drop (i - n) (cs ++ es)) (sym (length-append cs es)))

-- ---- numbers

pub length-numbered : (n : ℕ) (found : List Difference) → length (numbered n found) ≡ length found
length-numbered n [] = refl
length-numbered n (f ∷ found) = ap suc (length-numbered (n + 1) found)

numbered_are : (n : ℕ) (found : List Difference) → AreNumbered n (numbered n found)
numbered_are n [] = tt
numbered_are n (f ∷ found) = (refl, numbered_are (n + 1) found)

numbers-append : (n m : ℕ) (cs es : List Change) → m ≡ n + length cs → AreNumbered n cs → AreNumbered m es → AreNumbered n (cs ++ es)
numbers-append n m [] es e h g = subst (λ k. AreNumbered k es) (let z : m ≡ n = omega arith in z) g
numbers-append n m (c ∷ cs) es e h g = (h.0, numbers-append (n + 1) m cs es (omega arith) h.1 g)

numbers-drop : (n k m : ℕ) (cs : List Change) → m ≡ n + k → k ≤ length cs → AreNumbered n cs → AreNumbered m (drop k cs)
numbers-drop n zero m cs e l h = subst (λ i. AreNumbered i cs) (let z : n ≡ m = omega arith in z) h
numbers-drop n (suc k) m [] e l h = absurd (omega arith)
numbers-drop n (suc k) m (c ∷ cs) e l h = numbers-drop (n + 1) k m cs (omega arith) (omega arith) h.1

-- ---- the changes above a number

is_above : (n m number : ℕ) → number ≡ m + 1 → n ≤ m → ltb n number ≡ true
is_above n m number e l = grind (arith, nat_tests)

not_above : (n m number : ℕ) → number ≡ m + 1 → m + 1 ≤ n → ltb n number ≡ false
not_above n m number e l = grind (arith, nat_tests)

above_all : (m n : ℕ) (cs : List Change) → n ≤ m → AreNumbered m cs → above n cs ≡ cs
above_all m n [] l h = refl
above_all m n (c ∷ cs) l h =
    let later : ltb n c.number ≡ true = is_above n m c.number h.0 l in
    ap (λ b. cond b (c ∷ above n cs) (above n cs)) later ∙ ap (λ l. c ∷ l) (above_all (m + 1) n cs (omega arith) h.1)

above-drop : (m n k : ℕ) (cs : List Change) → m + k ≤ n → AreNumbered m cs → above n (drop k cs) ≡ above n cs
above-drop m n zero cs l h = refl
above-drop m n (suc k) [] l h = refl
above-drop m n (suc k) (c ∷ cs) l h =
    let later : ltb n c.number ≡ false = not_above n m c.number h.0 (omega arith) in
    above-drop (m + 1) n k cs (omega arith) h.1 ∙ sym (ap (λ b. cond b (c ∷ above n cs) (above n cs)) later)

-- ---- a feed that takes documents in

pub not_over : (a b : ℕ) → ltb a b ≡ false → b ≤ a
not_over a b e = grind (arith, nat_tests)

pub kept_on : (found : List Difference) (feed : Ledger) → IsKept feed → is_over found feed ≡ false → IsKept (with_changes found feed)
kept_on found feed k fits =
    let all : List Change = feed.kept ++ numbered feed.number found in
    let n : ℕ = length all - 10000 in
    let len : length all ≡ length feed.kept + length found = length-append feed.kept (numbered feed.number found) ∙ ap (λ i. length feed.kept + i) (length-numbered feed.number found) in
    let rest : length (drop n all) ≡ length all - n = length-drop n all in
    let enough : length feed.kept ≤ feed.number = k.within in
    let of_all : AreNumbered (least feed) all = numbers-append (least feed) feed.number feed.kept (numbered feed.number found) (omega arith) k.numbers (numbered_are feed.number found) in
    record {
      numbers = numbers-drop (least feed) n (feed.number + length found - length (drop n all)) all (omega arith) (omega arith) of_all;
      within = omega arith;
      most = omega arith;
      bound = not_over (2 ^ 59) (feed.number + length found) fits;
    }

pub taken_in_is : (ds : Documents) (feed : Ledger) → T (is_sorted text_cmp feed.copy) → T (is_sorted text_cmp ds) → with_changes (differences feed.copy ds) feed ≡ taken_in ds feed
taken_in_is ds feed g h = ap (λ m. record (taken_in ds feed) { copy = m }) (differences_lead feed.number feed.copy ds g h)

pub follows_on : (docs : Documents) (feed : Ledger) → IsKept feed → T (is_sorted text_cmp feed.copy) → T (is_sorted text_cmp docs)
    → (ds : Documents) (n : ℕ) → Follows ds n feed → least (taken_in docs feed) ≤ n → Follows ds n (taken_in docs feed)
follows_on docs feed k g h ds n f far =
    let found : List Difference = differences feed.copy docs in
    let fresh : List Change = numbered feed.number found in
    let all : List Change = feed.kept ++ fresh in
    let cut : ℕ = length all - 10000 in
    let len : length all ≡ length feed.kept + length found = length-append feed.kept fresh ∙ ap (λ i. length feed.kept + i) (length-numbered feed.number found) in
    let rest : length (drop cut all) ≡ length all - cut = length-drop cut all in
    let enough : length feed.kept ≤ feed.number = k.within in
    let told : n ≤ feed.number = f.told in
    let low : least (taken_in docs feed) ≤ n = far in
    let of_all : AreNumbered (least feed) all = numbers-append (least feed) feed.number feed.kept fresh (omega arith) k.numbers (numbered_are feed.number found) in
    let later : above n (drop cut all) ≡ above n feed.kept ++ fresh =
    above-drop (least feed) n cut all (omega arith) of_all ∙ (filter-append (λ (c : Change). nat_lt n c.number) feed.kept fresh ∙ ap (λ l. above n feed.kept ++ l) (above_all feed.number n fresh told (numbered_are feed.number found))) in
    record {
      kept = far;
      told = omega arith;
      leads = ap (λ cs. applied cs ds) later ∙ (applied-append (above n feed.kept) fresh ds ∙ (ap (applied fresh) f.leads ∙ differences_lead feed.number feed.copy docs g h));
    }

pub kept_taken : (ds : Documents) (feed : Ledger) → IsKept feed → T (is_sorted text_cmp feed.copy) → T (is_sorted text_cmp ds) → is_spent ds feed ≡ false → IsKept (taken_in ds feed)
kept_taken ds feed k g h fits = subst IsKept (taken_in_is ds feed g h) (kept_on (differences feed.copy ds) feed k fits)

pub least_grows : (ds : Documents) (feed : Ledger) → least feed ≤ least (taken_in ds feed)
least_grows ds feed =
    let found : List Difference = differences feed.copy ds in
    let fresh : List Change = numbered feed.number found in
    let all : List Change = feed.kept ++ fresh in
    let cut : ℕ = length all - 10000 in
    let len : length all ≡ length feed.kept + length found = length-append feed.kept fresh ∙ ap (λ i. length feed.kept + i) (length-numbered feed.number found) in
    let rest : length (drop cut all) ≡ length all - cut = length-drop cut all in
    omega arith

pub above_none : (m n : ℕ) (cs : List Change) → m + length cs ≤ n → AreNumbered m cs → above n cs ≡ []
above_none m n [] l h = refl
above_none m n (c ∷ cs) l h =
    let later : ltb n c.number ≡ false = not_above n m c.number h.0 (omega arith) in
    ap (λ b. cond b (c ∷ above n cs) (above n cs)) later ∙ above_none (m + 1) n cs (omega arith) h.1
