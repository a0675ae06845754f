-- What one call of a disk does to what is known of its last moment, and to what a crash leaves.
use Rattle.std.proofs.Common.{◌≡◌, inl, inr, ℕ, ◌≤◌, List, [], ◌∷◌, ◌++◌, length, refl, sym, ◌∙◌, ap, subst, arith}
use Rattle.std.specs.List.{AllByRecursion}
use Rattle.cat_disk.specs.declared.disk.DiskDone.{DiskDone}
use Rattle.cat_disk.specs.declared.disk.DiskDone.TheVariants.{Done, Failed}
use Rattle.cat_disk.specs.Moments.{Moment, IsImage, overwritten, written, synced, AddsWrite, AddsSync}
use Rattle.cat_disk.specs.Disk.{StartsWithin, Writes, Syncs}
use Rattle.cat_disk.proofs.Images.{written_image}
use Rattle.cat_journal.specs.Left.{Now, Leaves, LeavesOnly}
use Rattle.cat_journal.proofs.Journals.{settled}

-- a moment with one more range pending
abbrev pub pend : ℕ → ℕ → Moment → Moment
pend at n m = record { durable = m.durable; pending = record { start = at; count = n } ∷ m.pending }

pub starts_now : (ms : List Moment) (c : List ℕ) (at : ℕ) (P : Moment → Type 0) → Now ms c P → ((m : Moment) → IsImage m c → P m → at ≤ length c) → StartsWithin ms c at
starts_now [] c at P now f = tt
starts_now (m ∷ past) c at P now f = f m now.0 now.1

pub starts_silent : (ms : List Moment) (c : List ℕ) (at : ℕ) → ms ≡ [] → StartsWithin ms c at
starts_silent ms c at is = subst (λ (l : List Moment). StartsWithin l c at) (sym is) tt

pub weaker : (ms : List Moment) (c : List ℕ) (P Q : Moment → Type 0) → ((m : Moment) → IsImage m c → P m → Q m) → Now ms c P → Now ms c Q
weaker [] c P Q f now = now
weaker (m ∷ past) c P Q f now = (now.0, f m now.0 now.1)

pub write_now : (ms ms1 : List Moment) (c c1 : List ℕ) (at : ℕ) (bytes : List ℕ) (P Q : Moment → Type 0)
    → AddsWrite at (length bytes) ms ms1 Done → Writes ms1 c c1 at bytes Done → StartsWithin ms c at → ((m : Moment) → IsImage m c → P m → Q (pend at (length bytes) m)) → Now ms c P → Now ms1 c1 Q
write_now [] ms1 c c1 at bytes P Q adds writes start f now = absurd now
write_now (m ∷ past) ms1 c c1 at bytes P Q adds writes start f now =
    let is : c1 ≡ overwritten at bytes c = subst (λ (l : List Moment). Writes l c c1 at bytes Done) adds writes in
    subst (λ (l : List Moment). Now l c1 Q) (sym adds)
    (subst (λ (d : List ℕ). IsImage (pend at (length bytes) m) d × Q (pend at (length bytes) m)) (sym is) (written_image m at bytes c start now.0, f m now.0 now.1))

pub write_content : (ms ms1 : List Moment) (c c1 : List ℕ) (at : ℕ) (bytes : List ℕ) (P : Moment → Type 0)
    → AddsWrite at (length bytes) ms ms1 Done → Writes ms1 c c1 at bytes Done → Now ms c P → c1 ≡ overwritten at bytes c
write_content [] ms1 c c1 at bytes P adds writes now = absurd now
write_content (m ∷ past) ms1 c c1 at bytes P adds writes now = subst (λ (l : List Moment). Writes l c c1 at bytes Done) adds writes

pub torn_now : (ms ms1 : List Moment) (c c1 : List ℕ) (at n : ℕ) (bytes : List ℕ) (P Q : Moment → Type 0)
    → AddsWrite at n ms ms1 Failed → Writes ms1 c c1 at bytes Failed → ((m : Moment) → P m → Q (pend at n m)) → ((m : Moment) → P m → Q m) → Now ms c P → Now ms1 c1 Q
torn_now [] ms1 c c1 at n bytes P Q adds writes f g now = absurd now
torn_now (m ∷ past) ms1 c c1 at n bytes P Q (inl begun) writes f g now =
    subst (λ (l : List Moment). Now l c1 Q) (sym begun) (subst (λ (l : List Moment). Writes l c c1 at bytes Failed) begun writes, f m now.1)
torn_now (m ∷ past) ms1 c c1 at n bytes P Q (inr same) writes f g now =
    subst (λ (l : List Moment). Now l c1 Q) (sym same) (subst (λ (l : List Moment). Writes l c c1 at bytes Failed) same writes, g m now.1)

pub sync_now : (ms ms1 : List Moment) (c c1 : List ℕ) (P Q : Moment → Type 0)
    → AddsSync c ms ms1 Done → Syncs ms c c1 Done → ((m : Moment) → IsImage m c → P m → IsImage (settled c) c → Q (settled c)) → Now ms c P → Now ms1 c1 Q
sync_now [] ms1 c c1 P Q adds syncs f now = absurd now
sync_now (m ∷ past) ms1 c c1 P Q adds syncs f now =
    let all : IsImage (settled c) c = record { no_shorter = omega arith; no_longer = omega arith; same = λ i inside free. refl } in
    subst (λ (l : List Moment). Now l c1 Q) (sym adds) (subst (λ (d : List ℕ). IsImage (settled c) d × Q (settled c)) (sym syncs) (all, f m now.0 now.1 all))

pub sync_content : (ms : List Moment) (c c1 : List ℕ) (P : Moment → Type 0) → Syncs ms c c1 Done → Now ms c P → c1 ≡ c
sync_content [] c c1 P syncs now = absurd now
sync_content (m ∷ past) c c1 P syncs now = syncs

pub unsynced_now : (ms ms1 : List Moment) (c c1 : List ℕ) (P : Moment → Type 0)
    → AddsSync c ms ms1 Failed → Syncs ms c c1 Failed → Now ms c P → Now ms1 c1 P
unsynced_now [] ms1 c c1 P adds syncs now = absurd now
unsynced_now (m ∷ past) ms1 c c1 P adds syncs now = subst (λ (l : List Moment). Now l c1 P) (sym adds) (syncs, now.1)

-- ---- a disk that tells nothing

pub write_silent : (at n : ℕ) (ms ms1 : List Moment) (r : DiskDone) → AddsWrite at n ms ms1 r → ms ≡ [] → ms1 ≡ []
write_silent at n ms ms1 Done adds none = adds ∙ ap (written at n) none
write_silent at n ms ms1 Failed (inl begun) none = begun ∙ ap (written at n) none
write_silent at n ms ms1 Failed (inr same) none = same ∙ none

pub sync_silent : (c : List ℕ) (ms ms1 : List Moment) (r : DiskDone) → AddsSync c ms ms1 r → ms ≡ [] → ms1 ≡ []
sync_silent c ms ms1 Done adds none = adds ∙ ap (synced c) none
sync_silent c ms ms1 Failed adds none = adds ∙ none

-- ---- what a crash leaves meanwhile

pub no_moment : (old new : List Moment) (L : List ℕ → Type 0) → new ≡ old → LeavesOnly old new L
no_moment old new L is = ([], is, tt)

pub same_moments : (old mid new : List Moment) (L : List ℕ → Type 0) → new ≡ mid → LeavesOnly old mid L → LeavesOnly old new L
same_moments old mid new L is left = (left.0, is ∙ left.1, left.2)

pub one_more : (old mid new : List Moment) (m : Moment) (L : List ℕ → Type 0) → new ≡ m ∷ mid → Leaves L m → LeavesOnly old mid L → LeavesOnly old new L
one_more old mid new m L is good left = (m ∷ left.0, is ∙ ap (λ (l : List Moment). m ∷ l) left.1, (good, left.2))

pub write_leaves : (old ms ms1 : List Moment) (c : List ℕ) (at n : ℕ) (r : DiskDone) (P : Moment → Type 0) (L : List ℕ → Type 0)
    → AddsWrite at n ms ms1 r → ((m : Moment) → P m → Leaves L (pend at n m)) → Now ms c P → LeavesOnly old ms L → LeavesOnly old ms1 L
write_leaves old [] ms1 c at n r P L adds f now left = absurd now
write_leaves old (m ∷ past) ms1 c at n Done P L adds f now left = one_more old (m ∷ past) ms1 (pend at n m) L adds (f m now.1) left
write_leaves old (m ∷ past) ms1 c at n Failed P L (inl begun) f now left = one_more old (m ∷ past) ms1 (pend at n m) L begun (f m now.1) left
write_leaves old (m ∷ past) ms1 c at n Failed P L (inr same) f now left = same_moments old (m ∷ past) ms1 L same left

pub sync_leaves : (old ms ms1 : List Moment) (c : List ℕ) (r : DiskDone) (P : Moment → Type 0) (L : List ℕ → Type 0)
    → AddsSync c ms ms1 r → ((m : Moment) → IsImage m c → P m → Leaves L (settled c)) → Now ms c P → LeavesOnly old ms L → LeavesOnly old ms1 L
sync_leaves old [] ms1 c r P L adds f now left = absurd now
sync_leaves old (m ∷ past) ms1 c Done P L adds f now left = one_more old (m ∷ past) ms1 (settled c) L adds (f m now.0 now.1) left
sync_leaves old (m ∷ past) ms1 c Failed P L adds f now left = same_moments old (m ∷ past) ms1 L adds left

pub then_leaves : (old mid new : List Moment) (L : List ℕ → Type 0) → LeavesOnly old mid L → LeavesOnly mid new L → LeavesOnly old new L
then_leaves old mid new L first next = (next.0 ++ first.0, next.1 ∙ (ap (λ (l : List Moment). next.0 ++ l) first.1 ∙ joined), all next.0 next.2)
  where
    joined : next.0 ++ (first.0 ++ old) ≡ (next.0 ++ first.0) ++ old
    joined = sym (assoc next.0)
      where
        assoc : (xs : List Moment) → (xs ++ first.0) ++ old ≡ xs ++ (first.0 ++ old)
        assoc [] = refl
        assoc (x ∷ xs) = ap (λ (l : List Moment). x ∷ l) (assoc xs)

    all : (xs : List Moment) → AllByRecursion (Leaves L) xs → AllByRecursion (Leaves L) (xs ++ first.0)
    all [] good = first.2
    all (x ∷ xs) good = (good.0, all xs good.1)
