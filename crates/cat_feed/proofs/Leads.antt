-- The differences between two sets of documents, as changes, lead from the one to the other.
use Rattle.std.proofs.Common.{T, ◌≡◌, ℕ, ◌+◌, Bool, true, false, cond, not, List, [], ◌∷◌, ◌++◌, refl, sym, ap, subst, ◌∙◌, true≢false, unwrap_or}
use Rattle.std.specs.Prelude.{if◌then◌else◌}
use Rattle.std.specs.declared.option.Option.{Option}
use Rattle.std.specs.declared.option.Option.TheVariants.{None, Some}
use Rattle.std.specs.FinMap.Entries.{below_all, find-put, is_sorted, is_sorted-put, same_entries}
use Rattle.cat_tree.specs.Data.{Data}
use Rattle.cat_tree.specs.Same.{is_same}
use Rattle.cat_tree.proofs.Equality.{is_same-true}
use Rattle.cat_collections.specs.Table.{Text, get, same_text, text_cmp, text_total, text_antisymmetric}
use Rattle.cat_feed.specs.Changes.{Difference, Documents, applied, differences, is_unchanged, new_at, numbered, sets, with_set}
use Rattle.cat_feed.specs.declared.change.Change.{Change}
use Rattle.cat_feed.proofs.Finds.{first, second, same_is_text, find-below, find-without, sorted-without}
use Rattle.cat_feed.proofs.Walked.{find-differences, sorted-differences, sorted-sets}

-- ---- what is there after changes

unless_there : {X : Type 0} (b : Bool) (v : Option X) → cond (not b) v None ≡ cond b None v
unless_there true v = refl
unless_there false v = refl

find-with_set : (q r : Text) (v : Option Data) (ds : Documents) → get (with_set r v ds) q ≡ cond (same_text q r) v (get ds q)
find-with_set q r None ds = find-without q r ds ∙ unless_there (same_text q r) (get ds q)
find-with_set q r (Some d) ds = find-put text_cmp text_total q r d ds

find-applied : (n : ℕ) (found : List Difference) (ds : Documents) (q : Text) → T (is_sorted text_cmp found) → get (applied (numbered n found) ds) q ≡ unwrap_or (get found q) (get ds q)
find-applied n [] ds q h = refl
find-applied n (f ∷ found) ds q h =
    find-applied (n + 1) found (with_set f.0 f.1 ds) q (second _ _ h)
    ∙ (ap (λ v. unwrap_or (get found q) v) (find-with_set q f.0 f.1 ds) ∙ go (same_text q f.0) refl)
  where
    go : (b : Bool) → same_text q f.0 ≡ b → unwrap_or (get found q) (cond b f.1 (get ds q)) ≡ unwrap_or (cond b (Some f.1) (get found q)) (get ds q)
    go true is = ap (λ v. unwrap_or v f.1) (subst (λ k. get found k ≡ None) (sym (same_is_text q f.0 is)) (find-below f.0 found (first _ _ h)))
    go false is = refl

sorted-with_set : (r : Text) (v : Option Data) (ds : Documents) → T (is_sorted text_cmp ds) → T (is_sorted text_cmp (with_set r v ds))
sorted-with_set r None ds h = sorted-without r ds h
sorted-with_set r (Some d) ds h = is_sorted-put text_cmp text_total r d ds h

pub sorted-applied : (cs : List Change) (ds : Documents) → T (is_sorted text_cmp ds) → T (is_sorted text_cmp (applied cs ds))
sorted-applied [] ds h = h
sorted-applied (c ∷ cs) ds h = sorted-applied cs (with_set c.reference c.set ds) (sorted-with_set c.reference c.set ds h)

-- ---- differences lead

unchanged_is : (a b : Option Data) → is_unchanged a b ≡ true → a ≡ b
unchanged_is None None e = refl
unchanged_is None (Some d) e = absurd (true≢false (sym e))
unchanged_is (Some d) None e = absurd (true≢false (sym e))
unchanged_is (Some d) (Some e) same = ap Some (is_same-true d e same)

settled : (a b : Option Data) → unwrap_or (new_at a b) a ≡ b
settled a b = go (is_unchanged a b) refl
  where
    go : (t : Bool) → is_unchanged a b ≡ t → unwrap_or (if t then None else Some b) a ≡ b
    go true e = unchanged_is a b e
    go false e = refl

pub differences_lead : (n : ℕ) (es ds : Documents) → T (is_sorted text_cmp es) → T (is_sorted text_cmp ds) → applied (numbered n (differences es ds)) es ≡ ds
differences_lead n es ds g h =
    same_entries text_cmp text_total text_antisymmetric (applied (numbered n (differences es ds)) es) ds (sorted-applied (numbered n (differences es ds)) es g) h
    (λ q. find-applied n (differences es ds) es q (sorted-differences es ds) ∙ (ap (λ v. unwrap_or v (get es q)) (find-differences es ds q) ∙ settled (get es q) (get ds q)))

-- ---- and so does a change for each document

find-sets : (ds : Documents) (q : Text) → unwrap_or (get (sets ds) q) None ≡ get ds q
find-sets [] q = refl
find-sets (d ∷ ds) q = go (same_text q d.0) (find-sets ds q)
  where
    go : (b : Bool) → unwrap_or (get (sets ds) q) None ≡ get ds q → unwrap_or (cond b (Some (Some d.1)) (get (sets ds) q)) None ≡ cond b (Some d.1) (get ds q)
    go true ih = refl
    go false ih = ih

pub sets_lead : (n : ℕ) (ds : Documents) → T (is_sorted text_cmp ds) → applied (numbered n (sets ds)) [] ≡ ds
sets_lead n ds h =
    same_entries text_cmp text_total text_antisymmetric (applied (numbered n (sets ds)) []) ds (sorted-applied (numbered n (sets ds)) [] tt) h
    (λ q. find-applied n (sets ds) [] q (sorted-sets ds h) ∙ find-sets ds q)
