-- The tests of trees say what they should.
use Rattle.std.proofs.Common.{◌≡◌, ℕ, ◌^◌, true, ◌&&◌, List, pos, negsuc, nat_cmp, nat_le, Ordering, Less, Equal, Greater, refl, ap}
use Rattle.std.proofs.lemmas.Bool.{and_parts, and_from, lt-ltb, ltb-true, le-leb, leb-true}
use Rattle.std.specs.Ordering.{is_lt}
use Rattle.std.specs.Cmp.Lexicographic.{slice_cmp}
use Rattle.cat_tree.specs.Ask.{depth_of}
use Rattle.cat_tree.specs.Data.{Data, null, flag, whole, words, list, dict, Items, no_items, item, Members, no_members, member}
use Rattle.cat_tree.specs.Proper.{IsBelow, Rise, IsProper, ItemsProper, MembersProper, IsNarrow, ItemsNarrow, MembersNarrow}
use Rattle.cat_layers.specs.Trees.{IsWithin, is_narrow, are_items_narrow, are_members_narrow, is_below, is_rising, is_proper, are_items_proper, are_members_proper, is_within}

mutual
  narrow_holds : (d : Data) → IsNarrow d → is_narrow d ≡ true
  narrow_holds null h = refl
  narrow_holds (flag b) h = refl
  narrow_holds (whole (pos n)) h = lt-ltb n (2 ^ 64) h
  narrow_holds (whole (negsuc n)) h = lt-ltb n (2 ^ 63) h
  narrow_holds (words s) h = refl
  narrow_holds (list ds) h = items_narrow_hold ds h
  narrow_holds (dict ms) h = members_narrow_hold ms h

  items_narrow_hold : (ds : Items) → ItemsNarrow ds → are_items_narrow ds ≡ true
  items_narrow_hold no_items h = refl
  items_narrow_hold (item d ds) h = and_from (is_narrow d) (are_items_narrow ds) (narrow_holds d h.0) (items_narrow_hold ds h.1)

  members_narrow_hold : (ms : Members) → MembersNarrow ms → are_members_narrow ms ≡ true
  members_narrow_hold no_members h = refl
  members_narrow_hold (member k d ms) h = and_from (is_narrow d) (are_members_narrow ms) (narrow_holds d h.0) (members_narrow_hold ms h.1)

mutual
  narrow_is : (d : Data) → is_narrow d ≡ true → IsNarrow d
  narrow_is null h = tt
  narrow_is (flag b) h = tt
  narrow_is (whole (pos n)) h = ltb-true n (2 ^ 64) h
  narrow_is (whole (negsuc n)) h = ltb-true n (2 ^ 63) h
  narrow_is (words s) h = tt
  narrow_is (list ds) h = items_narrow_are ds h
  narrow_is (dict ms) h = members_narrow_are ms h

  items_narrow_are : (ds : Items) → are_items_narrow ds ≡ true → ItemsNarrow ds
  items_narrow_are no_items h = tt
  items_narrow_are (item d ds) h = let both = and_parts (is_narrow d) (are_items_narrow ds) h in (narrow_is d both.0, items_narrow_are ds both.1)

  members_narrow_are : (ms : Members) → are_members_narrow ms ≡ true → MembersNarrow ms
  members_narrow_are no_members h = tt
  members_narrow_are (member k d ms) h = let both = and_parts (is_narrow d) (are_members_narrow ms) h in (narrow_is d both.0, members_narrow_are ms both.1)

less_is : (o : Ordering) → is_lt o ≡ true → o ≡ Less
less_is Less h = refl
less_is Equal h = cc
less_is Greater h = cc

below_holds : (k : List ℕ) (ms : Members) → IsBelow k ms → is_below k ms ≡ true
below_holds k no_members h = refl
below_holds k (member l d ms) h = and_from (is_lt (slice_cmp nat_cmp k l)) (is_below k ms) (ap is_lt h.0) (below_holds k ms h.1)

below_is : (k : List ℕ) (ms : Members) → is_below k ms ≡ true → IsBelow k ms
below_is k no_members h = tt
below_is k (member l d ms) h =
    let both = and_parts (is_lt (slice_cmp nat_cmp k l)) (is_below k ms) h in
    (less_is (slice_cmp nat_cmp k l) both.0, below_is k ms both.1)

rising_holds : (ms : Members) → Rise ms → is_rising ms ≡ true
rising_holds no_members h = refl
rising_holds (member k d ms) h = and_from (is_below k ms) (is_rising ms) (below_holds k ms h.0) (rising_holds ms h.1)

rising_is : (ms : Members) → is_rising ms ≡ true → Rise ms
rising_is no_members h = tt
rising_is (member k d ms) h = let both = and_parts (is_below k ms) (is_rising ms) h in (below_is k ms both.0, rising_is ms both.1)

mutual
  proper_holds : (d : Data) → IsProper d → is_proper d ≡ true
  proper_holds null h = refl
  proper_holds (flag b) h = refl
  proper_holds (whole z) h = refl
  proper_holds (words s) h = refl
  proper_holds (list ds) h = items_proper_hold ds h
  proper_holds (dict ms) h = and_from (are_members_proper ms) (is_rising ms) (members_proper_hold ms h.0) (rising_holds ms h.1)

  items_proper_hold : (ds : Items) → ItemsProper ds → are_items_proper ds ≡ true
  items_proper_hold no_items h = refl
  items_proper_hold (item d ds) h = and_from (is_proper d) (are_items_proper ds) (proper_holds d h.0) (items_proper_hold ds h.1)

  members_proper_hold : (ms : Members) → MembersProper ms → are_members_proper ms ≡ true
  members_proper_hold no_members h = refl
  members_proper_hold (member k d ms) h = and_from (is_proper d) (are_members_proper ms) (proper_holds d h.0) (members_proper_hold ms h.1)

mutual
  proper_is : (d : Data) → is_proper d ≡ true → IsProper d
  proper_is null h = tt
  proper_is (flag b) h = tt
  proper_is (whole z) h = tt
  proper_is (words s) h = tt
  proper_is (list ds) h = items_proper_are ds h
  proper_is (dict ms) h = let both = and_parts (are_members_proper ms) (is_rising ms) h in (members_proper_are ms both.0, rising_is ms both.1)

  items_proper_are : (ds : Items) → are_items_proper ds ≡ true → ItemsProper ds
  items_proper_are no_items h = tt
  items_proper_are (item d ds) h = let both = and_parts (is_proper d) (are_items_proper ds) h in (proper_is d both.0, items_proper_are ds both.1)

  members_proper_are : (ms : Members) → are_members_proper ms ≡ true → MembersProper ms
  members_proper_are no_members h = tt
  members_proper_are (member k d ms) h = let both = and_parts (is_proper d) (are_members_proper ms) h in (proper_is d both.0, members_proper_are ms both.1)

pub within_holds : (n : ℕ) (d : Data) → IsWithin n d → is_within n d ≡ true
within_holds n d h =
    and_from (nat_le (depth_of d) n) (is_narrow d && is_proper d) (le-leb (depth_of d) n h.shallow)
    (and_from (is_narrow d) (is_proper d) (narrow_holds d h.narrow) (proper_holds d h.proper))

pub within_is : (n : ℕ) (d : Data) → is_within n d ≡ true → IsWithin n d
within_is n d h =
    let both = and_parts (nat_le (depth_of d) n) (is_narrow d && is_proper d) h in
    let forms = and_parts (is_narrow d) (is_proper d) both.1 in
    record { shallow = leb-true (depth_of d) n both.0; narrow = narrow_is d forms.0; proper = proper_is d forms.1 }
