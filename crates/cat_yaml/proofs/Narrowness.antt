-- The test of the numbers of a tree tells whether they are integers of 64 bits.
use Rattle.std.proofs.Common.{◌≡◌, ◌^◌, pos, negsuc, true, false, if◌then◌else◌, refl, arith}
use Rattle.std.proofs.lemmas.Bool.{ltb-true, ltb-false}
use Rattle.cat_tree.specs.Data.{Data, null, flag, whole, words, list, dict, Items, no_items, item, Members, no_members, member}
use Rattle.cat_tree.specs.Proper.{IsNarrow, ItemsNarrow, MembersNarrow}
use Rattle.cat_yaml.specs.Narrow.{is_narrow, are_narrow, have_narrow}

mutual
  pub narrow : (d : Data) → is_narrow d ≡ true → IsNarrow d
  narrow null h = tt
  narrow (flag b) h = tt
  narrow (whole (pos n)) h = ltb-true n (2 ^ 64) h
  narrow (whole (negsuc n)) h = ltb-true n (2 ^ 63) h
  narrow (words s) h = tt
  narrow (list ds) h = items_narrow ds h
  narrow (dict ms) h = members_narrow ms h

  pub items_narrow : (ds : Items) → are_narrow ds ≡ true → ItemsNarrow ds
  items_narrow no_items h = tt
  items_narrow (item d ds) h =
      elim (is_narrow d) as (λ b. is_narrow d ≡ b → (if b then are_narrow ds else false) ≡ true → ItemsNarrow (item d ds)) [
        | true ↦ λ e k. (narrow d e, items_narrow ds k)
        | false ↦ λ e k. cc
      ] refl h

  pub members_narrow : (ms : Members) → have_narrow ms ≡ true → MembersNarrow ms
  members_narrow no_members h = tt
  members_narrow (member key d ms) h =
      elim (is_narrow d) as (λ b. is_narrow d ≡ b → (if b then have_narrow ms else false) ≡ true → MembersNarrow (member key d ms)) [
        | true ↦ λ e k. (narrow d e, members_narrow ms k)
        | false ↦ λ e k. cc
      ] refl h

mutual
  pub wide : (d : Data) → is_narrow d ≡ false → ¬ (IsNarrow d)
  wide null h = λ _. cc
  wide (flag b) h = λ _. cc
  wide (whole (pos n)) h = λ k. omega (arith, ltb-false n (2 ^ 64) h, k)
  wide (whole (negsuc n)) h = λ k. omega (arith, ltb-false n (2 ^ 63) h, k)
  wide (words s) h = λ _. cc
  wide (list ds) h = items_wide ds h
  wide (dict ms) h = members_wide ms h

  pub items_wide : (ds : Items) → are_narrow ds ≡ false → ¬ (ItemsNarrow ds)
  items_wide no_items h = λ _. cc
  items_wide (item d ds) h =
      elim (is_narrow d) as (λ b. is_narrow d ≡ b → (if b then are_narrow ds else false) ≡ false → ¬ (ItemsNarrow (item d ds))) [
        | true ↦ λ e k n. items_wide ds k n.1
        | false ↦ λ e k n. wide d e n.0
      ] refl h

  pub members_wide : (ms : Members) → have_narrow ms ≡ false → ¬ (MembersNarrow ms)
  members_wide no_members h = λ _. cc
  members_wide (member key d ms) h =
      elim (is_narrow d) as (λ b. is_narrow d ≡ b → (if b then have_narrow ms else false) ≡ false → ¬ (MembersNarrow (member key d ms))) [
        | true ↦ λ e k n. members_wide ms k n.1
        | false ↦ λ e k n. wide d e n.0
      ] refl h
