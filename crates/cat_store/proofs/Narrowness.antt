-- What passes the test of its numbers has numbers of 64 bits alone.
use Rattle.std.proofs.Common.{◌≡◌, ◌^◌, pos, negsuc, true, false, if◌then◌else◌, refl}
use Rattle.std.proofs.lemmas.Bool.{ltb-true}
use Rattle.cat_tree.specs.Data.{Data, null, flag, whole, words, list, dict, Items, no_items, item, Members, no_members, member}
use Rattle.cat_tree.specs.Proper.{IsNarrow, ItemsNarrow, MembersNarrow}
use Rattle.cat_store.specs.Narrow.{is_narrow, are_narrow, have_narrow}

mutual
  pub narrow : (d : Data) → is_narrow d ≡ true → IsNarrow d
  narrow null h = tt
  narrow (flag b) h = tt
  narrow (whole (pos n)) h = ltb-true n (2 ^ 64) h
  narrow (whole (negsuc n)) h = ltb-true n (2 ^ 63) h
  narrow (words s) h = tt
  narrow (list ds) h = items_narrow ds h
  narrow (dict ms) h = members_narrow ms h

  items_narrow : (ds : Items) → are_narrow ds ≡ true → ItemsNarrow ds
  items_narrow no_items h = tt
  items_narrow (item d ds) h =
      elim (is_narrow d) as (λ b. is_narrow d ≡ b → (if b then are_narrow ds else false) ≡ true → ItemsNarrow (item d ds)) [
        | true ↦ λ e k. (narrow d e, items_narrow ds k)
        | false ↦ λ e k. cc
      ] refl h

  members_narrow : (ms : Members) → have_narrow ms ≡ true → MembersNarrow ms
  members_narrow no_members h = tt
  members_narrow (member key d ms) h =
      elim (is_narrow d) as (λ b. is_narrow d ≡ b → (if b then have_narrow ms else false) ≡ true → MembersNarrow (member key d ms)) [
        | true ↦ λ e k. (narrow d e, members_narrow ms k)
        | false ↦ λ e k. cc
      ] refl h
