-- The cases of a block node.
use Rattle.std.proofs.Common.{◌≡◌, ℕ, zero, suc, List, true, false, Err, refl}
use Rattle.cat_yaml.specs.Scan.{is_item}
use Rattle.cat_yaml.specs.Lines.{Line}
use Rattle.cat_yaml.specs.Block.{has_key, items, pairs, as_map, alone, block}
use Rattle.cat_yaml.specs.Value.{as_list}
use Rattle.cat_yaml.specs.declared.fault.Refusal.TheVariants.{NoReading}

pub no_list : (n : ℕ) (l : Line) (ls : List Line) → n ≡ 0 → is_item l.content ≡ true → block n l ls ≡ Err NoReading
unfolding block
no_list n l ls e h = rw (e, h) refl

pub is_list : (n m : ℕ) (l : Line) (ls : List Line) → n ≡ suc m → is_item l.content ≡ true → block n l ls ≡ as_list (items (block m) l ls)
unfolding block
is_list n m l ls e h = rw e (rw h refl)

pub no_map : (n : ℕ) (l : Line) (ls : List Line) → n ≡ 0 → is_item l.content ≡ false → has_key l.content ≡ true → block n l ls ≡ Err NoReading
unfolding block
no_map n l ls e h k = rw e (rw h (rw k refl))

pub is_map : (n m : ℕ) (l : Line) (ls : List Line) → n ≡ suc m → is_item l.content ≡ false → has_key l.content ≡ true → block n l ls ≡ as_map (pairs (block m) m l ls)
unfolding block
is_map n m l ls e h k = rw e (rw h (rw k refl))

pub is_alone : (n : ℕ) (l : Line) (ls : List Line) → is_item l.content ≡ false → has_key l.content ≡ false → block n l ls ≡ alone n l ls
unfolding block
is_alone zero l ls h k = rw h (rw k refl)
is_alone (suc n) l ls h k = rw h (rw k refl)
