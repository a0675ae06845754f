-- A line that is written in part.
use Rattle.std.proofs.Common.{◌≡◌, ℕ, suc, ◌+◌, ◌≤◌, ◌<◌, get_or, drop, map, List, [], ◌++◌, take, length, length-append, Vec, vec_len, vec_capacity, ap, sym, ◌∙◌, arith, rules}
use Rattle.std.specs.declared.alloc.Global.{Global}
use Rattle.std.proofs.lemmas.List.{append-nil, drop_all}
use Rattle.std.proofs.Math.Seq.{drop-cons}
use Rattle.cat_replies.specs.declared.line.Piece.{Piece}
use Rattle.cat_replies.specs.Line.{ended}
use Rattle.cat_replies.specs.Piece.{most, piece_most, piece_text}

-- of the whole text that is appended to old, now has all but what is left
pub record Written (old now : Vec ℕ Global) (whole left : List ℕ) (most_whole most_left : ℕ) : Type 0 where
  pub all : now.items ++ left ≡ old.items ++ whole
  pub kept : take (vec_len old) now.items ≡ old.items
  pub longer : vec_len old ≤ vec_len now
  pub roomy : vec_capacity old ≤ vec_capacity now
  pub short : vec_len now + most_left ≤ vec_len old + most_whole

lengths : (xs left ys whole text rest : List ℕ) → xs ++ left ≡ ys ++ whole → left ≡ text ++ rest → length xs + (length text + length rest) ≡ length ys + length whole
lengths xs left ys whole text rest e f =
    let a : length (xs ++ (text ++ rest)) ≡ length (ys ++ whole) = ap (λ l. length (xs ++ l)) (sym f) ∙ ap length e in
    simp length-append at a

-- with room for the whole there is room for the next text
pub room_left : (old now : Vec ℕ Global) (whole left text rest : List ℕ) (mw ml : ℕ) → Written old now whole left mw ml → left ≡ text ++ rest
    → vec_len old + length whole ≤ vec_capacity old → vec_len now + length text ≤ vec_capacity now
room_left old now whole left text rest mw ml w e h =
    let n : length now.items + (length text + length rest) ≡ length old.items + length whole = lengths now.items left old.items whole text rest w.all e in
    let a : vec_len old ≡ length old.items = search rules in
    let b : vec_len now ≡ length now.items = search rules in
    let r : vec_capacity old ≤ vec_capacity now = w.roomy in
    omega arith

-- with room for the whole line there is room for the piece that is next
pub room_for : (end : List ℕ) (n : ℕ) (old now : Vec ℕ Global) (xs : List Piece) (i : ℕ) (d : Piece) → Written old now (ended end (map piece_text xs)) (ended end (map piece_text (drop i xs))) (most n xs) (most n (drop i xs))
    → i < length xs → vec_len old + length (ended end (map piece_text xs)) ≤ vec_capacity old → vec_len now + length (piece_text (get_or xs i d)) ≤ vec_capacity now
room_for end n old now xs i d w h room =
    room_left old now (ended end (map piece_text xs)) (ended end (map piece_text (drop i xs))) (piece_text (get_or xs i d)) (ended end (map piece_text (drop (suc i) xs))) (most n xs) (most n (drop i xs))
    w (ap (λ ps. ended end (map piece_text ps)) (drop-cons xs i d h)) room

-- with room for the whole there is room for the end
pub room_for_end : (end : List ℕ) (n : ℕ) (old now : Vec ℕ Global) (xs : List Piece) (i : ℕ) → Written old now (ended end (map piece_text xs)) (ended end (map piece_text (drop i xs))) (most n xs) (most n (drop i xs))
    → length xs ≤ i → vec_len old + length (ended end (map piece_text xs)) ≤ vec_capacity old → vec_len now + length end ≤ vec_capacity now
room_for_end end n old now xs i w over room =
    room_left old now (ended end (map piece_text xs)) (ended end (map piece_text (drop i xs))) end [] (most n xs) (most n (drop i xs))
    w (ap (λ ps. ended end (map piece_text ps)) (drop_all i xs over) ∙ sym (append-nil end)) room

-- the same, where the pieces have the room that they take at most
pub short_for : (end : List ℕ) (n : ℕ) (old now : Vec ℕ Global) (xs : List Piece) (i : ℕ) (d : Piece) → Written old now (ended end (map piece_text xs)) (ended end (map piece_text (drop i xs))) (most n xs) (most n (drop i xs))
    → i < length xs → vec_len old + most n xs ≤ vec_capacity old → vec_len now + piece_most (get_or xs i d) ≤ vec_capacity now
short_for end n old now xs i d w h room =
    let e : most n (drop i xs) ≡ piece_most (get_or xs i d) + most n (drop (suc i) xs) = ap (most n) (drop-cons xs i d h) in
    let s : vec_len now + most n (drop i xs) ≤ vec_len old + most n xs = w.short in
    let r : vec_capacity old ≤ vec_capacity now = w.roomy in
    omega arith

-- a piece more is written
pub short_step : (end : List ℕ) (n : ℕ) (old now next : Vec ℕ Global) (xs : List Piece) (i above : ℕ) (d : Piece) → Written old now (ended end (map piece_text xs)) (ended end (map piece_text (drop i xs))) (most n xs) (most n (drop i xs))
    → i < length xs → above ≡ suc i → vec_len next ≤ vec_len now + piece_most (get_or xs i d) → vec_len next + most n (drop above xs) ≤ vec_len old + most n xs
short_step end n old now next xs i above d w h up more =
    let e : most n (drop i xs) ≡ piece_most (get_or xs i d) + most n (drop above xs) = ap (most n) (drop-cons xs i d h) ∙ ap (λ k. piece_most (get_or xs i d) + most n (drop k xs)) (sym up) in
    let s : vec_len now + most n (drop i xs) ≤ vec_len old + most n xs = w.short in
    omega arith
