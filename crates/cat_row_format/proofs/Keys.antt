-- The two parts of the key of an item.
use Rattle.std.proofs.Common.{◌≡◌, ℕ, length-append, suc, ◌+◌, ◌<◌, List, [], ◌∷◌, ◌++◌, length, take, drop, true, false, true≢false, cond, refl, sym, ap, arith, ◌∙◌, add-one}
use Rattle.std.proofs.lemmas.List.{take_at}
use Rattle.std.proofs.Math.Seq.{drop-append-add}
use Rattle.std.proofs.lemmas.Bool.{eqb-true}
use Rattle.std.proofs.lemmas.Bool.Decides.{nat_tests}
use Rattle.std.specs.Prelude.{Bool, ◌&&◌, ◌==◌, not, nat_lt, IsTrue}
use Rattle.std.specs.List.{list_all, prefix_len, position_or_len, before_first, after_first}
use Rattle.cat_types.specs.Names.{is_name, is_name_byte}
use Rattle.cat_row_format.specs.Text.{item_key}
use Rattle.cat_row_format.specs.Parsed.{is_parted}
use Rattle.cat_row_format.proofs.Steps.{both}

-- no byte of a name is a space
space : (b : ℕ) (t : Bool) → is_name_byte b ≡ true → (b == 32) ≡ t → t ≡ false
space b false e h = refl
space b true e h = absurd (true≢false (sym e ∙ ap is_name_byte (eqb-true b 32 h)))

no_space : (b : ℕ) → is_name_byte b ≡ true → (b == 32) ≡ false
no_space b e = space b (b == 32) e refl

one_more : (n : ℕ) → 1 + n ≡ suc n
one_more n = omega arith

-- the first space stands behind a name
place : (name rest : List ℕ) → list_all is_name_byte name ≡ true → position_or_len (λ b. b == 32) (name ++ 32 ∷ rest) ≡ length name
place [] rest e = refl
place (b ∷ bs) rest e =
    let parts = both _ _ e in
    ap (λ t. cond (not t) (1 + prefix_len (λ b. not (b == 32)) (bs ++ 32 ∷ rest)) 0) (no_space b parts.0)
    ∙ (one_more (position_or_len (λ b. b == 32) (bs ++ 32 ∷ rest)) ∙ ap suc (place bs rest parts.1))

below : (a b : ℕ) → nat_lt a (a + suc b) ≡ true
below a b = grind (arith, nat_tests)

-- a name has only bytes of names
bytes_of : (name : List ℕ) → IsTrue (is_name name) → list_all is_name_byte name ≡ true
unfolding is_name
bytes_of name e = (both _ _ (both _ _ e).1).1

pub parted : (name rest : List ℕ) → IsTrue (is_name name) → is_parted (item_key name rest) ≡ true
parted name rest e =
    let found : position_or_len (λ b. b == 32) (name ++ 32 ∷ rest) ≡ length name = place name rest (bytes_of name e) in
    let long : length (name ++ 32 ∷ rest) ≡ length name + suc (length rest) = length-append name (32 ∷ rest) in
    (λ i. nat_lt (found i) (long i)) ∙ below (length name) (length rest)

pub before : (name rest : List ℕ) → IsTrue (is_name name) → before_first (λ b. b == 32) (item_key name rest) ≡ name
before name rest e = take_at name (32 ∷ rest) _ (sym (place name rest (bytes_of name e)))

pub after : (name rest : List ℕ) → IsTrue (is_name name) → after_first (λ b. b == 32) (item_key name rest) ≡ rest
after name rest e = ap (λ n. drop (n + 1) (name ++ 32 ∷ rest)) (place name rest (bytes_of name e)) ∙ drop-append-add name (32 ∷ rest) 1
