-- The bytes of one line: spaces, comments, and the colon after a key.
use Rattle.std.specs.Prelude.{ℕ, suc, List, [], ◌∷◌, Bool, true, false, ◌==◌, ◌&&◌, length, take, Option, None, Some, if◌then◌else◌}

-- the bytes begin with c
abbrev pub begins_with : ℕ → List ℕ → Bool
begins_with c [] = false
begins_with c (b ∷ s) = b == c

-- a space or the end of the line stands here
abbrev pub ends_word : List ℕ → Bool
ends_word [] = true
ends_word (b ∷ s) = b == 32

-- the bytes without the spaces in front
abbrev pub stripped : List ℕ → List ℕ
stripped [] = []
stripped (b ∷ s) = if b == 32 then stripped s else b ∷ s

-- the bytes without those at the end that are c
abbrev pub trimmed : ℕ → List ℕ → List ℕ
trimmed c [] = []
trimmed c (b ∷ s) = if b == c && length (trimmed c s) == 0 then [] else b ∷ trimmed c s

-- a comment begins with `#` after a space
abbrev pub begins_comment : List ℕ → Bool
begins_comment [] = false
begins_comment (b ∷ s) = b == 32 && begins_with 35 s

-- where the first comment begins, or the end, counted from i on
abbrev pub comment_from : ℕ → List ℕ → ℕ
comment_from i [] = i
comment_from i (b ∷ s) = if begins_comment (b ∷ s) then i else comment_from (suc i) s

-- the bytes without a comment and the spaces before it
abbrev pub uncommented : List ℕ → List ℕ
uncommented s = trimmed 32 (take (comment_from 0 s) s)

-- nothing but spaces and a comment stands here
abbrev pub is_end : List ℕ → Bool
is_end s = length (uncommented s) == 0

-- a colon that the line's end or a space follows
abbrev pub begins_colon : List ℕ → Bool
begins_colon [] = false
begins_colon (b ∷ s) = b == 58 && ends_word s

-- where the first such colon before a comment stands, counted from i on
abbrev pub colon_from : ℕ → List ℕ → Option ℕ
colon_from i [] = None
colon_from i (b ∷ s) =
    if begins_comment (b ∷ s) then None else if begins_colon (b ∷ s) then Some i else colon_from (suc i) s

-- a hyphen that the line's end or a space follows
abbrev pub is_item : List ℕ → Bool
is_item [] = false
is_item (b ∷ s) = b == 45 && ends_word s

-- a single or a double quote in front
abbrev pub is_quoted : List ℕ → Bool
is_quoted [] = false
is_quoted (b ∷ s) = if b == 39 then true else b == 34
