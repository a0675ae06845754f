-- What is left of a list that is made piece by piece.
use Rattle.std.proofs.Common.{◌≡◌, ℕ, suc, ◌+◌, ◌-◌, ◌<◌, List, [], ◌∷◌, ◌++◌, length, map, refl, sym, ap, ◌∙◌, arith, codes}
use Rattle.std.specs.Fmt.{decimal}
use Rattle.std.proofs.lemmas.List.{append_assoc, map-append}
use Rattle.cat_tree.specs.Data.{Data, items_of}
use Rattle.cat_tree.specs.View.{data_of}
use Rattle.cat_tree.specs.declared.tree.Tree.{Tree}
use Rattle.cat_collections.specs.Table.{Map, Text}
use Rattle.cat_replies.specs.Piece.{piece_text}
use Rattle.cat_replies.specs.declared.line.Piece.{Piece}
use Rattle.cat_sample.specs.Sample.{component_tree, components, drawn, group_tree, groups, item_of, next_seed, numbered}
use Rattle.cat_types.specs.declared.input.Item.{Item}
use Rattle.cat_sample.specs.Summary.{document_at, item_count, owned_in, owned_texts}

-- a piece that is appended goes over from what is left
pub moved : {A : Type 0} (done done' part rest rest' whole : List A) → done' ≡ done ++ part → rest ≡ part ++ rest' → done ++ rest ≡ whole → done' ++ rest' ≡ whole
moved done done' part rest rest' whole e f h = ap (λ x. x ++ rest') e ∙ (append_assoc done part rest' ∙ (ap (λ x. done ++ x) (sym f) ∙ h))

-- of so many one is first
one_first : (j n : ℕ) → j < n → n - j ≡ suc (n - (j + 1))
one_first j n h = omega (arith, h)

pub groups_next : (j : ℕ) → j < 10 → groups j (10 - j) ≡ item_of (group_tree j) ++ groups (j + 1) (10 - (j + 1))
groups_next j h = ap (groups j) (one_first j 10 h)

pub components_next : (x k n : ℕ) → k < n → components x k (n - k) ≡ item_of (component_tree k (drawn (next_seed x))) ++ components (next_seed x) (k + 1) (n - (k + 1))
components_next x k n h = ap (components x k) (one_first k n h)

pub owned_next : (documents : Map Data) (j : ℕ) → j < 10 → owned_texts documents j (10 - j)
    ≡ codes " " ∷ decimal (owned_in (document_at (numbered (codes "group:default/g") j) documents)) ∷ owned_texts documents (j + 1) (10 - (j + 1))
owned_next documents j h = ap (owned_texts documents j) (one_first j 10 h)

-- a Component that is appended goes over from what is left
pub components_moved : (done done' : List Item) (x y k n : ℕ) (whole : List Item) → done' ≡ done ++ item_of (component_tree k (drawn y)) → y ≡ next_seed x → k < n
    → done ++ components x k (n - k) ≡ whole → done' ++ components y (k + 1) (n - (k + 1)) ≡ whole
components_moved done done' x y k n whole e f l h =
    ap (λ z. done' ++ components z (k + 1) (n - (k + 1))) f
    ∙ moved done done' (item_of (component_tree k (drawn (next_seed x)))) (components x k (n - k)) (components (next_seed x) (k + 1) (n - (k + 1))) whole
    (e ∙ ap (λ z. done ++ item_of (component_tree k (drawn z))) f) (components_next x k n l) h

-- as many trees as there are items
pub counted : (ts : List Tree) → item_count (items_of (map data_of ts)) ≡ length ts
counted [] = refl
counted (t ∷ ts) = ap suc (counted ts)

-- what a Group owns, once it is appended, goes over from what is left
pub owned_moved : (documents : Map Data) (ps qs rs : List Piece) (p q : Piece) (j : ℕ) (whole : List Text) → qs ≡ ps ++ p ∷ [] → rs ≡ qs ++ q ∷ [] → piece_text p ≡ codes " "
    → piece_text q ≡ decimal (owned_in (document_at (numbered (codes "group:default/g") j) documents)) → j < 10
    → map piece_text ps ++ owned_texts documents j (10 - j) ≡ whole → map piece_text rs ++ owned_texts documents (j + 1) (10 - (j + 1)) ≡ whole
owned_moved documents ps qs rs p q j whole eq er ep eo l h =
    let owned = decimal (owned_in (document_at (numbered (codes "group:default/g") j) documents)) in
    moved (map piece_text ps) (map piece_text rs) (codes " " ∷ owned ∷ []) (owned_texts documents j (10 - j)) (owned_texts documents (j + 1) (10 - (j + 1))) whole
    (ap (map piece_text) er
    ∙ (map-append piece_text qs (q ∷ [])
    ∙ (ap (λ z. z ++ piece_text q ∷ []) (ap (map piece_text) eq ∙ map-append piece_text ps (p ∷ []))
    ∙ (append_assoc (map piece_text ps) (piece_text p ∷ []) (piece_text q ∷ [])
    ∙ (ap (λ t. map piece_text ps ++ t ∷ piece_text q ∷ []) ep ∙ ap (λ t. map piece_text ps ++ codes " " ∷ t ∷ []) eo)))))
    (owned_next documents j l) h
