-- What the items come to where one is put or taken away.
use Rattle.std.proofs.Common.{T, ◌≡◌, ℕ, ◌+◌, ◌-◌, ◌<◌, ◌≤◌, ◌^◌, Bool, true, false, cond, not, min, ◌&&◌, [], ◌∷◌, length, refl, sym, ap, subst, ◌∙◌, is_lt, arith, true≢false, Ordering}
use Rattle.std.specs.declared.cmp.Ordering.TheVariants.{Less, Equal, Greater}
use Rattle.std.specs.declared.option.Option.TheVariants.{None, Some}
use Rattle.std.specs.Ordering.{eq_by_cmp}
use Rattle.std.specs.List.{sum_by}
use Rattle.std.specs.FinMap.Entries.{below_all, find-put, find-where_key, is_sorted, is_sorted-put, is_sorted-where_key, same_entries}
use Rattle.std.proofs.Math.Nat.{min-eq_left}
use Rattle.std.proofs.lemmas.List.Sums.{sum_by-cons}
use Rattle.cat_tree.specs.Text.{text_of}
use Rattle.cat_collections.specs.Rows.{without}
use Rattle.cat_collections.specs.Table.{Text, Map, get, put, text_antisymmetric, text_cmp, text_total}
use Rattle.cat_collections.proofs.Tables.{same_is, same_self}
use Rattle.cat_types.specs.declared.input.Offered.{Offered}
use Rattle.cat_state_parts.specs.Bytes.{AreCounted, bytes_of, item_bytes}

first : (a b : Bool) → T (a && b) → T a
first true b h = tt
first false b h = h

second : (a b : Bool) → T (a && b) → T b
second true b h = h
second false b h = absurd h

apart : (r : Ordering) → T (is_lt r) → eq_by_cmp (λ (x y : Bool). r) true true ≡ false
apart Less h = refl
apart Equal h = absurd h
apart Greater h = absurd h

-- none of the items above a reference is of it
stays : (r : Text) (es : Map Offered) → T (below_all text_cmp r es) → without text_cmp r es ≡ es
stays r [] h = refl
stays r (e ∷ es) h =
    ap (λ b. cond (not b) (e ∷ without text_cmp r es) (without text_cmp r es)) (apart (text_cmp r e.0) (first _ _ h)) ∙ ap (λ l. e ∷ l) (stays r es (second _ _ h))

-- all items but one, and that one
pub sum_without : (r : Text) (es : Map Offered) → T (is_sorted text_cmp es) → sum_by item_bytes (without text_cmp r es) + bytes_of (get es r) ≡ sum_by item_bytes es
sum_without r [] h = refl
sum_without r (e ∷ es) h = go (eq_by_cmp text_cmp r e.0) refl (sum_without r es (second _ _ h))
  where
    go : (b : Bool) → eq_by_cmp text_cmp r e.0 ≡ b → sum_by item_bytes (without text_cmp r es) + bytes_of (get es r) ≡ sum_by item_bytes es
        → sum_by item_bytes (cond (not b) (e ∷ without text_cmp r es) (without text_cmp r es)) + bytes_of (cond b (Some e.1) (get es r)) ≡ sum_by item_bytes (e ∷ es)
    go true t rest =
        let same : r ≡ e.0 = same_is text_total text_antisymmetric r e.0 t in
        let left : without text_cmp r es ≡ es = stays r es (subst (λ k. T (below_all text_cmp k es)) (sym same) (first _ _ h)) in
        let more : sum_by item_bytes (e ∷ es) ≡ item_bytes e + sum_by item_bytes es = sum_by-cons item_bytes e es in
        let there : sum_by item_bytes (without text_cmp r es) ≡ sum_by item_bytes es = ap (sum_by item_bytes) left in
        omega arith
    go false t rest =
        let more : sum_by item_bytes (e ∷ es) ≡ item_bytes e + sum_by item_bytes es = sum_by-cons item_bytes e es in
        let less : sum_by item_bytes (e ∷ without text_cmp r es) ≡ item_bytes e + sum_by item_bytes (without text_cmp r es) = sum_by-cons item_bytes e (without text_cmp r es) in
        omega arith

-- what is put goes with its reference
put_without : (r : Text) (x : Offered) (es : Map Offered) → T (is_sorted text_cmp es) → without text_cmp r (put text_cmp r x es) ≡ without text_cmp r es
put_without r x es h =
    same_entries text_cmp text_total text_antisymmetric (without text_cmp r (put text_cmp r x es)) (without text_cmp r es)
    (is_sorted-where_key text_cmp others (put text_cmp r x es) (is_sorted-put text_cmp text_total r x es h)) (is_sorted-where_key text_cmp others es h)
    (λ q. find-where_key text_cmp others q (alike q) (put text_cmp r x es) ∙ (go q (eq_by_cmp text_cmp r q) refl ∙ sym (find-where_key text_cmp others q (alike q) es)))
  where
    others : Text → Bool
    others q = not (eq_by_cmp text_cmp r q)

    alike : (q k : Text) → text_cmp q k ≡ Equal → others k ≡ others q
    alike q k tie = ap others (sym (text_antisymmetric q k tie))

    -- what is another reference is so both ways
    other : (q : Text) (b : Bool) → eq_by_cmp text_cmp q r ≡ b → eq_by_cmp text_cmp r q ≡ false → b ≡ false
    other q true s t = absurd (true≢false (sym (ap (eq_by_cmp text_cmp r) (same_is text_total text_antisymmetric q r s) ∙ same_self text_total text_antisymmetric r) ∙ t))
    other q false s t = refl

    go : (q : Text) (b : Bool) → eq_by_cmp text_cmp r q ≡ b → cond (not b) (get (put text_cmp r x es) q) None ≡ cond (not b) (get es q) None
    go q true t = refl
    go q false t = find-put text_cmp text_total q r x es ∙ ap (λ b. cond b (Some x) (get es q)) (other q (eq_by_cmp text_cmp q r) refl t)

-- all items but those of a reference, and what is put for it
pub sum_put : (r : Text) (x : Offered) (es : Map Offered) → T (is_sorted text_cmp es) → sum_by item_bytes (put text_cmp r x es) ≡ sum_by item_bytes (without text_cmp r es) + length (text_of x.tree)
sum_put r x es h =
    let all = sum_without r (put text_cmp r x es) (is_sorted-put text_cmp text_total r x es h) in
    let here : get (put text_cmp r x es) r ≡ Some x = find-put text_cmp text_total r r x es ∙ ap (λ b. cond b (Some x) (get es r)) (same_self text_total text_antisymmetric r) in
    sym all ∙ (λ i. sum_by item_bytes (put_without r x es h i) + bytes_of (here i))

-- the items but one have as many bytes as all less those of that one
pub one_less : (r : Text) (es : Map Offered) (bytes : ℕ) → T (is_sorted text_cmp es) → AreCounted es bytes
    → (bytes_of (get es r) ≤ bytes) × (bytes - bytes_of (get es r) ≡ sum_by item_bytes (without text_cmp r es))
one_less r es bytes h c =
    let all : sum_by item_bytes (without text_cmp r es) + bytes_of (get es r) ≡ bytes = sum_without r es h ∙ sym c.sum in
    (omega arith, omega arith)

-- what is offered has fewer than 2^62 bytes
pub found_bytes : (r : Text) (es : Map Offered) (bytes : ℕ) (x : Offered) → T (is_sorted text_cmp es) → AreCounted es bytes → get es r ≡ Some x → min (length (text_of x.tree)) (2 ^ 62) ≡ bytes_of (get es r)
found_bytes r es bytes x h c e =
    let here : bytes_of (get es r) ≡ length (text_of x.tree) = ap bytes_of e in
    let most : bytes_of (get es r) ≤ bytes = (one_less r es bytes h c).0 in
    let small : bytes < 2 ^ 62 = c.small in
    let within : length (text_of x.tree) ≤ 2 ^ 62 = omega arith in
    min-eq_left within ∙ sym here
