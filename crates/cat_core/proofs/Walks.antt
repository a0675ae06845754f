-- The rows that wait are met one by one where each time the least above the last is taken.
use Rattle.std.proofs.Common.{◌≡◌, ℕ, zero, suc, ◌+◌, ◌≤◌, true, false, cond, List, [], ◌∷◌, map, refl, sym, ap, subst, ◌∙◌, Ordering, Less, Equal, Greater, is_some, option_map, unwrap_or, true≢false, arith}
use Rattle.std.specs.Prelude.{slice_get}
use Rattle.std.specs.declared.option.Option.{Option}
use Rattle.std.specs.declared.option.Option.TheVariants.{None, Some}
use Rattle.std.specs.Option.{option_and_then}
use Rattle.std.specs.Ordering.{is_gt, is_lt, nat_cmp, ordering_reverse, ordering_then}
use Rattle.std.specs.Cmp.{IsTotalOrder, nat_cmp_total, on_total, then_total, tied_itself}
use Rattle.std.specs.FinMap.{IsAntisymmetric, nat_cmp-IsAntisymmetric}
use Rattle.std.specs.FinMap.Entries.{below_all, by_order, is_sorted}
use Rattle.cat_collections.specs.Table.{first, keys, put, put_some, tabulate, text_cmp}
use Rattle.cat_collections.proofs.Tables.{text_antisymmetric, text_total, and_first, and_second, is_sorted-tabulate}
use Rattle.cat_model.specs.declared.types.Row.{Row}
use Rattle.cat_model.specs.declared.types.State.{State}
use Rattle.cat_model.specs.Reply.{RowPlace, place_cmp, waiting}
use Rattle.cat_core.specs.Waits.{is_above, next_waiting, place_of, waits_at}
use Rattle.cat_core.proofs.Firsts.{first_least, holds, is_less}

none_not : {A X : Type 0} {x : X} → None ≡ Some x → A
none_not e = absurd (true≢false (sym (ap is_some e)))

pub none_map : {A B : Type 0} (g : A → B) (x : Option A) → is_some x ≡ false → None ≡ option_map g x
none_map g None h = refl
none_map g (Some x) h = absurd (true≢false h)

above : {K : Type 0} {R : K → K → Ordering} → IsTotalOrder R → (x y : K) → R x y ≡ Less → R y x ≡ Greater
above o x y l = o.antisymm y x ∙ ap ordering_reverse l

-- the key at a place
abbrev pub key_at : {K X : Type 0} → List (K × X) → ℕ → Option K
key_at es i = option_map (λ e. e.0) (slice_get es i)

module _ {K X : Type 0} where
  -- past the end there is nothing
  past : (es : List (K × X)) (i j : ℕ) → i ≤ j → key_at es i ≡ None → slice_get es j ≡ None
  past [] i j l h = refl
  past (e ∷ es) zero j l h = none_not (sym h)
  past (e ∷ es) (suc i) zero l h = absurd (omega arith)
  past (e ∷ es) (suc i) (suc j) l h = past es i j (omega arith) h

  -- each entry has the value that the function gives its key
  abbrev Valued : (K → Option X) → List (K × X) → Type 0
  Valued f [] = Unit {0}
  Valued f (e ∷ es) = (f e.0 ≡ Some e.1) × Valued f es

  valued_at : (f : K → Option X) (es : List (K × X)) → Valued f es → (i : ℕ) → option_map (λ (e : K × X). e.1) (slice_get es i) ≡ option_and_then f (key_at es i)
  valued_at f [] w i = refl
  valued_at f (e ∷ es) w zero = sym w.0
  valued_at f (e ∷ es) w (suc i) = valued_at f es w.1 i

module _ {K X : Type 0} {R : K → K → Ordering} (o : IsTotalOrder R) (s : IsAntisymmetric R) where
  valued_put : (f : K → Option X) (k : K) (v : X) (es : List (K × X)) → f k ≡ Some v → Valued f es → Valued f (put R k v es)
  valued_put f k v [] h w = (h, tt)
  valued_put f k v (e ∷ es) h w = go (R k e.0) refl (valued_put f k v es h w.1)
    where
      go : (r : Ordering) → R k e.0 ≡ r → Valued f (put R k v es) → Valued f (by_order r ((k, v) ∷ e ∷ es) ((e.0, v) ∷ es) (e ∷ put R k v es))
      go Less l ih = (h, w)
      go Equal t ih = (ap f (sym (s k e.0 t)) ∙ h, w.1)
      go Greater g ih = (w.0, ih)

  valued_tabulate : (f : K → Option X) (ks : List K) → Valued f (tabulate R ks f)
  valued_tabulate f [] = tt
  valued_tabulate f (k ∷ ks) = go (f k) refl (valued_tabulate f ks)
    where
      go : (v : Option X) → f k ≡ v → Valued f (tabulate R ks f) → Valued f (put_some R k v (tabulate R ks f))
      go None h w = w
      go (Some v) h w = valued_put f k v (tabulate R ks f) h w

  below_at : (x b : K) (es : List (K × X)) (i : ℕ) → below_all R x es ≡ true → key_at es i ≡ Some b → R x b ≡ Less
  below_at x b [] i l h = none_not h
  below_at x b (e ∷ es) zero l h = ap (λ v. R x (unwrap_or v b)) (sym h) ∙ is_less (R x e.0) (and_first _ _ l)
  below_at x b (e ∷ es) (suc i) l h = below_at x b es i (and_second _ _ l) h

  -- of keys above a bound the first is the first above it
  head_above : (b : K) (es : List (K × X)) → below_all R b es ≡ true → first (is_above R (Some b)) (keys es) ≡ key_at es 0
  head_above b [] l = refl
  head_above b (e ∷ es) l = ap (λ r. cond (is_gt r) (Some e.0) (first (is_above R (Some b)) (keys es))) (above o b e.0 (is_less (R b e.0) (and_first _ _ l)))

  -- the first key above the one at a place is the next
  next_key : (b : K) (es : List (K × X)) (i : ℕ) → is_sorted R es ≡ true → key_at es i ≡ Some b → first (is_above R (Some b)) (keys es) ≡ key_at es (suc i)
  next_key b [] i l h = none_not h
  next_key b (e ∷ es) zero l h =
      let same : e.0 ≡ b = ap (λ v. unwrap_or v b) h in
      subst (λ c. first (is_above R (Some c)) (keys (e ∷ es)) ≡ key_at es 0) same
      (ap (λ r. cond (is_gt r) (Some e.0) (first (is_above R (Some e.0)) (keys es))) (tied_itself o e.0) ∙ head_above e.0 es (and_first _ _ l))
  next_key b (e ∷ es) (suc i) l h =
      ap (λ r. cond (is_gt r) (Some e.0) (first (is_above R (Some b)) (keys es))) (below_at e.0 b es i (and_first _ _ l) h) ∙ next_key b es i (and_second _ _ l) h

  first_key : (es : List (K × X)) → first (is_above R None) (keys es) ≡ key_at es 0
  first_key [] = refl
  first_key (e ∷ es) = refl

pub place_total : IsTotalOrder place_cmp
place_total = then_total (on_total (λ (k : RowPlace). k.0) text_total) (on_total (λ (k : RowPlace). k.1) nat_cmp_total)

pub place_antisymmetric : IsAntisymmetric place_cmp
place_antisymmetric x y h = go (text_cmp x.0 y.0) refl h
  where
    go : (r : Ordering) → text_cmp x.0 y.0 ≡ r → ordering_then r (nat_cmp x.1 y.1) ≡ Equal → x ≡ y
    go Equal t h = let a = text_antisymmetric x.0 y.0 t in let b = nat_cmp-IsAntisymmetric x.1 y.1 h in λ i. (a i, b i)
    go Less t h = absurd (true≢false (ap is_lt h))
    go Greater t h = absurd (true≢false (ap is_gt h))

module _ (m : State) where
  next_is : (after : Option RowPlace) → next_waiting m after ≡ first (is_above place_cmp after) (keys (waiting m))
  next_is after = sym (first_least place_total place_antisymmetric (is_above place_cmp after) (waits_at m) (map place_of m.rows))

  rising : is_sorted place_cmp (waiting m) ≡ true
  rising = holds _ (is_sorted-tabulate place_total place_antisymmetric (map place_of m.rows) (waits_at m))

  -- the first that waits
  pub walk_begun : (v : Option RowPlace) → v ≡ next_waiting m None → v ≡ key_at (waiting m) 0
  walk_begun v e = e ∙ (next_is None ∙ first_key place_total place_antisymmetric (waiting m))

  -- one more
  pub walk_more : (i : ℕ) (v w : Option RowPlace) → v ≡ key_at (waiting m) i → w ≡ option_and_then (λ k. next_waiting m (Some k)) v → w ≡ key_at (waiting m) (i + 1)
  walk_more i v w h e = let up : suc i ≡ i + 1 = omega arith in e ∙ (go v h ∙ ap (key_at (waiting m)) up)
    where
      go : (v : Option RowPlace) → v ≡ key_at (waiting m) i → option_and_then (λ k. next_waiting m (Some k)) v ≡ key_at (waiting m) (suc i)
      go None h = let l : i ≤ suc i = omega arith in sym (ap (option_map (λ (e : RowPlace × Row). e.0)) (past (waiting m) i (suc i) l (sym h)))
      go (Some k) h = next_is (Some k) ∙ next_key place_total place_antisymmetric k (waiting m) i rising (sym h)

  -- the row at the place where the walk is
  pub walk_row : (i : ℕ) (v : Option RowPlace) (row : Option Row) → v ≡ key_at (waiting m) i → row ≡ option_and_then (waits_at m) v → row ≡ option_map (λ (e : RowPlace × Row). e.1) (slice_get (waiting m) i)
  walk_row i v row h e =
      e ∙ (ap (option_and_then (waits_at m)) h ∙ sym (valued_at (waits_at m) (waiting m) (valued_tabulate place_total place_antisymmetric (waits_at m) (map place_of m.rows)) i))

  -- where the walk has ended there is no row at any later place
  pub walk_ended : (i place : ℕ) → i ≤ place → None ≡ key_at (waiting m) i → None ≡ option_map (λ (e : RowPlace × Row). e.1) (slice_get (waiting m) place)
  walk_ended i place l h = sym (ap (option_map (λ (e : RowPlace × Row). e.1)) (past (waiting m) i place l (sym h)))
