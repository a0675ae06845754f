-- Turns of a connection, one after another.
use Rattle.std.proofs.Common.{◌≡◌, ℕ, Bool, true, false, List, [], ◌∷◌, ◌++◌, take, drop, refl, sym, ◌∙◌, ap, subst, append_assoc, append-nil}
use Rattle.std.specs.Prelude.{Option, None, Some, ◌||◌, MatchBool, ⊤}
use Rattle.std.specs.Io.KnownBytes.{Appends, Consumes, Keeps}
use Rattle.std.proofs.lemmas.List.{take-append-drop}
use Rattle.std.specs.List.{FoldsTo}
use Rattle.cat_io.proofs.Known.{Appends_then, Appends_then_keeps, Consumes_then}
use Rattle.cat_listener.specs.Step.{bytes_used, ends_it, reply_of}
use Rattle.cat_listener.specs.Turn.{Answers, Asked, Follow, Follows, HasAsked, IsRead, IsTurn, IsWritten, Standing, Turn, answered, has_last, joined, replies, turn}
use Rattle.cat_listener.specs.declared.step.Step.{Step}
use Rattle.cat_listener.specs.declared.step.Step.TheVariants.{Reply, Last, More}

Appends_same : (a : Option (List ℕ)) → Appends a a []
Appends_same None = tt
Appends_same (Some xs) = sym (append-nil xs)

Consumes_none : (a : Option (List ℕ)) → Consumes a a []
Consumes_none None = tt
Consumes_none (Some xs) = refl

-- ---- yes and no

or_false : (a : Bool) → (a || false) ≡ a
or_false true = refl
or_false false = refl

or_true : (a : Bool) → true ≡ (a || true)
or_true true = refl
or_true false = refl

or_first : (a b : Bool) → a ≡ true → (a || b) ≡ true
or_first true b e = refl
or_first false b e = cc

or_second : (a b : Bool) → b ≡ true → (a || b) ≡ true
or_second true b e = refl
or_second false b e = e

or_then : (a b c : Bool) → ((a || b) || c) ≡ (a || (b || c))
or_then true b c = refl
or_then false b c = refl

-- ---- what a server was shown, and then more of it

pub folds_then : {V X : Type 0} (R : V → X → V → Type 0) (a : V) (xs : List X) (b : V) (ys : List X) (c : V) → FoldsTo R a xs b → FoldsTo R b ys c → FoldsTo R a (xs ++ ys) c
folds_then R a [] b ys c p q = subst (λ v. FoldsTo R v ys c) (sym p) q
folds_then R a (x ∷ xs) b ys c p q = (p.0, p.1, folds_then R p.0 xs b ys c p.2 q)

replies_then : (qs rs : List Asked) → replies (qs ++ rs) ≡ replies qs ++ replies rs
replies_then [] rs = refl
replies_then (q ∷ qs) rs = ap (λ l. reply_of q.step ++ l) (replies_then qs rs) ∙ sym (append_assoc (reply_of q.step) (replies qs) (replies rs))

last_then : (qs rs : List Asked) → has_last (qs ++ rs) ≡ (has_last qs || has_last rs)
last_then [] rs = refl
last_then (q ∷ qs) rs = ap (λ t. ends_it q.step || t) (last_then qs rs) ∙ sym (or_then (ends_it q.step) (has_last qs) (has_last rs))

closed_then : (t : Bool) (qs rs : List Asked) → MatchBool t (qs ≡ []) ⊤ → (t ≡ true → rs ≡ []) → MatchBool t (qs ++ rs ≡ []) ⊤
closed_then true qs rs p none = ap (λ l. l ++ rs) p ∙ none refl
closed_then false qs rs p none = tt

follow_then : (bytes more : List ℕ) (qs rs : List Asked) (mid left : List ℕ) → Follow bytes qs mid → (has_last qs ≡ true → rs ≡ []) → Follow (mid ++ more) rs left → Follow (bytes ++ more) (qs ++ rs) left
follow_then bytes more [] rs mid left p none f = subst (λ l. Follow (l ++ more) rs left) p f
follow_then bytes more (q ∷ qs) rs mid left p none f = (
  p.0 ++ more,
  ap (λ l. l ++ more) p.1 ∙ append_assoc q.bytes p.0 more,
  closed_then (ends_it q.step) qs rs p.2 (λ e. none (or_first (ends_it q.step) (has_last qs) e)),
  subst (λ l. Follow l (qs ++ rs) left) (append_assoc (drop (bytes_used q.step) q.bytes) p.0 more)
      (follow_then (drop (bytes_used q.step) q.bytes ++ p.0) more qs rs mid left p.3 (λ e. none (or_second (ends_it q.step) (has_last qs) e)) f),
)

-- ---- one step

abbrev none_asked : List Asked
none_asked = []

one_closed : (t : Bool) → MatchBool t (none_asked ≡ none_asked) ⊤
one_closed true = refl
one_closed false = tt

came_of : (s : Standing) (step : Step) → (answered s step).came ≡ drop (bytes_used step) s.came
came_of s (Reply used text) = refl
came_of s (Last text) = refl
came_of s (More blank part) = refl

going_of : (s : Standing) (step : Step) → s.going ≡ [] → (answered s step).going ≡ reply_of step
going_of s (Reply used text) e = refl
going_of s (Last text) e = refl
going_of s (More blank part) e = e

last_of : (s : Standing) (step : Step) → (answered s step).last ≡ (s.last || (ends_it step || false))
last_of s (Reply used text) = sym (or_false s.last)
last_of s (Last text) = or_true s.last
last_of s (More blank part) = sym (or_false s.last)

-- ---- what was written

pub written_none : (s : Standing) (w : Option (List ℕ)) → IsWritten s s w w
written_none s w = record { out = []; writes = Appends_same w; goes = refl; rest = refl }

-- and then more of what goes
pub written_more : (s s' s'' : Standing) (w w' w'' : Option (List ℕ)) (count : ℕ) → IsWritten s s' w w' → Appends w' w'' (take count s'.going) → s'' ≡ record s' { going = drop count s'.going } → IsWritten s s'' w w''
written_more s s' s'' w w' w'' count p a e =
    let gone : s''.going ≡ drop count s'.going = ap (λ x. x.going) e in
    let put : Standing → Standing = λ x. record x { going = drop count s'.going } in
    let with_going : List ℕ → Standing = λ l. record s { going = l } in
    record {
      out = p.out ++ take count s'.going;
      writes = Appends_then w w' w'' p.out (take count s'.going) p.writes a;
      goes = p.goes ∙ (ap (λ l. p.out ++ l) (sym (take-append-drop count s'.going)) ∙ (sym (append_assoc p.out (take count s'.going) (drop count s'.going)) ∙ ap (λ l. (p.out ++ take count s'.going) ++ l) (sym gone)));
      rest = e ∙ (ap put p.rest ∙ ap with_going (sym gone));
    }

-- and then nothing
pub written_kept : (s s' : Standing) (w w' w'' : Option (List ℕ)) → IsWritten s s' w w' → Keeps w' w'' → IsWritten s s' w w''
written_kept s s' w w' w'' p k = record { out = p.out; writes = Appends_then_keeps w w' w'' p.out p.writes k; goes = p.goes; rest = p.rest }

module _ {A : Type 0} (answers : Answers A) where
  -- nothing was done
  pub turn_none : (a : A) (s : Standing) (left written : Option (List ℕ)) → IsTurn answers a (turn s left written s left written) a
  turn_none a s left written = record {
    taken = [];
    takes = Consumes_none left;
    asked = [];
    leads = refl;
    follows = sym (append-nil s.came);
    out = [];
    writes = Appends_same written;
    said = append-nil s.going;
    closed = λ e. refl;
    ended = sym (or_false s.last);
  }

  -- a front of what goes was written
  pub turn_written : (a : A) (s s' : Standing) (left written written' : Option (List ℕ)) → IsWritten s s' written written' → IsTurn answers a (turn s left written s' left written') a
  turn_written a s s' left written written' w = record {
    taken = [];
    takes = Consumes_none left;
    asked = [];
    leads = refl;
    follows = ap (λ x. x.came) w.rest ∙ sym (append-nil s.came);
    out = w.out;
    writes = w.writes;
    said = append-nil s.going ∙ w.goes;
    closed = λ e. refl;
    ended = ap (λ x. x.last) w.rest ∙ sym (or_false s.last);
  }

  -- what has come was read
  pub turn_read : (a : A) (s s' : Standing) (left left' written : Option (List ℕ)) → IsRead s s' left left' → IsTurn answers a (turn s left written s' left' written) a
  turn_read a s s' left left' written r = record {
    taken = r.taken;
    takes = r.takes;
    asked = [];
    leads = refl;
    follows = ap (λ x. x.came) r.after_is;
    out = [];
    writes = Appends_same written;
    said = append-nil s.going ∙ sym (ap (λ x. x.going) r.after_is);
    closed = λ e. refl;
    ended = ap (λ x. x.last) r.after_is ∙ sym (or_false s.last);
  }

  -- the server was shown what came
  pub turn_asked : (a b : A) (s s' : Standing) (left written : Option (List ℕ)) → s.going ≡ [] → s.last ≡ false → HasAsked answers a s b s' → IsTurn answers a (turn s left written s' left written) b
  turn_asked a b s s' left written empty still h = record {
    taken = [];
    takes = Consumes_none left;
    asked = record { bytes = s.came; step = h.step } ∷ [];
    leads = (b, h.does, refl);
    follows = ([], refl, one_closed (ends_it h.step), ap (λ x. x.came) h.after_is ∙ came_of s h.step ∙ sym (append-nil (drop (bytes_used h.step) s.came)));
    out = [];
    writes = Appends_same written;
    said = ap (λ l. l ++ (reply_of h.step ++ [])) empty ∙ append-nil (reply_of h.step) ∙ sym (ap (λ x. x.going) h.after_is ∙ going_of s h.step empty);
    closed = λ e. let wrong : false ≡ true = sym still ∙ e in cc;
    ended = ap (λ x. x.last) h.after_is ∙ last_of s h.step;
  }

  -- two turns are one
  pub turn_then : (a b c : A) (s1 s2 s3 : Standing) (l1 l2 l3 w1 w2 w3 : Option (List ℕ))
      → IsTurn answers a (turn s1 l1 w1 s2 l2 w2) b → IsTurn answers b (turn s2 l2 w2 s3 l3 w3) c → IsTurn answers a (turn s1 l1 w1 s3 l3 w3) c
  turn_then a b c s1 s2 s3 l1 l2 l3 w1 w2 w3 p q =
      let none : has_last p.asked ≡ true → q.asked ≡ [] = λ e. q.closed (p.ended ∙ or_second s1.last (has_last p.asked) e) in
      record {
        taken = p.taken ++ q.taken;
        takes = Consumes_then l1 l2 l3 p.taken q.taken p.takes q.takes;
        asked = p.asked ++ q.asked;
        leads = folds_then (λ a q b. answers a q.bytes q.step b) a p.asked b q.asked c p.leads q.leads;
        follows = subst (λ l. Follow l (p.asked ++ q.asked) s3.came) (append_assoc s1.came p.taken q.taken)
            (follow_then (s1.came ++ p.taken) q.taken p.asked q.asked s2.came s3.came p.follows none q.follows);
        out = p.out ++ q.out;
        writes = Appends_then w1 w2 w3 p.out q.out p.writes q.writes;
        said = ap (λ l. s1.going ++ l) (replies_then p.asked q.asked)
            ∙ (sym (append_assoc s1.going (replies p.asked) (replies q.asked))
            ∙ (ap (λ l. l ++ replies q.asked) p.said
            ∙ (append_assoc p.out s2.going (replies q.asked) ∙ (ap (λ l. p.out ++ l) q.said ∙ sym (append_assoc p.out q.out s3.going)))));
        closed = λ e. ap (λ l. l ++ q.asked) (p.closed e) ∙ q.closed (p.ended ∙ or_first s1.last (has_last p.asked) e);
        ended = q.ended ∙ (ap (λ t. t || has_last q.asked) p.ended ∙ (or_then s1.last (has_last p.asked) (has_last q.asked) ∙ ap (λ t. s1.last || t) (sym (last_then p.asked q.asked))));
      }

  -- the second one begins where the first one ended
  pub turns_joined : (a b c : A) (t u : Turn) → IsTurn answers a t b → IsTurn answers b u c → Follows t u → IsTurn answers a (joined t u) c
  turns_joined a b c t u p q f =
      let M : Standing → Option (List ℕ) → Option (List ℕ) → Type 0 = λ s l w. IsTurn answers b (turn s l w u.after u.left_after u.written_after) c in
      let at_left : M u.before t.left_after u.written = subst (λ l. M u.before l u.written) f.left q in
      let at_written : M u.before t.left_after t.written_after = subst (λ w. M u.before t.left_after w) f.written at_left in
      let at : M t.after t.left_after t.written_after = subst (λ s. M s t.left_after t.written_after) f.standing at_written in
      turn_then a b c t.before t.after u.after t.left t.left_after u.left_after t.written t.written_after u.written_after p at
