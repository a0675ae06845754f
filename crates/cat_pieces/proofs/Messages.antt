-- The messages of the bytes that a machine was shown.
use Rattle.std.proofs.Common.{◌≡◌, ℕ, ◌<◌, ◌≤◌, Bool, true, false, List, [], ◌∷◌, ◌++◌, length, drop, refl, sym, ◌∙◌, ap, subst, append_assoc}
use Rattle.std.specs.Prelude.{◌||◌, MatchBool, ⊤}
use Rattle.cat_connection.specs.Connection.{Precede}
use Rattle.cat_connection.specs.Items.{AreMessages, Item, StandsFirst, is_last}
use Rattle.cat_connection.specs.Runs.{AnswersItem, AnswersItems, Answering, Lacking}
use Rattle.cat_connection.proofs.Preceding.{precede_blank, precede_end, precede_last, precede_more, precede_none, precede_one, precede_then}
use Rattle.cat_listener.specs.Step.{bytes_used, ends_it, text_bytes}
use Rattle.cat_listener.specs.Turn.{Asked, Follow, IsAsked, IsTurn, Turn, has_last, nothing, replies}
use Rattle.cat_listener.specs.declared.step.Step.{Step}
use Rattle.cat_listener.specs.declared.step.Step.TheVariants.{Reply, Last, More}
use Rattle.cat_listener.specs.declared.step.Text.{Text}
use Rattle.cat_pieces.specs.Replies.{HasAnswered, Replies, step_with}

module _ {A : Type 0} (answers : Answering A) (lacks : Lacking A) where
  -- a step with this reply to the item at the front
  pub replies_with : (a b : A) (bytes : List ℕ) (item : Item) (last : Bool) (used : ℕ) (text : Text) → is_last item ≡ last → StandsFirst bytes item used → 0 < used → used ≤ length bytes
      → AnswersItem answers lacks a item b (text_bytes text) → Replies answers lacks a bytes (step_with last used text) b
  replies_with a b bytes item true used text is s some inside h = (item, used, s, is, h)
  replies_with a b bytes item false used text is s some inside h = (item, s, is, some, inside, h)

  -- the first messages of the bytes were answered, those that the machine was shown; these bytes are left
  abbrev Done : A → List ℕ → List Asked → List ℕ → A → Type 0
  Done a bytes qs left b = (items : List Item) × AnswersItems answers lacks a items b (replies qs) × (has_last qs ≡ false → Precede bytes items left) × (has_last qs ≡ true → (more : List ℕ) → AreMessages (bytes ++ more) items)

  done_none : (a b : A) (bytes left : List ℕ) → a ≡ b → left ≡ bytes → Done a bytes [] left b
  done_none a b bytes left p f = (
    [],
    (refl, sym p),
    (λ e. subst (λ l. Precede bytes [] l) (sym f) (precede_none bytes)),
    (λ e. cc),
  )

  done_reply : (a m b : A) (bytes later left : List ℕ) (used : ℕ) (text : Text) (qs : List Asked) → Replies answers lacks a bytes (Reply used text) m
      → Done m (drop used bytes ++ later) qs left b → Done a (bytes ++ later) (record { bytes = bytes; step = Reply used text } ∷ qs) left b
  done_reply a m b bytes later left used text qs r rest =
      let one : Precede (bytes ++ later) (r.0 ∷ []) (drop used bytes ++ later) = precede_more bytes (drop used bytes) later (r.0 ∷ []) (precede_one bytes r.0 used r.1 r.2 r.4) in (
        r.0 ∷ rest.0,
        (m, text_bytes text, replies qs, r.5, rest.1, refl),
        (λ e. precede_then (bytes ++ later) (drop used bytes ++ later) left (r.0 ∷ []) rest.0 one (rest.2 e)),
        (λ e more. one.all more rest.0 (rest.3 e more)),
      )

  done_last : (a b : A) (bytes later left : List ℕ) (text : Text) → Replies answers lacks a bytes (Last text) b
      → Done a (bytes ++ later) (record { bytes = bytes; step = Last text } ∷ []) left b
  done_last a b bytes later left text r = (
    r.0 ∷ [],
    (b, text_bytes text, [], r.4, (refl, refl), refl),
    (λ e. cc),
    (λ e more. subst (λ l. AreMessages l (r.0 ∷ [])) (sym (append_assoc bytes later more)) (precede_last bytes bytes [] r.0 r.1 (precede_none bytes) r.2 r.3 (later ++ more))),
  )

  done_more : (a m b : A) (bytes later left : List ℕ) (gone : ℕ) (part : _) (qs : List Asked) → Replies answers lacks a bytes (More gone part) m
      → Done m (drop gone bytes ++ later) qs left b → Done a (bytes ++ later) (record { bytes = bytes; step = More gone part } ∷ qs) left b
  done_more a m b bytes later left gone part qs r rest =
      let blank_is : Precede bytes [] (drop gone bytes) = subst (λ n. Precede bytes [] (drop n bytes)) (sym r.2) (precede_blank bytes) in
      let one : Precede (bytes ++ later) [] (drop gone bytes ++ later) = precede_more bytes (drop gone bytes) later [] blank_is in (
        rest.0,
        subst (λ x. AnswersItems answers lacks x rest.0 b (replies qs)) r.1 rest.1,
        (λ e. precede_then (bytes ++ later) (drop gone bytes ++ later) left [] rest.0 one (rest.2 e)),
        (λ e more. one.all more rest.0 (rest.3 e more)),
      )

  done_then : (a m b : A) (bytes later left : List ℕ) (step : Step) (qs : List Asked) → Replies answers lacks a bytes step m → MatchBool (ends_it step) (qs ≡ []) ⊤
      → IsAsked (Replies answers lacks) m qs b → Done m (drop (bytes_used step) bytes ++ later) qs left b → Done a (bytes ++ later) (record { bytes = bytes; step = step } ∷ qs) left b
  done_then a m b bytes later left (Reply used text) qs r c leads rest = done_reply a m b bytes later left used text qs r rest
  done_then a m b bytes later left (Last text) [] r c leads rest = subst (λ x. Done a (bytes ++ later) (record { bytes = bytes; step = Last text } ∷ []) left x) leads (done_last a m bytes later left text r)
  done_then a m b bytes later left (Last text) (q ∷ qs) r c leads rest = cc
  done_then a m b bytes later left (More gone part) qs r c leads rest = done_more a m b bytes later left gone part qs r rest

  done_all : (a b : A) (bytes : List ℕ) (qs : List Asked) (left : List ℕ) → IsAsked (Replies answers lacks) a qs b → Follow bytes qs left → Done a bytes qs left b
  done_all a b bytes [] left p f = done_none a b bytes left p f
  done_all a b bytes (q ∷ qs) left p f =
      let rest : Done p.0 (drop (bytes_used q.step) q.bytes ++ f.0) qs left b = done_all p.0 b (drop (bytes_used q.step) q.bytes ++ f.0) qs left p.2 f.3 in
      subst (λ l. Done a l (q ∷ qs) left b) (sym f.1) (done_then a p.0 b q.bytes f.0 left q.step qs p.1 f.2 p.2 rest)

  pub answered_all : (a b : A) (t : Turn) → t.before ≡ nothing → IsTurn (Replies answers lacks) a t b → HasAnswered answers lacks a t b
  answered_all a b t fresh p =
      let came : t.before.came ++ p.taken ≡ p.taken = ap (λ s. s.came ++ p.taken) fresh in
      let done : Done a p.taken p.asked t.after.came b = subst (λ l. Done a l p.asked t.after.came b) came (done_all a b (t.before.came ++ p.taken) p.asked t.after.came p.leads p.follows) in
      let said : replies p.asked ≡ p.out ++ t.after.going = sym (ap (λ s. s.going ++ replies p.asked) fresh) ∙ p.said in
      let last : t.after.last ≡ has_last p.asked = p.ended ∙ ap (λ s. s.last || has_last p.asked) fresh in
      record {
        taken = p.taken;
        takes = p.takes;
        items = done.0;
        out = p.out;
        writes = p.writes;
        runs = subst (λ l. AnswersItems answers lacks a done.0 b l) said done.1;
        precede = λ e. done.2 (sym last ∙ e);
        all = λ e short. precede_end p.taken t.after.came done.0 (done.2 (sym last ∙ e)) short;
        ended = λ e. done.3 (sym last ∙ e);
      }
