-- A mirror follows bytes, one part of them after another.
use Rattle.std.proofs.Common.{◌≡◌, ℕ, ◌+◌, ◌-◌, ◌^◌, ◌<◌, ◌≤◌, true, false, cond, List, [], ◌∷◌, ◌++◌, length, take, drop, refl, sym, ◌∙◌, ap, subst, inl, inr, arith, append_assoc, length-append, slice_index, ◌==◌}
use Rattle.std.proofs.lemmas.Bool.{lt-ltb, cases_lt}
use Rattle.std.proofs.lemmas.List.{append-nil, take_all, take_at, take-append-drop, take-append-le, length-take, nil_from_length}
use Rattle.std.proofs.Math.Seq.{take-append-add}
use Rattle.std.proofs.lemmas.Result.{IfErr-at_err}
use Rattle.std.specs.Prelude.{IfErr, IfSome, OnErr, OnOk, Option, None, Some, Result, Ok, Err}
use Rattle.std.specs.Io.KnownBytes.{Appends, Consumes, Keeps, IsAtEnd}
use Rattle.std.specs.Str.Lines.{strip_carriage_return}
use Rattle.cat_io.proofs.Known.{Appends_then, Appends_then_keeps, Consumes_then, Consumes_then_keeps}
use Rattle.cat_io.specs.Sink.{AppendsFront}
use Rattle.cat_io.proofs.Cutting.{last_line_some, lines-append, rest_from-append, rest_from-no_lf, whole_from-append, whole_from-no_lf}
use Rattle.cat_io.specs.Lines.{HasNoLf, last_line, lines, rest_from, whole_from, whole_lines}
use Rattle.cat_feed.specs.Mirror.{empty}
use Rattle.cat_feed.specs.declared.mirror.Mirror.{Mirror}
use Rattle.cat_mirror.specs.Answers.{answers, documents_line, longest_line, mirror_after, mirror_answer, mirror_next, mirror_out}
use Rattle.cat_mirror.specs.Following.{AnswersSome, AppendsSome, HasAnswered, HasFollowed, IsBroken, IsCut, IsStopped, IsWhole, Stops}
use Rattle.cat_mirror.specs.declared.line.TheConstants.{ROOM}
use Rattle.cat_mirror.specs.declared.lines.Following.{Following}
use Rattle.cat_mirror.specs.declared.stop.Stop.{Stop}
use Rattle.cat_mirror.specs.declared.stop.Stop.TheVariants.{ReadFault, WriteFault, Bound, NoMemory}

-- ---- answers, one after the other

pub answers-append : (m : Mirror) (ls ls' : List (List ℕ)) → answers m (ls ++ ls') ≡ answers m ls ++ answers (mirror_after m ls) ls'
answers-append m [] ls' = refl
answers-append m (l ∷ ls) ls' = ap (λ t. mirror_answer m l ++ t) (answers-append (mirror_next m l) ls ls') ∙ sym (append_assoc (mirror_answer m l) (answers (mirror_next m l) ls) (answers (mirror_after (mirror_next m l) ls) ls'))

pub after-append : (m : Mirror) (ls ls' : List (List ℕ)) → mirror_after m (ls ++ ls') ≡ mirror_after (mirror_after m ls) ls'
after-append m [] ls' = refl
after-append m (l ∷ ls) ls' = after-append (mirror_next m l) ls ls'

-- the answers to the lines and to one more
answers_more : (m : Mirror) (ls : List (List ℕ)) (l : List ℕ) → answers m (ls ++ l ∷ []) ≡ answers m ls ++ mirror_answer (mirror_after m ls) l
answers_more m ls l = answers-append m ls (l ∷ []) ∙ ap (λ t. answers m ls ++ t) (append-nil (mirror_answer (mirror_after m ls) l))

-- ---- a line of which a part is kept

-- a mirror does the same with both lines
record SameLine (a b : List ℕ) : Type 0 where
  answer_is : (m : Mirror) → mirror_answer m a ≡ mirror_answer m b
  next_is : (m : Mirror) → mirror_next m a ≡ mirror_next m b

long_answers : (a b : List ℕ) → longest_line < length a → longest_line < length b → (m : Mirror) → mirror_answer m a ≡ mirror_answer m b
unfolding mirror_answer
long_answers a b long_a long_b m = let ta = lt-ltb longest_line (length a) long_a in let tb = lt-ltb longest_line (length b) long_b in rw (ta, tb)

long_nexts : (a b : List ℕ) → longest_line < length a → longest_line < length b → (m : Mirror) → mirror_next m a ≡ mirror_next m b
unfolding mirror_next
long_nexts a b long_a long_b m = let ta = lt-ltb longest_line (length a) long_a in let tb = lt-ltb longest_line (length b) long_b in rw (ta, tb)

both_long : (a b : List ℕ) → longest_line < length a → longest_line < length b → SameLine a b
both_long a b long_a long_b = record { answer_is = long_answers a b long_a long_b; next_is = long_nexts a b long_a long_b }

the_same : (a b : List ℕ) → a ≡ b → SameLine a b
the_same a b e = record { answer_is = λ m. ap (mirror_answer m) e; next_is = λ m. ap (mirror_next m) e }

length-strip : (l : List ℕ) → length l ≤ length (strip_carriage_return l) + 1
length-strip l =
    elim (slice_index l (length l - 1) == 13) as (λ t. length l ≤ length (cond t (take (length l - 1) l) l) + 1)
    [ true ↦ omega (arith, length-take (length l - 1) l) | false ↦ omega arith ]

-- what is kept of a line is as good as the line
kept_same : (kept begun : List ℕ) → kept ≡ take ROOM begun → SameLine kept begun
kept_same kept begun is =
    elim (cases_lt ROOM (length begun)) [
      | inl long ↦ both_long kept begun (omega (arith, long, ap length is, length-take ROOM begun)) (omega (arith, long))
      | inr short ↦ the_same kept begun (is ∙ take_all ROOM begun short)
    ]

ended_same : (kept begun : List ℕ) → kept ≡ take ROOM begun → SameLine (strip_carriage_return kept) (strip_carriage_return begun)
ended_same kept begun is =
    elim (cases_lt ROOM (length begun)) [
      | inl long ↦ both_long (strip_carriage_return kept) (strip_carriage_return begun) (omega (arith, long, ap length is, length-take ROOM begun, length-strip kept)) (omega (arith, long, length-strip begun))
      | inr short ↦ the_same _ _ (ap strip_carriage_return (is ∙ take_all ROOM begun short))
    ]

-- more of the line
kept_more : (kept begun more : List ℕ) → kept ≡ take ROOM begun → take ROOM (kept ++ more) ≡ take ROOM (begun ++ more)
kept_more kept begun more is =
    elim (cases_lt ROOM (length begun)) [
      | inl long ↦ take_at kept more ROOM (omega (arith, long, ap length is, length-take ROOM begun)) ∙ is ∙ sym (take-append-le ROOM begun more (omega (arith, long)))
      | inr short ↦ ap (λ l. take ROOM (l ++ more)) (is ∙ take_all ROOM begun short)
    ]

-- ---- parts of a text

Keeps_none : (a : Option (List ℕ)) → Appends a a []
Keeps_none None = tt
Keeps_none (Some xs) = sym (append-nil xs)

-- a text was written, and then a front of another that isn't all of it
front_then : (a b c : Option (List ℕ)) (x y : List ℕ) → Appends a b x → AppendsFront b c y → AppendsFront a c (x ++ y)
front_then a b c x y p q =
    (length x + q.0, omega (arith, q.1, length-append x y), subst (λ t. Appends a c t) (sym (take-append-add x y q.0)) (Appends_then a b c x (take q.0 y) p q.2))

-- a front of a text is one of what begins with the text
front_more : (a b : Option (List ℕ)) (x y : List ℕ) → AppendsFront a b x → AppendsFront a b (x ++ y)
front_more a b x y p =
    (p.0, omega (arith, p.1, length-append x y), subst (λ t. Appends a b t) (sym (take-append-le p.0 x y (omega (arith, p.1)))) p.2)

-- the answers to the first of some lines
some_lines : (a b : Option (List ℕ)) (ls ls' whole : List (List ℕ)) → whole ≡ ls ++ ls' → Appends a b (answers empty ls) → AnswersSome a b whole
some_lines a b ls ls' whole is p =
    (length ls, omega (arith, ap length is, length-append ls ls'), subst (λ ks. Appends a b (answers empty ks)) (sym (ap (take (length ls)) is ∙ take_at ls ls' (length ls) refl)) p)

some_more : (a b : Option (List ℕ)) (ls ls' : List (List ℕ)) → AnswersSome a b ls → AnswersSome a b (ls ++ ls')
some_more a b ls ls' p =
    (p.0, omega (arith, p.1, length-append ls ls'), subst (λ ks. Appends a b (answers empty ks)) (sym (take-append-le p.0 ls ls' p.1)) p.2)

-- ---- lines

-- the lines that bytes without LF, or an LF, add to those taken before
whole-no_lf : (taken more : List ℕ) → HasNoLf more → whole_lines (taken ++ more) ≡ whole_lines taken
whole-no_lf taken more no_lf = whole_from-append [] taken more ∙ ap (λ ls. whole_lines taken ++ ls) (whole_from-no_lf (rest_from [] taken) more no_lf) ∙ append-nil (whole_lines taken)

rest-no_lf : (taken more : List ℕ) → HasNoLf more → rest_from [] (taken ++ more) ≡ rest_from [] taken ++ more
rest-no_lf taken more no_lf = rest_from-append [] taken more ∙ rest_from-no_lf (rest_from [] taken) more no_lf

whole-lf : (taken : List ℕ) → whole_lines (taken ++ 10 ∷ []) ≡ whole_lines taken ++ strip_carriage_return (rest_from [] taken) ∷ []
whole-lf taken = whole_from-append [] taken (10 ∷ [])

rest-lf : (taken : List ℕ) → rest_from [] (taken ++ 10 ∷ []) ≡ []
rest-lf taken = rest_from-append [] taken (10 ∷ [])

-- ---- what was followed

-- nothing was followed yet
pub followed_none : (a : Option (List ℕ)) (f : Following) → f.mirror ≡ empty → f.line ≡ [] → HasFollowed a a [] f
followed_none a f mirror_is line_is = record { writes = Keeps_none a; mirror_is = mirror_is; line_is = line_is }

-- more has come of a line
pub followed_more : (a b : Option (List ℕ)) (taken more : List ℕ) (f g : Following) → HasNoLf more → g.mirror ≡ f.mirror → g.line ≡ take ROOM (f.line ++ more) → HasFollowed a b taken f → HasFollowed a b (taken ++ more) g
followed_more a b taken more f g no_lf mirror_is line_is h = record {
  writes = subst (λ ls. Appends a b (answers empty ls)) (sym (whole-no_lf taken more no_lf)) h.writes;
  mirror_is = mirror_is ∙ h.mirror_is ∙ ap (mirror_after empty) (sym (whole-no_lf taken more no_lf));
  line_is = line_is ∙ kept_more f.line (rest_from [] taken) more h.line_is ∙ ap (take ROOM) (sym (rest-no_lf taken more no_lf));
}

-- what the mirror answers to the line that has come, is the answer to the line that has come of the bytes taken
line_same : (a b : Option (List ℕ)) (taken : List ℕ) (f : Following) → HasFollowed a b taken f → SameLine (strip_carriage_return f.line) (strip_carriage_return (rest_from [] taken))
line_same a b taken f h = ended_same f.line (rest_from [] taken) h.line_is

-- the answers to the whole lines once an LF has come
answers-lf : (taken : List ℕ) (f : Following) (a b : Option (List ℕ)) → HasFollowed a b taken f → answers empty (whole_lines (taken ++ 10 ∷ [])) ≡ answers empty (whole_lines taken) ++ mirror_answer f.mirror (strip_carriage_return f.line)
answers-lf taken f a b h =
    ap (answers empty) (whole-lf taken) ∙ answers_more empty (whole_lines taken) (strip_carriage_return (rest_from [] taken))
    ∙ ap (λ t. answers empty (whole_lines taken) ++ t) (sym ((line_same a b taken f h).answer_is (mirror_after empty (whole_lines taken))) ∙ ap (λ m. mirror_answer m (strip_carriage_return f.line)) (sym h.mirror_is))

-- the line that has come was answered
pub followed_line : (a b c : Option (List ℕ)) (taken : List ℕ) (f g : Following) (line : List ℕ) → line ≡ strip_carriage_return f.line → Appends b c (mirror_answer f.mirror line) → g.mirror ≡ mirror_next f.mirror line → g.line ≡ [] → HasFollowed a b taken f → HasFollowed a c (taken ++ 10 ∷ []) g
followed_line a b c taken f g line is writes mirror_is line_is h = record {
  writes = subst (λ t. Appends a c t) (sym (answers-lf taken f a b h)) (Appends_then a b c _ _ h.writes (subst (λ l. Appends b c (mirror_answer f.mirror l)) is writes));
  mirror_is =
      mirror_is ∙ ap (mirror_next f.mirror) is ∙ ap (λ m. mirror_next m (strip_carriage_return f.line)) h.mirror_is ∙ (line_same a b taken f h).next_is (mirror_after empty (whole_lines taken))
      ∙ sym (after-append empty (whole_lines taken) (strip_carriage_return (rest_from [] taken) ∷ [])) ∙ ap (mirror_after empty) (sym (whole-lf taken));
  line_is = line_is ∙ ap (take ROOM) (sym (rest-lf taken));
}

-- the answer to the line that has come wasn't written whole
pub cut_line : (stop : Stop) (a b c : Option (List ℕ)) (taken : List ℕ) (f : Following) (line : List ℕ) → line ≡ strip_carriage_return f.line → IsBroken stop b c (mirror_answer f.mirror line) → HasFollowed a b taken f → IsCut stop a c (whole_lines (taken ++ 10 ∷ [])) (answers empty (whole_lines (taken ++ 10 ∷ [])))
cut_line ReadFault a b c taken f line is broken h = broken
cut_line WriteFault a b c taken f line is broken h =
    subst (λ t. AppendsFront a c t) (sym (answers-lf taken f a b h)) (front_then a b c _ _ h.writes (subst (λ l. AppendsFront b c (mirror_answer f.mirror l)) is broken))
cut_line Bound a b c taken f line is broken h = broken
cut_line NoMemory a b c taken f line is broken h = some_lines a c (whole_lines taken) (strip_carriage_return (rest_from [] taken) ∷ []) _ (whole-lf taken) (Appends_then_keeps a b c _ h.writes broken)

-- what was cut short in the lines of bytes was so in those of more bytes
cut_more : (stop : Stop) (a c : Option (List ℕ)) (taken more : List ℕ) → IsCut stop a c (whole_lines taken) (answers empty (whole_lines taken)) → IsCut stop a c (whole_lines (taken ++ more)) (answers empty (whole_lines (taken ++ more)))
cut_more ReadFault a c taken more cut = cut
cut_more WriteFault a c taken more cut =
    let ls' = whole_from (rest_from [] taken) more in
    subst (λ t. AppendsFront a c t) (sym (ap (answers empty) (whole_from-append [] taken more) ∙ answers-append empty (whole_lines taken) ls')) (front_more a c _ (answers (mirror_after empty (whole_lines taken)) ls') cut)
cut_more Bound a c taken more cut = cut
cut_more NoMemory a c taken more cut = subst (λ ls. AnswersSome a c ls) (sym (whole_from-append [] taken more)) (some_more a c (whole_lines taken) (whole_from (rest_from [] taken) more) cut)

-- ---- a piece

-- a part of a piece was followed, from one following to another
abbrev pub Fed : Option (List ℕ) → Option (List ℕ) → Following → Following → List ℕ → Type 0
Fed b c f g done = (start : Option (List ℕ)) (taken : List ℕ) → HasFollowed start b taken f → HasFollowed start c (taken ++ done) g

-- a piece wasn't followed whole
abbrev pub CutShort : Stop → Option (List ℕ) → Option (List ℕ) → Following → List ℕ → Type 0
CutShort stop b c f piece = (start : Option (List ℕ)) (taken : List ℕ) → HasFollowed start b taken f → IsCut stop start c (whole_lines (taken ++ piece)) (answers empty (whole_lines (taken ++ piece)))

pub fed_none : (b : Option (List ℕ)) (f : Following) → Fed b b f f []
fed_none b f start taken h = subst (λ t. HasFollowed start b t f) (sym (append-nil taken)) h

pub fed_more : (b c : Option (List ℕ)) (f g g' : Following) (done more : List ℕ) → HasNoLf more → g'.mirror ≡ g.mirror → g'.line ≡ take ROOM (g.line ++ more) → Fed b c f g done → Fed b c f g' (done ++ more)
fed_more b c f g g' done more no_lf mirror_is line_is fed start taken h =
    subst (λ t. HasFollowed start c t g') (append_assoc taken done more) (followed_more start c (taken ++ done) more g g' no_lf mirror_is line_is (fed start taken h))

pub fed_then : (b c d : Option (List ℕ)) (f g k : Following) (done more : List ℕ) → Fed b c f g done → Fed c d g k more → Fed b d f k (done ++ more)
fed_then b c d f g k done more fed next start taken h = subst (λ t. HasFollowed start d t k) (append_assoc taken done more) (next start (taken ++ done) (fed start taken h))

-- a part was followed, and the next wasn't whole
pub fed_cut : (stop : Stop) (b c d : Option (List ℕ)) (f g : Following) (done more rest : List ℕ) → Fed b c f g done → CutShort stop c d g more → CutShort stop b d f (done ++ (more ++ rest))
fed_cut stop b c d f g done more rest fed cut start taken h =
    subst (λ t. IsCut stop start d (whole_lines t) (answers empty (whole_lines t))) (append_assoc (taken ++ done) more rest ∙ append_assoc taken done (more ++ rest))
    (cut_more stop start d ((taken ++ done) ++ more) rest (cut start (taken ++ done) (fed start taken h)))

-- a line of a piece was followed
pub split_on : (piece done rest front behind : List ℕ) → piece ≡ done ++ rest → rest ≡ front ++ 10 ∷ behind → piece ≡ (done ++ front) ++ 10 ∷ behind
split_on piece done rest front behind is split = is ∙ ap (λ l. done ++ l) split ∙ sym (append_assoc done front (10 ∷ behind))

-- a part was followed, and then memory was wanted
pub fed_short : (b c : Option (List ℕ)) (f g : Following) (done rest : List ℕ) → Fed b c f g done → CutShort NoMemory b c f (done ++ rest)
fed_short b c f g done rest fed start taken h =
    let ls' = whole_from (rest_from [] (taken ++ done)) rest in
    subst (λ t. AnswersSome start c (whole_lines t)) (append_assoc taken done rest)
    (some_lines start c (whole_lines (taken ++ done)) ls' _ (whole_from-append [] (taken ++ done) rest) (fed start taken h).writes)

-- ---- the end of the input

kept_none : (kept begun : List ℕ) → length kept ≡ 0 → kept ≡ take ROOM begun → last_line begun ≡ []
kept_none kept begun none is = ap last_line (nil_from_length begun (omega (arith, none, ap length is, length-take ROOM begun)))

kept_some : (kept begun : List ℕ) → 0 < length kept → kept ≡ take ROOM begun → last_line begun ≡ begun ∷ []
kept_some kept begun some is = last_line_some begun (omega (arith, some, ap length is, length-take ROOM begun))

lines_none : (a b : Option (List ℕ)) (taken : List ℕ) (f : Following) → length f.line ≡ 0 → HasFollowed a b taken f → lines taken ≡ whole_lines taken
lines_none a b taken f none h = ap (λ ls. whole_lines taken ++ ls) (kept_none f.line (rest_from [] taken) none h.line_is) ∙ append-nil (whole_lines taken)

lines_some : (a b : Option (List ℕ)) (taken : List ℕ) (f : Following) → 0 < length f.line → HasFollowed a b taken f → lines taken ≡ whole_lines taken ++ rest_from [] taken ∷ []
lines_some a b taken f some h = ap (λ ls. whole_lines taken ++ ls) (kept_some f.line (rest_from [] taken) some h.line_is)

answers_last : (a b : Option (List ℕ)) (taken : List ℕ) (f : Following) → 0 < length f.line → HasFollowed a b taken f → answers empty (lines taken) ≡ answers empty (whole_lines taken) ++ mirror_answer f.mirror f.line
answers_last a b taken f some h =
    ap (answers empty) (lines_some a b taken f some h) ∙ answers_more empty (whole_lines taken) (rest_from [] taken)
    ∙ ap (λ t. answers empty (whole_lines taken) ++ t) (sym ((kept_same f.line (rest_from [] taken) h.line_is).answer_is (mirror_after empty (whole_lines taken))) ∙ ap (λ m. mirror_answer m f.line) (sym h.mirror_is))

-- nothing has come of a last line
pub answered_none : (a b : Option (List ℕ)) (taken : List ℕ) (f : Following) → length f.line ≡ 0 → HasFollowed a b taken f → HasAnswered a b taken f.mirror
answered_none a b taken f none h = record {
  writes = subst (λ ls. Appends a b (answers empty ls)) (sym (lines_none a b taken f none h)) h.writes;
  mirror_is = h.mirror_is ∙ ap (mirror_after empty) (sym (lines_none a b taken f none h));
}

-- the last line was answered
pub answered_last : (a b c : Option (List ℕ)) (taken : List ℕ) (f : Following) (m : Mirror) (line : List ℕ) → 0 < length f.line → line ≡ f.line → Appends b c (mirror_answer f.mirror line) → m ≡ mirror_next f.mirror line → HasFollowed a b taken f → HasAnswered a c taken m
answered_last a b c taken f m line some is writes mirror_is h = record {
  writes = subst (λ t. Appends a c t) (sym (answers_last a b taken f some h)) (Appends_then a b c _ _ h.writes (subst (λ l. Appends b c (mirror_answer f.mirror l)) is writes));
  mirror_is =
      mirror_is ∙ ap (mirror_next f.mirror) is ∙ ap (λ k. mirror_next k f.line) h.mirror_is ∙ (kept_same f.line (rest_from [] taken) h.line_is).next_is (mirror_after empty (whole_lines taken))
      ∙ sym (after-append empty (whole_lines taken) (rest_from [] taken ∷ [])) ∙ ap (mirror_after empty) (sym (lines_some a b taken f some h));
}

-- the answer to the last line wasn't written whole
pub cut_last : (stop : Stop) (a b c : Option (List ℕ)) (taken : List ℕ) (f : Following) (line : List ℕ) → 0 < length f.line → line ≡ f.line → IsBroken stop b c (mirror_answer f.mirror line) → HasFollowed a b taken f → IsCut stop a c (lines taken) (mirror_out taken)
cut_last ReadFault a b c taken f line some is broken h = broken
cut_last WriteFault a b c taken f line some is broken h =
    front_more a c _ _ (subst (λ t. AppendsFront a c t) (sym (answers_last a b taken f some h)) (front_then a b c _ _ h.writes (subst (λ l. AppendsFront b c (mirror_answer f.mirror l)) is broken)))
cut_last Bound a b c taken f line some is broken h = broken
cut_last NoMemory a b c taken f line some is broken h = some_lines a c (whole_lines taken) (rest_from [] taken ∷ []) _ (lines_some a b taken f some h) (Appends_then_keeps a b c _ h.writes broken)

-- the list was written behind the answers
pub told_whole : (a b c : Option (List ℕ)) (taken : List ℕ) (m : Mirror) → Appends b c (documents_line m.documents) → HasAnswered a b taken m → Appends a c (mirror_out taken)
told_whole a b c taken m writes h = Appends_then a b c _ _ h.writes (subst (λ k. Appends b c (documents_line k.documents)) h.mirror_is writes)

-- the list wasn't written whole
pub cut_documents : (stop : Stop) (a b c : Option (List ℕ)) (taken : List ℕ) (m : Mirror) → IsBroken stop b c (documents_line m.documents) → HasAnswered a b taken m → IsCut stop a c (lines taken) (mirror_out taken)
cut_documents ReadFault a b c taken m broken h = broken
cut_documents WriteFault a b c taken m broken h = front_then a b c _ _ h.writes (subst (λ k. AppendsFront b c (documents_line k.documents)) h.mirror_is broken)
cut_documents Bound a b c taken m broken h = broken
cut_documents NoMemory a b c taken m broken h = some_lines a c (lines taken) [] _ (sym (append-nil (lines taken))) (Appends_then_keeps a b c _ h.writes broken)

-- ---- turns

-- what was done at the start of a turn
pub record SoFar (left left' written written' : Option (List ℕ)) (f : Following) (count : ℕ) : Type 0 where
  pub taken : List ℕ
  pub reads : Consumes left left' taken
  pub count_is : count ≡ length taken
  pub followed : HasFollowed written written' taken f

Consumes_none : (a : Option (List ℕ)) → Consumes a a []
Consumes_none None = tt
Consumes_none (Some xs) = refl

pub so_far_none : (left a : Option (List ℕ)) (f : Following) → HasFollowed a a [] f → SoFar left left a a f 0
so_far_none left a f h = record { taken = []; reads = Consumes_none left; count_is = refl; followed = h }

-- the source failed
pub so_far_fault : (left left1 left2 a b : Option (List ℕ)) (f : Following) (count : ℕ) → SoFar left left1 a b f count → Keeps left1 left2 → IsStopped ReadFault left left2 a b
so_far_fault left left1 left2 a b f count s reads = record { taken = s.taken; reads = Consumes_then_keeps left left1 left2 s.taken s.reads reads; writes = s.followed.writes }

-- so many bytes were taken
pub so_far_bound : (left left1 a b : Option (List ℕ)) (f : Following) (count : ℕ) → count ≡ 2 ^ 40 → SoFar left left1 a b f count → IsStopped Bound left left1 a b
so_far_bound left left1 a b f count all s = record { taken = s.taken; reads = s.reads; writes = (sym s.count_is ∙ all, s.followed.writes) }

pub so_far_more : (left left1 left2 a b c : Option (List ℕ)) (f g : Following) (count : ℕ) (piece : List ℕ) → SoFar left left1 a b f count → Consumes left1 left2 piece → Fed b c f g piece → SoFar left left2 a c g (count + length piece)
so_far_more left left1 left2 a b c f g count piece s reads fed = record {
  taken = s.taken ++ piece;
  reads = Consumes_then left left1 left2 s.taken piece s.reads reads;
  count_is = omega (arith, s.count_is, length-append s.taken piece);
  followed = fed a s.taken s.followed;
}

-- the work was cut short in a piece
pub so_far_cut : (stop : Stop) (left left1 left2 a b c : Option (List ℕ)) (f : Following) (count : ℕ) (piece : List ℕ) → SoFar left left1 a b f count → Consumes left1 left2 piece → CutShort stop b c f piece → IsStopped stop left left2 a c
so_far_cut ReadFault left left1 left2 a b c f count piece s reads cut = absurd (cut a s.taken s.followed)
so_far_cut WriteFault left left1 left2 a b c f count piece s reads cut =
    record { taken = s.taken ++ piece; reads = Consumes_then left left1 left2 s.taken piece s.reads reads; writes = inl (cut a s.taken s.followed) }
so_far_cut Bound left left1 left2 a b c f count piece s reads cut = absurd (cut a s.taken s.followed)
so_far_cut NoMemory left left1 left2 a b c f count piece s reads cut =
    record { taken = s.taken ++ piece; reads = Consumes_then left left1 left2 s.taken piece s.reads reads; writes = inl (cut a s.taken s.followed) }

-- the input ended
pub so_far_whole : (left left1 left2 a b c : Option (List ℕ)) (f : Following) (count : ℕ) → SoFar left left1 a b f count → Keeps left1 left2 → IsAtEnd left2 → ((start : Option (List ℕ)) (taken : List ℕ) → HasFollowed start b taken f → Appends start c (mirror_out taken)) → IsWhole left left2 a c
so_far_whole left left1 left2 a b c f count s reads ended finished =
    record { taken = s.taken; reads = Consumes_then_keeps left left1 left2 s.taken s.reads reads; ended = ended; writes = finished a s.taken s.followed }

-- the input ended, and the work was cut short then
pub so_far_last : (stop : Stop) (left left1 left2 a b c : Option (List ℕ)) (f : Following) (count : ℕ) → SoFar left left1 a b f count → Keeps left1 left2 → IsAtEnd left2 → ((start : Option (List ℕ)) (taken : List ℕ) → HasFollowed start b taken f → IsCut stop start c (lines taken) (mirror_out taken)) → IsStopped stop left left2 a c
so_far_last ReadFault left left1 left2 a b c f count s reads ended finished = absurd (finished a s.taken s.followed)
so_far_last WriteFault left left1 left2 a b c f count s reads ended finished =
    record { taken = s.taken; reads = Consumes_then_keeps left left1 left2 s.taken s.reads reads; writes = inr (ended, finished a s.taken s.followed) }
so_far_last Bound left left1 left2 a b c f count s reads ended finished = absurd (finished a s.taken s.followed)
so_far_last NoMemory left left1 left2 a b c f count s reads ended finished =
    record { taken = s.taken; reads = Consumes_then_keeps left left1 left2 s.taken s.reads reads; writes = inr (ended, finished a s.taken s.followed) }

-- memory was wanted before anything was read
pub stopped_none : (left a : Option (List ℕ)) → IsStopped NoMemory left left a a
stopped_none left a = record { taken = []; reads = Consumes_none left; writes = inl (0, omega arith, Keeps_none a) }

-- ---- results

pub both_ok : {T E : Type 0} (r : Result T E) (P Q : Type 0) → OnOk r P → OnOk r Q → OnOk r (P × Q)
both_ok (Ok x) P Q p q = (p, q)
both_ok (Err e) P Q p q = tt

pub if_err_weaker : {T E : Type 0} (r : Result T E) (P Q : E → Type 0) → ((e : E) → P e → Q e) → IfErr r P → IfErr r Q
if_err_weaker (Ok x) P Q f p = tt
if_err_weaker (Err e) P Q f p = f e p

-- what isn't said of a fault of the source doesn't end in one
pub no_read_fault : (r : Result (Unit {0}) Stop) (P : Type 0) (Q : Stop → Type 0) → (Q ReadFault → ⊥) → IfErr r Q → r ≡ Err ReadFault → P
no_read_fault r P Q not h is = absurd (not (IfErr-at_err Q is h))

-- ---- where the source tells its bytes

out-append : (taken rest : List ℕ) → (more : List ℕ) × (mirror_out (taken ++ rest) ≡ answers empty (whole_lines taken) ++ more)
out-append taken rest =
    let ls' = whole_from (rest_from [] taken) rest ++ last_line (rest_from [] (taken ++ rest)) in
    let told = documents_line (mirror_after empty (lines (taken ++ rest))).documents in
    let behind = answers (mirror_after empty (whole_lines taken)) ls' in
    (behind ++ told, ap (λ ls. answers empty ls ++ told) (lines-append taken rest) ∙ ap (λ t. t ++ told) (answers-append empty (whole_lines taken) ls') ∙ append_assoc (answers empty (whole_lines taken)) behind told)

-- the answers to the first of some lines are a front of those to the lines
some_front : (a b : Option (List ℕ)) (ls : List (List ℕ)) (text more : List ℕ) → text ≡ answers empty ls ++ more → AnswersSome a b ls → AppendsSome a b text
some_front a b ls text more is p =
    let front = answers empty (take p.0 ls) in
    let behind = answers (mirror_after empty (take p.0 ls)) (drop p.0 ls) in
    let whole : text ≡ front ++ (behind ++ more) = is ∙ ap (λ ks. answers empty ks ++ more) (sym (take-append-drop p.0 ls)) ∙ ap (λ t. t ++ more) (answers-append empty (take p.0 ls) (drop p.0 ls)) ∙ append_assoc front behind more in
    (length front, subst (λ t. Appends a b t) (sym (ap (take (length front)) whole ∙ take_at front (behind ++ more) (length front) refl)) p.2)

all_lines : (a b : Option (List ℕ)) (ls : List (List ℕ)) → Appends a b (answers empty ls) → AnswersSome a b ls
all_lines a b ls p = some_lines a b ls [] ls (sym (append-nil ls)) p

-- a front that isn't all of a text, of a text that begins so
front_some : (a b : Option (List ℕ)) (x text more : List ℕ) → text ≡ x ++ more → AppendsFront a b x → AppendsSome a b text
front_some a b x text more is p = (p.0, subst (λ t. Appends a b t) (sym (ap (take p.0) is ∙ take-append-le p.0 x more (omega (arith, p.1)))) p.2)

stopped_some : (stop : Stop) (a b left' : Option (List ℕ)) (taken rest : List ℕ) → (IsAtEnd left' → rest ≡ []) → Stops stop taken left' a b → AppendsSome a b (mirror_out (taken ++ rest))
stopped_some ReadFault a b left' taken rest ends p = let out = out-append taken rest in some_front a b (whole_lines taken) _ out.0 out.1 (all_lines a b (whole_lines taken) p)
stopped_some Bound a b left' taken rest ends p = let out = out-append taken rest in some_front a b (whole_lines taken) _ out.0 out.1 (all_lines a b (whole_lines taken) p.1)
stopped_some WriteFault a b left' taken rest ends p =
    elim p [
      | inl front ↦ let out = out-append taken rest in front_some a b _ _ out.0 out.1 front
      | inr last ↦ subst (λ t. AppendsSome a b (mirror_out t)) (sym (ap (λ l. taken ++ l) (ends last.0) ∙ append-nil taken)) (last.1.0, last.1.2)
    ]
stopped_some NoMemory a b left' taken rest ends p =
    elim p [
      | inl some ↦ let out = out-append taken rest in some_front a b (whole_lines taken) _ out.0 out.1 some
      | inr last ↦
          subst (λ t. AppendsSome a b (mirror_out t)) (sym (ap (λ l. taken ++ l) (ends last.0) ∙ append-nil taken))
          (some_front a b (lines taken) (mirror_out taken) (documents_line (mirror_after empty (lines taken)).documents) refl last.1)
    ]

pub whole_told : (left left' a b : Option (List ℕ)) → IsWhole left left' a b → IfSome left (λ bytes. Appends a b (mirror_out bytes))
whole_told None left' a b w = tt
whole_told (Some bytes) None a b w = absurd w.reads
whole_told (Some bytes) (Some rest) a b w = subst (λ t. Appends a b (mirror_out t)) (sym (w.reads ∙ ap (λ l. w.taken ++ l) w.ended ∙ append-nil w.taken)) w.writes

pub stopped_told : (stop : Stop) (left left' a b : Option (List ℕ)) → IsStopped stop left left' a b → IfSome left (λ bytes. AppendsSome a b (mirror_out bytes))
stopped_told stop None left' a b s = tt
stopped_told stop (Some bytes) None a b s = absurd s.reads
stopped_told stop (Some bytes) (Some rest) a b s = subst (λ t. AppendsSome a b (mirror_out t)) (sym s.reads) (stopped_some stop a b (Some rest) s.taken rest (λ e. e) s.writes)

pub out_told : (r : Result (Unit {0}) Stop) (left left' a b : Option (List ℕ)) → OnOk r (IsWhole left left' a b) → IfSome left (λ bytes. OnOk r (Appends a b (mirror_out bytes)))
out_told (Ok u) left left' a b w = whole_told left left' a b w
out_told (Err stop) None left' a b w = tt
out_told (Err stop) (Some bytes) left' a b w = tt

pub front_told : (r : Result (Unit {0}) Stop) (left left' a b : Option (List ℕ)) → IfErr r (λ stop. IsStopped stop left left' a b) → IfSome left (λ bytes. OnErr r (AppendsSome a b (mirror_out bytes)))
front_told (Ok u) None left' a b s = tt
front_told (Ok u) (Some bytes) left' a b s = tt
front_told (Err stop) left left' a b s = stopped_told stop left left' a b s
