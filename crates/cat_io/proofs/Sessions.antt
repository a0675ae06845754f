-- The parts of a session, one after another.
use Rattle.std.proofs.Common.{◌≡◌, ℕ, ◌+◌, ◌<◌, ◌≤◌, true, false, List, [], ◌∷◌, ◌++◌, length, take, refl, sym, ◌∙◌, ap, subst, inl, inr, arith, append_assoc, length-append}
use Rattle.std.proofs.lemmas.List.{append-nil, take-append-le}
use Rattle.std.specs.Prelude.{Option, None, Some, Result, Ok, Err, is_err, OnOk, OnErr, IfSome}
use Rattle.std.proofs.lemmas.Bool.{false≢true}
use Rattle.std.specs.Io.KnownBytes.{Appends, Consumes, Keeps, IsAtEnd}
use Rattle.std.specs.Str.Lines.{strip_carriage_return}
use Rattle.cat_io.proofs.Known.{Appends_then, Consumes_then, Consumes_then_keeps}
use Rattle.cat_io.specs.Source.{Reads}
use Rattle.cat_io.specs.Sink.{AppendsFront}
use Rattle.cat_io.specs.declared.source.ReadAnswer.{ReadAnswer}
use Rattle.cat_io.specs.declared.source.ReadAnswer.TheVariants.{Read, End, Failed}
use Rattle.cat_io.specs.declared.buffer.TheConstants.{ROOM}
use Rattle.cat_io.specs.declared.line_loop.SessionEnd.{SessionEnd}
use Rattle.cat_io.specs.declared.line_loop.SessionEnd.TheVariants.{Whole, ReadFault, WriteFault, Bound, NoMemory}
use Rattle.cat_io.specs.Lines.{whole_from, rest_from, last_line, lines, whole_lines, HasNoLf}
use Rattle.cat_io.specs.Word.{Word, After, Reply}
use Rattle.cat_io.specs.Runs.{line_after, line_reply, Answers, BreaksOff}
use Rattle.cat_io.specs.Session.{WritesReplies, WritesPart, Serves, ServesPart, IsKept, Feeds, FeedsPart, Feeding, SoFar, Outcome, Transcript, IsAtMost}
use Rattle.cat_io.proofs.Cutting.{SameLine, kept_same, ended_same, kept_more, kept_none, kept_some, whole_from-line, whole_from-no_lf, rest_from-no_lf, lines-append, rest_from-append, whole_from-append}
use Rattle.cat_io.proofs.Running.{answers_none, answers_one, answers_then, breaks_one, breaks_more, breaks_then}

Appends_same : (a : Option (List ℕ)) → Appends a a []
Appends_same None = tt
Appends_same (Some xs) = sym (append-nil xs)

pub writes_none : {A : Type 0} (after : After A) (reply : Reply A) (a : Option (List ℕ)) (m : A) → WritesReplies after reply a a m [] m
writes_none after reply a m = record { out = []; writes = Appends_same a; answers = answers_none after reply m }

-- the machine answers a line as it answers one that is the same to it
pub writes_one : {A : Type 0} (after : After A) (reply : Reply A) (a b : Option (List ℕ)) (m new : A) (x y : List ℕ) → SameLine after reply x y → Serves after reply a b m x new → WritesReplies after reply a b m (y ∷ []) new
writes_one after reply a b m new x y same s =
    let is = s.new_is ∙ same.after_is m s.word in
    record {
      out = line_reply reply m s.word y;
      writes = subst (λ l. Appends a b l) (same.reply_is m s.word) s.writes;
      answers = subst (λ k. Answers after reply m (y ∷ []) (line_reply reply m s.word y) k) (sym is) (answers_one after reply m s.word y);
    }

pub part_one : {A : Type 0} (after : After A) (reply : Reply A) (a b : Option (List ℕ)) (m new : A) (x y : List ℕ) → SameLine after reply x y → ServesPart after reply a b m x new → WritesPart after reply a b m (y ∷ []) new
part_one after reply a b m new x y same s =
    let is = s.new_is ∙ same.after_is m s.word in
    let r = same.reply_is m s.word in
    record {
      out = take s.front.0 (line_reply reply m s.word y);
      writes = subst (λ l. Appends a b (take s.front.0 l)) r s.front.2;
      breaks_off = subst (λ k. BreaksOff after reply m (y ∷ []) (take s.front.0 (line_reply reply m s.word y)) k) (sym is) (breaks_one after reply m s.front.0 s.word y (omega (arith, s.front.1, ap length r)));
    }

pub writes_then : {A : Type 0} (after : After A) (reply : Reply A) (a b c : Option (List ℕ)) (m mid new : A) (ls ls' : List (List ℕ)) → WritesReplies after reply a b m ls mid → WritesReplies after reply b c mid ls' new → WritesReplies after reply a c m (ls ++ ls') new
writes_then after reply a b c m mid new ls ls' p q = record {
  out = p.out ++ q.out;
  writes = Appends_then a b c p.out q.out p.writes q.writes;
  answers = answers_then after reply m mid new ls ls' p.out q.out p.answers q.answers;
}

pub part_then : {A : Type 0} (after : After A) (reply : Reply A) (a b c : Option (List ℕ)) (m mid new : A) (ls ls' : List (List ℕ)) → WritesReplies after reply a b m ls mid → WritesPart after reply b c mid ls' new → WritesPart after reply a c m (ls ++ ls') new
part_then after reply a b c m mid new ls ls' p q = record {
  out = p.out ++ q.out;
  writes = Appends_then a b c p.out q.out p.writes q.writes;
  breaks_off = breaks_then after reply m mid new ls ls' p.out q.out p.answers q.breaks_off;
}

pub part_more : {A : Type 0} (after : After A) (reply : Reply A) (a b : Option (List ℕ)) (m new : A) (ls more : List (List ℕ)) → WritesPart after reply a b m ls new → WritesPart after reply a b m (ls ++ more) new
part_more after reply a b m new ls more p = record { out = p.out; writes = p.writes; breaks_off = breaks_more after reply m new ls more p.out p.breaks_off }

pub serves : {A : Type 0} (after : After A) (reply : Reply A) (a b : Option (List ℕ)) (m new : A) (word : Word) (line text : List ℕ) → text ≡ line_reply reply m word line → new ≡ line_after after m word line → Appends a b text → Serves after reply a b m line new
serves after reply a b m new word line text is new_is writes = record { word = word; writes = subst (λ l. Appends a b l) is writes; new_is = new_is }

pub serves_part : {A : Type 0} (after : After A) (reply : Reply A) (a b : Option (List ℕ)) (m new : A) (word : Word) (line text : List ℕ) → text ≡ line_reply reply m word line → new ≡ line_after after m word line → AppendsFront a b text → ServesPart after reply a b m line new
serves_part after reply a b m new word line text is new_is front = record { word = word; front = subst (λ l. AppendsFront a b l) is front; new_is = new_is }

-- nothing was done of a piece yet
pub feeding_none : {A : Type 0} (after : After A) (reply : Reply A) (a : Option (List ℕ)) (m : A) (begun kept piece : List ℕ) → IsKept kept begun → Feeding after reply a a m m begun kept piece piece
feeding_none after reply a m begun kept piece is = record {
  ended = [];
  here = begun;
  kept_is = is;
  writes = writes_none after reply a m;
  ended_is = refl;
  rest_is = refl;
}

-- what a line adds to the lines that a piece has ended
ended_more : {A : Type 0} (after : After A) (reply : Reply A) (a b : Option (List ℕ)) (m mid : A) (begun kept piece rest front behind : List ℕ) → rest ≡ front ++ 10 ∷ behind → HasNoLf front → (f : Feeding after reply a b m mid begun kept piece rest) → whole_from begun piece ≡ (f.ended ++ strip_carriage_return (f.here ++ front) ∷ []) ++ whole_from [] behind
ended_more after reply a b m mid begun kept piece rest front behind is no_lf f =
    f.ended_is ∙ ap (λ l. f.ended ++ whole_from f.here l) is ∙ ap (λ l. f.ended ++ l) (whole_from-line f.here front behind no_lf)
    ∙ sym (append_assoc f.ended (strip_carriage_return (f.here ++ front) ∷ []) (whole_from [] behind))

-- the buffer keeps the front of a line after what came of it before
same_more : {A : Type 0} (after : After A) (reply : Reply A) (here kept kept' front : List ℕ) → IsKept kept here → kept' ≡ take ROOM (kept ++ front) → SameLine after reply (strip_carriage_return kept') (strip_carriage_return (here ++ front))
same_more after reply here kept kept' front is more = ended_same after reply kept' (here ++ front) (more ∙ kept_more kept here front is)

-- one more line of a piece was answered
pub feeding_more : {A : Type 0} (after : After A) (reply : Reply A) (a b c : Option (List ℕ)) (m mid new : A) (begun kept kept' line piece rest front behind : List ℕ) → rest ≡ front ++ 10 ∷ behind → HasNoLf front → kept' ≡ take ROOM (kept ++ front) → line ≡ strip_carriage_return kept' → Feeding after reply a b m mid begun kept piece rest → Serves after reply b c mid line new → Feeding after reply a c m new begun [] piece behind
feeding_more after reply a b c m mid new begun kept kept' line piece rest front behind is no_lf more ended f s =
    let whole = strip_carriage_return (f.here ++ front) in
    let one = writes_one after reply b c mid new (strip_carriage_return kept') whole (same_more after reply f.here kept kept' front f.kept_is more) (subst (λ l. Serves after reply b c mid l new) ended s) in
    record {
      ended = f.ended ++ whole ∷ [];
      here = [];
      kept_is = refl;
      writes = writes_then after reply a b c m mid new f.ended (whole ∷ []) f.writes one;
      ended_is = ended_more after reply a b m mid begun kept piece rest front behind is no_lf f;
      rest_is = f.rest_is ∙ ap (λ l. rest_from f.here l) is ∙ rest_from-append f.here front (10 ∷ behind);
    }

-- a write failed in the reply to a line that a piece ends
pub feeding_part : {A : Type 0} (after : After A) (reply : Reply A) (a b c : Option (List ℕ)) (m mid new : A) (begun kept kept' line piece rest front behind : List ℕ) → rest ≡ front ++ 10 ∷ behind → HasNoLf front → kept' ≡ take ROOM (kept ++ front) → line ≡ strip_carriage_return kept' → Feeding after reply a b m mid begun kept piece rest → ServesPart after reply b c mid line new → WritesPart after reply a c m (whole_from begun piece) new
feeding_part after reply a b c m mid new begun kept kept' line piece rest front behind is no_lf more ended f s =
    let whole = strip_carriage_return (f.here ++ front) in
    let one = part_one after reply b c mid new (strip_carriage_return kept') whole (same_more after reply f.here kept kept' front f.kept_is more) (subst (λ l. ServesPart after reply b c mid l new) ended s) in
    subst (λ l. WritesPart after reply a c m l new) (sym (ended_more after reply a b m mid begun kept piece rest front behind is no_lf f))
    (part_more after reply a c m new (f.ended ++ whole ∷ []) (whole_from [] behind) (part_then after reply a b c m mid new f.ended (whole ∷ []) f.writes one))

-- the rest of a piece ends no line
pub feeding_end : {A : Type 0} (after : After A) (reply : Reply A) (a b : Option (List ℕ)) (m new : A) (begun kept kept' piece rest : List ℕ) → HasNoLf rest → kept' ≡ take ROOM (kept ++ rest) → Feeding after reply a b m new begun kept piece rest → WritesReplies after reply a b m (whole_from begun piece) new × IsKept kept' (rest_from begun piece)
feeding_end after reply a b m new begun kept kept' piece rest no_lf more f = (
  subst (λ l. WritesReplies after reply a b m l new) (sym (f.ended_is ∙ ap (λ l. f.ended ++ l) (whole_from-no_lf f.here rest no_lf) ∙ append-nil f.ended)) f.writes,
  subst (λ l. IsKept kept' l) (sym (f.rest_is ∙ rest_from-no_lf f.here rest no_lf)) (more ∙ kept_more kept f.here rest f.kept_is),
)

-- the last line, if there is one
pub finishes_none : {A : Type 0} (after : After A) (reply : Reply A) (a : Option (List ℕ)) (m : A) (kept begun : List ℕ) → length kept ≡ 0 → IsKept kept begun → WritesReplies after reply a a m (last_line begun) m
finishes_none after reply a m kept begun none is = subst (λ l. WritesReplies after reply a a m (last_line l) m) (sym (kept_none kept begun none is)) (writes_none after reply a m)

pub finishes : {A : Type 0} (after : After A) (reply : Reply A) (a b : Option (List ℕ)) (m new : A) (kept begun : List ℕ) → 0 < length kept → IsKept kept begun → Serves after reply a b m kept new → WritesReplies after reply a b m (last_line begun) new
finishes after reply a b m new kept begun some is s = subst (λ l. WritesReplies after reply a b m l new) (sym (kept_some kept begun some is)) (writes_one after reply a b m new kept begun (kept_same after reply kept begun is) s)

pub finishes_part : {A : Type 0} (after : After A) (reply : Reply A) (a b : Option (List ℕ)) (m new : A) (kept begun : List ℕ) → 0 < length kept → IsKept kept begun → ServesPart after reply a b m kept new → WritesPart after reply a b m (last_line begun) new
finishes_part after reply a b m new kept begun some is s = subst (λ l. WritesPart after reply a b m l new) (sym (kept_some kept begun some is)) (part_one after reply a b m new kept begun (kept_same after reply kept begun is) s)

-- the lines of the bytes taken before, and those that a piece ends
pub so_far_more : {A : Type 0} (after : After A) (reply : Reply A) (left left1 left2 a b c : Option (List ℕ)) (m mid new : A) (count : ℕ) (kept kept' piece : List ℕ) → SoFar after reply left left1 a b m mid kept count → Consumes left1 left2 piece → Feeds after reply b c mid new kept kept' piece → SoFar after reply left left2 a c m new kept' (count + length piece)
so_far_more after reply left left1 left2 a b c m mid new count kept kept' piece s reads feeds =
    let fed = feeds (rest_from [] s.taken) s.kept_is in
    record {
      taken = s.taken ++ piece;
      reads = Consumes_then left left1 left2 s.taken piece s.reads reads;
      count_is = omega (arith, s.count_is, length-append s.taken piece);
      kept_is = subst (λ l. IsKept kept' l) (sym (rest_from-append [] s.taken piece)) fed.1;
      replies = subst (λ l. WritesReplies after reply a c m l new) (sym (whole_from-append [] s.taken piece)) (writes_then after reply a b c m mid new (whole_lines s.taken) (whole_from (rest_from [] s.taken) piece) s.replies fed.0);
    }

pub so_far_part : {A : Type 0} (after : After A) (reply : Reply A) (left left1 left2 a b c : Option (List ℕ)) (m mid new : A) (count : ℕ) (kept piece : List ℕ) → SoFar after reply left left1 a b m mid kept count → Consumes left1 left2 piece → FeedsPart after reply b c mid new kept piece → Outcome after reply WriteFault left left2 a c m new
so_far_part after reply left left1 left2 a b c m mid new count kept piece s reads feeds = (
  s.taken ++ piece,
  Consumes_then left left1 left2 s.taken piece s.reads reads,
  inl (subst (λ l. WritesPart after reply a c m l new) (sym (whole_from-append [] s.taken piece)) (part_then after reply a b c m mid new (whole_lines s.taken) (whole_from (rest_from [] s.taken) piece) s.replies (feeds (rest_from [] s.taken) s.kept_is))),
)

-- the input ended
pub so_far_whole : {A : Type 0} (after : After A) (reply : Reply A) (left left1 left2 a b c : Option (List ℕ)) (m mid new : A) (count : ℕ) (kept : List ℕ) → SoFar after reply left left1 a b m mid kept count → Keeps left1 left2 → IsAtEnd left2 → ((begun : List ℕ) → IsKept kept begun → WritesReplies after reply b c mid (last_line begun) new) → Outcome after reply Whole left left2 a c m new
so_far_whole after reply left left1 left2 a b c m mid new count kept s reads end last =
    (s.taken, Consumes_then_keeps left left1 left2 s.taken s.reads reads, end, writes_then after reply a b c m mid new (whole_lines s.taken) (last_line (rest_from [] s.taken)) s.replies (last (rest_from [] s.taken) s.kept_is))

pub so_far_last : {A : Type 0} (after : After A) (reply : Reply A) (left left1 left2 a b c : Option (List ℕ)) (m mid new : A) (count : ℕ) (kept : List ℕ) → SoFar after reply left left1 a b m mid kept count → Keeps left1 left2 → IsAtEnd left2 → ((begun : List ℕ) → IsKept kept begun → WritesPart after reply b c mid (last_line begun) new) → Outcome after reply WriteFault left left2 a c m new
so_far_last after reply left left1 left2 a b c m mid new count kept s reads end last =
    (s.taken, Consumes_then_keeps left left1 left2 s.taken s.reads reads, inr (end, part_then after reply a b c m mid new (whole_lines s.taken) (last_line (rest_from [] s.taken)) s.replies (last (rest_from [] s.taken) s.kept_is)))

-- a read of nothing
pub Keeps_nothing : (a b : Option (List ℕ)) → Consumes a b [] → Keeps a b
Keeps_nothing None b p = tt
Keeps_nothing (Some xs) None p = absurd p
Keeps_nothing (Some xs) (Some ys) p = sym p

pub read_nothing : (a b : Option (List ℕ)) (n : ℕ) (buffer : List ℕ) → n ≡ 0 → 0 < length buffer → (n ≤ length buffer) × Consumes a b (take n buffer) × (n ≡ 0 → 0 < length buffer → IsAtEnd b) → Keeps a b × IsAtEnd b
read_nothing a b n buffer none room reads =
    (Keeps_nothing a b (subst (λ k. Consumes a b (take k buffer)) none reads.1), reads.2 none room)

pub at_err : {T E P : Type 0} (r : Result T E) → true ≡ is_err r → OnErr r P → P
at_err (Ok x) e p = absurd (false≢true (sym e))
at_err (Err x) e p = p

pub at_ok : {T E P : Type 0} (r : Result T E) → false ≡ is_err r → OnOk r P → P
at_ok (Ok x) e p = p
at_ok (Err x) e p = absurd (false≢true e)

-- what a session did, where the bytes are told
pub told : {A : Type 0} (after : After A) (reply : Reply A) (end : SessionEnd) (left left' written written' : Option (List ℕ)) (m new : A) → Outcome after reply end left left' written written' m new → IfSome left (Transcript after reply end written written' m new)
told after reply Whole None left' a b m new o = tt
told after reply ReadFault None left' a b m new o = tt
told after reply WriteFault None left' a b m new o = tt
told after reply Bound None left' a b m new o = tt
told after reply NoMemory None left' a b m new o = tt
told after reply NoMemory (Some bytes) left' a b m new o = (o.1, o.2)
told after reply Whole (Some bytes) None a b m new o = absurd o.1
told after reply ReadFault (Some bytes) None a b m new o = absurd o.1
told after reply WriteFault (Some bytes) None a b m new o = absurd o.1
told after reply Bound (Some bytes) None a b m new o = absurd o.1
told after reply ReadFault (Some bytes) (Some rest) a b m new o = (o.0, rest, o.1, o.2)
told after reply Bound (Some bytes) (Some rest) a b m new o = (o.0, rest, o.1, o.2, o.3)
told after reply Whole (Some bytes) (Some rest) a b m new o =
    let all : bytes ≡ o.0 = o.1 ∙ ap (λ l. o.0 ++ l) o.2 ∙ append-nil o.0 in
    let w = subst (λ l. WritesReplies after reply a b m (lines l) new) (sym all) o.3 in
    (w.answers.words, w.answers.each, subst (λ l. Appends a b l) w.answers.out_is w.writes, w.answers.new_is)
told after reply WriteFault (Some bytes) (Some rest) a b m new o =
    elim o.2 [
      | inl part ↦ subst (λ l. WritesPart after reply a b m l new) (sym (ap lines o.1 ∙ lines-append o.0 rest)) (part_more after reply a b m new (whole_lines o.0) (whole_from (rest_from [] o.0) rest ++ last_line (rest_from [] (o.0 ++ rest))) part)
      | inr last ↦ subst (λ l. WritesPart after reply a b m (lines l) new) (sym (o.1 ∙ ap (λ l. o.0 ++ l) last.0 ∙ append-nil o.0)) last.1
    ]

-- a read to the front of a buffer
pub reads_front : (a b : Option (List ℕ)) (answer : ReadAnswer) (front rest : List ℕ) → 0 < length front → Reads a b answer front → Reads a b answer (front ++ rest)
reads_front a b (Read n) front rest some p =
    (omega (arith, p.0, length-append front rest), subst (λ l. Consumes a b l) (sym (take-append-le n front rest p.0)) p.1, λ none room. p.2 none some)
reads_front a b End front rest some p = p
reads_front a b Failed front rest some p = p

pub at_most : (a b : Option (List ℕ)) (answer : ReadAnswer) (front : List ℕ) (most : ℕ) → length front ≤ most → Reads a b answer front → IsAtMost most answer
at_most a b (Read n) front most short p = omega (arith, p.0, short)
at_most a b End front most short p = tt
at_most a b Failed front most short p = tt
