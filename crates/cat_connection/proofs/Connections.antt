-- The parts of a connection, one after another.
use Rattle.std.proofs.Common.{◌≡◌, ℕ, ◌+◌, ◌^◌, ◌<◌, ◌≤◌, Bool, true, false, List, [], ◌∷◌, ◌++◌, length, length-drop, take, drop, refl, sym, ◌∙◌, ap, subst, inl, inr, arith, append_assoc, length-append}
use Rattle.std.proofs.lemmas.List.{append-nil, take-append-drop}
use Rattle.std.specs.Prelude.{Option, None, Some, IfSome, bytes_eq, codes}
use Rattle.std.specs.Io.KnownBytes.{Appends, Consumes, Keeps, IsAtEnd}
use Rattle.cat_io.proofs.Known.{Appends_then, Consumes_then, Consumes_then_keeps}
use Rattle.cat_io.specs.Sink.{AppendsFront}
use Rattle.cat_http.specs.Lines.{blank}
use Rattle.cat_http.specs.declared.message.Message.{Message}
use Rattle.cat_http.specs.Errors.{no_memory}
use Rattle.cat_http.specs.Reply.{reply_bytes}
use Rattle.cat_connection.specs.Items.{Item, is_last, StandsFirst, AreMessages, AreFirst}
use Rattle.cat_connection.specs.Runs.{Answering, Lacking, AnswersItem, AnswersItems, memory_reply}
use Rattle.cat_connection.specs.Connection.{Run, WritesReplies, WritesPart, Serves, ServesPart, Steps, StepsPart, step_by, Precede, Feeding, Feeds, FeedsPart, SoFar, Outcome, Transcript}
use Rattle.cat_connection.specs.declared.message_loop.ConnEnd.{ConnEnd}
use Rattle.cat_connection.specs.declared.message_loop.ConnEnd.TheVariants.{Whole, ReadFault, WriteFault, Bound, NoMemory}
use Rattle.cat_connection.specs.declared.message_loop.Step.TheVariants.{On, Last, Short}
use Rattle.cat_connection.specs.declared.message_loop.Served.TheVariants.{Open, Closed}
use Rattle.cat_connection.proofs.Preceding.{precede_none, precede_blank, precede_one, precede_then, precede_more, precede_last, precede_first, precede_end}
use Rattle.cat_connection.proofs.Running.{items_none, items_one, items_then}
use Rattle.cat_connection.proofs.Fronts.{more_short}

Appends_same : (a : Option (List ℕ)) → Appends a a []
Appends_same None = tt
Appends_same (Some xs) = sym (append-nil xs)

pub Consumes_none : (a : Option (List ℕ)) → Consumes a a []
Consumes_none None = tt
Consumes_none (Some xs) = refl

-- the reply to a message that lacks memory, told of it by a lack
pub lack_reply : (x : Message) (last bare : Bool) → last ≡ x.last → bare ≡ bytes_eq x.method (codes "HEAD") → reply_bytes (no_memory last bare) ≡ memory_reply x
lack_reply x last bare l b = ap (λ t. reply_bytes (no_memory t bare)) l ∙ ap (λ t. reply_bytes (no_memory x.last t)) b

module _ {A : Type 0} (answers : Answering A) (lacks : Lacking A) where
  abbrev run : Run A
  run = AnswersItems answers lacks

  writes_none : (a : Option (List ℕ)) (m : A) → WritesReplies run a a m [] m
  writes_none a m = record { out = []; writes = Appends_same a; answers = items_none answers lacks m }

  writes_one : (a b : Option (List ℕ)) (m new : A) (x : Item) → Serves answers lacks a b m x new → WritesReplies run a b m (x ∷ []) new
  writes_one a b m new x s = record { out = s.text; writes = s.writes; answers = items_one answers lacks m new x s.text s.answered }

  part_one : (a b : Option (List ℕ)) (m new : A) (x : Item) → ServesPart answers lacks a b m x new → WritesPart run a b m (x ∷ []) new
  part_one a b m new x s = record {
    front = [];
    last = x;
    items_are = refl;
    mid = m;
    whole = [];
    answers = items_none answers lacks m;
    reply = s.text;
    answers_last = items_one answers lacks m new x s.text s.answered;
    part = take s.front.0 s.text;
    missing = drop s.front.0 s.text;
    cut_is = sym (take-append-drop s.front.0 s.text);
    proper = omega (arith, s.front.1, length-drop s.front.0 s.text);
    writes = s.front.2;
  }

  writes_then : (a b c : Option (List ℕ)) (m mid new : A) (xs ys : List Item) → WritesReplies run a b m xs mid → WritesReplies run b c mid ys new → WritesReplies run a c m (xs ++ ys) new
  writes_then a b c m mid new xs ys p q = record {
    out = p.out ++ q.out;
    writes = Appends_then a b c p.out q.out p.writes q.writes;
    answers = items_then answers lacks m mid new xs ys p.out q.out p.answers q.answers;
  }

  part_then : (a b c : Option (List ℕ)) (m mid new : A) (xs ys : List Item) → WritesReplies run a b m xs mid → WritesPart run b c mid ys new → WritesPart run a c m (xs ++ ys) new
  part_then a b c m mid new xs ys p q = record {
    front = xs ++ q.front;
    last = q.last;
    items_are = ap (λ l. xs ++ l) q.items_are ∙ sym (append_assoc xs q.front (q.last ∷ []));
    mid = q.mid;
    whole = p.out ++ q.whole;
    answers = items_then answers lacks m mid q.mid xs q.front p.out q.whole p.answers q.answers;
    reply = q.reply;
    answers_last = q.answers_last;
    part = q.part;
    missing = q.missing;
    cut_is = q.cut_is;
    proper = q.proper;
    writes = subst (λ l. Appends a c l) (sym (append_assoc p.out q.whole q.part)) (Appends_then a b c p.out (q.whole ++ q.part) p.writes q.writes);
  }

  -- ---- one message

  pub serves : (a b : Option (List ℕ)) (m new : A) (x : Item) (text said : List ℕ) → text ≡ said → AnswersItem answers lacks m x new said → Appends a b text → Serves answers lacks a b m x new
  serves a b m new x text said is h writes = record { text = text; writes = writes; answered = subst (λ l. AnswersItem answers lacks m x new l) (sym is) h }

  pub serves_part : (a b : Option (List ℕ)) (m new : A) (x : Item) (text said : List ℕ) → text ≡ said → AnswersItem answers lacks m x new said → AppendsFront a b text → ServesPart answers lacks a b m x new
  serves_part a b m new x text said is h front = record { text = text; front = front; answered = subst (λ l. AnswersItem answers lacks m x new l) (sym is) h }

  -- a message was answered, and the connection goes on or ends
  pub steps : (a b : Option (List ℕ)) (m new : A) (bytes : List ℕ) (x : Item) (last : Bool) (used : ℕ) → is_last x ≡ last → StandsFirst bytes x used → 0 < used → used ≤ length bytes → Serves answers lacks a b m x new → Steps answers lacks a b m new bytes (step_by last used)
  steps a b m new bytes x true used is s some inside w = (x, used, s, is, w)
  steps a b m new bytes x false used is s some inside w = (x, s, is, some, inside, w)

  -- ---- the messages of the bytes

  pub feeding_none : (a : Option (List ℕ)) (m : A) (bytes : List ℕ) → Feeding answers lacks a a m m bytes bytes
  feeding_none a m bytes = record { items = []; precede = precede_none bytes; writes = writes_none a m }

  pub feeding_more : (a b c : Option (List ℕ)) (m mid new : A) (bytes rest : List ℕ) (used : ℕ) → Feeding answers lacks a b m mid bytes rest → Steps answers lacks b c mid new rest (On used) → Feeding answers lacks a c m new bytes (drop used rest)
  feeding_more a b c m mid new bytes rest used f s = record {
    items = f.items ++ s.0 ∷ [];
    precede = precede_then bytes rest (drop used rest) f.items (s.0 ∷ []) f.precede (precede_one rest s.0 used s.1 s.2 s.4);
    writes = writes_then a b c m mid new f.items (s.0 ∷ []) f.writes (writes_one b c mid new s.0 s.5);
  }

  pub feeding_last : (a b c : Option (List ℕ)) (m mid new : A) (bytes rest : List ℕ) → Feeding answers lacks a b m mid bytes rest → Steps answers lacks b c mid new rest Last → Feeds answers lacks a c m new bytes Closed
  feeding_last a b c m mid new bytes rest f s = (
    f.items ++ s.0 ∷ [],
    precede_last bytes rest f.items s.0 s.1 f.precede s.2 s.3,
    writes_then a b c m mid new f.items (s.0 ∷ []) f.writes (writes_one b c mid new s.0 s.4),
  )

  pub feeding_part : (a b c : Option (List ℕ)) (m mid new : A) (bytes rest : List ℕ) → Feeding answers lacks a b m mid bytes rest → StepsPart answers lacks b c mid new rest → FeedsPart answers lacks a c m new bytes
  feeding_part a b c m mid new bytes rest f s = (
    f.items ++ s.0 ∷ [],
    precede_first bytes rest f.items s.0 s.1 f.precede s.2,
    part_then a b c m mid new f.items (s.0 ∷ []) f.writes (part_one b c mid new s.0 s.3),
  )

  pub feeding_end : (a b c : Option (List ℕ)) (m mid new : A) (bytes rest : List ℕ) (gone : ℕ) → Feeding answers lacks a b m mid bytes rest → Steps answers lacks b c mid new rest Short → drop gone bytes ≡ drop (blank rest) rest → gone ≤ length bytes → Feeds answers lacks a c m new bytes (Open gone)
  feeding_end a b c m mid new bytes rest gone f s is inside =
      (rest, subst (λ k. Feeding answers lacks a c m k bytes rest) (sym s.2) (subst (λ o. Feeding answers lacks a o m mid bytes rest) (sym s.1) f), s.0, is, inside)

  -- ---- turn by turn

  pub so_far_none : (left left' a : Option (List ℕ)) (m : A) (kept : List ℕ) → kept ≡ [] → Consumes left left' [] → SoFar answers lacks left left' a a m m kept 0
  so_far_none left left' a m kept empty reads = record {
    taken = [];
    reads = reads;
    count_is = refl;
    rest = [];
    feeding = feeding_none a m [];
    short = refl;
    kept_is = empty;
  }

  -- there is room for more bytes
  pub so_far_room : (left left' a b : Option (List ℕ)) (m new : A) (kept : List ℕ) (count : ℕ) → SoFar answers lacks left left' a b m new kept count → length kept < 4210688
  so_far_room left left' a b m new kept count s = omega (arith, ap length s.kept_is, more_short s.rest s.short)

  -- what stands before the bytes kept stands before them and those that came
  precede_kept : (left left' a b : Option (List ℕ)) (m new : A) (kept piece : List ℕ) (count : ℕ) → (s : SoFar answers lacks left left' a b m new kept count) → Precede (s.taken ++ piece) s.feeding.items (kept ++ piece)
  precede_kept left left' a b m new kept piece count s =
      let behind : Precede (s.rest ++ piece) [] (kept ++ piece) =
      precede_more s.rest kept piece [] (subst (λ l. Precede s.rest [] l) (sym s.kept_is) (precede_blank s.rest)) in
      let both : Precede (s.taken ++ piece) (s.feeding.items ++ []) (kept ++ piece) =
      precede_then (s.taken ++ piece) (s.rest ++ piece) (kept ++ piece) s.feeding.items [] (precede_more s.taken s.rest piece s.feeding.items s.feeding.precede) behind in
      subst (λ l. Precede (s.taken ++ piece) l (kept ++ piece)) (append-nil s.feeding.items) both

  pub so_far_more : (left left1 left2 a b c : Option (List ℕ)) (m mid new : A) (count gone : ℕ) (kept kept' piece : List ℕ) → SoFar answers lacks left left1 a b m mid kept count → Consumes left1 left2 piece → Feeds answers lacks b c mid new (kept ++ piece) (Open gone) → kept' ≡ drop gone (kept ++ piece) → SoFar answers lacks left left2 a c m new kept' (count + length piece)
  so_far_more left left1 left2 a b c m mid new count gone kept kept' piece s reads f is = record {
    taken = s.taken ++ piece;
    reads = Consumes_then left left1 left2 s.taken piece s.reads reads;
    count_is = omega (arith, s.count_is, length-append s.taken piece);
    rest = f.0;
    feeding = record {
      items = s.feeding.items ++ f.1.items;
      precede = precede_then (s.taken ++ piece) (kept ++ piece) f.0 s.feeding.items f.1.items (precede_kept left left1 a b m mid kept piece count s) f.1.precede;
      writes = writes_then a b c m mid new s.feeding.items f.1.items s.feeding.writes f.1.writes;
    };
    short = f.2;
    kept_is = is ∙ f.3;
  }

  -- the connection was ended by a message
  pub so_far_closed : (left left1 left2 a b c : Option (List ℕ)) (m mid new : A) (count : ℕ) (kept piece : List ℕ) → SoFar answers lacks left left1 a b m mid kept count → Consumes left1 left2 piece → Feeds answers lacks b c mid new (kept ++ piece) Closed → Outcome run Whole left left2 a c m new
  so_far_closed left left1 left2 a b c m mid new count kept piece s reads f =
      let before = precede_kept left left1 a b m mid kept piece count s in (
        s.taken ++ piece,
        s.feeding.items ++ f.0,
        Consumes_then left left1 left2 s.taken piece s.reads reads,
        inr (λ more. before.all more f.0 (f.1 more)),
        writes_then a b c m mid new s.feeding.items f.0 s.feeding.writes f.2,
      )

  -- a write failed
  pub so_far_part : (left left1 left2 a b c : Option (List ℕ)) (m mid new : A) (count : ℕ) (kept piece : List ℕ) → SoFar answers lacks left left1 a b m mid kept count → Consumes left1 left2 piece → FeedsPart answers lacks b c mid new (kept ++ piece) → Outcome run WriteFault left left2 a c m new
  so_far_part left left1 left2 a b c m mid new count kept piece s reads f =
      let before = precede_kept left left1 a b m mid kept piece count s in (
        s.taken ++ piece,
        s.feeding.items ++ f.0,
        Consumes_then left left1 left2 s.taken piece s.reads reads,
        λ more. before.first more f.0 (f.1 more),
        part_then a b c m mid new s.feeding.items f.0 s.feeding.writes f.2,
      )

  -- the bytes taken have these messages
  so_far_all : (left left' a b : Option (List ℕ)) (m new : A) (kept : List ℕ) (count : ℕ) → (s : SoFar answers lacks left left' a b m new kept count) → AreMessages s.taken s.feeding.items
  so_far_all left left' a b m new kept count s = precede_end s.taken s.rest s.feeding.items s.feeding.precede s.short

  -- the input ended
  pub so_far_end : (left left1 left2 a b : Option (List ℕ)) (m new : A) (kept : List ℕ) (count : ℕ) → SoFar answers lacks left left1 a b m new kept count → Keeps left1 left2 → IsAtEnd left2 → Outcome run Whole left left2 a b m new
  so_far_end left left1 left2 a b m new kept count s reads end = (
    s.taken,
    s.feeding.items,
    Consumes_then_keeps left left1 left2 s.taken s.reads reads,
    inl (end, so_far_all left left1 a b m new kept count s),
    s.feeding.writes,
  )

  -- a read failed
  pub so_far_fault : (left left1 left2 a b : Option (List ℕ)) (m new : A) (kept : List ℕ) (count : ℕ) → SoFar answers lacks left left1 a b m new kept count → Keeps left1 left2 → Outcome run ReadFault left left2 a b m new
  so_far_fault left left1 left2 a b m new kept count s reads = (
    s.taken,
    s.feeding.items,
    Consumes_then_keeps left left1 left2 s.taken s.reads reads,
    so_far_all left left1 a b m new kept count s,
    s.feeding.writes,
  )

  -- as many bytes were taken as may be
  pub so_far_bound : (left left' a b : Option (List ℕ)) (m new : A) (kept : List ℕ) (count : ℕ) → SoFar answers lacks left left' a b m new kept count → count ≡ 2 ^ 40 → Outcome run Bound left left' a b m new
  so_far_bound left left' a b m new kept count s full = (
    s.taken,
    s.feeding.items,
    s.reads,
    so_far_all left left' a b m new kept count s,
    sym s.count_is ∙ full,
    s.feeding.writes,
  )

  -- ---- the transcript

  pub told : (end : ConnEnd) (left left' written written' : Option (List ℕ)) (m new : A) → Outcome run end left left' written written' m new → IfSome left (Transcript run end written written' m new)
  told Whole None left' a b m new o = tt
  told ReadFault None left' a b m new o = tt
  told WriteFault None left' a b m new o = tt
  told Bound None left' a b m new o = tt
  told NoMemory None left' a b m new o = tt
  told NoMemory (Some bytes) left' a b m new o = (o.1, o.2)
  told Whole (Some bytes) None a b m new o = absurd o.2
  told ReadFault (Some bytes) None a b m new o = absurd o.2
  told WriteFault (Some bytes) None a b m new o = absurd o.2
  told Bound (Some bytes) None a b m new o = absurd o.2
  told ReadFault (Some bytes) (Some rest) a b m new o = (o.0, rest, o.2, record { items = o.1; messages = o.3; writes = o.4 })
  told Bound (Some bytes) (Some rest) a b m new o = (o.0, rest, o.2, o.4, record { items = o.1; messages = o.3; writes = o.5 })
  told Whole (Some bytes) (Some rest) a b m new o =
      let are : AreMessages bytes o.1 = elim o.3 as (λ _. AreMessages bytes o.1) [
        | inl end ↦
            let all : bytes ≡ o.0 = o.2 ∙ ap (λ l. o.0 ++ l) end.0 ∙ append-nil o.0 in
            subst (λ l. AreMessages l o.1) (sym all) end.1
        | inr ever ↦ subst (λ l. AreMessages l o.1) (sym o.2) (ever rest)
      ] in
      record { items = o.1; messages = are; writes = o.4 }
  told WriteFault (Some bytes) (Some rest) a b m new o =
      (o.1, subst (λ l. AreFirst l o.1) (sym o.2) (o.3 rest), o.4)
