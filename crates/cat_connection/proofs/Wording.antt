-- Connections over machines whose steps are functions of a message and of its word.
use Rattle.std.proofs.Common.{◌≡◌, ℕ, List, [], ◌∷◌, ◌++◌, refl, ◌∙◌, ap, sym, subst, inl, inr, arith}
use Rattle.std.specs.Prelude.{Option, None, Some, IfSome}
use Rattle.cat_http.specs.declared.message.Message.{Message}
use Rattle.cat_connection.specs.Items.{Item, message, refusal}
use Rattle.cat_connection.specs.Runs.{Answering, Lacking, AnswersItem, AnswersItems, memory_reply}
use Rattle.cat_connection.specs.Worded.{Word, plain, memory, cut, untold, unkept, cut_unkept, IsAnswered, After, Reply, item_after, item_reply, after_items, replies, HasWords, IsWorded}
use Rattle.cat_connection.specs.Connection.{Run, WritesReplies, WritesPart, Outcome, WireOut, Transcript}
use Rattle.cat_connection.specs.declared.message_loop.ConnEnd.{ConnEnd}
use Rattle.cat_connection.specs.declared.message_loop.ConnEnd.TheVariants.{Whole, ReadFault, WriteFault, Bound, NoMemory}

-- ---- what is seen of a run

module _ {A B : Type 0} (run : Run A) (shown : Run B) (Holds : A → Type 0) (seen : A → B)
    (through : (a new : A) (xs : List Item) (out : List ℕ) → Holds a → run a xs new out → Holds new × shown (seen a) xs (seen new) out) where
  writes : (before now : Option (List ℕ)) (a new : A) (xs : List Item) → Holds a → WritesReplies run before now a xs new → WritesReplies shown before now (seen a) xs (seen new)
  writes before now a new xs holds w = record { out = w.out; writes = w.writes; answers = (through a new xs w.out holds w.answers).1 }

  part : (before now : Option (List ℕ)) (a new : A) (xs : List Item) → Holds a → WritesPart run before now a xs new → WritesPart shown before now (seen a) xs (seen new)
  part before now a new xs holds p =
      let whole = through a p.mid p.front p.whole holds p.answers in
      let last = through p.mid new (p.last ∷ []) p.reply whole.0 p.answers_last in
      record {
        front = p.front;
        last = p.last;
        items_are = p.items_are;
        mid = seen p.mid;
        whole = p.whole;
        answers = whole.1;
        reply = p.reply;
        answers_last = last.1;
        part = p.part;
        missing = p.missing;
        cut_is = p.cut_is;
        proper = p.proper;
        writes = p.writes;
      }

  wire_out : (before now : Option (List ℕ)) (a new : A) (bytes : List ℕ) → Holds a → WireOut run before now a bytes new → WireOut shown before now (seen a) bytes (seen new)
  wire_out before now a new bytes holds w = record { items = w.items; messages = w.messages; writes = writes before now a new w.items holds w.writes }

  pub outcome_shown : (end : ConnEnd) (left left' written written' : Option (List ℕ)) (a new : A) → Holds a → Outcome run end left left' written written' a new → Outcome shown end left left' written written' (seen a) (seen new)
  outcome_shown Whole left left' written written' a new holds o = (o.0, o.1, o.2, o.3, writes written written' a new o.1 holds o.4)
  outcome_shown ReadFault left left' written written' a new holds o = (o.0, o.1, o.2, o.3, writes written written' a new o.1 holds o.4)
  outcome_shown Bound left left' written written' a new holds o = (o.0, o.1, o.2, o.3, o.4, writes written written' a new o.1 holds o.5)
  outcome_shown WriteFault left left' written written' a new holds o = (o.0, o.1, o.2, o.3, part written written' a new o.1 holds o.4)
  outcome_shown NoMemory left left' written written' a new holds o = (o.0, o.1, ap seen o.2)

  pub transcript_shown : (end : ConnEnd) (written written' : Option (List ℕ)) (a new : A) (bytes : List ℕ) → Holds a → Transcript run end written written' a new bytes → Transcript shown end written written' (seen a) (seen new) bytes
  transcript_shown Whole written written' a new bytes holds t = wire_out written written' a new bytes holds t
  transcript_shown ReadFault written written' a new bytes holds t = (t.0, t.1, t.2, wire_out written written' a new t.0 holds t.3)
  transcript_shown Bound written written' a new bytes holds t = (t.0, t.1, t.2, t.3, wire_out written written' a new t.0 holds t.4)
  transcript_shown WriteFault written written' a new bytes holds t = (t.0, t.1, part written written' a new t.0 holds t.2)
  transcript_shown NoMemory written written' a new bytes holds t = (t.0, ap seen t.1)

-- ---- words

module _ {A B : Type 0} (answers : Answering A) (lacks : Lacking A) (Holds : A → Type 0) (seen : A → B) (after : After B) (reply : Reply B)
    (is : IsWorded answers lacks Holds seen after reply) where
  -- a step has a word
  abbrev Stepped : A → Item → A → List ℕ → Type 0
  Stepped a x new text = Holds new × ((word : Word) × (seen new ≡ item_after after (seen a) word x) × (text ≡ item_reply reply (seen a) word x))

  acting : (a new : B) (m : Message) (text : List ℕ) (word : Word) → IsAnswered word → new ≡ after a word m → text ≡ reply a word m
      → (new ≡ item_after after a word (message m)) × (text ≡ item_reply reply a word (message m))
  unfolding item_after item_reply
  acting a new m text plain acts n t = (n, t)
  acting a new m text memory acts n t = absurd acts
  acting a new m text (cut k) acts n t = (n, t)
  acting a new m text untold acts n t = absurd acts
  acting a new m text unkept acts n t = (n, t)
  acting a new m text (cut_unkept k) acts n t = (n, t)

  answered : (a new : A) (m : Message) (text : List ℕ) → Holds a → answers a m new text → Stepped a (message m) new text
  answered a new m text holds h =
      let s = is.answered a new m text holds h in
      let w = acting (seen a) (seen new) m text s.1.0 s.1.1 s.1.2 s.1.3 in
      (s.0, (s.1.0, w.0, w.1))

  stayed : (a new : A) (m : Message) (text : List ℕ) → Holds a → text ≡ memory_reply m → new ≡ a → Stepped a (message m) new text
  unfolding item_after item_reply
  stayed a new m text holds t e = (subst Holds (sym e) holds, (memory, ap seen e, t))

  lacked : (a new : A) (m : Message) (text : List ℕ) → Holds a → text ≡ memory_reply m → lacks a m new → Stepped a (message m) new text
  unfolding item_after item_reply
  lacked a new m text holds t h =
      let l = is.lacked a new m holds h in
      elim l.1 [ inl e ↦ (l.0, (memory, e, t)) | inr e ↦ (l.0, (untold, e, t)) ]

  refused : (a new : A) (rule : _) (text : List ℕ) → Holds a → AnswersItem answers lacks a (refusal rule) new text → Stepped a (refusal rule) new text
  unfolding item_after item_reply
  refused a new rule text holds h = (subst Holds (sym h.1) holds, (plain, ap seen h.1, h.0))

  stepped : (a new : A) (x : Item) (text : List ℕ) → Holds a → AnswersItem answers lacks a x new text → Stepped a x new text
  stepped a new (message m) text holds h = elim h [
    | inl k ↦ answered a new m text holds k
    | inr k ↦ elim k.1 [ inl e ↦ stayed a new m text holds k.0 e | inr l ↦ lacked a new m text holds k.0 l ]
  ]
  stepped a new (refusal rule) text holds h = refused a new rule text holds h

  -- a run has words
  pub worded : (a new : A) (xs : List Item) (out : List ℕ) → Holds a → AnswersItems answers lacks a xs new out → Holds new × HasWords after reply (seen a) xs (seen new) out
  worded a new [] out holds h = (subst Holds (sym h.1) holds, record { words = []; each = refl; out_is = h.0; new_is = ap seen h.1 })
  worded a new (x ∷ xs) out holds h =
      let s = stepped a h.0 x h.1 holds h.3 in
      let t = worded h.0 new xs h.2 s.0 h.4 in
      let r = t.1 in (
        t.0,
        record {
          words = s.1.0 ∷ r.words;
          each = omega (arith, r.each);
          out_is =
              h.5 ∙ ap (λ l. l ++ h.2) s.1.2
              ∙ ap (λ l. item_reply reply (seen a) s.1.0 x ++ l) (r.out_is ∙ ap (λ k. replies after reply k xs r.words) s.1.1);
          new_is = r.new_is ∙ ap (λ k. after_items after k xs r.words) s.1.1;
        },
      )

  -- and so has a connection
  pub outcome_worded : (end : ConnEnd) (left left' written written' : Option (List ℕ)) (a new : A) → Holds a → Outcome (AnswersItems answers lacks) end left left' written written' a new → Outcome (HasWords after reply) end left left' written written' (seen a) (seen new)
  outcome_worded = outcome_shown (AnswersItems answers lacks) (HasWords after reply) Holds seen worded

  pub transcript_worded : (end : ConnEnd) (left written written' : Option (List ℕ)) (a new : A) → Holds a → IfSome left (Transcript (AnswersItems answers lacks) end written written' a new) → IfSome left (Transcript (HasWords after reply) end written written' (seen a) (seen new))
  transcript_worded end None written written' a new holds t = t
  transcript_worded end (Some bytes) written written' a new holds t = transcript_shown (AnswersItems answers lacks) (HasWords after reply) Holds seen worded end written written' a new bytes holds t
