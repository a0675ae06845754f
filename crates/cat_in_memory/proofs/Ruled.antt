-- A session that carries its rule for orphans does what the session under that rule does.
use Rattle.std.proofs.Common.{◌≡◌, ℕ, ◌-◌, Bool, true, false, nat_lt, if◌then◌else◌, List, [], ◌∷◌, ◌++◌, length, take, refl, sym, ap, ◌∙◌, inl, inr, ⊎_elim, subst, IfSome}
use Rattle.std.specs.declared.option.Option.{Option}
use Rattle.std.specs.declared.option.Option.TheVariants.{None, Some}
use Rattle.std.specs.Io.KnownBytes.{Appends}
use Rattle.cat_io.specs.Lines.{lines as lines_of, longest_line, whole_lines}
use Rattle.cat_io.specs.Runs.{Answers, BreaksOff, after_lines, line_after, line_reply, replies}
use Rattle.cat_io.specs.Session.{Outcome, Transcript, WritesPart, WritesReplies}
use Rattle.cat_io.specs.Word.{Word, plain, memory, cut, unkept, cut_unkept}
use Rattle.cat_io.specs.declared.line_loop.SessionEnd.{SessionEnd}
use Rattle.cat_io.specs.declared.line_loop.SessionEnd.TheVariants.{Whole, ReadFault, WriteFault, Bound, NoMemory}
use Rattle.cat_model.specs.Catalogue.{Rules}
use Rattle.cat_model.specs.declared.types.OrphanRule.{OrphanRule}
use Rattle.cat_model.specs.declared.types.Settings.{Settings}
use Rattle.cat_connection.specs.Status.{HasRun}
use Rattle.cat_connection.specs.declared.command.Status.{Status}
use Rattle.cat_session_model.specs.Program.{program_settings, ruled_after, ruled_reply, session_start}
use Rattle.cat_session_model.specs.Session.{session_after, session_reply}
use Rattle.cat_session_model.specs.declared.state.RuledSession.{RuledSession}
use Rattle.cat_session_model.specs.declared.state.SessionState.{SessionState}

module _ (rules : Rules) (rule : OrphanRule) where
  abbrev s : Settings
  s = program_settings rule

  abbrev ruled : SessionState → RuledSession
  ruled m = record { orphans = rule; session = m }

  -- ---- lines

  either : (b : Bool) (m n : SessionState) → (if b then ruled m else ruled n) ≡ ruled (if b then m else n)
  either true m n = refl
  either false m n = refl

  line_is : (m : SessionState) (w : Word) (line : List ℕ) → line_after (ruled_after rules) (ruled m) w line ≡ ruled (line_after (session_after rules s) m w line)
  unfolding line_after
  line_is m plain line = either (nat_lt longest_line (length line)) m (session_after rules s m plain line)
  line_is m memory line = refl
  line_is m (cut n) line = either (nat_lt longest_line (length line)) m (session_after rules s m (cut n) line)
  line_is m unkept line = either (nat_lt longest_line (length line)) m (session_after rules s m unkept line)
  line_is m (cut_unkept i) line = either (nat_lt longest_line (length line)) m (session_after rules s m (cut_unkept i) line)

  says_is : (m : SessionState) (w : Word) (line : List ℕ) → line_reply (ruled_reply rules) (ruled m) w line ≡ line_reply (session_reply rules s) m w line
  unfolding line_reply
  says_is m plain line = refl
  says_is m memory line = refl
  says_is m (cut n) line = refl
  says_is m unkept line = refl
  says_is m (cut_unkept i) line = refl

  lines_are : (m : SessionState) (lines : List (List ℕ)) (words : List Word) → after_lines (ruled_after rules) (ruled m) lines words ≡ ruled (after_lines (session_after rules s) m lines words)
  lines_are m [] words = refl
  lines_are m (line ∷ lines) [] = refl
  lines_are m (line ∷ lines) (w ∷ words) = ap (λ n. after_lines (ruled_after rules) n lines words) (line_is m w line) ∙ lines_are (line_after (session_after rules s) m w line) lines words

  replies_are : (m : SessionState) (lines : List (List ℕ)) (words : List Word) → replies (ruled_after rules) (ruled_reply rules) (ruled m) lines words ≡ replies (session_after rules s) (session_reply rules s) m lines words
  replies_are m [] words = refl
  replies_are m (line ∷ lines) [] = refl
  replies_are m (line ∷ lines) (w ∷ words) =
      ap (λ text. text ++ replies (ruled_after rules) (ruled_reply rules) (line_after (ruled_after rules) (ruled m) w line) lines words) (says_is m w line)
      ∙ ap (λ text. line_reply (session_reply rules s) m w line ++ text)
      (ap (λ n. replies (ruled_after rules) (ruled_reply rules) n lines words) (line_is m w line) ∙ replies_are (line_after (session_after rules s) m w line) lines words)

  -- ---- what was written

  module _ (m : SessionState) (new : RuledSession) where
    answers : (lines : List (List ℕ)) (out : List ℕ) → Answers (ruled_after rules) (ruled_reply rules) (ruled m) lines out new → Answers (session_after rules s) (session_reply rules s) m lines out new.session
    answers lines out a = record {
      words = a.words;
      each = a.each;
      out_is = a.out_is ∙ replies_are m lines a.words;
      new_is = ap (λ (n : RuledSession). n.session) (a.new_is ∙ lines_are m lines a.words);
    }

    breaks_off : (lines : List (List ℕ)) (out : List ℕ) → BreaksOff (ruled_after rules) (ruled_reply rules) (ruled m) lines out new → BreaksOff (session_after rules s) (session_reply rules s) m lines out new.session
    breaks_off lines out a = record {
      n = a.n;
      first = a.first;
      last = a.last;
      words = a.words;
      each = a.each;
      part = a.part;
      whole = a.whole ∙ ap (λ text. text ++ a.part) (replies_are m (take (a.n - 1) lines) a.words);
      missing = a.missing;
      proper = a.proper;
      cut_is = sym (replies_are m (take a.n lines) a.words) ∙ a.cut_is;
      new_is = ap (λ (n : RuledSession). n.session) (a.new_is ∙ lines_are m (take a.n lines) a.words);
    }

    writes : (before now : Option (List ℕ)) (lines : List (List ℕ)) → WritesReplies (ruled_after rules) (ruled_reply rules) before now (ruled m) lines new → WritesReplies (session_after rules s) (session_reply rules s) before now m lines new.session
    writes before now lines a = record { out = a.out; writes = a.writes; answers = answers lines a.out a.answers }

    part : (before now : Option (List ℕ)) (lines : List (List ℕ)) → WritesPart (ruled_after rules) (ruled_reply rules) before now (ruled m) lines new → WritesPart (session_after rules s) (session_reply rules s) before now m lines new.session
    part before now lines a = record { out = a.out; writes = a.writes; breaks_off = breaks_off lines a.out a.breaks_off }

    -- ---- how it ended

    outcome : (end : SessionEnd) (left left' written written' : Option (List ℕ)) → Outcome (ruled_after rules) (ruled_reply rules) end left left' written written' (ruled m) new → Outcome (session_after rules s) (session_reply rules s) end left left' written written' m new.session
    outcome Whole left left' written written' h = (h.0, h.1, h.2, writes written written' (lines_of h.0) h.3)
    outcome ReadFault left left' written written' h = (h.0, h.1, writes written written' (whole_lines h.0) h.2)
    outcome Bound left left' written written' h = (h.0, h.1, h.2, writes written written' (whole_lines h.0) h.3)
    outcome WriteFault left left' written written' h = (h.0, h.1, ⊎_elim (λ p. inl (part written written' (whole_lines h.0) p)) (λ p. inr (p.0, part written written' (lines_of h.0) p.1)) h.2)
    outcome NoMemory left left' written written' h = (h.0, h.1, ap (λ (n : RuledSession). n.session) h.2)

    transcript : (end : SessionEnd) (written written' : Option (List ℕ)) (bytes : List ℕ) → Transcript (ruled_after rules) (ruled_reply rules) end written written' (ruled m) new bytes → Transcript (session_after rules s) (session_reply rules s) end written written' m new.session bytes
    transcript Whole written written' bytes h =
        (h.0, h.1, subst (λ out. Appends written written' out) (replies_are m (lines_of bytes) h.0) h.2, ap (λ (n : RuledSession). n.session) (h.3 ∙ lines_are m (lines_of bytes) h.0))
    transcript ReadFault written written' bytes h = (h.0, h.1, h.2, writes written written' (whole_lines h.0) h.3)
    transcript Bound written written' bytes h = (h.0, h.1, h.2, h.3, writes written written' (whole_lines h.0) h.4)
    transcript WriteFault written written' bytes h = part written written' (lines_of bytes) h
    transcript NoMemory written written' bytes h = (h.0, ap (λ (n : RuledSession). n.session) h.1)

    told : (end : SessionEnd) (left written written' : Option (List ℕ)) → IfSome left (Transcript (ruled_after rules) (ruled_reply rules) end written written' (ruled m) new) → IfSome left (Transcript (session_after rules s) (session_reply rules s) end written written' m new.session)
    told end None written written' h = h
    told end (Some bytes) written written' h = transcript end written written' bytes h

    -- a run of the one is a run of the other
    pub has_run : (status : Status) (left left' written written' : Option (List ℕ)) → HasRun (ruled_after rules) (ruled_reply rules) status left left' written written' (ruled m) new → HasRun (session_after rules s) (session_reply rules s) status left left' written written' m new.session
    has_run status left left' written written' h = (h.0, h.1, outcome h.0 left left' written written' h.2, told h.0 left written written' h.3)

  -- a run from the start of a session under its rule is one from the start under that rule
  pub ran : (status : Status) (left left' written written' : Option (List ℕ)) (m new : RuledSession) → m ≡ ruled session_start
      → HasRun (ruled_after rules) (ruled_reply rules) status left left' written written' m new → (end : SessionState) × HasRun (session_after rules s) (session_reply rules s) status left left' written written' session_start end
  ran status left left' written written' m new is h =
      (new.session, has_run session_start new status left left' written written' (subst (λ n. HasRun (ruled_after rules) (ruled_reply rules) status left left' written written' n new) is h))
