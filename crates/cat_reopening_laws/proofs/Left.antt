-- What a run over a store with the rows of a lasting state leaves are the rows of a lasting state.
use Rattle.std.proofs.Common.{◌≡◌, inl, inr, ℕ, Bool, true, false, if◌then◌else◌, List, [], ◌∷◌, ◌++◌, take, length, refl, sym, ap, subst, ◌∙◌, arith}
use Rattle.std.proofs.Math.Logic.{∥∥₁_map}
use Rattle.std.specs.declared.option.Option.{Option}
use Rattle.std.specs.declared.option.Option.TheVariants.{Some}
use Rattle.cat_keeper.specs.Answers.{Are}
use Rattle.cat_keeper.specs.Store.{Rows}
use Rattle.cat_keeper.specs.declared.keeper.Place.{Place}
use Rattle.cat_stored_session.specs.Kept.{kept_after, kept_reply, may_be_cut, may_be_refused, one_refused}
use Rattle.cat_stored_session.specs.declared.state.KeptState.{KeptState}
use Rattle.cat_session_lines.specs.Lines.{line_of}
use Rattle.cat_stored_session.specs.Wire.{KeptWired, kept_wire_after, kept_wire_reply}
use Rattle.cat_layers.specs.Layered.{layered}
use Rattle.cat_io.proofs.Keeping.{Keeps, after_lines-keeps}
use Rattle.cat_io.specs.Lines.{lines, whole_lines}
use Rattle.cat_io.specs.Runs.{after_lines}
use Rattle.cat_io.specs.Session.{Outcome}
use Rattle.cat_io.specs.Word.{Word, plain, memory, cut, unkept, cut_unkept, After, Reply}
use Rattle.cat_io.specs.declared.line_loop.SessionEnd.{SessionEnd}
use Rattle.cat_io.specs.declared.line_loop.SessionEnd.TheVariants.{Whole, ReadFault, WriteFault, Bound, NoMemory}
use Rattle.cat_model.specs.Step.{reopened}
use Rattle.cat_model.specs.declared.types.OrphanRule.{OrphanRule}
use Rattle.cat_model.specs.declared.types.State.{State}
use Rattle.cat_reopening_laws.specs.Reached.{AreLasting, IsLasting, kept_over, wired_over}
use Rattle.cat_reopening_laws.specs.Reached.IsLasting.{runs, serves, reopens}
use Rattle.cat_reopening_laws.proofs.Lasting.{lasting_may_open}
use Rattle.cat_row_updates.specs.Right.{AreRowsOf}
use Rattle.cat_row_updates.specs.Told.{OpensAs}
use Rattle.cat_session_model.specs.Program.{ruled_after}
use Rattle.cat_http.specs.declared.message.Message.{Message}
use Rattle.cat_stored_session.specs.Wire as kept_wire
use Rattle.cat_requests.specs.Requests.{request_of}
use Rattle.cat_api.specs.Wire.{wire_after}
use Rattle.cat_connection.specs.Items.{Item, message, refusal}
use Rattle.cat_connection.specs.Worded as wire
use Rattle.cat_connection.specs.Worded.{HasWords, after_items, item_after}
use Rattle.cat_connection.specs.Connection as connection
use Rattle.cat_connection.specs.Connection.{WritesReplies, WritesPart}
use Rattle.cat_connection.specs.declared.message_loop.ConnEnd.{ConnEnd}
use Rattle.cat_connection.specs.declared.message_loop.ConnEnd.TheVariants as conn
use Rattle.cat_connection.specs.declared.command.Status.{Status}
use Rattle.cat_stored_session.specs.Stores.{HasKept, HasKeptWire}
use Rattle.cat_stored_rows.specs.Stored.{stored, tables, texts_of}

-- what rows of a lasting state open as is lasting
pub opened_lasting : (rows : Rows) (m n : State) → IsLasting m → AreRowsOf m rows → OpensAs layered rows n → IsLasting n
opened_lasting rows m n is are opens = subst IsLasting (sym (go are)) (reopens m is)
  where
    go : AreRowsOf m rows → n ≡ reopened layered m
    go (inl of) = let may = lasting_may_open m is in (opens m may.told may.placed).0 of.0 of.1
    go (inr of) = let may = lasting_may_open m is in (opens m may.told may.placed).1 of

-- ---- a session

-- a machine came from one state to another by some lines
record Comes {A : Type 0} (after : After A) (m new : A) : Type 0 where
  lines : List (List ℕ)
  words : List Word
  new_is : new ≡ after_lines after m lines words

module _ {A : Type 0} (after : After A) (reply : Reply A) (m new : A) where
  comes : (end : SessionEnd) (left left' written written' : Option (List ℕ)) → Outcome after reply end left left' written written' m new → Comes after m new
  comes Whole left left' written written' o = record { lines = lines o.0; words = o.3.answers.words; new_is = o.3.answers.new_is }
  comes ReadFault left left' written written' o = record { lines = whole_lines o.0; words = o.2.answers.words; new_is = o.2.answers.new_is }
  comes Bound left left' written written' o = record { lines = whole_lines o.0; words = o.3.answers.words; new_is = o.3.answers.new_is }
  comes WriteFault left left' written written' o = elim o.2 [
    | inl part ↦ record { lines = take part.breaks_off.n (whole_lines o.0); words = part.breaks_off.words; new_is = part.breaks_off.new_is }
    | inr part ↦ record { lines = take part.1.breaks_off.n (lines o.0); words = part.1.breaks_off.words; new_is = part.1.breaks_off.new_is }
  ]
  comes NoMemory left left' written written' o = record { lines = []; words = []; new_is = o.2 }

module _ (place : Place) where
  abbrev StaysAt : KeptState → Type 0
  StaysAt k = k.place ≡ place

  stays : Keeps (kept_after layered) StaysAt
  stays k plain line h = h
  stays k memory line h = h
  stays k (cut n) line h = h
  stays k unkept line h = go (may_be_refused (line_of line))
    where
      go : (b : Bool) → StaysAt (if b then one_refused k.ruled k else record k { ruled = ruled_after layered k.ruled plain line })
      go true = h
      go false = h
  stays k (cut_unkept n) line h = go (may_be_cut (line_of line))
    where
      go : (b : Bool) → StaysAt (if b then one_refused (ruled_after layered k.ruled (cut 1) line) k else record k { ruled = ruled_after layered k.ruled plain line })
      go true = h
      go false = h

  pub session_leaves : (rule : Option OrphanRule) (rows : Rows) (status : Status) (left left' written written' : Option (List ℕ)) (after : Place → Option Rows) (faults : ℕ) (m : State)
      → IsLasting m → AreRowsOf m rows → HasKept place rule (Some rows) status left left' written written' after faults → AreLasting (after place)
  unfolding tables
  session_leaves rule rows status left left' written written' after faults m is are k =
      let orphans : OrphanRule = k.first.ruled.orphans in
      let n : State = k.first.ruled.session.state in
      let opened : IsLasting n = opened_lasting rows m n is are k.opened.opens in
      let from : k.first ≡ kept_over orphans place n = λ i. record { ruled = record { orphans = orphans; session = k.opened.begun i }; place = k.opened.place_is i; refusals = k.opened.none_refused i } in
      let come = comes (kept_after layered) (kept_reply layered) k.first k.last k.ran.0 left left' written written' k.ran.2 in
      let to : k.last ≡ after_lines (kept_after layered) (kept_over orphans place n) come.lines come.words = come.new_is ∙ ap (λ f. after_lines (kept_after layered) f come.lines come.words) from in
      let last : IsLasting k.last.ruled.session.state = subst (λ f. IsLasting f.ruled.session.state) (sym to) (runs orphans place n come.lines come.words opened) in
      let at : k.last.place ≡ place = subst StaysAt (sym to) (after_lines-keeps (kept_after layered) StaysAt stays (kept_over orphans place n) refl come.lines come.words) in
      (k.last.ruled.orphans, k.last.ruled.session.state, last, subst (λ p. Are (after p) (texts_of (stored k.last.ruled.orphans k.last.ruled.session.state))) at k.kept)

-- ---- a connection

append : {A : Type 0} (after : wire.After A) (a : A) (xs ys : List Item) (ws vs : List wire.Word) → length ws ≡ length xs → after_items after a (xs ++ ys) (ws ++ vs) ≡ after_items after (after_items after a xs ws) ys vs
append after a [] ys [] vs e = refl
append after a [] ys (w ∷ ws) vs e = absurd (omega (arith, e))
append after a (x ∷ xs) ys [] vs e = absurd (omega (arith, e))
append after a (x ∷ xs) ys (w ∷ ws) vs e = append after (item_after after a w x) xs ys ws vs (omega (arith, e))

-- a machine came from one state to another by some messages
record Served {A : Type 0} (after : wire.After A) (a new : A) : Type 0 where
  items : List Item
  words : List wire.Word
  new_is : new ≡ after_items after a items words

module _ {A : Type 0} (after : wire.After A) (reply : wire.Reply A) (a new : A) where
  wrote : (before now : Option (List ℕ)) (items : List Item) → WritesReplies (HasWords after reply) before now a items new → Served after a new
  wrote before now items w = record { items = items; words = w.answers.words; new_is = w.answers.new_is }

  part : (before now : Option (List ℕ)) (items : List Item) → WritesPart (HasWords after reply) before now a items new → Served after a new
  part before now items p = record {
    items = p.front ++ p.last ∷ [];
    words = p.answers.words ++ p.answers_last.words;
    new_is =
        p.answers_last.new_is ∙ (ap (λ k. after_items after k (p.last ∷ []) p.answers_last.words) p.answers.new_is
        ∙ sym (append after a p.front (p.last ∷ []) p.answers.words p.answers_last.words p.answers.each));
  }

  served : (end : ConnEnd) (left left' written written' : Option (List ℕ)) → connection.Outcome (HasWords after reply) end left left' written written' a new → Served after a new
  served conn.Whole left left' written written' o = wrote written written' o.1 o.4
  served conn.ReadFault left left' written written' o = wrote written written' o.1 o.4
  served conn.Bound left left' written written' o = wrote written written' o.1 o.5
  served conn.WriteFault left left' written written' o = part written written' o.1 o.4
  served conn.NoMemory left left' written written' o = record { items = []; words = []; new_is = o.2 }

module _ (place : Place) where
  abbrev WiredAt : KeptWired → Type 0
  WiredAt k = k.place ≡ place

  message_stays : (k : KeptWired) (w : wire.Word) (m : Message) → WiredAt k → WiredAt (kept_wire_after layered k w m)
  message_stays k wire.plain m h = h
  message_stays k wire.memory m h = h
  message_stays k (wire.cut n) m h = h
  message_stays k wire.untold m h = h
  message_stays k wire.unkept m h = go (kept_wire.may_be_refused (request_of m) k.wired.catalogue.state)
    where
      go : (b : Bool) → WiredAt (if b then kept_wire.one_refused k.wired k else record k { wired = wire_after layered k.wired wire.plain m })
      go true = h
      go false = h
  message_stays k (wire.cut_unkept n) m h = go (kept_wire.may_be_cut (request_of m))
    where
      go : (b : Bool) → WiredAt (if b then kept_wire.one_refused (wire_after layered k.wired (wire.cut 1) m) k else record k { wired = wire_after layered k.wired wire.plain m })
      go true = h
      go false = h

  item_stays : (k : KeptWired) (w : wire.Word) (item : Item) → WiredAt k → WiredAt (item_after (kept_wire_after layered) k w item)
  unfolding item_after
  item_stays k wire.plain (message m) h = message_stays k wire.plain m h
  item_stays k wire.memory (message m) h = h
  item_stays k (wire.cut n) (message m) h = message_stays k (wire.cut n) m h
  item_stays k wire.untold (message m) h = message_stays k wire.untold m h
  item_stays k wire.unkept (message m) h = message_stays k wire.unkept m h
  item_stays k (wire.cut_unkept n) (message m) h = message_stays k (wire.cut_unkept n) m h
  item_stays k w (refusal fault) h = h

  items_stay : (k : KeptWired) (items : List Item) (words : List wire.Word) → WiredAt k → WiredAt (after_items (kept_wire_after layered) k items words)
  items_stay k [] words h = h
  items_stay k (item ∷ items) [] h = h
  items_stay k (item ∷ items) (w ∷ words) h = items_stay (item_after (kept_wire_after layered) k w item) items words (item_stays k w item h)

  pub connection_leaves : (rule : Option OrphanRule) (rows : Rows) (status : Status) (left left' written written' : Option (List ℕ)) (after : Place → Option Rows) (faults : ℕ) (m : State)
      → IsLasting m → AreRowsOf m rows → HasKeptWire place rule (Some rows) status left left' written written' after faults → ∥ AreLasting (after place) ∥₁
  unfolding tables
  connection_leaves rule rows status left left' written written' after faults m is are k =
      let orphans : OrphanRule = k.first.wired.catalogue.settings.orphans in
      let n : State = k.first.wired.catalogue.state in
      let opened : IsLasting n = opened_lasting rows m n is are k.opened.opens in
      let from : k.first ≡ wired_over orphans place n = λ i. record { wired = record { catalogue = record { settings = k.opened.settings i; state = n }; feed = k.opened.feed_is i }; place = k.opened.place_is i; refusals = k.opened.none_refused i } in
      let come = served (kept_wire_after layered) (kept_wire_reply layered) k.first k.last k.ran.0 left left' written written' k.ran.2 in
      let to : k.last ≡ after_items (kept_wire_after layered) (wired_over orphans place n) come.items come.words = come.new_is ∙ ap (λ f. after_items (kept_wire_after layered) f come.items come.words) from in
      let last : IsLasting k.last.wired.catalogue.state = subst (λ f. IsLasting f.wired.catalogue.state) (sym to) (serves orphans place n come.items come.words opened) in
      let at : k.last.place ≡ place = subst WiredAt (sym to) (items_stay (wired_over orphans place n) come.items come.words refl) in
      let told : Are (after k.last.place) (texts_of (stored k.last.wired.catalogue.settings.orphans k.last.wired.catalogue.state)) → AreLasting (after place) =
      λ kept. (k.last.wired.catalogue.settings.orphans, k.last.wired.catalogue.state, last, subst (λ p. Are (after p) (texts_of (stored k.last.wired.catalogue.settings.orphans k.last.wired.catalogue.state))) at kept) in
      ∥∥₁_map k.kept told
