-- What is asked of a state before its rows must open goes on holding over the messages of a connection.
use Rattle.std.proofs.Common.{◌≡◌, ℕ, Bool, true, false, if◌then◌else◌, List, [], ◌∷◌, refl, sym, subst}
use Rattle.std.specs.declared.option.Option.{Option}
use Rattle.std.specs.declared.option.Option.TheVariants.{None, Some}
use Rattle.std.specs.declared.result.Result.{Result}
use Rattle.std.specs.declared.result.Result.TheVariants.{Ok, Err}
use Rattle.cat_api.specs.Operations.{Operation, operation}
use Rattle.cat_api.specs.Operations.Operation.{Act, Ask, Tell, Show}
use Rattle.cat_api.specs.Wire.{Wired, after_requested, deed_word, state_after, wire_after}
use Rattle.cat_desk.specs.Acts.{after_deed, done}
use Rattle.cat_desk.specs.Deed.{Deed}
use Rattle.cat_desk.specs.Deed.Deed.{Mutate, ShelfPut, ShelfDrop, Refresh, Forget, ForgetNumber, Take, Finish, TakeStitch, PutStitch, Settle}
use Rattle.cat_http.specs.declared.message.Message.{Message}
use Rattle.cat_stored_session.specs.Wire.{KeptWired, kept_wire_after, may_be_cut, may_be_refused, one_refused}
use Rattle.cat_layers.specs.Layered.{layered}
use Rattle.cat_io.specs.Word as deeds
use Rattle.cat_model.specs.Step.Event.{Mutate as Mutated, ShelfPut as PutOnShelf, ShelfDrop as DroppedFromShelf, Refresh as Refreshed, Forget as Forgotten, ForgetNumber as NumberForgotten, Take as Taken, Finish as Finished, PutStitch as StitchPut}
use Rattle.cat_model.specs.declared.types.OrphanRule.{OrphanRule}
use Rattle.cat_model.specs.declared.types.State.{State}
use Rattle.cat_reopening_laws.proofs.Lasts.{Lasts, event_lasts, settle_lasts}
use Rattle.cat_reopening_laws.proofs.Requests.{IsFormedDeed, IsFormedOperation, request_formed}
use Rattle.cat_requests.specs.Requests.{request_of}
use Rattle.cat_requests.specs.declared.refusal.Refusal.{Refusal}
use Rattle.cat_requests.specs.declared.request.Request.{Request}
use Rattle.cat_session_model.specs.Program.{program_settings}
use Rattle.cat_connection.specs.Items.{Item, message, refusal}
use Rattle.cat_connection.specs.Worded.{Word, plain, memory, cut, untold, unkept, cut_unkept, after_items, item_after}

module _ (rule : OrphanRule) where
  -- ---- deeds

  done_lasts : (now : ℕ) (limit : Option ℕ) (d : Deed) (m : State) → IsFormedDeed d → Lasts m → Lasts (done layered (program_settings rule) now limit d m)
  done_lasts now limit (Mutate p x) m g h = event_lasts rule (Mutated p x) m g h
  done_lasts now limit (ShelfPut name text) m g h = event_lasts rule (PutOnShelf name text) m g h
  done_lasts now limit (ShelfDrop name) m g h = event_lasts rule (DroppedFromShelf name) m tt h
  done_lasts now limit (Refresh r) m g h = event_lasts rule (Refreshed r) m tt h
  done_lasts now limit (Forget r) m g h = event_lasts rule (Forgotten r) m tt h
  done_lasts now limit (ForgetNumber number) m g h = event_lasts rule (NumberForgotten number) m tt h
  done_lasts now limit Take m g h = event_lasts rule (Taken now) m tt h
  done_lasts now limit (Finish order) m g h = event_lasts rule (Finished order now) m tt h
  done_lasts now limit (TakeStitch after) m g h = h
  done_lasts now limit (PutStitch order) m g h = event_lasts rule (StitchPut order) m tt h
  done_lasts now limit Settle m g h = settle_lasts rule now limit m h

  pub deed_lasts : (now : ℕ) (w : deeds.Word) (d : Deed) (m : State) → IsFormedDeed d → Lasts m → Lasts (after_deed layered (program_settings rule) now w d m)
  deed_lasts now deeds.plain d m g h = done_lasts now None d m g h
  deed_lasts now deeds.memory d m g h = h
  deed_lasts now (deeds.cut n) d m g h = done_lasts now (Some n) d m g h
  deed_lasts now deeds.unkept d m g h = done_lasts now None d m g h
  deed_lasts now (deeds.cut_unkept n) d m g h = done_lasts now None d m g h

  -- ---- messages

  operation_lasts : (w : Word) (o : Operation) (m : State) → IsFormedOperation o → Lasts m → Lasts (state_after layered (program_settings rule) w o m)
  operation_lasts w (Act d k) m g h = deed_lasts 0 (deed_word w) d m g h
  operation_lasts w (Ask question) m g h = h
  operation_lasts w (Tell since) m g h = h
  operation_lasts w (Show file) m g h = h

  -- a catalogue under the program's settings, in a state that lasts
  pub record Serves (k : Wired) : Type 0 where
    pub settings : k.catalogue.settings ≡ program_settings rule
    pub lasts : Lasts k.catalogue.state

  requested_serves : (w : Word) (m : Message) (r : Result Request Refusal) (k : Wired) → request_of m ≡ r → Serves k → Serves (after_requested layered w r k)
  requested_serves w m (Ok request) k e h = record {
    settings = h.settings;
    lasts = subst (λ s. Lasts (state_after layered s w (operation request) k.catalogue.state)) (sym h.settings) (operation_lasts w (operation request) k.catalogue.state (request_formed m request e) h.lasts);
  }
  requested_serves w m (Err fault) k e h = h

  message_serves : (k : Wired) (w : Word) (m : Message) → Serves k → Serves (wire_after layered k w m)
  unfolding wire_after
  message_serves k w m h = requested_serves w m (request_of m) k refl h

  -- ---- a connection that nothing keeps

  wire_item_serves : (k : Wired) (w : Word) (item : Item) → Serves k → Serves (item_after (wire_after layered) k w item)
  unfolding item_after
  wire_item_serves k plain (message m) h = message_serves k plain m h
  wire_item_serves k memory (message m) h = h
  wire_item_serves k (cut n) (message m) h = message_serves k (cut n) m h
  wire_item_serves k untold (message m) h = message_serves k untold m h
  wire_item_serves k unkept (message m) h = message_serves k unkept m h
  wire_item_serves k (cut_unkept n) (message m) h = message_serves k (cut_unkept n) m h
  wire_item_serves k w (refusal fault) h = h

  pub wire_items_serve : (k : Wired) (items : List Item) (words : List Word) → Serves k → Serves (after_items (wire_after layered) k items words)
  wire_items_serve k [] words h = h
  wire_items_serve k (item ∷ items) [] h = h
  wire_items_serve k (item ∷ items) (w ∷ words) h = wire_items_serve (item_after (wire_after layered) k w item) items words (wire_item_serves k w item h)

  -- ---- a connection that is kept

  abbrev KeptServes : KeptWired → Type 0
  KeptServes k = Serves k.wired

  kept_serves : (k : KeptWired) (w : Word) (m : Message) → KeptServes k → KeptServes (kept_wire_after layered k w m)
  kept_serves k plain m h = message_serves k.wired plain m h
  kept_serves k memory m h = message_serves k.wired memory m h
  kept_serves k (cut n) m h = message_serves k.wired (cut n) m h
  kept_serves k untold m h = message_serves k.wired untold m h
  kept_serves k unkept m h = go (may_be_refused (request_of m) k.wired.catalogue.state)
    where
      go : (b : Bool) → KeptServes (if b then one_refused k.wired k else record k { wired = wire_after layered k.wired plain m })
      go true = h
      go false = message_serves k.wired plain m h
  kept_serves k (cut_unkept n) m h = go (may_be_cut (request_of m))
    where
      go : (b : Bool) → KeptServes (if b then one_refused (wire_after layered k.wired (cut 1) m) k else record k { wired = wire_after layered k.wired plain m })
      go true = message_serves k.wired (cut 1) m h
      go false = message_serves k.wired plain m h

  item_serves : (k : KeptWired) (w : Word) (item : Item) → KeptServes k → KeptServes (item_after (kept_wire_after layered) k w item)
  unfolding item_after
  item_serves k plain (message m) h = kept_serves k plain m h
  item_serves k memory (message m) h = h
  item_serves k (cut n) (message m) h = kept_serves k (cut n) m h
  item_serves k untold (message m) h = kept_serves k untold m h
  item_serves k unkept (message m) h = kept_serves k unkept m h
  item_serves k (cut_unkept n) (message m) h = kept_serves k (cut_unkept n) m h
  item_serves k w (refusal fault) h = h

  pub items_serve : (k : KeptWired) (items : List Item) (words : List Word) → KeptServes k → KeptServes (after_items (kept_wire_after layered) k items words)
  items_serve k [] words h = h
  items_serve k (item ∷ items) [] h = h
  items_serve k (item ∷ items) (w ∷ words) h = items_serve (item_after (kept_wire_after layered) k w item) items words (item_serves k w item h)
