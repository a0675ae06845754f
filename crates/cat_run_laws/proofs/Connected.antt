-- The messages of a connection make a run.
use Rattle.std.proofs.Common.{◌≡◌, List, [], ◌∷◌, ◌++◌, refl, sym, ap, ◌∙◌}
use Rattle.std.specs.declared.result.Result.{Result}
use Rattle.std.specs.declared.result.Result.TheVariants.{Ok, Err}
use Rattle.cat_api.specs.Operations.{Operation, operation}
use Rattle.cat_api.specs.Operations.Operation.{Act, Ask, Tell, Show}
use Rattle.cat_api.specs.Wire.{Wired, after_operation, after_requested, wire_after}
use Rattle.cat_connection.specs.Items.{Item, message, refusal}
use Rattle.cat_connection.specs.Worded.{Word, plain, memory, cut, untold, unkept, cut_unkept, after_items, item_after}
use Rattle.cat_http.specs.declared.message.Message.{Message}
use Rattle.cat_model.specs.Catalogue.{Rules}
use Rattle.cat_requests.specs.Requests.{request_of}
use Rattle.cat_requests.specs.declared.refusal.Refusal.{Refusal}
use Rattle.cat_requests.specs.declared.request.Request.{Request}
use Rattle.cat_run_laws.proofs.Keeping.{run_append}
use Rattle.cat_run_laws.specs.Runs.{Step, after_run, item_run, items_run, operation_run, requested_run}

module _ (rules : Rules) where
  -- these steps lead from one catalogue with its feed to another one, under its settings
  pub record Makes (steps : List Step) (old new : Wired) : Type 0 where
    pub state : new.catalogue.state ≡ after_run rules old.catalogue.settings old.catalogue.state steps
    pub settings : new.catalogue.settings ≡ old.catalogue.settings

  none_made : (w : Wired) → Makes [] w w
  none_made w = record { state = refl; settings = refl }

  operation_makes : (word : Word) (o : Operation) (w : Wired) → Makes (operation_run word o) w (after_operation rules word o w)
  operation_makes word (Act d k) w = record { state = refl; settings = refl }
  operation_makes word (Ask question) w = record { state = refl; settings = refl }
  operation_makes word (Tell since) w = record { state = refl; settings = refl }
  operation_makes word (Show file) w = record { state = refl; settings = refl }

  requested_makes : (word : Word) (r : Result Request Refusal) (w : Wired) → Makes (requested_run word r) w (after_requested rules word r w)
  requested_makes word (Ok request) w = operation_makes word (operation request) w
  requested_makes word (Err fault) w = none_made w

  message_makes : (w : Wired) (word : Word) (m : Message) → Makes (requested_run word (request_of m)) w (wire_after rules w word m)
  unfolding wire_after
  message_makes w word m = requested_makes word (request_of m) w

  item_makes : (w : Wired) (word : Word) (item : Item) → Makes (item_run word item) w (item_after (wire_after rules) w word item)
  unfolding item_after
  item_makes w plain (message m) = message_makes w plain m
  item_makes w memory (message m) = none_made w
  item_makes w (cut n) (message m) = message_makes w (cut n) m
  item_makes w untold (message m) = message_makes w untold m
  item_makes w unkept (message m) = message_makes w unkept m
  item_makes w (cut_unkept n) (message m) = message_makes w (cut_unkept n) m
  item_makes w plain (refusal fault) = none_made w
  item_makes w memory (refusal fault) = none_made w
  item_makes w (cut n) (refusal fault) = none_made w
  item_makes w untold (refusal fault) = none_made w
  item_makes w unkept (refusal fault) = none_made w
  item_makes w (cut_unkept n) (refusal fault) = none_made w

  -- what one list of steps and another one make together
  both_make : (first second : List Step) (old mid new : Wired) → Makes first old mid → Makes second mid new → Makes (first ++ second) old new
  both_make first second old mid new a b = record {
    state = b.state
        ∙ (ap (λ s. after_run rules s mid.catalogue.state second) a.settings
        ∙ (ap (λ n. after_run rules old.catalogue.settings n second) a.state
        ∙ sym (run_append rules old.catalogue.settings old.catalogue.state first second)));
    settings = b.settings ∙ a.settings;
  }

  pub items_make : (w : Wired) (items : List Item) (words : List Word) → Makes (items_run items words) w (after_items (wire_after rules) w items words)
  items_make w [] words = none_made w
  items_make w (item ∷ items) [] = none_made w
  items_make w (item ∷ items) (word ∷ words) =
      let mid = item_after (wire_after rules) w word item in
      both_make (item_run word item) (items_run items words) w mid (after_items (wire_after rules) mid items words) (item_makes w word item) (items_make mid items words)
