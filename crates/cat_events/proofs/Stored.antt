-- What the put of a stitch comes to.
use Rattle.std.proofs.Common.{T, ◌≡◌, ℕ, ◌≤◌, ◌^◌, Bool, true, false, cond, not, refl, sym, ap, subst, ◌∙◌, nat_lt, arith}
use Rattle.std.specs.declared.option.Option.{Option}
use Rattle.std.specs.declared.option.Option.TheVariants.{None, Some}
use Rattle.std.specs.declared.result.Result.TheVariants.{Ok}
use Rattle.std.specs.Option.{option_and_then}
use Rattle.std.specs.FinMap.Entries.{find-where_key, is_sorted, is_sorted-where_key, same_entries}
use Rattle.std.proofs.lemmas.Bool.{ltb-true}
use Rattle.cat_tree.specs.Data.{Data}
use Rattle.cat_collections.specs.Rows.{without}
use Rattle.cat_collections.specs.Table.{Map, Text, get, keys, put, same_text, text_cmp}
use Rattle.cat_collections.proofs.Tables.{find-over, is_sorted-tabulate, text_antisymmetric, text_total}
use Rattle.cat_links.specs.Links.{Emitted}
use Rattle.cat_model.specs.declared.types.Counter.TheVariants.{Arrival, Number, Token, Ticket}
use Rattle.cat_model.specs.declared.types.Fault.TheVariants.{Spent}
use Rattle.cat_plan.specs.Linked.{AreLinked}
use Rattle.cat_model.specs.declared.types.Settings.{Settings}
use Rattle.cat_model.specs.declared.types.State.{State}
use Rattle.cat_model.specs.declared.types.StitchOrder.{StitchOrder}
use Rattle.cat_model.specs.Catalogue.{Rules}
use Rattle.cat_model.specs.Sound.{AreSmall}
use Rattle.cat_model.specs.Step.{fault_where, is_present_stitch, or_else, spent, without_key}
use Rattle.cat_model.specs.Step.Event.{PutStitch}
use Rattle.cat_events.specs.Coming.{HasCome, IsSteady, came_fault, came_state}
use Rattle.cat_events.specs.Stepped.{come_to, stepped}
use Rattle.cat_events.specs.declared.stepped.Stepped.TheVariants.{Acts}
use Rattle.cat_events.proofs.Comes.{steady_step}

-- a table in order without a key, entry by entry
pub without_is : {X : Type 0} (r : Text) (m : Map X) → T (is_sorted text_cmp m) → without_key r m ≡ without text_cmp r m
without_is {X = X} r m h =
    same_entries text_cmp text_total text_antisymmetric (without_key r m) (without text_cmp r m)
    (is_sorted-tabulate text_total text_antisymmetric (keys m) (λ q. option_and_then (λ x. cond (same_text r q) None (Some x)) (get m q)))
    (is_sorted-where_key text_cmp (λ q. not (same_text r q)) m h)
    (λ q. find-over text_total text_antisymmetric q m (λ k x. cond (same_text r k) None (Some x))
    ∙ (go (same_text r q) (get m q) ∙ sym (find-where_key text_cmp (λ k. not (same_text r k)) q (λ x e. ap (λ k. not (same_text r k)) (sym (text_antisymmetric q x e))) m)))
  where
    go : (b : Bool) (v : Option X) → option_and_then (λ x. cond b None (Some x)) v ≡ cond (not b) v None
    go true None = refl
    go true (Some x) = refl
    go false None = refl
    go false (Some x) = refl

not_over : (n : ℕ) → n ≤ 2 ^ 59 → nat_lt (2 ^ 59) n ≡ false
not_over n h = go (nat_lt (2 ^ 59) n) refl
  where
    go : (b : Bool) → nat_lt (2 ^ 59) n ≡ b → b ≡ false
    go true e = absurd (let l = ltb-true (2 ^ 59) n e in omega arith)
    go false e = refl

-- no counter of a small state is spent
pub small_unspent : (m : State) → AreSmall m → spent m ≡ None
small_unspent m h =
    λ i. or_else (fault_where (not_over m.arrival h.arrival i) (Spent Arrival))
    (or_else (fault_where (not_over m.number h.number i) (Spent Number))
    (or_else (fault_where (not_over m.token h.token i) (Spent Token)) (fault_where (not_over m.ticket h.ticket i) (Spent Ticket))))

module _ (rules : Rules) (s : Settings) (order : StitchOrder) (m : State) where
  -- the state in which the document of the order is stored
  abbrev stored : State
  stored = record m { documents = put text_cmp order.reference (rules.doc order.parts) m.documents; marks = without_key order.reference m.marks }

  comes : is_present_stitch rules m order ≡ true → AreSmall m → come_to rules s (PutStitch order) m ≡ Acts stored
  comes e h =
      ap (λ b. stepped (or_else None (or_else None (spent (cond b stored m)))) (cond b stored m)) e
      ∙ ap (λ v. stepped (or_else None (or_else None v)) stored) (small_unspent stored (record { arrival = h.arrival; number = h.number; token = h.token; ticket = h.ticket }))

  pub stitch_comes : {E : Type 0} (links : Emitted) (documents : Map Data) (marks : Map ℕ) → is_present_stitch rules m order ≡ true → IsSteady rules links m
      → documents ≡ put text_cmp order.reference (rules.doc order.parts) m.documents → marks ≡ without text_cmp order.reference m.marks
      → HasCome {E = E} rules (come_to rules s (PutStitch order) m) (Ok None) m (record m { documents = documents; marks = marks }) links
  stitch_comes links documents marks e h ed em =
      let is = comes e h.small in
      let made : record m { documents = documents; marks = marks } ≡ stored = (λ i. record m { documents = ed i; marks = (em ∙ sym (without_is order.reference m.marks h.ordered.marks)) i }) in
      let state : record m { documents = documents; marks = marks } ≡ came_state (come_to rules s (PutStitch order) m) m = made ∙ ap (λ c. came_state c m) (sym is) in
      record {
        state = state;
        fault = ap came_fault (sym is);
        steady = subst (IsSteady rules links) (sym state)
            (steady_step rules s (PutStitch order) m links links h (subst (AreLinked rules links) state (record { in_order = h.linked.in_order; each = h.linked.each })));
      }
