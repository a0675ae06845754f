-- The own changes of a finish and of a forget, and lists of what holding reaches.
use Rattle.std.proofs.Common.{◌≡◌, ℕ, Bool, true, false, cond, not, ◌&&◌, List, refl, sym, ap, ◌∙◌}
use Rattle.std.specs.declared.option.Option.{Option}
use Rattle.std.specs.declared.option.Option.TheVariants.{None, Some}
use Rattle.std.specs.Option.{option_and_then, option_map}
use Rattle.std.specs.List.{list_any}
use Rattle.std.specs.List.Sorted.{IsStrictlySortedBy}
use Rattle.std.specs.FinMap.Entries.{find-put}
use Rattle.cat_collections.specs.Table.{Map, get, same_text, text_cmp}
use Rattle.cat_collections.proofs.Tables.{text_total, text_antisymmetric, find-over, same_is}
use Rattle.cat_model.specs.declared.types.Record.{Record}
use Rattle.cat_model.specs.declared.types.Settings.{Settings}
use Rattle.cat_model.specs.declared.types.State.{State}
use Rattle.cat_model.specs.Catalogue.{Holders, Outcome, Ref, Rows, Rules, held, holding, reheld, work_of}
use Rattle.cat_model.specs.Step.{finished_record, finished_state, forgotten, without_key}
use Rattle.cat_plan.specs.Following.{IsOwnChange, IsReach, held_state}
use Rattle.cat_plan.proofs.Amending.{same_sym}

-- a finish changes the record of its reference, which is no orphan
pub finish_is_own : (s : Settings) (r : Ref) (now : ℕ) (x : Record) (outcome : Outcome) (m : State) → get m.orphans r ≡ None
    → (let n = finished_state s r now x outcome m in
    IsOwnChange (Some (record { reference = r; kept = Some (finished_record s now x outcome) })) m.shelf (reheld n).rows (reheld n).holders m n)
finish_is_own s r now x outcome m none = record {
  records = λ q. find-put text_cmp text_total q r (finished_record s now x outcome) m.records ∙ ap (λ b. cond b (Some (finished_record s now x outcome)) (get m.records q)) (same_sym q r);
  orphans = λ q. orphan_stays q (same_text r q) refl;
  marks = refl;
  documents = refl;
  number = refl;
  ticket = refl;
  same_shelf = refl;
  same_rows = refl;
  same_holders = refl;
}
  where
    orphan_stays : (q : Ref) (b : Bool) → same_text r q ≡ b → get m.orphans q ≡ cond b None (get m.orphans q)
    orphan_stays q true e = ap (get m.orphans) (sym (same_is text_total text_antisymmetric r q e)) ∙ none
    orphan_stays q false e = refl

get-without_key : {X : Type 0} (r q : Ref) (m : Map X) → get (without_key r m) q ≡ cond (same_text r q) None (get m q)
get-without_key {X = X} r q m = find-over text_total text_antisymmetric q m (λ k x. cond (same_text r k) None (Some x)) ∙ go (same_text r q) (get m q)
  where
    go : (b : Bool) (v : Option X) → option_and_then (λ x. cond b None (Some x)) v ≡ cond b None v
    go true None = refl
    go true (Some x) = refl
    go false None = refl
    go false (Some x) = refl

-- a forget takes the record and the orphan of its reference
pub forget_is_own : (r : Ref) (m : State) → (let n = forgotten r m in IsOwnChange (Some (record { reference = r; kept = None })) m.shelf (reheld n).rows (reheld n).holders m n)
forget_is_own r m = record {
  records = λ q. get-without_key r q m.records;
  orphans = λ q. get-without_key r q m.orphans;
  marks = refl;
  documents = refl;
  number = refl;
  ticket = refl;
  same_shelf = refl;
  same_rows = refl;
  same_holders = refl;
}

-- where the shelf stays, what keeps its holding row keeps its work
pub reach_is : (rules : Rules) (m : State) (rows : Rows) (holders : Holders) (fresh leaving touched : List Ref)
    → ((r : Ref) → list_any (same_text r) fresh ≡ (held holders r && not (held m.holders r)))
    → ((r : Ref) → list_any (same_text r) leaving ≡ (held m.holders r && not (held holders r)))
    → IsStrictlySortedBy text_cmp leaving
    → ((r : Ref) → list_any (same_text r) touched ≡ false → held m.holders r ≡ true → held holders r ≡ true → holding m.rows m.holders r ≡ holding rows holders r)
    → IsReach rules m (held_state m.shelf rows holders m) fresh leaving touched
reach_is rules m rows holders fresh leaving touched come left rise others = record {
  come = come;
  left = left;
  left_rise = rise;
  others = λ r e before after. ap (option_map (λ row. work_of rules m.shelf row.offered.tree)) (others r e before after);
}
