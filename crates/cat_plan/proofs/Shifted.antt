-- A source whose relations changed and that has an output has other parts.
use Rattle.std.proofs.Common.{◌≡◌, ◌≢◌, Bool, true, false, not, ◌&&◌, is_some, List, refl, sym, ap, ◌∙◌, true≢false, unwrap_or}
use Rattle.std.specs.declared.option.Option.{Option}
use Rattle.std.specs.declared.option.Option.TheVariants.{None, Some}
use Rattle.std.specs.Option.{option_and_then}
use Rattle.std.specs.List.{list_any}
use Rattle.cat_collections.specs.Table.{same_text}
use Rattle.cat_collections.proofs.Orders.{contains_from_has}
use Rattle.cat_collections.proofs.Tables.{text_total, text_antisymmetric, and_first, and_second}
use Rattle.cat_types.specs.declared.parts.Parts.{Parts}
use Rattle.cat_types.specs.declared.work.Output.{Output}
use Rattle.cat_links.specs.Links.{Emitted, relations_of}
use Rattle.cat_model.specs.declared.types.Orphan.{Orphan}
use Rattle.cat_model.specs.declared.types.Record.{Record}
use Rattle.cat_model.specs.Catalogue.{Ref, Rules, same_option}
use Rattle.cat_plan.specs.Linked.{AreApart, linked_from, linked_orphan, linked_record}

module _ (rules : Rules) (links links' : Emitted) (r : Ref) where
  of_record : (x : Record) (output : Option Output) (p : Parts) → linked_record links r x output ≡ Some p → p.relations ≡ relations_of links r
  of_record x None p h = absurd (true≢false (sym (ap is_some h)))
  of_record x (Some o) p h = sym (ap (λ v. (unwrap_or v p).relations) h)

  of_orphan : (orphan : Option Orphan) (p : Parts) → linked_orphan rules links r orphan ≡ Some p → p.orphan ≡ true
  of_orphan None p h = absurd (true≢false (sym (ap is_some h)))
  of_orphan (Some x) p h = sym (ap (λ v. (unwrap_or v p).orphan) h)

  -- parts that aren't an orphan's have the relations of the links
  relations_before : (orphan : Option Orphan) (kept : Option Record) (p : Parts) → linked_from rules links r orphan kept ≡ Some p → p.orphan ≡ false → p.relations ≡ relations_of links r
  relations_before orphan None p h e = absurd (true≢false (sym (of_orphan orphan p h) ∙ e))
  relations_before orphan (Some x) p h e = of_record x x.output p h

  module _ (orphan : Option Orphan) (kept : Option Record) (apart : relations_of links' r ≢ relations_of links r) (x : Record) where
    abbrev parts_with : Output → Parts
    parts_with o = record { entity = o.entity; number = x.number; orphan = false; relations = relations_of links' r; issues = x.issues }

    differs : (o : Output) → same_option rules.same_parts (linked_from rules links r orphan kept) (linked_record links' r x (Some o)) ≡ false
    differs o = go (linked_from rules links r orphan kept) refl
      where
        at : (p : Parts) → linked_from rules links r orphan kept ≡ Some p → (b : Bool) → rules.same_parts p (parts_with o) ≡ b → b ≡ false
        at p h false e = refl
        at p h true e =
            let same : p ≡ parts_with o = rules.same_parts-is p (parts_with o) e in
            absurd (apart (sym (ap (λ (q : Parts). q.relations) same) ∙ relations_before orphan kept p h (ap (λ (q : Parts). q.orphan) same)))

        go : (v : Option Parts) → linked_from rules links r orphan kept ≡ v → same_option rules.same_parts v (Some (parts_with o)) ≡ false
        go None h = refl
        go (Some p) h = at p h (rules.same_parts p (parts_with o)) refl

    -- what has an output and other relations than before has other parts
    pub has_moved : (orphan' : Option Orphan) (output : Option Output) → is_some output ≡ true
        → (is_some (linked_record links' r x output) && not (same_option rules.same_parts (linked_from rules links r orphan kept) (linked_record links' r x output))) ≡ true
    has_moved orphan' None e = absurd (true≢false (sym e))
    has_moved orphan' (Some o) e = ap not (differs o)

-- a source whose relations changed, as the plan of the links says, and that has an output has moved
pub shifted : (rules : Rules) (links links' : Emitted) (changed : List Ref) (r : Ref) (orphan orphan' : Option Orphan) (kept v : Option Record) → AreApart links links' changed
    → (list_any (same_text r) changed && is_some (option_and_then (λ (x : Record). x.output) v)) ≡ true
    → (is_some (linked_from rules links' r orphan' v) && not (same_option rules.same_parts (linked_from rules links r orphan kept) (linked_from rules links' r orphan' v))) ≡ true
shifted rules links links' changed r orphan orphan' kept None apart h = absurd (true≢false (sym (and_second (list_any (same_text r) changed) _ h)))
shifted rules links links' changed r orphan orphan' kept (Some x) apart h =
    let among = contains_from_has text_total text_antisymmetric changed r (and_first (list_any (same_text r) changed) _ h) in
    has_moved rules links links' r orphan kept (apart r among) x orphan' x.output (and_second (list_any (same_text r) changed) _ h)
