-- What is offered is listed by the shelf.
use Rattle.std.proofs.Common.{◌≡◌, ℕ, Bool, true, false, cond, ◌||◌, List, [], ◌∷◌, ◌++◌, map, Option, Some, None, Result, Ok, Err, is_some, refl, ap, sym, ◌∙◌}
use Rattle.std.proofs.lemmas.List.{map-append}
use Rattle.std.proofs.lemmas.List.Folds.{list_any-append}
use Rattle.std.specs.FinMap.Entries.{is_some-find}
use Rattle.std.specs.List.{list_any, flat_map}
use Rattle.std.specs.Ordering.{eq_by_cmp}
use Rattle.cat_tree.specs.Data.{Data}
use Rattle.cat_collections.specs.Table.{Text, Map, text_cmp, same_text, get, keys}
use Rattle.cat_types.specs.declared.input.Offered.{Offered}
use Rattle.cat_types.specs.declared.issue.Issue.{Issue}
use Rattle.cat_types.specs.declared.work.Output.{Output}
use Rattle.cat_types.specs.declared.work.Outcome.TheVariants.{Good}
use Rattle.cat_target.specs.declared.target.Target.{Target}
use Rattle.cat_inputs.specs.declared.fault.ShelfFault.{ShelfFault}
use Rattle.cat_inputs.specs.declared.shelf.Listed.{Listed}
use Rattle.cat_inputs.specs.Shelf.{shelf_reading}
use Rattle.cat_process.specs.Offers.{origin_of, offer, listed_offers, body_offers, content_offers, all_offers, is_seen, firsts}
use Rattle.cat_process.specs.Process.{wanted_of, content_from, contents_of, work_on, result_of, listed_refs, shelf_refs}
use Rattle.cat_process.proofs.Cases.{offers_are}

or_later : (a b : Bool) → b ≡ true → (a || b) ≡ true
or_later true b h = refl
or_later false b h = h

or_sooner : (a b : Bool) → a ≡ true → (a || b) ≡ true
or_sooner true b h = refl
or_sooner false b h = cc

or_within : (a b c : Bool) → (b ≡ true → c ≡ true) → (a || b) ≡ true → (a || c) ≡ true
or_within true b c f h = refl
or_within false b c f h = f h

either : (a b c : Bool) → (a ≡ true → c ≡ true) → (b ≡ true → c ≡ true) → (a || b) ≡ true → c ≡ true
either true b c f g h = f refl
either false b c f g h = g h

firsts_within : (p : Text → Bool) (seen : List Text) (es : Map Offered) → list_any p (keys (firsts seen es)) ≡ true → list_any p (keys es) ≡ true
firsts_within p seen [] h = h
firsts_within p seen (x ∷ xs) h =
    elim (is_seen seen x) as (λ b. list_any p (keys (cond b (firsts seen xs) (x ∷ firsts (seen ++ x.0 ∷ []) xs))) ≡ true → (p x.0 || list_any p (keys xs)) ≡ true) [
      | true ↦ λ k. or_later (p x.0) (list_any p (keys xs)) (firsts_within p seen xs k)
      | false ↦ or_within (p x.0) (list_any p (keys (firsts (seen ++ x.0 ∷ []) xs))) (list_any p (keys xs)) (firsts_within p (seen ++ x.0 ∷ []) xs)
    ] h

offer_keys : (origin name : Text) (xs : List Listed) → keys (map (offer origin name) xs) ≡ map (λ x. x.reference) xs
offer_keys origin name [] = refl
offer_keys origin name (x ∷ xs) = ap (λ rs. x.reference ∷ rs) (offer_keys origin name xs)

listed_keys : (origin name : Text) (listed : Result (List Listed) ShelfFault) → keys (listed_offers origin name listed) ≡ listed_refs listed
listed_keys origin name (Ok xs) = offer_keys origin name xs
listed_keys origin name (Err fault) = refl

abbrev refs_of : Text × Text → List Text
refs_of e = listed_refs (shelf_reading e.1)

on_shelf : (p : Text → Bool) (shelf : Map Text) (name body : Text) → get shelf name ≡ Some body → list_any p (listed_refs (shelf_reading body)) ≡ true → list_any p (flat_map refs_of shelf) ≡ true
on_shelf p [] name body g h = cc
on_shelf p (e ∷ es) name body g h =
    list_any-append p (refs_of e) (flat_map refs_of es)
    ∙ elim (eq_by_cmp text_cmp name e.0) as (λ b. cond b (Some e.1) (get es name) ≡ Some body → (list_any p (refs_of e) || list_any p (flat_map refs_of es)) ≡ true) [
      | true ↦ λ k.
          let same : e.1 ≡ body = cc in
          or_sooner (list_any p (refs_of e)) (list_any p (flat_map refs_of es)) (ap (λ t. list_any p (listed_refs (shelf_reading t))) same ∙ h)
      | false ↦ λ k. or_later (list_any p (refs_of e)) (list_any p (flat_map refs_of es)) (on_shelf p es name body k h)
    ] g

body_on_shelf : (p : Text → Bool) (shelf : Map Text) (origin name : Text) (body : Option Text) → get shelf name ≡ body → list_any p (keys (body_offers origin name body)) ≡ true → list_any p (flat_map refs_of shelf) ≡ true
body_on_shelf p shelf origin name None g h = cc
body_on_shelf p shelf origin name (Some body) g h =
    on_shelf p shelf name body g (sym (ap (list_any p) (listed_keys origin name (shelf_reading body))) ∙ h)

contents_on_shelf : (p : Text → Bool) (shelf : Map Text) (parent : Data) (targets : List Target) → list_any p (keys (flat_map (content_offers parent) (map (content_from shelf) targets))) ≡ true → list_any p (flat_map refs_of shelf) ≡ true
contents_on_shelf p shelf parent [] h = cc
contents_on_shelf p shelf parent (t ∷ ts) h =
    let here = content_offers parent (content_from shelf t) in
    let there = flat_map (content_offers parent) (map (content_from shelf) ts) in
    either (list_any p (keys here)) (list_any p (keys there)) (list_any p (flat_map refs_of shelf))
    (body_on_shelf p shelf (origin_of parent t.name) t.name (get shelf t.name) refl)
    (contents_on_shelf p shelf parent ts)
    (sym (ap (list_any p) (map-append (λ (e : Text × Offered). e.0) here there) ∙ list_any-append p (keys here) (keys there)) ∙ h)

pub offered_on_shelf : (shelf : Map Text) (tree : Data) (output : Output) (issues : List Issue) → result_of (work_on tree shelf) ≡ Good output issues → (r : Text) (x : Offered) → get output.offers r ≡ Some x → list_any (same_text r) (shelf_refs shelf) ≡ true
unfolding contents_of all_offers shelf_refs
offered_on_shelf shelf tree output issues h r x g =
    let among : list_any (same_text r) (keys output.offers) ≡ true = sym (is_some-find text_cmp r output.offers) ∙ ap is_some g in
    contents_on_shelf (same_text r) shelf tree (wanted_of tree)
    (firsts_within (same_text r) [] (all_offers tree (contents_of tree shelf))
    (ap (λ es. list_any (same_text r) (keys es)) (offers_are (work_on tree shelf) output issues h) ∙ among))
