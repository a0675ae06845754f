-- One more value of a list in brackets.
use Rattle.std.proofs.Common.{◌≡◌, ◌⊎◌, ℕ, ◌+◌, ◌<◌, true, false, List, [], ◌∷◌, ◌++◌, length, drop, Result, Ok, Err, if◌then◌else◌, ap, sym, ◌∙◌, add-one, drop-cons, inl, inr}
use Rattle.cat_tree.specs.Data.{Data}
use Rattle.cat_yaml.specs.Steps.{and_then}
use Rattle.cat_yaml.specs.Scan.{begins_with, stripped}
use Rattle.cat_yaml.specs.Value.{item_end, item_by, after_by, closed, after_item, flow_items}
use Rattle.cat_yaml.specs.declared.fault.Refusal.{Refusal}
use Rattle.cat_yaml.specs.declared.fault.Refusal.TheVariants.{NoReading, NoMemory}

turn : (bytes : List ℕ) (i : ℕ) (done : List Data) (rest : List ℕ) → i < length bytes → flow_items (drop i bytes) done rest ≡ and_then (item_by rest (item_end rest)) (λ d. after_item (flow_items (drop (i + 1) bytes)) (done ++ d ∷ []) (after_by rest (item_end rest)))
turn bytes i done rest inside = rw (add-one i) (ap (λ turns. flow_items turns done rest) (drop-cons bytes i 0 inside))

-- the value has no reading, and so the list has none
pub turn_refused : (bytes : List ℕ) (i : ℕ) (done : List Data) (rest : List ℕ) (whole : Result (List Data) Refusal) (e : Refusal) → i < length bytes → flow_items (drop i bytes) done rest ≡ whole → (item_by rest (item_end rest) ≡ Err e) ⊎ (e ≡ NoMemory) → (whole ≡ Err e) ⊎ (e ≡ NoMemory)
turn_refused bytes i done rest whole e inside all (inl h) =
    inl (sym all ∙ (turn bytes i done rest inside ∙ ap (λ r. and_then r (λ d. after_item (flow_items (drop (i + 1) bytes)) (done ++ d ∷ []) (after_by rest (item_end rest)))) h))
turn_refused bytes i done rest whole e inside all (inr h) = inr h

module _ (bytes : List ℕ) (i : ℕ) (done : List Data) (rest : List ℕ) (whole : Result (List Data) Refusal) (d : Data) (grown : List Data) (s : List ℕ) (inside : i < length bytes) (all : flow_items (drop i bytes) done rest ≡ whole) (made : item_by rest (item_end rest) ≡ Ok d) (more : grown ≡ done ++ d ∷ []) (left : s ≡ after_by rest (item_end rest)) where
  taken : whole ≡ after_item (flow_items (drop (i + 1) bytes)) grown s
  taken =
      sym all ∙ (turn bytes i done rest inside
      ∙ (ap (λ r. and_then r (λ x. after_item (flow_items (drop (i + 1) bytes)) (done ++ x ∷ []) (after_by rest (item_end rest)))) made
      ∙ (λ k. after_item (flow_items (drop (i + 1) bytes)) (sym more k) (sym left k))))

  -- a comma follows
  pub turn_goes_on : (next new : List ℕ) → next ≡ drop 1 s → new ≡ stripped next → begins_with 44 s ≡ true → flow_items (drop (i + 1) bytes) grown new ≡ whole
  turn_goes_on next new en ew comma =
      sym (taken ∙ (ap (λ b. if b then flow_items (drop (i + 1) bytes) grown (stripped (drop 1 s)) else if begins_with 93 s then closed grown (drop 1 s) else Err NoReading) comma
      ∙ ap (flow_items (drop (i + 1) bytes) grown) (sym (ew ∙ ap stripped en))))

  -- the closing bracket follows
  pub turn_ends : (next : List ℕ) → next ≡ drop 1 s → begins_with 44 s ≡ false → begins_with 93 s ≡ true → whole ≡ closed grown next
  turn_ends next en comma bracket =
      taken ∙ (ap (λ b. if b then flow_items (drop (i + 1) bytes) grown (stripped (drop 1 s)) else if begins_with 93 s then closed grown (drop 1 s) else Err NoReading) comma
      ∙ (ap (λ b. if b then closed grown (drop 1 s) else Err NoReading) bracket ∙ ap (closed grown) (sym en)))

  -- neither follows
  pub turn_fails : begins_with 44 s ≡ false → begins_with 93 s ≡ false → whole ≡ Err NoReading
  turn_fails comma bracket =
      taken ∙ (ap (λ b. if b then flow_items (drop (i + 1) bytes) grown (stripped (drop 1 s)) else if begins_with 93 s then closed grown (drop 1 s) else Err NoReading) comma
      ∙ ap (λ b. if b then closed grown (drop 1 s) else Err NoReading) bracket)
