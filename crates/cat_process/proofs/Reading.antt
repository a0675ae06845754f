-- The contents of an entity over two shelves that have the same under the names that it may read.
use Rattle.std.proofs.Common.{◌≡◌, ◌==◌, Bool, true, false, ◌||◌, List, [], ◌∷◌, Ok, map, length, refl, ap}
use Rattle.std.specs.List.{list_any}
use Rattle.std.specs.Prelude.{if◌then◌else◌}
use Rattle.cat_tree.specs.Data.{Data}
use Rattle.cat_collections.specs.Table.{Map, Text, get, same_text}
use Rattle.cat_collections.proofs.Tables.{or_true, same_self, text_antisymmetric, text_total}
use Rattle.cat_schema.specs.Rules.{breaches}
use Rattle.cat_target.specs.Targets.{read_names, targets_of, unless_faulty}
use Rattle.cat_target.specs.declared.target.Target.{Target}
use Rattle.cat_process.specs.Process.{content_from, contents_of, entity_targets, is_location, wanted_of}

-- the shelves have the same under these names
abbrev Agree : Map Text → Map Text → List Text → Type 0
Agree m n names = (t : Text) → list_any (same_text t) names ≡ true → get m t ≡ get n t

module _ (m n : Map Text) where
  targets_agree : (ts : List Target) → Agree m n (map (λ t. t.name) ts) → map (content_from m) ts ≡ map (content_from n) ts
  targets_agree [] h = refl
  targets_agree (t ∷ ts) h =
      let here : get m t.name ≡ get n t.name = h t.name (ap (λ b. b || list_any (same_text t.name) (map (λ (u : Target). u.name) ts)) (same_self text_total text_antisymmetric t.name)) in
      let rest = targets_agree ts (λ q e. h q (or_true (same_text q t.name) _ e)) in
      λ i. record { name = t.name; body = here i } ∷ rest i

  either_agrees : (b : Bool) (ts : List Target) → map (content_from m) ts ≡ map (content_from n) ts → map (content_from m) (if b then ts else []) ≡ map (content_from n) (if b then ts else [])
  either_agrees true ts h = h
  either_agrees false ts h = refl

  of_location : (b : Bool) (d : Data) → map (content_from m) (unless_faulty (targets_of d)) ≡ map (content_from n) (unless_faulty (targets_of d))
      → map (content_from m) (unless_faulty (if b then targets_of d else Ok [])) ≡ map (content_from n) (unless_faulty (if b then targets_of d else Ok []))
  of_location true d h = h
  of_location false d h = refl

-- an entity has the same contents over both
pub contents_agree : (d : Data) (m n : Map Text) → ((t : Text) → list_any (same_text t) (read_names d) ≡ true → get m t ≡ get n t) → contents_of d m ≡ contents_of d n
unfolding contents_of wanted_of read_names
contents_agree d m n h =
    either_agrees m n (length (breaches d) == 0) (unless_faulty (entity_targets d)) (of_location m n (is_location d) d (targets_agree m n (unless_faulty (targets_of d)) h))
