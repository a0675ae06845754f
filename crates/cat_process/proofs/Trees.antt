-- Edits of trees, one after the other.
use Rattle.std.proofs.Common.{◌≡◌, ℕ, List, ap, ◌∙◌, codes}
use Rattle.cat_tree.specs.Data.{Data, words}
use Rattle.cat_tree.specs.Edit.{with_key}
use Rattle.cat_process.specs.Offers.{location_key, origin_key, located}

pub located_by : (origin name source place : List ℕ) (annotations placed whole : Data) → place ≡ name → source ≡ origin → placed ≡ with_key location_key (words place) annotations → whole ≡ with_key origin_key (words source) placed → whole ≡ located origin name annotations
located_by origin name source place annotations placed whole p s h k =
    k ∙ (λ i. with_key origin_key (words (s i)) (h i)) ∙ ap (λ n. with_key origin_key (words origin) (with_key location_key (words n) annotations)) p

pub default_by : (namespace : List ℕ) (metadata copied grown tree whole_copied whole : Data) → namespace ≡ codes "default" → copied ≡ metadata → grown ≡ with_key (codes "namespace") (words namespace) copied → whole_copied ≡ tree → whole ≡ with_key (codes "metadata") grown whole_copied → whole ≡ with_key (codes "metadata") (with_key (codes "namespace") (words (codes "default")) metadata) tree
default_by namespace metadata copied grown tree whole_copied whole n m g t w =
    w ∙ (λ i. with_key (codes "metadata") (g i) (t i))
    ∙ ap (λ d. with_key (codes "metadata") d tree) (λ i. with_key (codes "namespace") (words (n i)) (m i))
