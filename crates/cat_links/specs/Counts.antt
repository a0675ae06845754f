-- How many emitters emit each relation, by source.
use Rattle.std.specs.Prelude.{◌≡◌, ℕ, ◌+◌, ◌-◌, ◌<◌, Bool, true, cond, List, [], ◌∷◌, nat_lt, unwrap_or}
use Rattle.std.specs.declared.option.Option.TheVariants.{Some}
use Rattle.std.specs.FinMap.Entries.{is_sorted}
use Rattle.cat_types.specs.declared.relation.Relation.{Relation}
use Rattle.cat_types.specs.Relation.{relation_cmp}
use Rattle.cat_collections.specs.Table.{Map, Text, find, get, put, text_cmp}
use Rattle.cat_links.specs.Links.{Emitted, has, is_empty}
use Rattle.cat_collections.specs.Rows.{without}

-- the counts of the relations of one source, in order
abbrev pub SourceCounts : Type 0
SourceCounts = List (Relation × ℕ)

-- the counts of each source that has relations
abbrev pub Counts : Type 0
Counts = Map SourceCounts

-- the count of a relation among those of its source: 0, where it isn't there
abbrev pub count_in : SourceCounts → Relation → ℕ
count_in own x = unwrap_or (find relation_cmp x own) 0

-- the counts of a source: none, where it isn't there
abbrev pub counts_from : Counts → Text → SourceCounts
counts_from counts source = unwrap_or (get counts source) []

-- the count of a relation
abbrev pub count_at : Counts → Relation → ℕ
count_at counts x = count_in (counts_from counts x.source) x

-- the counts with these for a source; a source without counts leaves
abbrev pub with_counts : Text → SourceCounts → Counts → Counts
with_counts source own counts = cond (is_empty own) (without text_cmp source counts) (put text_cmp source own counts)

-- the counts of a source with this relation counted once more
abbrev pub one_more_in : Relation → SourceCounts → SourceCounts
one_more_in x own = put relation_cmp x (count_in own x + 1) own

-- the counts of a source with this relation counted once less; what comes to 0 leaves
abbrev pub one_less_in : Relation → SourceCounts → SourceCounts
one_less_in x own = cond (nat_lt 1 (count_in own x)) (put relation_cmp x (count_in own x - 1) own) (without relation_cmp x own)

-- the counts with this relation counted once more
abbrev pub one_more : Relation → Counts → Counts
one_more x counts = with_counts x.source (one_more_in x (counts_from counts x.source)) counts

-- the counts with this relation counted once less
abbrev pub one_less : Relation → Counts → Counts
one_less x counts = with_counts x.source (one_less_in x (counts_from counts x.source)) counts

-- the counts with each of these relations counted once more
abbrev pub gained : List Relation → Counts → Counts
gained [] counts = counts
gained (x ∷ xs) counts = gained xs (one_more x counts)

-- the counts with each of these relations counted once less
abbrev pub lost : List Relation → Counts → Counts
lost [] counts = counts
lost (x ∷ xs) counts = lost xs (one_less x counts)

-- 1 where it is so, else 0
abbrev pub one_if : Bool → ℕ
one_if b = cond b 1 0

-- how many emitters emit a relation
abbrev pub emitters_of : Emitted → Relation → ℕ
emitters_of [] x = 0
emitters_of (e ∷ es) x = one_if (has x e.1) + emitters_of es x

-- the counts are of relations of this source, in order, each with at least one emitter
pub record AreOfSource (source : Text) (own : SourceCounts) : Type 0 where
  pub order : is_sorted relation_cmp own ≡ true
  pub from : (x : Relation) (n : ℕ) → find relation_cmp x own ≡ Some n → x.source ≡ source
  pub positive : (x : Relation) (n : ℕ) → find relation_cmp x own ≡ Some n → 0 < n

-- each relation that is emitted is counted under its source, with the number of its emitters
pub record AreCounts (m : Emitted) (counts : Counts) : Type 0 where
  pub emitters : is_sorted text_cmp m ≡ true
  pub own : (source : Text) → AreOfSource source (counts_from counts source)
  pub exact : (x : Relation) → count_at counts x ≡ emitters_of m x
