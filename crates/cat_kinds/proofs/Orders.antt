-- The order of relations, and the lists that stand in it.
use Rattle.std.proofs.Common.{◌≡◌, Bool, true, List, Ordering, ◌∙◌, sym}
use Rattle.std.specs.Ordering.{eq_by_cmp}
use Rattle.std.specs.List.{list_any, Contains, dedup}
use Rattle.std.specs.List.Sorted.{IsPermutation, IsSorted, IsSortedBy, IsStrictlySortedBy}
use Rattle.std.specs.Cmp.{IsStrictWeakOrder}
use Rattle.std.specs.Fn.{Called, ComparesAs}
use denote.Param.Members.{Mut}
use denote.Ref.{Bor}
use Rattle.cat_types.specs.Relation.{relation_cmp}
pub use Rattle.cat_types.specs.Relations.{relation_total, relation_antisymmetric}
use Rattle.cat_types.specs.declared.relation.Relation.{Relation}
use Rattle.cat_collections.proofs.Orders as general
use Rattle.cat_kinds.specs.Kinds.{in_order}

abbrev pub same : Relation → Relation → Bool
same = eq_by_cmp relation_cmp

pub has_from_contains : (xs : List Relation) (x : Relation) → Contains xs x → list_any (same x) xs ≡ true
has_from_contains = general.has_from_contains relation_total relation_antisymmetric

pub contains_from_has : (xs : List Relation) (x : Relation) → list_any (same x) xs ≡ true → Contains xs x
contains_from_has = general.contains_from_has relation_total relation_antisymmetric

-- in order stands just what the list has
pub has-in_order : (x : Relation) (xs : List Relation) → list_any (same x) (in_order xs) ≡ list_any (same x) xs
has-in_order = general.has-in_order relation_total relation_antisymmetric

-- what a sort and a pass over neighbours leave
pub in_order_from_sort : (xs ys zs : List Relation) → IsPermutation xs ys → IsSorted relation_cmp ys → zs ≡ dedup same ys → zs ≡ in_order xs
in_order_from_sort = general.in_order_from_sort relation_total relation_antisymmetric

-- what `sort_by` ensures, where each call compares two relations
pub sorted_from_sort_by : {F : Type 0} {g : Mut F (Bor Relation × (Bor Relation × Unit {0})) Ordering} {f : F} (xs : List Relation)
    → ((lt : Relation → Relation → Bool) → IsStrictWeakOrder lt → ComparesAs g lt f → IsSortedBy lt xs)
    → ((a : Bor Relation × (Bor Relation × Unit {0})) (r : Ordering) (f' : F) → Called g f a r f' → (r ≡ relation_cmp a.0.now a.1.0.now) × (f' ≡ f)) → IsSorted relation_cmp xs
sorted_from_sort_by xs up h = general.sorted_from_sort_by relation_total relation_antisymmetric xs up h

pub in_order-rises : (xs : List Relation) → IsStrictlySortedBy relation_cmp (in_order xs)
in_order-rises = general.in_order-rises relation_total relation_antisymmetric

pub in_order-keeps : (xs : List Relation) (x : Relation) → Contains xs x → Contains (in_order xs) x
in_order-keeps xs x h = contains_from_has (in_order xs) x (has-in_order x xs ∙ has_from_contains xs x h)

pub in_order-adds_none : (xs : List Relation) (x : Relation) → Contains (in_order xs) x → Contains xs x
in_order-adds_none xs x h = contains_from_has xs x (sym (has-in_order x xs) ∙ has_from_contains (in_order xs) x h)
