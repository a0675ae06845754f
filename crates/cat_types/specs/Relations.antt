-- The order of relations is total, only equal relations tie, and their sources don't fall along it.
use Rattle.std.proofs.Common.{◌≡◌, refl, sym, ap, ◌∙◌, true≢false, Ordering, Less, Equal, Greater}
use Rattle.std.specs.Prelude.{if◌then◌else◌, bytes_eq, codes}
use Rattle.std.specs.Ordering.{is_eq, ordering_then}
use Rattle.std.specs.Cmp.{IsTotalOrder, then_total, on_total}
use Rattle.std.specs.FinMap.{IsAntisymmetric}
use Rattle.cat_collections.specs.Table.{Text, text_total, text_antisymmetric}
use Rattle.cat_types.specs.Relation.{kind_text, relation_cmp}
use Rattle.cat_types.specs.declared.relation.RelKind.{RelKind}
use Rattle.cat_types.specs.declared.relation.RelKind.TheVariants.{OwnedBy, OwnerOf, PartOf, HasPart, ProvidesApi, ApiProvidedBy, ConsumesApi, ApiConsumedBy, DependsOn, DependencyOf, ChildOf, ParentOf, HasMember, MemberOf}

first_equal : (a b : Ordering) → ordering_then a b ≡ Equal → a ≡ Equal
first_equal Less b e = e
first_equal Equal b e = refl
first_equal Greater b e = e

second_equal : (a b : Ordering) → ordering_then a b ≡ Equal → b ≡ Equal
second_equal Less b e = absurd (true≢false (sym (ap is_eq e)))
second_equal Equal b e = e
second_equal Greater b e = absurd (true≢false (sym (ap is_eq e)))

-- the kind of a name
abbrev kind_from : Text → RelKind
kind_from s =
    if bytes_eq s (codes "ownedBy") then OwnedBy
    else (if bytes_eq s (codes "ownerOf") then OwnerOf
    else (if bytes_eq s (codes "partOf") then PartOf
    else (if bytes_eq s (codes "hasPart") then HasPart
    else (if bytes_eq s (codes "providesApi") then ProvidesApi
    else (if bytes_eq s (codes "apiProvidedBy") then ApiProvidedBy
    else (if bytes_eq s (codes "consumesApi") then ConsumesApi
    else (if bytes_eq s (codes "apiConsumedBy") then ApiConsumedBy
    else (if bytes_eq s (codes "dependsOn") then DependsOn
    else (if bytes_eq s (codes "dependencyOf") then DependencyOf
    else (if bytes_eq s (codes "childOf") then ChildOf
    else (if bytes_eq s (codes "parentOf") then ParentOf
    else (if bytes_eq s (codes "hasMember") then HasMember
    else MemberOf))))))))))))

kind_back : (k : RelKind) → kind_from (kind_text k) ≡ k
kind_back OwnedBy = refl
kind_back OwnerOf = refl
kind_back PartOf = refl
kind_back HasPart = refl
kind_back ProvidesApi = refl
kind_back ApiProvidedBy = refl
kind_back ConsumesApi = refl
kind_back ApiConsumedBy = refl
kind_back DependsOn = refl
kind_back DependencyOf = refl
kind_back ChildOf = refl
kind_back ParentOf = refl
kind_back HasMember = refl
kind_back MemberOf = refl

kind_same : (k l : RelKind) → kind_text k ≡ kind_text l → k ≡ l
kind_same k l e = sym (kind_back k) ∙ (ap kind_from e ∙ kind_back l)

pub relation_total : IsTotalOrder relation_cmp
relation_total =
    then_total (on_total (λ x. x.source) text_total)
    (then_total (on_total (λ x. kind_text x.kind) text_total) (on_total (λ x. x.target) text_total))

pub relation_antisymmetric : IsAntisymmetric relation_cmp
relation_antisymmetric x y e =
    let source : x.source ≡ y.source = text_antisymmetric x.source y.source (first_equal _ _ e) in
    let rest = second_equal _ _ e in
    let kind : x.kind ≡ y.kind = kind_same x.kind y.kind (text_antisymmetric _ _ (first_equal _ _ rest)) in
    let target : x.target ≡ y.target = text_antisymmetric x.target y.target (second_equal _ _ rest) in
    λ i. record { source = source i; kind = kind i; target = target i }
