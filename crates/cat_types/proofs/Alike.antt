-- The tests of equality are true of equals, and of equals alone.
use Rattle.std.proofs.Common.{◌≡◌, ℕ, Bool, true, false, ◌&&◌, ◌↔◌, IsTrue, List, [], ◌∷◌, refl, sym, ap, ◌∙◌, true≢false, nat_eq}
use Rattle.std.specs.declared.option.Option.{Option}
use Rattle.std.specs.declared.option.Option.TheVariants.{None, Some}
use Rattle.std.proofs.Math.ListN.{get_or}
use Rattle.std.proofs.lemmas.Bool.Decides.{Decides-eqb}
use mathlib.Core.Bool.{beq}
use Rattle.cat_tree.specs.Same.{is_same}
use Rattle.cat_tree.proofs.Equality.{is_same-true, is_same-itself}
use Rattle.cat_collections.specs.Table.{Text, same_text}
use Rattle.cat_collections.proofs.Tables.{text_total, text_antisymmetric, same_is, same_self, and_first, and_second}
use Rattle.cat_types.specs.Relations.{relation_antisymmetric, relation_total}
use Rattle.cat_types.specs.declared.issue.Issue.{Issue}
use Rattle.cat_types.specs.declared.issue.IssueName.{IssueName}
use Rattle.cat_types.specs.declared.issue.IssueName.TheVariants.{SchemaFault, ReferenceFault, TargetFault, MissingTarget, ShelfFault, DuplicateOffer}
use Rattle.cat_types.specs.declared.issue.Level.{Level}
use Rattle.cat_types.specs.declared.issue.Level.TheVariants.{Error, Warning}
use Rattle.cat_types.specs.declared.parts.Parts.{Parts}
use Rattle.cat_types.specs.declared.relation.Relation.{Relation}
use Rattle.cat_types.specs.declared.work.Content.{Content}
use Rattle.cat_types.specs.declared.work.Work.{Work}
use Rattle.cat_types.specs.Same.{name_rank, level_rank, same_list, same_option_text, same_content, same_relation, same_issue, same_work, same_parts}

-- a test that is true of equals alone, and of each thing and itself
abbrev IsTest : {A : Type 0} → (A → A → Bool) → Type 0
IsTest {A} same = ((x y : A) → same x y ≡ true → x ≡ y) × ((x : A) → same x x ≡ true)

both : (a b : Bool) → a ≡ true → b ≡ true → (a && b) ≡ true
both true b p q = q
both false b p q = p

list_test : {A : Type 0} (same : A → A → Bool) → IsTest same → IsTest (same_list same)
list_test {A} same t = (is, self)
  where
    is : (xs ys : List A) → same_list same xs ys ≡ true → xs ≡ ys
    is [] [] h = refl
    is [] (y ∷ ys) h = absurd (true≢false (sym h))
    is (x ∷ xs) [] h = absurd (true≢false (sym h))
    is (x ∷ xs) (y ∷ ys) h =
        let a = t.0 x y (and_first (same x y) _ h) in
        let b = is xs ys (and_second (same x y) _ h) in
        λ i. a i ∷ b i

    self : (xs : List A) → same_list same xs xs ≡ true
    self [] = refl
    self (x ∷ xs) = both _ _ (t.1 x) (self xs)

text_test : IsTest same_text
text_test = (same_is text_total text_antisymmetric, same_self text_total text_antisymmetric)

option_is : (x y : Option Text) → same_option_text x y ≡ true → x ≡ y
option_is None None e = refl
option_is None (Some y) e = absurd (true≢false (sym e))
option_is (Some x) None e = absurd (true≢false (sym e))
option_is (Some x) (Some y) e = ap Some (text_test.0 x y e)

option_self : (x : Option Text) → same_option_text x x ≡ true
option_self None = refl
option_self (Some x) = text_test.1 x

content_is : (x y : Content) → same_content x y ≡ true → x ≡ y
content_is x y e =
    let a = text_test.0 x.name y.name (and_first (same_text x.name y.name) _ e) in
    let b = option_is x.body y.body (and_second (same_text x.name y.name) _ e) in
    λ i. record { name = a i; body = b i }

content_test : IsTest same_content
content_test = (content_is, λ x. both _ _ (text_test.1 x.name) (option_self x.body))

nat_is : (x y : ℕ) → nat_eq x y ≡ true → x ≡ y
nat_is x y e = (Decides-eqb x y).0 e

nat_self : (x : ℕ) → nat_eq x x ≡ true
nat_self x = (Decides-eqb x x).1 refl

abbrev name_at : ℕ → IssueName
name_at n = get_or (SchemaFault ∷ ReferenceFault ∷ TargetFault ∷ MissingTarget ∷ ShelfFault ∷ []) n DuplicateOffer

name_back : (n : IssueName) → name_at (name_rank n) ≡ n
name_back SchemaFault = refl
name_back ReferenceFault = refl
name_back TargetFault = refl
name_back MissingTarget = refl
name_back ShelfFault = refl
name_back DuplicateOffer = refl

name_is : (k l : IssueName) → nat_eq (name_rank k) (name_rank l) ≡ true → k ≡ l
name_is k l e = sym (name_back k) ∙ (ap name_at (nat_is _ _ e) ∙ name_back l)

abbrev level_at : ℕ → Level
level_at n = get_or (Error ∷ []) n Warning

level_back : (l : Level) → level_at (level_rank l) ≡ l
level_back Error = refl
level_back Warning = refl

level_is : (k l : Level) → nat_eq (level_rank k) (level_rank l) ≡ true → k ≡ l
level_is k l e = sym (level_back k) ∙ (ap level_at (nat_is _ _ e) ∙ level_back l)

relation_test : IsTest same_relation
relation_test = (same_is relation_total relation_antisymmetric, same_self relation_total relation_antisymmetric)

issue_is : (x y : Issue) → same_issue x y ≡ true → x ≡ y
issue_is x y e =
    let front = and_first (nat_eq (level_rank x.level) (level_rank y.level) && nat_eq (name_rank x.name) (name_rank y.name)) _ e in
    let a = level_is x.level y.level (and_first (nat_eq (level_rank x.level) (level_rank y.level)) _ front) in
    let b = name_is x.name y.name (and_second (nat_eq (level_rank x.level) (level_rank y.level)) _ front) in
    let c = text_test.0 x.message y.message (and_second (nat_eq (level_rank x.level) (level_rank y.level) && nat_eq (name_rank x.name) (name_rank y.name)) _ e) in
    λ i. record { level = a i; name = b i; message = c i }

issue_test : IsTest same_issue
issue_test = (issue_is, λ x. both _ _ (both _ _ (nat_self (level_rank x.level)) (nat_self (name_rank x.name))) (text_test.1 x.message))

bool_is : (b c : Bool) → beq b c ≡ true → b ≡ c
bool_is true true h = refl
bool_is false false h = refl
bool_is true false h = absurd (true≢false (sym h))
bool_is false true h = absurd (true≢false (sym h))

bool_self : (b : Bool) → beq b b ≡ true
bool_self true = refl
bool_self false = refl

pub work_is : (x y : Work) → same_work x y ≡ true → x ≡ y
work_is x y e =
    let a = is_same-true x.tree y.tree (and_first (is_same x.tree y.tree) _ e) in
    let b = (list_test same_content content_test).0 x.contents y.contents (and_second (is_same x.tree y.tree) _ e) in
    λ i. record { tree = a i; contents = b i }

pub work_self : (x : Work) → same_work x x ≡ true
work_self x = both _ _ (is_same-itself x.tree) ((list_test same_content content_test).1 x.contents)

pub parts_is : (x y : Parts) → same_parts x y ≡ true → x ≡ y
parts_is x y e =
    let t3 = and_first (((is_same x.entity y.entity && nat_eq x.number y.number) && beq x.orphan y.orphan) && same_list same_relation x.relations y.relations) _ e in
    let t2 = and_first ((is_same x.entity y.entity && nat_eq x.number y.number) && beq x.orphan y.orphan) _ t3 in
    let t1 = and_first (is_same x.entity y.entity && nat_eq x.number y.number) _ t2 in
    let a = is_same-true x.entity y.entity (and_first (is_same x.entity y.entity) _ t1) in
    let b = nat_is x.number y.number (and_second (is_same x.entity y.entity) _ t1) in
    let c = bool_is x.orphan y.orphan (and_second (is_same x.entity y.entity && nat_eq x.number y.number) _ t2) in
    let d = (list_test same_relation relation_test).0 x.relations y.relations (and_second ((is_same x.entity y.entity && nat_eq x.number y.number) && beq x.orphan y.orphan) _ t3) in
    let f = (list_test same_issue issue_test).0 x.issues y.issues (and_second (((is_same x.entity y.entity && nat_eq x.number y.number) && beq x.orphan y.orphan) && same_list same_relation x.relations y.relations) _ e) in
    λ i. record { entity = a i; number = b i; orphan = c i; relations = d i; issues = f i }

pub parts_self : (x : Parts) → same_parts x x ≡ true
parts_self x =
    both _ _ (both _ _ (both _ _ (both _ _ (is_same-itself x.entity) (nat_self x.number)) (bool_self x.orphan)) ((list_test same_relation relation_test).1 x.relations)) ((list_test same_issue issue_test).1 x.issues)

-- the test of works is true exactly of equals
pub work_exact : (x y : Work) → IsTrue (same_work x y) ↔ (x ≡ y)
work_exact x y = (work_is x y, λ e. ap (same_work x) (sym e) ∙ work_self x)

-- the test of parts is true exactly of equals
pub parts_exact : (x y : Parts) → IsTrue (same_parts x y) ↔ (x ≡ y)
parts_exact x y = (parts_is x y, λ e. ap (same_parts x) (sym e) ∙ parts_self x)
