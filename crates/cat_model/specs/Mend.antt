-- The rules of holding where the rows of one origin change: what such a change cuts off, and what then claims. Each definition
-- looks at few rows alone: those of an origin, those of a reference, the row of an arrival.
use Rattle.std.specs.Prelude.{◌≡◌, ℕ, zero, suc, ◌<◌, ◌≤◌, Bool, true, false, cond, not, nat_eq, nat_le, List, [], ◌∷◌, ◌++◌, length, is_none}
use Rattle.std.specs.declared.option.Option.{Option}
use Rattle.std.specs.declared.option.Option.TheVariants.{None, Some}
use Rattle.std.specs.Ordering.{nat_cmp}
use Rattle.std.specs.List.{filter, filter_map, flat_map, list_any}
use Rattle.cat_collections.specs.Table.{text_cmp, same_text, get, over}
use Rattle.cat_model.specs.Catalogue.{Ref, Rows, Holders, row_at, held, may_offer, claims, hold}
use Rattle.cat_model.specs.declared.types.Origin.{Origin}
use Rattle.cat_model.specs.declared.types.Row.{Row}
use Rattle.cat_model.specs.declared.types.Origin.TheVariants.{Provider, Entity}
use Rattle.cat_model.specs.declared.types.State.{State}
use Rattle.cat_model.specs.Rows.{given, named, same_origin}
use Rattle.cat_model.specs.Sound.{AreHolders}

-- ---- what holds

-- whether this arrival holds
abbrev pub is_holder : ℕ → Option ℕ → Bool
is_holder a None = false
is_holder a (Some b) = nat_eq a b

-- the reference of a row, where the row holds it
abbrev pub held_by : Holders → ℕ → Option Row → Option Ref
held_by holders a None = None
held_by holders a (Some row) = cond (is_holder a (get holders row.reference)) (Some row.reference) None

-- ---- what is cut off

-- the reference of a row, where the row held it and is gone
abbrev pub lost_by : Rows → Rows → Holders → ℕ → Option Ref
lost_by before rows holders a = cond (is_none (row_at rows a)) (held_by holders a (row_at before a)) None

-- the references that the origin's rows held and that have lost them
abbrev pub lost : Origin → Rows → Rows → Holders → List Ref
lost o before rows holders = filter_map (lost_by before rows holders) (given before o)

-- the references held by rows that e gave
abbrev pub children : Rows → Holders → Ref → List Ref
children rows holders e = filter_map (λ a. held_by holders a (row_at rows a)) (given rows (Entity e))

-- these references, and those that hang below them by fewer than n steps
abbrev pub below : ℕ → Rows → Holders → List Ref → List Ref
below zero rows holders refs = []
below (suc n) rows holders refs = refs ++ below n rows holders (flat_map (children rows holders) refs)

-- the references that have lost their rows, and all that hangs below them
abbrev pub cut_off : Origin → Rows → Rows → Holders → List Ref
cut_off o before rows holders = below (length holders) rows holders (lost o before rows holders)

-- the holders without these references
abbrev pub released : List Ref → Holders → Holders
released refs holders = over text_cmp holders (λ r a. cond (list_any (same_text r) refs) None (Some a))

-- ---- what then claims

-- the new rows of the origin, and the rows of these references
abbrev pub candidates : Origin → ℕ → Rows → List Ref → List ℕ
candidates o next rows refs = filter (nat_le next) (given rows o) ++ flat_map (named rows) refs

-- the lesser of two, if there are two
abbrev pub lesser : ℕ → Option ℕ → ℕ
lesser a None = a
lesser a (Some b) = cond (nat_le a b) a b

-- the least of these that passes
abbrev pub least : (ℕ → Bool) → List ℕ → Option ℕ
least p [] = None
least p (a ∷ rest) = cond (p a) (Some (lesser a (least p rest))) (least p rest)

-- the rows that the reference of a row gave
abbrev pub opened : Rows → Option Row → List ℕ
opened rows None = []
opened rows (Some row) = given rows (Entity row.reference)

-- as long as one of the waiting rows may claim its reference, the least of them does, and what its reference gave waits too;
-- n is how many claim at most
abbrev pub mend : ℕ → Rows → List ℕ → Holders → Holders
mend zero rows waiting holders = holders
mend (suc n) rows waiting holders =
    elim (least (λ a. claims holders (row_at rows a)) waiting) [
      | None ↦ holders
      | Some a ↦ mend n rows (opened rows (row_at rows a) ++ waiting) (hold a (row_at rows a) holders)
    ]

-- the holders once the rows of o are replaced, those from the arrival `next` on being new: what is cut off is released, and then
-- the new rows and those of what is cut off claim
abbrev pub mended : Origin → Rows → ℕ → Rows → Holders → Holders
mended o before next rows holders =
    let cut = cut_off o before rows holders in
    mend (length rows) rows (candidates o next rows cut) (released cut holders)

-- ---- what then stands

-- the references that were cut off and aren't held again
abbrev pub gone : List Ref → Holders → List Ref
gone cut after = filter (λ r. not (held after r)) cut

-- whether an origin is one of these references
abbrev pub is_of : List Ref → Origin → Bool
is_of refs (Provider p) = false
is_of refs (Entity e) = list_any (same_text e) refs

-- the rows but those that these references gave
abbrev pub left_by : List Ref → Rows → Rows
left_by refs rows = over nat_cmp rows (λ a row. cond (is_of refs row.origin) None (Some row))

-- ---- which changes of rows these are

-- there was a row with this arrival, of the same origin and reference
pub record WasThere (before : Rows) (a : ℕ) (row : Row) : Type 0 where
  pub was : Row
  pub at : row_at before a ≡ Some was
  pub same_origin : was.origin ≡ row.origin
  pub same_reference : was.reference ≡ row.reference

-- the rows of o are replaced: those from `next` on are new, and the others were there before
pub record IsReplaced (o : Origin) (before : Rows) (next : ℕ) (rows : Rows) : Type 0 where
  pub below : (a : ℕ) (row : Row) → row_at before a ≡ Some row → a < next
  pub others : (a : ℕ) (row : Row) → row_at before a ≡ Some row → same_origin o row.origin ≡ false → row_at rows a ≡ Some row
  pub were : (a : ℕ) (row : Row) → row_at rows a ≡ Some row → a < next → WasThere before a row
  pub fresh : (a : ℕ) (row : Row) → row_at rows a ≡ Some row → next ≤ a → row.origin ≡ o

-- each origin is a provider or a held reference
abbrev pub AreOpen : Rows → Holders → Type 0
AreOpen rows holders = (a : ℕ) (row : Row) → row_at rows a ≡ Some row → may_offer holders row.origin ≡ true

-- the holders of a state are right, its rows are below the next arrival, and their origins are providers or held
pub record IsReady (m : State) : Type 0 where
  pub holders : AreHolders m.rows m.holders
  pub below : (a : ℕ) (row : Row) → row_at m.rows a ≡ Some row → a < m.arrival
  pub opens : AreOpen m.rows m.holders
