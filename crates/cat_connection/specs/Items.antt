-- The messages of a connection, one after another.
use Rattle.std.specs.Prelude.{◌≡◌, ⊤, ℕ, Bool, true, List, [], ◌∷◌, drop, MatchBool}
use Rattle.cat_http.specs.declared.message.Message.{Message}
use Rattle.cat_http.specs.declared.message.Next.TheVariants.{Whole, More}
use Rattle.cat_http.specs.declared.message.Rule.{Rule}
use Rattle.cat_http.specs.Message.{Stands, refused}

-- A message is whole, or it is refused by a rule.
pub data Item : Type 0 where
  message : Message → Item
  refusal : Rule → Item

-- the connection ends after a refused message, and after one that says so
abbrev pub is_last : Item → Bool
is_last (message m) = m.last
is_last (refusal rule) = true

-- The item stands at the front of the bytes. A whole message takes so many of them.
abbrev pub StandsFirst : List ℕ → Item → ℕ → Type 0
StandsFirst bytes (message m) used = Stands bytes (Whole m used)
StandsFirst bytes (refusal rule) used = Stands bytes (refused rule)

-- These are the messages of the bytes, up to the one that ends the connection, or to a rest that is no whole message.
abbrev pub AreMessages : List ℕ → List Item → Type 0
AreMessages bytes [] = Stands bytes More
AreMessages bytes (item ∷ items) = (used : ℕ) × StandsFirst bytes item used × MatchBool (is_last item) (items ≡ []) (AreMessages (drop used bytes) items)

-- These are the first messages of the bytes, or all.
abbrev pub AreFirst : List ℕ → List Item → Type 0
AreFirst bytes [] = ⊤
AreFirst bytes (item ∷ items) = (used : ℕ) × StandsFirst bytes item used × MatchBool (is_last item) (items ≡ []) (AreFirst (drop used bytes) items)

-- The bytes have one list of messages.
abbrev pub HasOneList : List ℕ → Type 0
HasOneList bytes = (a b : List Item) → AreMessages bytes a → AreMessages bytes b → a ≡ b
