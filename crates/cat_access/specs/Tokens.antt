-- Which messages tokens let in.
use Rattle.std.specs.Prelude.{ℕ, Bool, true, false, List, [], ◌∷◌, take, drop, Option, None, Some, codes, bytes_eq, if◌then◌else◌}
use Rattle.sha2.specs.Sha256.{sha256}
use Rattle.cat_http.specs.Head.{same_but_case}
use Rattle.cat_http.specs.declared.message.Field.{Field}
use Rattle.cat_http.specs.declared.message.Field.TheVariants.{Absent, Once, Often}
use Rattle.cat_access.specs.declared.token.Right.{Right}
use Rattle.cat_access.specs.declared.token.Right.TheVariants.{Read, Write}
use Rattle.cat_access.specs.declared.token.Token.{Token}
use Rattle.cat_access.specs.declared.token.Verdict.{Verdict}
use Rattle.cat_access.specs.declared.token.Verdict.TheVariants.{Granted, Unknown, Refused}

-- what follows `Bearer`, in any case, and a space
abbrev pub after_scheme : List ℕ → Option (List ℕ)
after_scheme value = if same_but_case (take 7 value) (codes "bearer ") then Some (drop 7 value) else None

-- the token that a field brings, where it stands once
abbrev pub bearer : Field → Option (List ℕ)
bearer (Once value) = after_scheme value
bearer Absent = None
bearer Often = None

-- what the first token with this digest leaves to do
abbrev pub right_by : List Token → List ℕ → Option Right
right_by [] digest = None
right_by (token ∷ tokens) digest = if bytes_eq token.digest digest then Some token.right else right_by tokens digest

-- what the token that a message brings leaves to do
abbrev pub right_in : List Token → Option (List ℕ) → Option Right
right_in tokens None = None
right_in tokens (Some secret) = right_by tokens (sha256 secret)

-- a token that is known lets in what changes nothing, and one that leaves to write lets in all
abbrev pub verdict_by : Option Right → Bool → Verdict
verdict_by None changes = Unknown
verdict_by (Some Write) changes = Granted
verdict_by (Some Read) true = Refused
verdict_by (Some Read) false = Granted

-- whether a message is let in that brings this field, and may change something or not
unfoldable pub verdict_of : List Token → Field → Bool → Verdict
verdict_of tokens authorization changes = verdict_by (right_in tokens (bearer authorization)) changes
