-- The kinds by their names, and what the spec of each must have.
use Rattle.std.specs.Prelude.{ℕ, List, [], ◌∷◌, Bool, true, false, Option, Some, None, bytes_eq, if◌then◌else◌, codes}
use Rattle.cat_schema.specs.declared.kind.Kind.{Kind}
use Rattle.cat_schema.specs.declared.kind.Kind.TheVariants.{Component, Api, Resource, System, Domain, Group, User, Location}

-- the kind of a name
abbrev pub kind_named : List ℕ → Option Kind
kind_named s =
    if bytes_eq s (codes "Component") then Some Component
    else (if bytes_eq s (codes "API") then Some Api
    else (if bytes_eq s (codes "Resource") then Some Resource
    else (if bytes_eq s (codes "System") then Some System
    else (if bytes_eq s (codes "Domain") then Some Domain
    else (if bytes_eq s (codes "Group") then Some Group
    else (if bytes_eq s (codes "User") then Some User
    else (if bytes_eq s (codes "Location") then Some Location
    else None)))))))

-- both are the same kind
abbrev pub same_kind : Kind → Kind → Bool
same_kind Component Component = true
same_kind Api Api = true
same_kind Resource Resource = true
same_kind System System = true
same_kind Domain Domain = true
same_kind Group Group = true
same_kind User User = true
same_kind Location Location = true
same_kind _ _ = false

-- the texts that a kind requires
abbrev pub required_texts : Kind → List (List ℕ)
required_texts Component = codes "type" ∷ codes "lifecycle" ∷ codes "owner" ∷ []
required_texts Api = codes "type" ∷ codes "lifecycle" ∷ codes "owner" ∷ codes "definition" ∷ []
required_texts Resource = codes "type" ∷ codes "owner" ∷ []
required_texts System = codes "owner" ∷ []
required_texts Domain = codes "owner" ∷ []
required_texts Group = codes "type" ∷ []
required_texts User = []
required_texts Location = []

-- the lists that a kind requires
abbrev pub required_lists : Kind → List (List ℕ)
required_lists Group = codes "children" ∷ []
required_lists _ = []
