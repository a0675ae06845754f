-- What a path names.
use Rattle.std.specs.Prelude.{ℕ, List, [], Option, None, Some, if◌then◌else◌, Result, Ok, Err}
use Rattle.std.specs.Str.{is_utf8}
use Rattle.percent_encoding.specs.Percent.{percent_decode}
use Rattle.cat_types.specs.Reading.{cut}
use Rattle.cat_collections.specs.Table.{Text}
use Rattle.cat_page.specs.Files.{file_at}
use Rattle.cat_page.specs.declared.file.File.{File}
use Rattle.cat_requests.specs.Routes.{route_of}
use Rattle.cat_requests.specs.declared.path.Resource.{Resource}
use Rattle.cat_requests.specs.declared.path.Resource.TheVariants as resource
use Rattle.cat_requests.specs.declared.refusal.Refusal.{Refusal}
use Rattle.cat_requests.specs.declared.refusal.Refusal.TheVariants.{Route as NoRoute}
use Rattle.cat_requests.specs.declared.routes.Route.{Route}
use Rattle.cat_requests.specs.declared.routes.Route.TheVariants as route

-- ---- pieces

-- what stands before the first slash and after it, if there is one
abbrev pub halves_by : Option (List ℕ) × List ℕ → Option (List ℕ × List ℕ)
halves_by (None, s) = None
halves_by (Some first, rest) = Some (first, rest)

-- The two parts of a text that its first slash parts, if it has one.
abbrev pub halves : List ℕ → Option (List ℕ × List ℕ)
halves s = halves_by (cut 47 s)

-- What stands before the first slash, or the whole text where there is none.
abbrev pub front_by : List ℕ → Option (List ℕ × List ℕ) → List ℕ
front_by s None = s
front_by s (Some (first, rest)) = first

abbrev pub front : List ℕ → List ℕ
front s = front_by s (halves s)

-- What follows the first slash, or nothing where there is none.
abbrev pub behind_by : Option (List ℕ × List ℕ) → List ℕ
behind_by None = []
behind_by (Some (first, rest)) = rest

abbrev pub behind : List ℕ → List ℕ
behind s = behind_by (halves s)

-- the text that a piece stands for: its percent escapes decoded, where that is UTF-8
abbrev pub decoded : List ℕ → Result Text Refusal
decoded piece = if is_utf8 (percent_decode piece) then Ok (percent_decode piece) else Err NoRoute

-- ---- resources

-- the next step on the text of a piece
abbrev pub with_piece : {A : Type 0} → Result Text Refusal → (Text → Result A Refusal) → Result A Refusal
with_piece (Ok text) next = next text
with_piece (Err refusal) next = Err refusal

-- an entity by the three pieces that begin here
abbrev pub name_in : List ℕ → Result Resource Refusal
name_in s =
    with_piece (decoded (front s)) (λ kind. with_piece (decoded (front (behind s))) (λ namespace. with_piece (decoded (front (behind (behind s)))) (λ name.
    Ok (resource.ByName kind namespace name))))

-- what a path with this route names, once its pieces are decoded: they begin behind the second slash, or the third one
abbrev pub named_by : Route → List ℕ → Result Resource Refusal
named_by (route.Fixed f) path = Ok (resource.Fixed f)
named_by (route.Mutation form) path = with_piece (decoded (front (behind (behind path)))) (λ p. Ok (resource.Mutation p form))
named_by route.ByUid path = with_piece (decoded (front (behind (behind (behind path))))) (λ u. Ok (resource.ByUid u))
named_by route.ByName path = name_in (behind (behind (behind path)))

-- what a path with this route names; a path without a route is refused
abbrev pub resource_by : Option Route → List ℕ → Result Resource Refusal
resource_by None path = Err NoRoute
resource_by (Some r) path = named_by r path

-- a file of the page, or what the path's route says
abbrev pub resource_at : Option File → Option Route → List ℕ → Result Resource Refusal
resource_at (Some file) r path = Ok (resource.Page file)
resource_at None r path = resource_by r path

-- what a path names
unfoldable pub resource_of : List ℕ → Result Resource Refusal
resource_of path = resource_at (file_at path) (route_of path) path
