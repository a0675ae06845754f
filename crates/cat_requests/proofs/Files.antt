-- Whether a path names a file of the page.
use Rattle.std.proofs.Common.{◌≡◌, ◌⊎◌, ℕ, List, refl, sym, ap, ◌∙◌, subst}
use Rattle.std.specs.Prelude.{None, Some, Result, Ok, Err, IfOk, IfErr}
use Rattle.cat_page.specs.Files.{file_at}
use Rattle.cat_page.specs.declared.file.File.{File}
use Rattle.cat_requests.specs.Paths.{resource_at, resource_by, resource_of}
use Rattle.cat_requests.specs.Routes.{route_of}
use Rattle.cat_requests.specs.declared.path.Resource.{Resource}
use Rattle.cat_requests.specs.declared.path.Resource.TheVariants.{Page}
use Rattle.cat_requests.specs.declared.refusal.Refusal.{Refusal}
use Rattle.cat_requests.specs.declared.refusal.Refusal.TheVariants.{NoMemory}

-- one that does names it
pub names_file : (path bytes : List ℕ) (f : File) → bytes ≡ path → Some f ≡ file_at bytes → resource_of path ≡ Ok (Page f)
unfolding resource_of
names_file path bytes f is there = ap (λ o. resource_at o (route_of path) path) (ap file_at (sym is) ∙ sym there)

names_none : (path bytes : List ℕ) → bytes ≡ path → None ≡ file_at bytes → resource_of path ≡ resource_by (route_of path) path
unfolding resource_of
names_none path bytes is there = ap (λ o. resource_at o (route_of path) path) (ap file_at (sym is) ∙ sym there)

-- one that doesn't names what its route says
pub routed_ok : (path bytes : List ℕ) (r : Result Resource Refusal) → bytes ≡ path → None ≡ file_at bytes → IfOk r (λ x. resource_by (route_of path) path ≡ Ok x)
    → IfOk r (λ x. resource_of path ≡ Ok x)
routed_ok path bytes r is there h = subst (λ a. IfOk r (λ x. a ≡ Ok x)) (sym (names_none path bytes is there)) h

pub routed_err : (path bytes : List ℕ) (r : Result Resource Refusal) → bytes ≡ path → None ≡ file_at bytes
    → IfErr r (λ e. (resource_by (route_of path) path ≡ Err e) ⊎ (e ≡ NoMemory)) → IfErr r (λ e. (resource_of path ≡ Err e) ⊎ (e ≡ NoMemory))
routed_err path bytes r is there h = subst (λ a. IfErr r (λ e. (a ≡ Err e) ⊎ (e ≡ NoMemory))) (sym (names_none path bytes is there)) h
