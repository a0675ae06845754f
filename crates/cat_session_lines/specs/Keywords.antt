-- The command words of session lines.
use Rattle.std.specs.Prelude.{ℕ, List, [], ◌∷◌, Option, find, codes, bytes_eq}
use Rattle.cat_session_lines.specs.declared.keyword.Keyword.{Keyword}
use Rattle.cat_session_lines.specs.declared.keyword.Keyword.TheVariants.{Full, Delta, Put, Drop, Refresh, Forget, Clock, Take, Finish, Stitch, Place, Settle, Quiet, State, Get, List as Listed, Page, Facets, Many, Conflicts, Failed, Orphans}

-- how the keyword is written
abbrev pub keyword_text : Keyword → List ℕ
keyword_text Full = codes "full"
keyword_text Delta = codes "delta"
keyword_text Put = codes "put"
keyword_text Drop = codes "drop"
keyword_text Refresh = codes "refresh"
keyword_text Forget = codes "forget"
keyword_text Clock = codes "clock"
keyword_text Take = codes "take"
keyword_text Finish = codes "finish"
keyword_text Stitch = codes "stitch"
keyword_text Place = codes "place"
keyword_text Settle = codes "settle"
keyword_text Quiet = codes "quiet"
keyword_text State = codes "state"
keyword_text Get = codes "get"
keyword_text Listed = codes "list"
keyword_text Page = codes "page"
keyword_text Facets = codes "facets"
keyword_text Many = codes "many"
keyword_text Conflicts = codes "conflicts"
keyword_text Failed = codes "failed"
keyword_text Orphans = codes "orphans"

-- all command words
abbrev pub all_keywords : List Keyword
all_keywords =
    Full ∷ (Delta ∷ (Put ∷ (Drop ∷ (Refresh ∷ (Forget ∷ (Clock ∷ (Take ∷ (Finish ∷ (Stitch ∷ (Place ∷ (Settle ∷ (Quiet ∷ (State ∷ (Get ∷ (Listed ∷ (Page ∷ (Facets ∷ (Many ∷ (Conflicts ∷ (Failed ∷ (Orphans ∷ [])))))))))))))))))))))

-- the keyword that is written so, if there is one
abbrev pub keyword_named : List ℕ → Option Keyword
keyword_named s = find (λ w. bytes_eq (keyword_text w) s) all_keywords
