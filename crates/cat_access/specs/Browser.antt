-- What browsers may ask.
use Rattle.std.specs.Prelude.{ℕ, Bool, true, false, ◌&&◌, ◌||◌, not, List, [], length, take, drop, ◌==◌, nat_eq, codes, bytes_eq, if◌then◌else◌}
use Rattle.std.specs.Char.{is_ascii_digit}
use Rattle.std.specs.List.{list_all, list_any, before_first, starts_with}
use Rattle.cat_http.specs.Head.{same_but_case}
use Rattle.cat_http.specs.declared.message.Field.{Field}
use Rattle.cat_http.specs.declared.message.Field.TheVariants.{Absent, Once, Often}
use Rattle.cat_http.specs.declared.message.Message.{Message}
use Rattle.cat_access.specs.declared.access.Access.{Access}

-- no names and no origins are given
abbrev pub no_access : Access
no_access = record { hosts = []; origins = [] }

-- the field stands in the head
abbrev pub is_there : Field → Bool
is_there Absent = false
is_there (Once value) = true
is_there Often = true

-- A browser sends the message: it says whose page asks, or how it asks.
abbrev pub is_from_browser : Message → Bool
is_from_browser m = is_there m.sender.origin || m.sender.fetches

-- ---- the name under which the server is asked

-- the name in a host: what stands before its port
abbrev pub name_of : List ℕ → List ℕ
name_of host = before_first (λ b. b == 58) host

-- a byte of an address of four numbers
abbrev pub is_digit_or_point : ℕ → Bool
is_digit_or_point b = is_ascii_digit b || b == 46

-- digits and points alone, as in an address of four numbers
abbrev pub is_address : List ℕ → Bool
is_address name = not (length name == 0) && list_all is_digit_or_point name

-- The host is no name that someone else can give to the server: an address, in brackets or of digits and points, `localhost`, or one of these names.
abbrev pub is_own_host : List (List ℕ) → List ℕ → Bool
is_own_host hosts host =
    starts_with nat_eq host (codes "[") || is_address (name_of host) || same_but_case (name_of host) (codes "localhost")
    || list_any (same_but_case (name_of host)) hosts

-- the message says one host, and that is the server's own
abbrev pub knows_host : List (List ℕ) → Field → Bool
knows_host hosts (Once host) = is_own_host hosts host
knows_host hosts Absent = false
knows_host hosts Often = false

-- ---- whose page asks

-- the origin is that of the server's own page: its scheme, its host and its port
abbrev pub is_own_origin : List ℕ → List ℕ → Bool
is_own_origin host origin = same_but_case (take 7 origin) (codes "http://") && same_but_case (drop 7 origin) host

-- the message says one origin, which is that of the host's own page, or one of these
abbrev pub knows_origin : List (List ℕ) → Field → Field → Bool
knows_origin origins (Once host) (Once origin) = is_own_origin host origin || list_any (same_but_case origin) origins
knows_origin origins (Once host) Absent = false
knows_origin origins (Once host) Often = false
knows_origin origins Absent origin = false
knows_origin origins Often origin = false

-- ---- what may be asked

-- the method only reads
abbrev pub reads : List ℕ → Bool
reads method = bytes_eq method (codes "GET") || bytes_eq method (codes "HEAD")

-- The message may ask what it asks for: no browser sends it; or it asks for the server under its own name, and only reads, or comes from a page that
-- may change something.
unfoldable pub is_admitted : Access → Message → Bool
is_admitted access m =
    if is_from_browser m
    then knows_host access.hosts m.sender.host && (reads m.method || knows_origin access.origins m.sender.host m.sender.origin)
    else true
