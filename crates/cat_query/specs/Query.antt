-- How a query is read.
use Rattle.std.specs.Prelude.{ℕ, suc, ◌+◌, ◌-◌, ◌*◌, nat_lt, ◌==◌, List, [], ◌∷◌, length, map, fold, Bool, true, false, ◌&&◌, Option, Some, None, Result, Ok, Err, bytes_eq, codes, if◌then◌else◌}
use Rattle.std.specs.List.{filter, flat_map, list_all, position_or_len, before_first, after_first}
use Rattle.std.specs.Char.{is_ascii_digit}
use Rattle.std.specs.Str.Lossy.{utf8_lossy}
use Rattle.form_urlencoded.specs.Form.{raw_pairs, decode}
use Rattle.cat_search.specs.Filter.{filter_of, pieces}
use Rattle.cat_search.specs.declared.condition.Condition.{Condition}
use Rattle.cat_search.specs.declared.condition.FilterFault.{FilterFault}
use Rattle.cat_search.specs.declared.condition.FilterFault.TheVariants.{EmptyKey, NoMemory as FilterNoMemory}
use Rattle.cat_pages.specs.declared.query.OrderBy.{OrderBy}
use Rattle.cat_query.specs.declared.fault.QueryFault.{QueryFault}
use Rattle.cat_query.specs.declared.fault.QueryFault.TheVariants.{Filter, BadOrder, BadLimit, NoMemory}

-- ---- parameters

-- a name and a value
abbrev pub Parameter : Type 0
Parameter = List ℕ × List ℕ

-- the text that an encoded name or value stands for
abbrev pub shown : List ℕ → List ℕ
shown s = utf8_lossy (decode s)

-- the parameters of a form (URL Standard, section 5)
abbrev pub parameters_of : List ℕ → List Parameter
parameters_of s = map (λ p. (shown p.0, shown p.1)) (raw_pairs s)

-- the values of the parameters with the name, in order
abbrev pub values_named : List ℕ → List Parameter → List (List ℕ)
values_named name ps = map (λ p. p.1) (filter (λ p. bytes_eq p.0 name) ps)

-- ---- filters

-- a filter's fault with the place of the filter
abbrev pub fault_in : ℕ → FilterFault → QueryFault
fault_in i (EmptyKey j) = Filter i j
fault_in i FilterNoMemory = NoMemory

-- the filter comes before the others; the first fault counts
abbrev pub filter_before : ℕ → Result (List Condition) FilterFault → Result (List (List Condition)) QueryFault → Result (List (List Condition)) QueryFault
filter_before i (Err e) r = Err (fault_in i e)
filter_before i (Ok cs) (Err e) = Err e
filter_before i (Ok cs) (Ok fs) = Ok (cs ∷ fs)

-- the filters of texts that are counted from a number
abbrev pub filters_from : ℕ → List (List ℕ) → Result (List (List Condition)) QueryFault
filters_from i [] = Ok []
filters_from i (v ∷ vs) = filter_before i (filter_of v) (filters_from (suc i) vs)

-- ---- fields

-- paths parted by commas, their keys parted by points
abbrev pub fields_of : List (List ℕ) → List (List (List ℕ))
fields_of vs = flat_map (λ v. map (pieces 46) (pieces 44 v)) vs

-- ---- order

-- an order by a key in a direction
abbrev pub directed : List ℕ → List ℕ → Result (Option OrderBy) QueryFault
directed key direction =
    if bytes_eq direction (codes "asc") then Ok (Some (record { key = key; falling = false }))
    else (if bytes_eq direction (codes "desc") then Ok (Some (record { key = key; falling = true })) else Err BadOrder)

-- a key, or a key, a comma and a direction
abbrev pub order_of : List ℕ → Result (Option OrderBy) QueryFault
order_of v =
    if nat_lt (position_or_len (λ b. b == 44) v) (length v) then directed (before_first (λ b. b == 44) v) (after_first (λ b. b == 44) v)
    else Ok (Some (record { key = v; falling = false }))

-- at most one order
abbrev pub order_among : List (List ℕ) → Result (Option OrderBy) QueryFault
order_among [] = Ok None
order_among (v ∷ []) = order_of v
order_among (v ∷ w ∷ vs) = Err BadOrder

-- ---- limit

-- the number with one digit more
abbrev pub with_digit : ℕ → ℕ → ℕ
with_digit n d = n * 10 + (d - 48)

-- the number of decimal digits
abbrev pub number_of : List ℕ → ℕ
number_of ds = fold with_digit 0 ds

-- decimal digits of a number from 1 to 1,000
abbrev pub is_limit : List ℕ → Bool
is_limit v = list_all is_ascii_digit v && (nat_lt 0 (number_of v) && nat_lt (number_of v) 1001)

-- at most one limit; without one it is 20
abbrev pub limit_among : List (List ℕ) → Result ℕ QueryFault
limit_among [] = Ok 20
limit_among (v ∷ []) = if is_limit v then Ok (number_of v) else Err BadLimit
limit_among (v ∷ w ∷ vs) = Err BadLimit

-- ---- the whole

-- what a query asks for, its cursor apart
pub record Asked : Type 0 where
  pub filters : List (List Condition)
  pub fields : List (List (List ℕ))
  pub facets : List (List ℕ)
  pub order : Option OrderBy
  pub limit : ℕ

-- with the limit
abbrev pub with_limit : List Parameter → List (List Condition) → Option OrderBy → Result ℕ QueryFault → Result Asked QueryFault
with_limit ps fs o (Err e) = Err e
with_limit ps fs o (Ok n) = Ok (record {
  filters = fs;
  fields = fields_of (values_named (codes "fields") ps);
  facets = values_named (codes "facet") ps;
  order = o;
  limit = n;
})

-- with the order, and then the limit
abbrev pub with_order : List Parameter → List (List Condition) → Result (Option OrderBy) QueryFault → Result Asked QueryFault
with_order ps fs (Err e) = Err e
with_order ps fs (Ok o) = with_limit ps fs o (limit_among (values_named (codes "limit") ps))

-- with the filters, and then the order
abbrev pub with_filters : List Parameter → Result (List (List Condition)) QueryFault → Result Asked QueryFault
with_filters ps (Err e) = Err e
with_filters ps (Ok fs) = with_order ps fs (order_among (values_named (codes "orderField") ps))

-- what the parameters ask for, or the first fault among filters, order and limit
abbrev pub asked_of : List Parameter → Result Asked QueryFault
asked_of ps = with_filters ps (filters_from 0 (values_named (codes "filter") ps))
