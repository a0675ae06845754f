-- What stands at the front of bytes, with empty lines before it, and how long bytes are that are no whole message.
use Rattle.std.proofs.Common.{◌≡◌, ℕ, zero, suc, ◌+◌, ◌<◌, ◌≤◌, Bool, true, false, List, ◌++◌, length, take, drop, refl, sym, ap, ◌∙◌, subst, arith, inl, inr, Option, None, Some, Result, Ok, Err, length-drop}
use Rattle.std.specs.Prelude.{⊤, ◌⊎◌, nat_lt, nat_le, MatchBool, if◌then◌else◌, ◌==◌, not, ◌&&◌, codes}
use Rattle.std.proofs.lemmas.Bool.{cases_lt}
use Rattle.std.proofs.lemmas.Bool.Decides.{nat_tests}
use Rattle.std.proofs.lemmas.List.{drop-append-le, drop-drop, length-take}
use Rattle.httparse.specs.Grammar.{RequestHead}
use Rattle.cat_http.specs.declared.message.Next.{Next}
use Rattle.cat_http.specs.declared.message.Next.TheVariants.{Whole, More, Refused}
use Rattle.cat_http.specs.declared.message.Rule.{Rule}
use Rattle.cat_http.specs.declared.message.Rule.TheVariants.{HeadSize, Head, Host, TransferCoding, Body}
use Rattle.cat_http.specs.Lines.{empty_line, blank, head_length, line_count}
use Rattle.cat_http.specs.Head.{Parts, parts_of, values, body_length}
use Rattle.cat_http.specs.Message.{status_of, refused, sized, check, framed, answered, message_of, IsJustHead, AnswersHead, AnswersRest, headless, Stands}
use Rattle.cat_http.proofs.LineLemmas.{empty_line-le-length, blank-none, blank-some}
use Rattle.cat_http.proofs.Stability.{blank-le-length, empty_line-stays, head_length-le}

-- ---- empty lines before the front

front_none : (b more : List ℕ) → empty_line b ≡ 0 → blank (b ++ more) ≡ blank b + blank (drop (blank b) b ++ more)
front_none b more none =
    let zero_is : blank b ≡ 0 = blank-none b none in
    let at : blank (b ++ more) ≡ 0 + blank (drop 0 b ++ more) = omega arith in
    subst (λ n. blank (b ++ more) ≡ n + blank (drop n b ++ more)) (sym zero_is) at

front_by : (fuel : ℕ) (b more : List ℕ) → length b ≤ fuel → blank (b ++ more) ≡ blank b + blank (drop (blank b) b ++ more)
front_by zero b more le = front_none b more (omega (arith, le, empty_line-le-length b))
front_by (suc fuel) b more le =
    elim (cases_lt 0 (empty_line b)) [
      | inl some ↦
          let n = empty_line b in
          let inside = empty_line-le-length b in
          let here : blank b ≡ n + blank (drop n b) = blank-some b n refl some in
          let longer : blank (b ++ more) ≡ n + blank (drop n (b ++ more)) = blank-some (b ++ more) n (empty_line-stays b more some) some in
          let behind : drop n (b ++ more) ≡ drop n b ++ more = drop-append-le n b more inside in
          let rest = front_by fuel (drop n b) more (omega (arith, le, some, length-drop n b)) in
          let joined : drop (blank (drop n b)) (drop n b) ≡ drop (n + blank (drop n b)) b = drop-drop (blank (drop n b)) n b in
          let same : drop (blank (drop n b)) (drop n b) ≡ drop (blank b) b = joined ∙ ap (λ k. drop k b) (sym here) in
          let more_is : blank (drop n b ++ more) ≡ blank (drop n b) + blank (drop (blank b) b ++ more) = rest ∙ ap (λ l. blank (drop n b) + blank (l ++ more)) same in
          omega (arith, longer, ap blank behind, more_is, here)
      | inr none ↦ front_none b more (omega (arith, none))
    ]

-- empty lines that stand before the bytes are counted with those that follow
pub blank_front : (b more : List ℕ) → blank (b ++ more) ≡ blank b + blank (drop (blank b) b ++ more)
blank_front b more = front_by (length b) b more (omega arith)

-- what stands there, with so many bytes before it
abbrev pub later : ℕ → Next → Next
later k (Whole m used) = Whole m (k + used)
later k More = More
later k (Refused status rule) = Refused status rule

framed_later : (k u : ℕ) (r : Result ℕ Rule) (p : Parts) (after : List ℕ) → framed r p after (k + u) ≡ later k (framed r p after u)
framed_later k u (Err rule) p after = refl
framed_later k u (Ok n) p after =
    let go : ℕ → Bool → Next = λ v t. if t then Whole (message_of p (take n after)) v else More in
    let e : (k + u) + n ≡ k + (u + n) = omega arith in
    elim (nat_le n (length after)) as (λ t. go ((k + u) + n) t ≡ later k (go (u + n) t)) [
      | true ↦ ap (λ v. Whole (message_of p (take n after)) v) e
      | false ↦ refl
    ]

head_later : (k u : ℕ) (head after : List ℕ) (next : Next) → AnswersHead head after u next → AnswersHead head after (k + u) (later k next)
head_later k u head after next stands =
    let None' : Next → Type 0 = λ n. (n ≡ refused Head) × ((h : RequestHead) → ¬ (IsJustHead head h)) in
    let One : ℕ → Next → Type 0 = λ v n. (h : RequestHead) × IsJustHead head h × (n ≡ answered (parts_of h) after v) in
    let M : Bool → Type 0 = λ t. MatchBool t (next ≡ refused HeadSize) (None' next ⊎ One u next)
    → MatchBool t (later k next ≡ refused HeadSize) (None' (later k next) ⊎ One (k + u) (later k next)) in
    elim (nat_lt 66 (line_count head)) as M [
      | true ↦ (λ e. ap (later k) e)
      | false ↦ (λ e. elim e as (λ _. None' (later k next) ⊎ One (k + u) (later k next)) [
        | inl none ↦ inl (ap (later k) none.0, none.1)
        | inr one ↦ inr (one.0, one.1, ap (later k) one.2 ∙ sym (framed_later k u (check (parts_of one.0).minor (parts_of one.0).fields) (parts_of one.0) after))
      ])
    ] stands

headless_later : (k : ℕ) (rest : List ℕ) → later k (headless rest) ≡ headless rest
headless_later k rest =
    elim (nat_le 16384 (length rest)) as (λ t. later k (if t then refused HeadSize else More) ≡ (if t then refused HeadSize else More)) [ true ↦ refl | false ↦ refl ]

rest_later : (k u : ℕ) (rest : List ℕ) (found : Option ℕ) (next : Next) → AnswersRest rest u found next → AnswersRest rest (k + u) found (later k next)
rest_later k u rest None next stands = ap (later k) stands ∙ headless_later k rest
rest_later k u rest (Some n) next stands =
    let e : k + (u + n) ≡ (k + u) + n = omega arith in
    subst (λ v. AnswersHead (take n rest) (drop n rest) v (later k next)) e (head_later k (u + n) (take n rest) (drop n rest) next stands)

-- what stands behind the empty lines stands behind them
pub stands_blank : (b more : List ℕ) (next : Next) → Stands (drop (blank b) b ++ more) next → Stands (b ++ more) (later (blank b) next)
stands_blank b more next stands =
    let k = blank b in
    let b' = drop k b in
    let j = blank (b' ++ more) in
    let joined : drop j (drop k (b ++ more)) ≡ drop (k + j) (b ++ more) = drop-drop j k (b ++ more) in
    let same : drop (k + j) (b ++ more) ≡ drop j (b' ++ more) = sym joined ∙ ap (λ l. drop j l) (drop-append-le k b more (blank-le-length b)) in
    let Q : ℕ → List ℕ → Type 0 = λ used xs. AnswersRest xs used (head_length (take 16384 xs)) (later k next) in
    let a : Q (k + j) (drop j (b' ++ more)) = rest_later k j (drop j (b' ++ more)) (head_length (take 16384 (drop j (b' ++ more)))) next stands in
    let there : Q (k + j) (drop (k + j) (b ++ more)) = subst (λ xs. Q (k + j) xs) (sym same) a in
    subst (λ n. Q n (drop n (b ++ more))) (sym (blank_front b more)) there

-- ---- bytes that are no whole message

sized_small : (o : Option ℕ) (n : ℕ) → sized o ≡ Ok n → n ≤ 4194304
sized_small None n e = cc
sized_small (Some k) n e =
    let M : Bool → Type 0 = λ t. nat_lt 4194304 k ≡ t → (if t then Err Body else Ok k) ≡ Ok n → n ≤ 4194304 in
    elim (nat_lt 4194304 k) as M [
      | true ↦ (λ is eq. cc)
      | false ↦ (λ is eq. let same : k ≡ n = cc in let le : k ≤ 4194304 = grind (arith, nat_tests, is) in omega (arith, same, le))
    ] refl e

check_small : (minor : ℕ) (fields : List (List ℕ × List ℕ)) (n : ℕ) → check minor fields ≡ Ok n → n ≤ 4194304
check_small minor fields n e =
    let sizes : Result ℕ Rule = sized (body_length (values (codes "content-length") fields)) in
    let coded : Bool → Result ℕ Rule = λ u. if u then Err TransferCoding else sizes in
    let M : Bool → Type 0 = λ t. (if t then Err Host else coded (not (length (values (codes "transfer-encoding") fields) == 0))) ≡ Ok n → n ≤ 4194304 in
    let N : Bool → Type 0 = λ u. coded u ≡ Ok n → n ≤ 4194304 in
    elim (minor == 1 && not (length (values (codes "host") fields) == 1)) as M [
      | true ↦ (λ eq. cc)
      | false ↦ elim (not (length (values (codes "transfer-encoding") fields) == 0)) as N [
        | true ↦ (λ eq. cc)
        | false ↦ (λ eq. sized_small (body_length (values (codes "content-length") fields)) n eq)
      ]
    ] e

framed_more : (r : Result ℕ Rule) (p : Parts) (after : List ℕ) (v : ℕ) → ((n : ℕ) → r ≡ Ok n → n ≤ 4194304) → More ≡ framed r p after v → length after < 4194304
framed_more (Err rule) p after v small e = cc
framed_more (Ok n) p after v small e =
    let M : Bool → Type 0 = λ t. nat_le n (length after) ≡ t → More ≡ (if t then Whole (message_of p (take n after)) (v + n) else More) → length after < 4194304 in
    elim (nat_le n (length after)) as M [
      | true ↦ (λ is eq. cc)
      | false ↦ (λ is eq. let less : length after < n = grind (arith, nat_tests, is) in omega (arith, less, small n refl))
    ] refl e

head_more : (head after : List ℕ) (v : ℕ) → AnswersHead head after v More → length after < 4194304
head_more head after v stands =
    let None' : Type 0 = (More ≡ refused Head) × ((h : RequestHead) → ¬ (IsJustHead head h)) in
    let One : Type 0 = (h : RequestHead) × IsJustHead head h × (More ≡ answered (parts_of h) after v) in
    let M : Bool → Type 0 = λ t. MatchBool t (More ≡ refused HeadSize) (None' ⊎ One) → length after < 4194304 in
    elim (nat_lt 66 (line_count head)) as M [
      | true ↦ (λ e. cc)
      | false ↦ (λ e. elim e as (λ _. length after < 4194304) [
        | inl none ↦ (let clash : More ≡ refused Head = none.0 in cc)
        | inr one ↦ framed_more (check (parts_of one.0).minor (parts_of one.0).fields) (parts_of one.0) after v (check_small (parts_of one.0).minor (parts_of one.0).fields) one.2
      ])
    ] stands

rest_more : (rest : List ℕ) (u : ℕ) (found : Option ℕ) → head_length (take 16384 rest) ≡ found → AnswersRest rest u found More → length rest < 4210688
rest_more rest u None is stands =
    let M : Bool → Type 0 = λ t. nat_le 16384 (length rest) ≡ t → More ≡ (if t then refused HeadSize else More) → length rest < 4210688 in
    elim (nat_le 16384 (length rest)) as M [
      | true ↦ (λ le eq. cc)
      | false ↦ (λ short eq. let less : length rest < 16384 = grind (arith, nat_tests, short) in omega (arith, less))
    ] refl stands
rest_more rest u (Some n) is stands =
    let inside = head_length-le (take 16384 rest) n is in
    let body = head_more (take n rest) (drop n rest) (u + n) stands in
    omega (arith, inside, length-take 16384 rest, body, length-drop n rest)

-- behind its empty lines it has fewer bytes than a head and a body
pub more_short : (bytes : List ℕ) → Stands bytes More → length (drop (blank bytes) bytes) < 4210688
more_short bytes stands = rest_more (drop (blank bytes) bytes) (blank bytes) (head_length (take 16384 (drop (blank bytes) bytes))) refl stands

-- ---- refused messages

-- a refused message has the status of its rule
abbrev IsFit : Next → Type 0
IsFit (Whole m used) = ⊤
IsFit More = ⊤
IsFit (Refused status rule) = status ≡ status_of rule

fit_framed : (r : Result ℕ Rule) (p : Parts) (after : List ℕ) (v : ℕ) → IsFit (framed r p after v)
fit_framed (Err rule) p after v = refl
fit_framed (Ok n) p after v = elim (nat_le n (length after)) as (λ t. IsFit (if t then Whole (message_of p (take n after)) (v + n) else More)) [ true ↦ tt | false ↦ tt ]

fit_head : (head after : List ℕ) (v : ℕ) (next : Next) → AnswersHead head after v next → IsFit next
fit_head head after v next stands =
    let None' : Type 0 = (next ≡ refused Head) × ((h : RequestHead) → ¬ (IsJustHead head h)) in
    let One : Type 0 = (h : RequestHead) × IsJustHead head h × (next ≡ answered (parts_of h) after v) in
    let M : Bool → Type 0 = λ t. MatchBool t (next ≡ refused HeadSize) (None' ⊎ One) → IsFit next in
    elim (nat_lt 66 (line_count head)) as M [
      | true ↦ (λ e. subst IsFit (sym e) refl)
      | false ↦ (λ e. elim e as (λ _. IsFit next) [
        | inl none ↦ subst IsFit (sym none.0) refl
        | inr one ↦ subst IsFit (sym one.2) (fit_framed (check (parts_of one.0).minor (parts_of one.0).fields) (parts_of one.0) after v)
      ])
    ] stands

fit_headless : (rest : List ℕ) → IsFit (headless rest)
fit_headless rest = elim (nat_le 16384 (length rest)) as (λ t. IsFit (if t then refused HeadSize else More)) [ true ↦ refl | false ↦ tt ]

fit_rest : (rest : List ℕ) (u : ℕ) (found : Option ℕ) (next : Next) → AnswersRest rest u found next → IsFit next
fit_rest rest u None next stands = subst IsFit (sym stands) (fit_headless rest)
fit_rest rest u (Some n) next stands = fit_head (take n rest) (drop n rest) (u + n) next stands

pub refused_is : (bytes : List ℕ) (status : ℕ) (rule : Rule) → Stands bytes (Refused status rule) → Stands bytes (refused rule)
refused_is bytes status rule stands =
    let is : status ≡ status_of rule = fit_rest (drop (blank bytes) bytes) (blank bytes) (head_length (take 16384 (drop (blank bytes) bytes))) (Refused status rule) stands in
    subst (λ s. Stands bytes (Refused s rule)) is stands
