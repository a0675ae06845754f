-- What stands at the front of bytes is one thing, and stays where more bytes follow.
use Rattle.std.proofs.Common.{◌≡◌, ◌≢◌, ℕ, suc, ◌+◌, ◌<◌, ◌≤◌, Bool, true, false, ◌&&◌, List, [], ◌∷◌, ◌++◌, length, take, drop, refl, sym, ap, ◌∙◌, subst, arith, inl, inr, Option, None, Some, Result, Ok, Err, option_map, length-drop, length-append, append-nil}
use Rattle.std.specs.Prelude.{◌⊎◌, ◌↔◌, IfOk, IfErr, nat_lt, nat_le, MatchBool, ◌==◌, if◌then◌else◌}
use Rattle.std.proofs.lemmas.Bool.Decides.{nat_tests}
use Rattle.std.proofs.lemmas.Bool.{leb-true}
use Rattle.cat_http.proofs.LineLemmas.{empty_line-le-length}
use Rattle.std.proofs.lemmas.List.{take-take, take-append-le, drop-append-le, take-append-drop, length-take, take_all}
use Rattle.httparse.specs.Grammar.{RequestHead}
use Rattle.httparse.proofs.GrammarLemmas.{request_unique}
use Rattle.cat_http.specs.declared.message.Lack.{Lack}
use Rattle.cat_http.specs.declared.message.Message.{Message}
use Rattle.cat_http.specs.declared.message.Next.{Next}
use Rattle.cat_http.specs.declared.message.Next.TheVariants.{Whole, More, Refused}
use Rattle.cat_http.specs.declared.message.Rule.{Rule}
use Rattle.cat_http.specs.declared.message.Rule.TheVariants.{HeadSize, Head}
use Rattle.cat_http.specs.Lines.{empty_line, blank, head_length, line_count}
use Rattle.cat_http.specs.Head.{Parts, parts_of}
use Rattle.cat_http.specs.Message.{refused, framed, answered, check, message_of, IsJustHead, AnswersHead, AnswersRest, headless, Stands, OneStands, StandsLater, HasNoEarlier, Lacks, TakesWithin, GivesWhat}
use Rattle.cat_http.proofs.HeadLemmas.{reads}

-- ---- empty lines and heads stay

pub drop-one : (n b : ℕ) (xs : List ℕ) → drop (1 + n) (b ∷ xs) ≡ drop n xs
drop-one n b xs = let e : 1 + n ≡ suc n = omega arith in ap (λ k. drop k (b ∷ xs)) e

pub drop-two : (n b c : ℕ) (xs : List ℕ) → drop (2 + n) (b ∷ c ∷ xs) ≡ drop n xs
drop-two n b c xs = let e : 2 + n ≡ suc (suc n) = omega arith in ap (λ k. drop k (b ∷ c ∷ xs)) e

blank-stays : (bytes more : List ℕ) → 2 ≤ length (drop (blank bytes) bytes) → blank (bytes ++ more) ≡ blank bytes
blank-stays [] more two = absurd (omega arith)
blank-stays (b ∷ []) more two =
    let n : ℕ = if b == 10 then 1 else 0 in
    absurd (omega (arith, length-drop n (b ∷ [])))
blank-stays (b ∷ c ∷ bytes) more two =
    let X : Bool → List ℕ → ℕ = λ u xs. if u then 2 + blank xs else 0 in
    let u = b == 13 && c == 10 in
    let M : Bool → Type 0 = λ t.
    2 ≤ length (drop (if t then 1 + blank (c ∷ bytes) else X u bytes) (b ∷ c ∷ bytes))
    → (if t then 1 + blank (c ∷ (bytes ++ more)) else X u (bytes ++ more)) ≡ (if t then 1 + blank (c ∷ bytes) else X u bytes) in
    let N : Bool → Type 0 = λ v. 2 ≤ length (drop (X v bytes) (b ∷ c ∷ bytes)) → X v (bytes ++ more) ≡ X v bytes in
    elim (b == 10) as M [
      | true ↦ (λ h. ap (λ n. 1 + n) (blank-stays (c ∷ bytes) more
          (let e = ap length (drop-one (blank (c ∷ bytes)) b (c ∷ bytes)) in omega arith)))
      | false ↦ elim u as N [
        | true ↦ (λ h. ap (λ n. 2 + n) (blank-stays bytes more
            (let e = ap length (drop-two (blank bytes) b c bytes) in omega arith)))
        | false ↦ (λ h. refl)
      ]
    ] two

pub empty_line-stays : (bytes more : List ℕ) → 0 < empty_line bytes → empty_line (bytes ++ more) ≡ empty_line bytes
empty_line-stays [] more some = absurd (omega arith)
empty_line-stays (b ∷ []) [] some = refl
empty_line-stays (b ∷ []) (c ∷ more) some =
    let one : Bool → ℕ → ℕ = λ t n. if t then 1 else n in
    let M : Bool → Type 0 = λ t. 0 < one t 0 → one t (if b == 13 && c == 10 then 2 else 0) ≡ one t 0 in
    let no : 0 < 0 → one false (if b == 13 && c == 10 then 2 else 0) ≡ 0 = λ h. absurd (omega arith) in
    elim (b == 10) as M [ true ↦ (λ h. refl) | false ↦ no ] some
empty_line-stays (b ∷ c ∷ bytes) more some = refl

empty_line-long : (bytes more : List ℕ) → 2 ≤ length bytes → empty_line (bytes ++ more) ≡ empty_line bytes
empty_line-long [] more two = absurd (omega arith)
empty_line-long (b ∷ []) more two = absurd (omega arith)
empty_line-long (b ∷ c ∷ bytes) more two = refl

option_map-some : (o : Option ℕ) (n : ℕ) → option_map (λ k. 1 + k) o ≡ Some n → (m : ℕ) × (o ≡ Some m)
option_map-some None n e = cc
option_map-some (Some m) n e = (m, refl)

head_length-two : (bytes : List ℕ) (n : ℕ) → head_length bytes ≡ Some n → 2 ≤ length bytes
head_length-two [] n e = cc
head_length-two (b ∷ []) n e =
    let M : Bool → Type 0 = λ t. (if t && nat_lt 0 0 then Some 1 else None) ≡ Some n → 2 ≤ 1 in
    elim (b == 10) as M [ true ↦ (λ h. cc) | false ↦ (λ h. cc) ] e
head_length-two (b ∷ c ∷ bytes) n e = omega arith

-- where a head ends, it ends whatever follows
head_length-stays : (bytes more : List ℕ) (n : ℕ) → head_length bytes ≡ Some n → head_length (bytes ++ more) ≡ Some n
head_length-stays [] more n e = cc
head_length-stays (b ∷ bytes) more n e =
    let test : ℕ → Bool = λ k. b == 10 && nat_lt 0 k in
    let go : Bool → ℕ → List ℕ → Option ℕ = λ t k xs. if t then Some (1 + k) else option_map (λ m. 1 + m) (head_length xs) in
    let M : Bool → Type 0 = λ t. test (empty_line bytes) ≡ t → go t (empty_line bytes) bytes ≡ Some n
    → go (test (empty_line (bytes ++ more))) (empty_line (bytes ++ more)) (bytes ++ more) ≡ Some n in
    elim (test (empty_line bytes)) as M [
      | true ↦ (λ is eq.
          let some : 0 < empty_line bytes = grind (arith, nat_tests, is) in
          let same = empty_line-stays bytes more some in
          ap (λ k. go (test k) k (bytes ++ more)) same ∙ ap (λ t. go t (empty_line bytes) (bytes ++ more)) is ∙ eq)
      | false ↦ (λ is eq.
          let found = option_map-some (head_length bytes) n eq in
          let same = empty_line-long bytes more (head_length-two bytes found.0 found.1) in
          ap (λ k. go (test k) k (bytes ++ more)) same ∙ ap (λ t. go t (empty_line bytes) (bytes ++ more)) is
          ∙ ap (option_map (λ m. 1 + m)) (head_length-stays bytes more found.0 found.1 ∙ sym found.1) ∙ eq)
    ] refl e

pub head_length-le : (bytes : List ℕ) (n : ℕ) → head_length bytes ≡ Some n → n ≤ length bytes
head_length-le [] n e = cc
head_length-le (b ∷ bytes) n e =
    let go : Bool → Option ℕ = λ t. if t then Some (1 + empty_line bytes) else option_map (λ m. 1 + m) (head_length bytes) in
    let M : Bool → Type 0 = λ t. go t ≡ Some n → n ≤ length (b ∷ bytes) in
    elim (b == 10 && nat_lt 0 (empty_line bytes)) as M [
      | true ↦ (λ eq. let same : 1 + empty_line bytes ≡ n = cc in omega (arith, empty_line-le-length bytes))
      | false ↦ (λ eq.
          let found = option_map-some (head_length bytes) n eq in
          let le = head_length-le bytes found.0 found.1 in
          let same : option_map (λ m. 1 + m) (Some found.0) ≡ Some n = sym (ap (option_map (λ m. 1 + m)) found.1) ∙ eq in
          let value : 1 + found.0 ≡ n = cc in omega arith)
    ] e

-- a prefix of two lists that begin alike
take-stays : (k : ℕ) (xs more : List ℕ) → k ≤ length xs → take k (xs ++ more) ≡ take k xs
take-stays k xs more le = take-append-le k xs more le

take-short : (k : ℕ) (xs more : List ℕ) → length xs ≤ k → take k (xs ++ more) ≡ xs ++ drop (length xs) (take k (xs ++ more))
take-short k xs more le =
    let whole = take k (xs ++ more) in
    let front : take (length xs) whole ≡ xs =
    take-take (length xs) k (xs ++ more) le ∙ take-append-le (length xs) xs more (omega arith) ∙ take_all (length xs) xs (omega arith) in
    sym (take-append-drop (length xs) whole) ∙ ap (λ ys. ys ++ drop (length xs) whole) front

window-stays : (k : ℕ) (xs more : List ℕ) (n : ℕ) → head_length (take k xs) ≡ Some n → head_length (take k (xs ++ more)) ≡ Some n
window-stays k xs more n e =
    let M : Bool → Type 0 = λ t. nat_le k (length xs) ≡ t → head_length (take k (xs ++ more)) ≡ Some n in
    elim (nat_le k (length xs)) as M [
      | true ↦ (λ is. ap head_length (take-stays k xs more (leb-true k (length xs) is)) ∙ e)
      | false ↦ (λ is.
          let short : length xs ≤ k = grind (arith, nat_tests, is) in
          let all = take_all k xs short in
          ap head_length (take-short k xs more short) ∙ head_length-stays xs (drop (length xs) (take k (xs ++ more))) n (ap head_length (sym all) ∙ e))
    ] refl

window-le : (k : ℕ) (xs : List ℕ) (n : ℕ) → head_length (take k xs) ≡ Some n → (n ≤ length xs) × (2 ≤ length xs)
window-le k xs n e =
    let a = head_length-le (take k xs) n e in
    let b = head_length-two (take k xs) n e in
    let c = length-take k xs in
    (omega arith, omega arith)

-- ---- answers stay

framed-stays : (r : Result ℕ Rule) (p : Parts) (after more : List ℕ) (used : ℕ)
    → framed r p after used ≢ More → framed r p (after ++ more) used ≡ framed r p after used
framed-stays (Err rule) p after more used some = refl
framed-stays (Ok n) p after more used some =
    let go : Bool → List ℕ → Next = λ t body. if t then Whole (message_of p body) (used + n) else More in
    let M : Bool → Type 0 = λ t. nat_le n (length after) ≡ t → go t (take n after) ≢ More
    → go (nat_le n (length (after ++ more))) (take n (after ++ more)) ≡ go t (take n after) in
    elim (nat_le n (length after)) as M [
      | true ↦ (λ is h.
          let le : n ≤ length after = leb-true n (length after) is in
          let longer : nat_le n (length (after ++ more)) ≡ true = grind (arith, nat_tests, length-append after more, le) in
          ap (λ t. go t (take n (after ++ more))) longer ∙ ap (go true) (take-stays n after more le))
      | false ↦ (λ is h. absurd (h refl))
    ] refl some

head-stays : (head after more : List ℕ) (used : ℕ) (next : Next) → AnswersHead head after used next → next ≢ More
    → AnswersHead head (after ++ more) used next
head-stays head after more used next stands some =
    let Many : Type 0 = next ≡ refused HeadSize in
    let None' : Type 0 = (next ≡ refused Head) × ((h : RequestHead) → ¬ (IsJustHead head h)) in
    let One : List ℕ → Type 0 = λ rest. (h : RequestHead) × IsJustHead head h × (next ≡ answered (parts_of h) rest used) in
    let M : Bool → Type 0 = λ t. MatchBool t Many (None' ⊎ One after) → MatchBool t Many (None' ⊎ One (after ++ more)) in
    elim (nat_lt 66 (line_count head)) as M [
      | true ↦ (λ e. e)
      | false ↦ (λ e. elim e as (λ _. None' ⊎ One (after ++ more)) [
        | inl none ↦ inl none
        | inr one ↦ inr (
          one.0,
          one.1,
          one.2 ∙ sym (framed-stays (check (parts_of one.0).minor (parts_of one.0).fields) (parts_of one.0) after more used
              (λ empty. some (one.2 ∙ empty))),
        )
      ])
    ] stands

-- what stands behind the empty lines stays
rest-stays : (rest more : List ℕ) (used : ℕ) (next : Next) (found : Option ℕ) → head_length (take 16384 rest) ≡ found
    → AnswersRest rest used found next → next ≢ More
    → AnswersRest (rest ++ more) used (head_length (take 16384 (rest ++ more))) next × (2 ≤ length rest)
rest-stays rest more used next None is stands some =
    let M : Bool → Type 0 = λ t. nat_le 16384 (length rest) ≡ t → next ≡ (if t then refused HeadSize else More)
    → AnswersRest (rest ++ more) used (head_length (take 16384 (rest ++ more))) next × (2 ≤ length rest) in
    elim (nat_le 16384 (length rest)) as M [
      | true ↦ (λ long eq.
          let le : 16384 ≤ length rest = leb-true 16384 (length rest) long in
          let still : head_length (take 16384 (rest ++ more)) ≡ None = ap head_length (take-stays 16384 rest more le) ∙ is in
          let longer : nat_le 16384 (length (rest ++ more)) ≡ true = grind (arith, nat_tests, length-append rest more, le) in
          let answer : next ≡ headless (rest ++ more) = eq ∙ sym (ap (λ (t : Bool). if t then refused HeadSize else More) longer) in
          (subst (λ o. AnswersRest (rest ++ more) used o next) (sym still) answer, omega arith))
      | false ↦ (λ short eq. absurd (some eq))
    ] refl stands
rest-stays rest more used next (Some n) is stands some =
    let fits = window-le 16384 rest n is in
    let still = window-stays 16384 rest more n is in
    let P : List ℕ → List ℕ → Type 0 = λ head after. AnswersHead head after (used + n) next in
    let a : P (take n rest) (drop n rest ++ more) = head-stays (take n rest) (drop n rest) more (used + n) next stands some in
    let b : P (take n (rest ++ more)) (drop n rest ++ more) = subst (λ head. P head (drop n rest ++ more)) (sym (take-append-le n rest more fits.0)) a in
    let c : P (take n (rest ++ more)) (drop n (rest ++ more)) = subst (λ after. P (take n (rest ++ more)) after) (sym (drop-append-le n rest more fits.0)) b in
    (subst (λ o. AnswersRest (rest ++ more) used o next) (sym still) c, fits.1)

pub stands_later : (buffer : List ℕ) → StandsLater buffer
stands_later buffer next more stands some =
    let n = blank buffer in
    let rest = drop n buffer in
    let kept = rest-stays rest more n next (head_length (take 16384 rest)) refl stands some in
    let same : blank (buffer ++ more) ≡ n = blank-stays buffer more kept.1 in
    let inside : n ≤ length buffer = omega (arith, length-drop n buffer, kept.1) in
    let after : drop n (buffer ++ more) ≡ rest ++ more = drop-append-le n buffer more inside in
    let Q : ℕ → List ℕ → Type 0 = λ used xs. AnswersRest xs used (head_length (take 16384 xs)) next in
    let a : Q n (drop n (buffer ++ more)) = subst (λ xs. Q n xs) (sym after) kept.0 in
    subst (λ k. Q k (drop k (buffer ++ more))) (sym same) a

-- ---- one thing stands there

head-once : (head after : List ℕ) (used : ℕ) (a b : Next) → AnswersHead head after used a → AnswersHead head after used b → a ≡ b
head-once head after used a b x y =
    let Many : Next → Type 0 = λ next. next ≡ refused HeadSize in
    let None' : Next → Type 0 = λ next. (next ≡ refused Head) × ((h : RequestHead) → ¬ (IsJustHead head h)) in
    let One : Next → Type 0 = λ next. (h : RequestHead) × IsJustHead head h × (next ≡ answered (parts_of h) after used) in
    let M : Bool → Type 0 = λ t. MatchBool t (Many a) (None' a ⊎ One a) → MatchBool t (Many b) (None' b ⊎ One b) → a ≡ b in
    elim (nat_lt 66 (line_count head)) as M [
      | true ↦ (λ p q. p ∙ sym q)
      | false ↦ (λ p q. elim p as (λ _. a ≡ b) [
        | inl n ↦ elim q as (λ _. a ≡ b) [ inl m ↦ n.0 ∙ sym m.0 | inr o ↦ absurd (n.1 o.0 o.1) ]
        | inr o ↦ elim q as (λ _. a ≡ b) [
          | inl m ↦ absurd (m.1 o.0 o.1)
          | inr u ↦
              (let same = request_unique head o.0 u.0 [] [] (reads head o.0 o.1) (reads head u.0 u.1) in
              o.2 ∙ ap (λ h. answered (parts_of h) after used) same.0 ∙ sym u.2)
        ]
      ])
    ] x y

rest-once : (rest : List ℕ) (used : ℕ) (found : Option ℕ) (a b : Next) → AnswersRest rest used found a → AnswersRest rest used found b → a ≡ b
rest-once rest used None a b x y = x ∙ sym y
rest-once rest used (Some n) a b x y = head-once (take n rest) (drop n rest) (used + n) a b x y

pub stands_once : (buffer : List ℕ) → OneStands buffer
stands_once buffer a b x y =
    rest-once (drop (blank buffer) buffer) (blank buffer) (head_length (take 16384 (drop (blank buffer) buffer))) a b x y

pub none_earlier : (buffer : List ℕ) → Stands buffer More → HasNoEarlier buffer
none_earlier buffer stands front rest (Whole m used) split earlier =
    let later = stands_later front (Whole m used) rest earlier (λ e. cc) in
    stands_once buffer _ _ (subst (λ b. Stands b (Whole m used)) (sym split) later) stands
none_earlier buffer stands front rest More split earlier = refl
none_earlier buffer stands front rest (Refused status rule) split earlier =
    let later = stands_later front (Refused status rule) rest earlier (λ e. cc) in
    stands_once buffer _ _ (subst (λ b. Stands b (Refused status rule)) (sym split) later) stands

-- ---- what a result says

pub gives_ok : (buffer : List ℕ) (next : Next) → GivesWhat (Stands buffer) (Ok next) → Stands buffer next
gives_ok buffer next given = subst (Stands buffer) (sym given.2) given.1

pub gives_lack : (buffer : List ℕ) (lack : Lack) → GivesWhat (Stands buffer) (Err lack) → Lacks buffer lack
gives_lack buffer lack (Whole m used, stands, gives) =
    (m, subst (λ k. Stands buffer (Whole m k)) (sym gives.0) stands, gives.1, gives.2)
gives_lack buffer lack (More, stands, gives) = absurd gives
gives_lack buffer lack (Refused status rule, stands, gives) = absurd gives

pub exact : (buffer : List ℕ) (result : Result Next Lack) → GivesWhat (Stands buffer) result → IfOk result (Stands buffer)
exact buffer (Ok next) given = gives_ok buffer next given
exact buffer (Err lack) given = tt

pub lacking : (buffer : List ℕ) (result : Result Next Lack) → GivesWhat (Stands buffer) result → IfErr result (Lacks buffer)
lacking buffer (Ok next) given = tt
lacking buffer (Err lack) given = gives_lack buffer lack given

pub more : (buffer : List ℕ) (result : Result Next Lack) → GivesWhat (Stands buffer) result
    → (result ≡ Ok More) ↔ HasNoEarlier buffer
more buffer result given = (
  λ is. none_earlier buffer (gives_ok buffer More (subst (λ r. GivesWhat (Stands buffer) r) is given)),
  back buffer result given,
)
  where
    back : (buffer : List ℕ) (result : Result Next Lack) → GivesWhat (Stands buffer) result → HasNoEarlier buffer → result ≡ Ok More
    back buffer (Ok next) given none = ap Ok (none buffer [] next (sym (append-nil buffer)) (gives_ok buffer next given))
    back buffer (Err lack) given none =
        let m = gives_lack buffer lack given in
        let e : Whole m.0 lack.used ≡ More = none buffer [] _ (sym (append-nil buffer)) m.1 in cc

-- the answer behind the empty lines is what stands at the front
pub given_stands : (buffer rest : List ℕ) (n : ℕ) (result : Result Next Lack) → n ≡ blank buffer → rest ≡ drop n buffer
    → GivesWhat (AnswersRest rest n (head_length (take 16384 rest))) result → GivesWhat (Stands buffer) result
given_stands buffer rest n result is tail given =
    let Q : ℕ → List ℕ → Type 0 = λ k ys. GivesWhat (AnswersRest ys k (head_length (take 16384 ys))) result in
    let a : Q n (drop n buffer) = subst (λ ys. Q n ys) tail given in
    subst (λ k. Q k (drop k buffer)) is a

-- the answer at a head that was found
pub given_head : (rest window head after : List ℕ) (used n : ℕ) (result : Result Next Lack)
    → window ≡ take 16384 rest → Some n ≡ head_length window → head ≡ take n rest → after ≡ drop n rest
    → GivesWhat (AnswersHead head after (used + n)) result
    → GivesWhat (AnswersRest rest used (head_length (take 16384 rest))) result
given_head rest window head after used n result same found front back given =
    let a : GivesWhat (AnswersHead (take n rest) after (used + n)) result =
    subst (λ xs. GivesWhat (AnswersHead xs after (used + n)) result) front given in
    let b : GivesWhat (AnswersHead (take n rest) (drop n rest) (used + n)) result =
    subst (λ xs. GivesWhat (AnswersHead (take n rest) xs (used + n)) result) back a in
    subst (λ o. GivesWhat (AnswersRest rest used o) result) (found ∙ ap head_length same) b

-- ---- a message takes some of the bytes

head_length-some : (bytes : List ℕ) (n : ℕ) → head_length bytes ≡ Some n → 0 < n
head_length-some [] n e = cc
head_length-some (b ∷ bytes) n e =
    let go : Bool → Option ℕ = λ t. if t then Some (1 + empty_line bytes) else option_map (λ m. 1 + m) (head_length bytes) in
    let M : Bool → Type 0 = λ t. go t ≡ Some n → 0 < n in
    elim (b == 10 && nat_lt 0 (empty_line bytes)) as M [
      | true ↦ (λ eq. let same : 1 + empty_line bytes ≡ n = cc in omega arith)
      | false ↦ (λ eq.
          let found = option_map-some (head_length bytes) n eq in
          let same : option_map (λ m. 1 + m) (Some found.0) ≡ Some n = sym (ap (option_map (λ m. 1 + m)) found.1) ∙ eq in
          let value : 1 + found.0 ≡ n = cc in omega arith)
    ] e

framed-used : (r : Result ℕ Rule) (p : Parts) (after : List ℕ) (from : ℕ) (m : Message) (used : ℕ)
    → Whole m used ≡ framed r p after from → (from ≤ used) × (used ≤ from + length after)
framed-used (Err rule) p after from m used e = cc
framed-used (Ok n) p after from m used e =
    let go : Bool → Next = λ t. if t then Whole (message_of p (take n after)) (from + n) else More in
    let M : Bool → Type 0 = λ t. nat_le n (length after) ≡ t → Whole m used ≡ go t → (from ≤ used) × (used ≤ from + length after) in
    elim (nat_le n (length after)) as M [
      | true ↦ (λ is eq.
          let le : n ≤ length after = leb-true n (length after) is in
          let same : used ≡ from + n = cc in (omega arith, omega arith))
      | false ↦ (λ is eq. cc)
    ] refl e

head-used : (head after : List ℕ) (from : ℕ) (m : Message) (used : ℕ) → AnswersHead head after from (Whole m used)
    → (from ≤ used) × (used ≤ from + length after)
head-used head after from m used stands =
    let Goal : Type 0 = (from ≤ used) × (used ≤ from + length after) in
    let Many : Type 0 = Whole m used ≡ refused HeadSize in
    let None' : Type 0 = (Whole m used ≡ refused Head) × ((h : RequestHead) → ¬ (IsJustHead head h)) in
    let One : Type 0 = (h : RequestHead) × IsJustHead head h × (Whole m used ≡ answered (parts_of h) after from) in
    let M : Bool → Type 0 = λ t. MatchBool t Many (None' ⊎ One) → Goal in
    elim (nat_lt 66 (line_count head)) as M [
      | true ↦ (λ e. cc)
      | false ↦ (λ e. elim e as (λ _. Goal) [
        | inl none ↦ (let clash : Whole m used ≡ refused Head = none.0 in cc)
        | inr one ↦ framed-used (check (parts_of one.0).minor (parts_of one.0).fields) (parts_of one.0) after from m used one.2
      ])
    ] stands

rest-used : (rest : List ℕ) (from : ℕ) (found : Option ℕ) (m : Message) (used : ℕ) → head_length (take 16384 rest) ≡ found
    → AnswersRest rest from found (Whole m used) → (from < used) × (used ≤ from + length rest)
rest-used rest from None m used is stands =
    let M : Bool → Type 0 = λ t. Whole m used ≡ (if t then refused HeadSize else More) → (from < used) × (used ≤ from + length rest) in
    elim (nat_le 16384 (length rest)) as M [ true ↦ (λ e. cc) | false ↦ (λ e. cc) ] stands
rest-used rest from (Some n) m used is stands =
    let fits = window-le 16384 rest n is in
    let some = head_length-some (take 16384 rest) n is in
    let h = head-used (take n rest) (drop n rest) (from + n) m used stands in
    (omega (arith, h.0, some), omega (arith, h.1, fits.0, length-drop n rest))

pub blank-le-length : (bytes : List ℕ) → blank bytes ≤ length bytes
blank-le-length [] = omega arith
blank-le-length (b ∷ []) =
    let one : Bool → ℕ = λ t. if t then 1 else 0 in
    elim (b == 10) as (λ t. one t ≤ 1) [ true ↦ omega arith | false ↦ omega arith ]
blank-le-length (b ∷ c ∷ bytes) =
    let two : Bool → ℕ = λ u. if u then 2 + blank bytes else 0 in
    let go : Bool → ℕ = λ t. if t then 1 + blank (c ∷ bytes) else two (b == 13 && c == 10) in
    let n : ℕ = length (b ∷ c ∷ bytes) in
    elim (b == 10) as (λ t. go t ≤ n) [
      | true ↦ omega (arith, blank-le-length (c ∷ bytes))
      | false ↦ elim (b == 13 && c == 10) as (λ u. two u ≤ n) [ true ↦ omega (arith, blank-le-length bytes) | false ↦ omega arith ]
    ]

pub used-within : (buffer : List ℕ) (m : Message) (used : ℕ) → Stands buffer (Whole m used) → (0 < used) × (used ≤ length buffer)
used-within buffer m used stands =
    let n = blank buffer in
    let rest = drop n buffer in
    let h = rest-used rest n (head_length (take 16384 rest)) m used refl stands in
    (omega (arith, h.0), omega (arith, h.1, blank-le-length buffer, length-drop n buffer))

pub within : (buffer : List ℕ) (result : Result Next Lack) → GivesWhat (Stands buffer) result → TakesWithin (length buffer) result
within buffer (Ok (Whole m used)) given = used-within buffer m used (gives_ok buffer (Whole m used) given)
within buffer (Ok More) given = tt
within buffer (Ok (Refused status rule)) given = tt
within buffer (Err lack) given =
    let m = gives_lack buffer lack given in used-within buffer m.0 lack.used m.1
