-- What a parse of the head says of the answer.
use Rattle.std.proofs.Common.{◌≡◌, ◌≢◌, ℕ, ◌+◌, ◌<◌, ◌≤◌, Bool, true, false, List, [], ◌∷◌, ◌++◌, length, drop, refl, sym, ap, ◌∙◌, subst, arith, append_assoc, append-nil, inl, inr, Result, flat_map}
use Rattle.std.specs.Prelude.{◌⊎◌, nat_lt, MatchBool, IsUtf8}
use Rattle.std.proofs.lemmas.Bool.Decides.{nat_tests}
use Rattle.std.proofs.lemmas.List.{drop_all}
use Rattle.std.proofs.lemmas.List.Sums.{sum_by-append}
use Rattle.std.proofs.lemmas.List.Elements.{All-weaker}
use Rattle.std.proofs.lemmas.Str.{IsUtf8-from_ascii}
use Rattle.std.proofs.lemmas.Str.Ascii.{IsAscii-from_all}
use Rattle.httparse.specs.declared.spans.HeaderSpan.{HeaderSpan}
use Rattle.httparse.specs.declared.spans.RequestSpans.{RequestSpans}
use Rattle.httparse.specs.Grammar.{is_token_byte, IsToken, LineEnd, crlf, lf, print_end, print_blank, print_version, Field, print_field, print_section, RequestHead, print_request, ReadsRequest}
use Rattle.httparse.specs.Spans.{IsRequestAt}
use Rattle.httparse.proofs.GrammarLemmas.{request_unique, print_request-append}
use Rattle.cat_http.specs.declared.message.Next.{Next}
use Rattle.cat_http.specs.declared.message.Lack.{Lack}
use Rattle.cat_http.specs.declared.message.Rule.TheVariants.{HeadSize, Head}
use Rattle.cat_http.specs.Lines.{line_count}
use Rattle.cat_http.specs.Head.{parts_at, parts_of}
use Rattle.cat_http.specs.Message.{refused, answered, IsJustHead, AnswersHead, Gives, GivesWhat}

-- ---- lines

lines-append : (xs ys : List ℕ) → line_count (xs ++ ys) ≡ line_count xs + line_count ys
lines-append xs ys = sum_by-append _ xs ys

lines-after : (xs ys : List ℕ) (n : ℕ) → n ≤ line_count ys → n ≤ line_count (xs ++ ys)
lines-after xs ys n le = omega (arith, lines-append xs ys)

lines-end : (e : LineEnd) → line_count (print_end e) ≡ 1
lines-end crlf = refl
lines-end lf = refl

lines-field : (f : Field) → 1 ≤ line_count (print_field f)
lines-field f = lines-after (f.name ++ 58 ∷ f.raw) (print_end f.end) 1 (omega (arith, lines-end f.end))

lines-section : (fields : List Field) (last : LineEnd) → length fields + 1 ≤ line_count (print_section fields last)
lines-section [] last = omega (arith, lines-end last)
lines-section (f ∷ fields) last =
    let e = ap line_count (append_assoc (print_field f) (flat_map print_field fields) (print_end last)) in
    omega (arith, e, lines-append (print_field f) (print_section fields last), lines-field f, lines-section fields last)

-- a head has a line for each field, the request line and the empty line
pub lines-head : (head : List ℕ) (h : RequestHead) → IsJustHead head h → length h.fields + 2 ≤ line_count head
lines-head head h just =
    let section = print_section h.fields h.last in
    let one : 1 ≤ line_count (print_end h.line_end) = omega (arith, lines-end h.line_end) in
    let two : length h.fields + 2 ≤ line_count (print_end h.line_end ++ (section ++ [])) =
    omega (arith, lines-append (print_end h.line_end) (section ++ []), lines-append section [], lines-section h.fields h.last) in
    let n = length h.fields + 2 in
    let r2 = print_end h.line_end ++ (section ++ []) in
    let r3 = 32 ∷ (print_version h.minor ++ r2) in
    let three : n ≤ line_count r3 = lines-after (32 ∷ []) (print_version h.minor ++ r2) n (lines-after (print_version h.minor) r2 n two) in
    let r4 = 32 ∷ (h.target ++ r3) in
    let four : n ≤ line_count r4 = lines-after (32 ∷ []) (h.target ++ r3) n (lines-after h.target r3 n three) in
    let five : n ≤ line_count (print_blank h.blank ++ (h.method ++ r4)) =
    lines-after (print_blank h.blank) (h.method ++ r4) n (lines-after h.method r4 n four) in
    let e = ap line_count (just.1 ∙ sym (append-nil (print_request h)) ∙ print_request-append h []) in
    omega (arith, e, five)

-- ---- heads

pub reads : (head : List ℕ) (h : RequestHead) → IsJustHead head h → ReadsRequest head h []
reads head h just = (just.0, just.1 ∙ sym (append-nil (print_request h)))

token_is_ascii : (b : ℕ) → is_token_byte b ≡ true → b < 128
unfolding is_token_byte
token_is_ascii b token = grind (arith, nat_tests)

pub token-text : (bytes : List ℕ) → IsToken bytes → IsUtf8 bytes
token-text bytes token =
    IsUtf8-from_ascii _ (IsAscii-from_all _ (All-weaker (λ b. is_token_byte b ≡ true) (λ b. b < 128) token_is_ascii _ token.1))

parts_same : (head : List ℕ) (headers : List HeaderSpan) (r : RequestSpans) (h : RequestHead)
    → IsRequestAt head headers r h → parts_at head headers r ≡ parts_of h
parts_same head headers r h at = λ i. record { method = at.method i; target = at.path i; minor = at.version i; fields = at.fields i }

few_lines : (head after : List ℕ) (used : ℕ) (next : Next) → line_count head ≤ 66
    → ((next ≡ refused Head) × ((h : RequestHead) → ¬ (IsJustHead head h)))
    ⊎ ((h : RequestHead) × IsJustHead head h × (next ≡ answered (parts_of h) after used))
    → AnswersHead head after used next
few_lines head after used next few fact =
    let e : false ≡ nat_lt 66 (line_count head) = grind (arith, nat_tests) in
    let Many : Type 0 = next ≡ refused HeadSize in
    let Few : Type 0 = ((next ≡ refused Head) × ((h : RequestHead) → ¬ (IsJustHead head h)))
    ⊎ ((h : RequestHead) × IsJustHead head h × (next ≡ answered (parts_of h) after used)) in
    let P : Bool → Type 0 = λ t. MatchBool t Many Few in
    subst P e fact

-- the head was read whole
pub read_whole : (head after : List ℕ) (used : ℕ) (headers : List HeaderSpan) (r : RequestSpans) (h : RequestHead)
    → line_count head ≤ 66 → IsRequestAt head headers r h → r.len ≡ length head
    → (result : Result Next Lack) → Gives result (answered (parts_at head headers r) after used)
    → GivesWhat (AnswersHead head after used) result
read_whole head after used headers r h few at whole result gives =
    let none : drop r.len head ≡ [] = drop_all r.len head (omega arith) in
    let just : head ≡ print_request h = at.reads.1 ∙ ap (λ rest. print_request h ++ rest) none ∙ append-nil (print_request h) in
    let same = ap (λ p. answered p after used) (parts_same head headers r h at) in
    let P : Next → Type 0 = λ a. Gives result a in
    (answered (parts_of h) after used, few_lines head after used _ few (inr (h, (at.reads.0, just), refl)), subst P same gives)

-- a shorter one was read
pub read_short : (head after : List ℕ) (used : ℕ) (headers : List HeaderSpan) (r : RequestSpans) (h : RequestHead)
    → line_count head ≤ 66 → IsRequestAt head headers r h → r.len ≢ length head
    → AnswersHead head after used (refused Head)
read_short head after used headers r h few at short =
    few_lines head after used _ few (inl (
      refl,
      λ k just.
          let same = request_unique head h k (drop r.len head) [] at.reads (reads head k just) in
          let size = ap (λ (x : RequestHead). length (print_request x)) same.0 in
          short (at.len ∙ size ∙ ap length (sym just.1)),
    ))

-- none was read
pub read_none : (head after : List ℕ) (used : ℕ) → line_count head ≤ 66
    → ((h : RequestHead) → ReadsRequest head h [] → 64 < length h.fields)
    → AnswersHead head after used (refused Head)
read_none head after used few over =
    few_lines head after used _ few (inl (
      refl,
      λ h just.
          let a = over h (reads head h just) in
          let b = lines-head head h just in absurd (omega arith),
    ))
