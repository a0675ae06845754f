use Rattle.std.proofs.Common.{◌≡◌, ◌∙◌, ℕ, ◌≤◌, ◌<◌, List, [], ◌∷◌, None, length, map, string_bytes, refl, sym, subst, ap, arith}
use Rattle.std.specs.Prelude.{slice_index_or}
use Rattle.cat_command_line.specs.Reads.{Reads}
use Rattle.cat_command_line.specs.Words.{command_named, command_of}
use Rattle.cat_command_line.proofs.words.command_of.Goals as goal

none : {A : Type 0} (f : A → List ℕ) (words : List A) → length words < 1 → command_of (map f words) ≡ None
unfolding command_of
none f [] short = refl
none f (word ∷ words) short = absurd (omega arith)

named : {A : Type 0} (f : A → List ℕ) (words : List A) (x : A) → 1 ≤ length words → x ≡ slice_index_or words 0 x → command_of (map f words) ≡ command_named (f x) (map f words)
unfolding command_of
named f [] x long is = absurd (omega arith)
named f (word ∷ words) x long is = let same : x ≡ word = is in sym (ap (λ y. command_named (f y) (map f (word ∷ words))) same)

pub returns-in-empty-clause-value : goal.returns-in-empty-clause-value
returns-in-empty-clause-value c = none string_bytes c.args.words.now c.in-empty.len_below

pub returns-in-len1-up-clause-value : goal.returns-in-len1-up-clause-value
returns-in-len1-up-clause-value c =
    let words = map string_bytes c.args.words.now in
    subst (λ o. Reads o c.command_named.result) (
    ap (λ name. command_named name words) c.as_str.ensures.value ∙ sym (named string_bytes c.args.words.now c.name-item.result c.in-len1-up.len_at_least c.name-item.is)
    ) c.command_named.ensures.value
