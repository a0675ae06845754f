-- The batch that bytes are the text of, in both directions.
use Rattle.std.proofs.Common.{◌≡◌, List, ℕ, Bool, true, false, true≢false, Result, Ok, Err, Option, Some, None, refl, sym, ◌∙◌, ap}
use Rattle.std.specs.Prelude.{is_some, IsTrue, ◌&&◌, bytes_eq, option_and_then, if◌then◌else◌}
use Rattle.std.proofs.lemmas.Str.{IsUtf8-from_is_utf8, is_utf8-from_IsUtf8}
use Rattle.std.proofs.lemmas.Slice.Eq.{bytes_eq-Decides}
use Rattle.std.specs.FinMap.Entries.{is_sorted}
use Rattle.std.specs.Str.{is_utf8}
use Rattle.serde_json.specs.Data as json
use Rattle.serde_json.specs.Read.{read}
use Rattle.serde_json.specs.Written.{has_float}
use Rattle.cat_tree.specs.Read.{tree_of}
use Rattle.cat_keeper.specs.Store.{Changes, Rows, row_cmp, applied}
use Rattle.cat_journal.specs.Records.{AppliesBody, after_batch}
use Rattle.cat_journal.specs.Batches.{batch_text, IsText}
use Rattle.cat_journal.specs.Parsed.{changes_in, checked, batch_in, batch_of}
use Rattle.cat_journal.specs.declared.body.BodyFault.{BodyFault}
use Rattle.cat_journal.proofs.Texts.{text_reads, changes_back}

if_some : {A : Type 0} (b : Bool) (o : Option A) (x : A) → (if b then o else None) ≡ Some x → (b ≡ true) × (o ≡ Some x)
if_some true o x e = (refl, e)
if_some false o x e = absurd (cc)

unless_some : {A : Type 0} (b : Bool) (o : Option A) (x : A) → (if b then None else o) ≡ Some x → (b ≡ false) × (o ≡ Some x)
unless_some true o x e = absurd (cc)
unless_some false o x e = (refl, e)

then_some : {A B : Type 0} (f : A → Option B) (o : Option A) (y : B) → option_and_then f o ≡ Some y → (x : A) × (o ≡ Some x) × (f x ≡ Some y)
then_some f None y e = absurd (cc)
then_some f (Some x) y e = (x, refl, e)

both : (a b : Bool) → (a && b) ≡ true → (a ≡ true) × (b ≡ true)
both true b e = (refl, e)
both false b e = absurd (true≢false (sym e))

-- the changes that were checked are a batch with this text
checked_parts : (body : List ℕ) (r : Result Changes BodyFault) (cs : Changes) → checked body r ≡ Some cs → (batch_text cs ≡ body) × IsTrue (is_sorted row_cmp cs)
checked_parts body (Err e) cs is = absurd (cc)
checked_parts body (Ok xs) cs is =
    let p = if_some (bytes_eq (batch_text xs) body && is_sorted row_cmp xs) (Some xs) cs is in
    let same : xs ≡ cs = cc in
    let q = both (bytes_eq (batch_text xs) body) (is_sorted row_cmp xs) p.0 in
    (ap batch_text (sym same) ∙ (bytes_eq-Decides (batch_text xs) body).0 q.0, ap (is_sorted row_cmp) (sym same) ∙ q.1)

pub batch_is_text : (body : List ℕ) (cs : Changes) → batch_of body ≡ Some cs → IsText cs body
unfolding batch_of
batch_is_text body cs is =
    let p = if_some (is_utf8 body) (option_and_then (batch_in body) (read body)) cs is in
    let q = then_some (batch_in body) (read body) cs p.1 in
    let r = unless_some (has_float q.0) (checked body (changes_in (tree_of q.0))) cs q.2 in
    let s = checked_parts body (changes_in (tree_of q.0)) cs r.1 in
    record { spelled = s.0; utf8 = IsUtf8-from_is_utf8 body p.0; rising = s.1 }

passes_check : (body : List ℕ) (cs : Changes) → IsText cs body → checked body (Ok cs) ≡ Some cs
passes_check body cs is =
    ap (λ (b : Bool). if b && is_sorted row_cmp cs then Some cs else None) ((bytes_eq-Decides (batch_text cs) body).1 is.spelled)
    ∙ ap (λ (b : Bool). if b then Some cs else None) is.rising

pub text_is_batch : (body : List ℕ) (cs : Changes) → IsText cs body → batch_of body ≡ Some cs
unfolding batch_of
text_is_batch body cs is =
    let p = text_reads cs body is in
    ap (λ (b : Bool). if b then option_and_then (batch_in body) (read body) else None) (is_utf8-from_IsUtf8 body is.utf8)
    ∙ (ap (λ (o : Option json.Data). option_and_then (batch_in body) o) p.1.1
    ∙ (ap (λ (b : Bool). if b then None else checked body (changes_in (tree_of p.0))) p.2
    ∙ (ap (λ d. checked body (changes_in d)) p.3
    ∙ (ap (checked body) (changes_back cs) ∙ passes_check body cs is))))

pub no_batch : (body : List ℕ) → ((cs : Changes) → IsText cs body → ⊥) → batch_of body ≡ None
no_batch body none = none_of (batch_of body) (λ cs is. none cs (batch_is_text body cs is))
  where
    none_of : (o : Option Changes) → ((cs : Changes) → o ≡ Some cs → ⊥) → o ≡ None
    none_of None h = refl
    none_of (Some cs) h = absurd (h cs refl)

-- bytes are the text of one batch
pub only_text : (body : List ℕ) (a b : Changes) → IsText a body → IsText b body → a ≡ b
only_text body a b p q =
    let both_are : Some a ≡ Some b = sym (text_is_batch body a p) ∙ text_is_batch body b q in
    cc

-- the changes of a body were made
pub applied_batch : (body : List ℕ) (cs : Changes) (old new : Rows) → IsText cs body → new ≡ applied cs old → AppliesBody (batch_of body) old new true
applied_batch body cs old new text is =
    let found = text_is_batch body cs text in
    (ap is_some found, is ∙ ap (λ o. after_batch o old) (sym found))
