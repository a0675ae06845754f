-- What clap takes, and that each command is one that its definitions speak of.
use Rattle.std.proofs.Common.{◌≡◌, ◌⊎◌, ◌∙◌, Bool, true, false, ◌&&◌, List, [], ◌∷◌, Some, None, refl, sym, ap, inl, inr}
use Rattle.clap.specs.Faults.{fault_of, is_free_app, is_simple_and_free}
use Rattle.clap.specs.Kinds.{IsAmong, Kinds}
use Rattle.clap.specs.Simple.{App, built, is_simple, matches_of}
use Rattle.clap.specs.Walk.{Row, Text}
use Rattle.clap.specs.declared.error.kind.ErrorKind.{ErrorKind}
use Rattle.clap.specs.declared.error.kind.ErrorKind.TheVariants.{OutOfMemory}
use Rattle.cat_command_line.specs.Given.{catalogue_words, if_taken, mirror_words, read, sample_words, server_words}

first_holds : (a b : Bool) → (a && b) ≡ true → a ≡ true
first_holds true b e = refl
first_holds false b e = e

pub simple_alone : (app : App) → is_simple_and_free app ≡ true → is_simple app ≡ true
simple_alone app e = first_holds (is_simple app) (is_free_app (built app)) e

-- words without a fault are taken
pub taken : (app : App) (words : List Text) (rows : List Row) → fault_of app words ≡ [] → rows ≡ matches_of app words → read app words ≡ Some rows
unfolding read
taken app words rows none are = ap (λ k. if_taken k (matches_of app words)) none ∙ ap Some (sym are)

none_taken : (kinds : Kinds) (k : ErrorKind) (rows : List Row) → (k ≡ OutOfMemory) ⊎ IsAmong k kinds → (k ≡ OutOfMemory → ⊥) → if_taken kinds rows ≡ None
none_taken [] k rows (inl memory) other = absurd (other memory)
none_taken [] k rows (inr among) other = absurd among
none_taken (x ∷ xs) k rows among other = refl

-- words with a fault are not
pub refused : (app : App) (words : List Text) (k : ErrorKind) → (k ≡ OutOfMemory) ⊎ IsAmong k (fault_of app words) → (k ≡ OutOfMemory → ⊥) → read app words ≡ None
unfolding read
refused app words k among other = none_taken (fault_of app words) k (matches_of app words) among other

-- ---- the commands

pub catalogue_simple : (name : Text) → is_simple_and_free (catalogue_words name) ≡ true
unfolding catalogue_words
catalogue_simple name = refl

pub server_simple : (name : Text) → is_simple_and_free (server_words name) ≡ true
unfolding server_words catalogue_words
server_simple name = refl

pub sample_simple : (name : Text) → is_simple_and_free (sample_words name) ≡ true
unfolding sample_words
sample_simple name = refl

pub mirror_simple : (name : Text) → is_simple_and_free (mirror_words name) ≡ true
unfolding mirror_words
mirror_simple name = refl
