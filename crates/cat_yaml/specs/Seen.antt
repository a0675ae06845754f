-- What the reader of JSON gives, as a text or as none.
use Rattle.std.specs.Prelude.{ℕ, List, Result, Ok, Err}
use Rattle.cat_tree.specs.Data.{Data, null, flag, whole, words, list, dict}
use Rattle.cat_tree.specs.declared.read.TreeFault.{TreeFault}
use Rattle.cat_tree.specs.declared.read.TreeFault.TheVariants as tree
use Rattle.cat_yaml.specs.declared.fault.Refusal.{Refusal}
use Rattle.cat_yaml.specs.declared.fault.Refusal.TheVariants.{NoReading, NoMemory}

-- the text that a tree is
abbrev pub words_of : Data → Result (List ℕ) Refusal
words_of null = Err NoReading
words_of (flag b) = Err NoReading
words_of (whole z) = Err NoReading
words_of (words t) = Ok t
words_of (list ds) = Err NoReading
words_of (dict ms) = Err NoReading

-- why a part has no tree, where its JSON text has none
abbrev pub refusal_of : TreeFault → Refusal
refusal_of tree.Syntax = NoReading
refusal_of tree.Fraction = NoReading
refusal_of tree.NoMemory = NoMemory
