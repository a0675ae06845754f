use Rattle.std.proofs.Common.{◌≡◌, drop, map}
use Rattle.cat_tree.specs.View.{data_of}
use Rattle.cat_yaml.specs.Reading.{documents, more_documents}
use Rattle.cat_yaml.specs.SeenLine.{seen_line}
use Rattle.cat_yaml.proofs.read.documents.Given as goal

-- the documents so far, with those that begin on the lines that are left, are all documents
abbrev pub invariant-loop-i : goal.invariant-loop-i
invariant-loop-i l =
    more_documents (map data_of l.found.items) (map seen_line (drop l.i l.lines)) ≡ documents (map seen_line l.lines)
