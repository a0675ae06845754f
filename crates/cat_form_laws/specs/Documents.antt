-- What a stored document is.
use Rattle.std.specs.Prelude.{◌≡◌, ◌<◌, ◌^◌}
use Rattle.cat_tree.specs.Data.{Data}
use Rattle.cat_collections.specs.Table.{Text}
use Rattle.cat_types.specs.declared.parts.Parts.{Parts}
use Rattle.cat_stitch.specs.Document.{document}
use Rattle.cat_layers.specs.Forms.{IsProcessed}

-- a document of a reference is that of a processed entity of the reference, with a number below 2^59
pub record IsDocumentOf (d : Data) (r : Text) : Type 0 where
  pub parts : Parts
  pub entity : IsProcessed parts.entity r
  pub number : parts.number < 2 ^ 59
  pub document_is : d ≡ document parts
