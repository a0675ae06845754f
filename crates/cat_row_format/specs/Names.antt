-- The words that stand in rows.
use Rattle.std.specs.Prelude.{codes}
use Rattle.cat_collections.specs.Table.{Text}
use Rattle.cat_row_format.specs.declared.row.OrphanRule.{OrphanRule}
use Rattle.cat_row_format.specs.declared.row.OrphanRule.TheVariants.{Keep, Delete}
use Rattle.cat_row_format.specs.declared.row.StoredCounter.{StoredCounter}
use Rattle.cat_row_format.specs.declared.row.StoredCounter.TheVariants.{Arrival, Number}

-- the name of a counter
abbrev pub counter_text : StoredCounter → Text
counter_text Arrival = codes "arrival"
counter_text Number = codes "number"

-- the name of a rule for orphans
abbrev pub rule_text : OrphanRule → Text
rule_text Keep = codes "keep"
rule_text Delete = codes "delete"
