-- The faults of the keeper of a file.
use Rattle.std.specs.Prelude.{ℕ}
use Rattle.cat_backends.specs.declared.files.ToolFile.{ToolFile}
use Rattle.cat_backends.specs.declared.files.ToolFile.TheVariants.{Sql, Journal}

-- the count of faults of the keeper that a file has
abbrev pub faults_of : ToolFile → ℕ
faults_of (Sql keeper) = keeper.faults
faults_of (Journal keeper) = keeper.faults
