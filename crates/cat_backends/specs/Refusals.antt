-- Why a call of a database gave nothing.
use Rattle.sqlite.specs.declared.error.Error.{Error}
use Rattle.sqlite.specs.declared.error.Error.TheVariants.{SqliteFailure}
use Rattle.sqlite.specs.declared.error.ErrorCode.TheVariants.{OutOfMemory}
use Rattle.cat_backends.specs.declared.refusal.Refusal.{Refusal}
use Rattle.cat_backends.specs.declared.refusal.Refusal.TheVariants.{NoMemory, Failed}

-- want of memory is told as that, and each other error as a failure
abbrev pub refusal_of : Error → Refusal
refusal_of (SqliteFailure OutOfMemory) = NoMemory
refusal_of _ = Failed
