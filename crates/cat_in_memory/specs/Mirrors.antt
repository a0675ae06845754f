-- What a run of the mirror has done.
use Rattle.std.specs.Prelude.{◌≡◌, ℕ, List, Option, IfSome, ◌⊎◌}
use Rattle.cat_connection.specs.declared.command.Status.{Status}
use Rattle.cat_connection.specs.declared.command.Status.TheVariants as status_is
use Rattle.std.specs.Io.KnownBytes.{Appends}
use Rattle.cat_mirror.specs.Answers.{mirror_out}
use Rattle.cat_mirror.specs.Following.{AppendsSome, IsStopped, IsWhole}
use Rattle.cat_mirror.specs.declared.stop.Stop.{Stop}
use Rattle.cat_mirror.specs.declared.stop.Stop.TheVariants.{ReadFault, WriteFault, Bound, NoMemory}

-- the status for each way to stop
abbrev pub stop_status : Stop → Status
stop_status ReadFault = status_is.ReadFault
stop_status WriteFault = status_is.WriteFault
stop_status Bound = status_is.Bound
stop_status NoMemory = status_is.NoMemory

-- All was read, and what a mirror writes for it was written. Where the source tells its bytes, this is said of all of them.
abbrev pub MirrorsWhole : Option (List ℕ) → Option (List ℕ) → Option (List ℕ) → Option (List ℕ) → Type 0
MirrorsWhole left left' written written' =
    IsWhole left left' written written' × IfSome left (λ bytes. Appends written written' (mirror_out bytes))

-- It stopped, and what was written is a front of that.
abbrev pub MirrorsSome : Stop → Option (List ℕ) → Option (List ℕ) → Option (List ℕ) → Option (List ℕ) → Type 0
MirrorsSome stop left left' written written' =
    IsStopped stop left left' written written' × IfSome left (λ bytes. AppendsSome written written' (mirror_out bytes))

-- A mirror followed the lines of the source, and ended with this status.
abbrev pub HasMirrored : Status → Option (List ℕ) → Option (List ℕ) → Option (List ℕ) → Option (List ℕ) → Type 0
HasMirrored status left left' written written' =
    ((status ≡ status_is.Whole) × MirrorsWhole left left' written written')
    ⊎ ((stop : Stop) × (status ≡ stop_status stop) × MirrorsSome stop left left' written written')
