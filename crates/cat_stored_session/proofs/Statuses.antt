-- The statuses of commands over a store.
use Rattle.std.proofs.Common.{◌≡◌, ◌⊎◌, inl, inr, List, [], ◌∷◌}
use Rattle.cat_connection.specs.Status.{IsOneOf, connection_status}
use Rattle.cat_connection.specs.declared.command.Status.{Status}
use Rattle.cat_connection.specs.declared.command.Status.TheVariants.{Whole, ReadFault, WriteFault, StoreFault, BadRow, NoMemory, Bound}
use Rattle.cat_connection.specs.declared.message_loop.ConnEnd.{ConnEnd}
use Rattle.cat_connection.specs.declared.message_loop.ConnEnd.TheVariants as messages

abbrev pub IsStoredStatus : Status → Type 0
IsStoredStatus s = IsOneOf s (Whole ∷ ReadFault ∷ WriteFault ∷ StoreFault ∷ BadRow ∷ NoMemory ∷ Bound ∷ [])

pub of_run : (s : Status) → IsOneOf s (Whole ∷ ReadFault ∷ WriteFault ∷ NoMemory ∷ Bound ∷ []) → IsStoredStatus s
of_run s (inl is) = inl is
of_run s (inr (inl is)) = inr (inl is)
of_run s (inr (inr (inl is))) = inr (inr (inl is))
of_run s (inr (inr (inr (inl is)))) = inr (inr (inr (inr (inr (inl is)))))
of_run s (inr (inr (inr (inr is)))) = inr (inr (inr (inr (inr (inr is)))))

pub of_shut : (s : Status) → IsOneOf s (StoreFault ∷ BadRow ∷ NoMemory ∷ []) → IsStoredStatus s
of_shut s (inl is) = inr (inr (inr (inl is)))
of_shut s (inr (inl is)) = inr (inr (inr (inr (inl is))))
of_shut s (inr (inr is)) = inr (inr (inr (inr (inr (inl is)))))

pub of_end : (end : ConnEnd) (s : Status) → s ≡ connection_status end → IsStoredStatus s
of_end messages.Whole s is = inl is
of_end messages.ReadFault s is = inr (inl is)
of_end messages.WriteFault s is = inr (inr (inl is))
of_end messages.NoMemory s is = inr (inr (inr (inr (inr (inl is)))))
of_end messages.Bound s is = inr (inr (inr (inr (inr (inr is)))))
