-- A store that wasn't opened.
use Rattle.std.proofs.Common.{◌≡◌, ℕ, List, ◌⊎◌, inl, inr, ap, refl, sym, ◌∙◌, arith}
use Rattle.std.specs.Prelude.{Option, IfSome}
use Rattle.cat_connection.specs.Status.{exit_number}
use Rattle.cat_connection.specs.declared.command.Status.{Status}
use Rattle.cat_connection.specs.declared.command.Status.TheVariants.{StoreFault, BadRow, NoMemory}
use Rattle.cat_io.specs.Causes.{Rose}
use Rattle.cat_keeper.specs.Answers.{Stays}
use Rattle.cat_keeper.specs.Store.{Rows}
use Rattle.cat_open_errors.specs.Unopened.{IsRefused, IsShut, IsUnopenable}

five_apart : (n : ℕ) → 5 ≡ n → n ≡ 6 → ⊥
five_apart n e six = absurd (omega (arith, e, six))

nine_apart : (n : ℕ) → 9 ≡ n → n ≡ 6 → ⊥
nine_apart n e six = absurd (omega (arith, e, six))

fault_apart : StoreFault ≡ BadRow → ⊥
fault_apart e = five_apart (exit_number BadRow) (ap exit_number e) refl

memory_apart : NoMemory ≡ BadRow → ⊥
memory_apart e = nine_apart (exit_number BadRow) (ap exit_number e) refl

pub shut : {O K : Type 0} (written : O → Option (List ℕ)) (write_faults : O → ℕ) (tables : K → Option Rows) (keeper_faults : K → ℕ) (status : Status) (sink sink' : O) (keeper keeper' : K)
    → ((status ≡ StoreFault) ⊎ ((status ≡ BadRow) ⊎ (status ≡ NoMemory))) → ((status ≡ BadRow → ⊥) → sink' ≡ sink) → Stays (tables keeper) (tables keeper')
    → (status ≡ StoreFault → Rose (keeper_faults keeper) (keeper_faults keeper')) → (status ≡ BadRow → IsUnopenable (tables keeper))
    → (status ≡ BadRow → IsRefused (tables keeper) (written sink) (written sink') (write_faults sink) (write_faults sink'))
    → IsShut written write_faults tables keeper_faults status sink sink' keeper keeper'
shut written write_faults tables keeper_faults status sink sink' keeper keeper' (inl fault) unwritten same cause unopenable refused =
    record { same = same; cause = inl (fault, unwritten (λ e. fault_apart (sym fault ∙ e)), cause fault) }
shut written write_faults tables keeper_faults status sink sink' keeper keeper' (inr (inl row)) unwritten same cause unopenable refused =
    record { same = same; cause = inr (inl (row, unopenable row, refused row)) }
shut written write_faults tables keeper_faults status sink sink' keeper keeper' (inr (inr memory)) unwritten same cause unopenable refused =
    record { same = same; cause = inr (inr (memory, unwritten (λ e. memory_apart (sym memory ∙ e)))) }
