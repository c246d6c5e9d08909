-- How the process ends, and what it did with its devices then (ours).
use Rattle.std.specs.Prelude.{◌≡◌, ℕ, List, Option, Some, None, Result, Ok, Err, false}
use Rattle.clap.specs.declared.error.Error.{Error}
use Rattle.rh_devices.specs.declared.device.Failed.{Failed}
use Rattle.rh_devices.specs.declared.watched.Watched.{Watched}
use Rattle.rh_asked.specs.declared.program.Program.{Program}
use Rattle.rh_manner.specs.declared.pair.Pair.{Pair}
use Rattle.rh_manner.specs.Pairs.{given_by, unread_by, taken_by, written_by}
use Rattle.rh_programs.specs.declared.status.Tongue.{Tongue}
use Rattle.rh_programs.specs.Status.{DialogueStatus, StatusGives, IsDone, said_in, tongue_of}
use Rattle.rh_command_line.specs.Asking.{IsAsked}
use Rattle.rh_command_line.specs.declared.command_line.Asked.{Asked}
use Rattle.rh_command_line.specs.declared.command_line.Asked.TheVariants as asked
use Rattle.rh_command_line.specs.declared.command_line.Words.{Words}

-- a device before its first call
abbrev pub unused : {D : Type 0} → D → Watched D
unused device = record { inner = device; failed = false }

-- a program that answers as it reads ran over both as one device; any other over each
abbrev pub EndsBy : {S K : Type 0} → (S → S → List ℕ → Type 0) → (S → S → Type 0) → (K → K → List ℕ → Type 0) → (K → K → Type 0) → (K → K → Type 0)
    → Option Tongue → Program → S → K → ℕ → Type 0
EndsBy {S = S} {K = K} gives unread takes flushes unwritten (Some tongue) program reader writer status =
    (new : Watched (Pair S K)) × DialogueStatus (given_by gives) (unread_by unread) (taken_by takes) (written_by flushes) (written_by unwritten)
    (said_in tongue) status
    (unused (record { reader = reader; writer = writer })) new
EndsBy {S = S} {K = K} gives unread takes flushes unwritten None program reader writer status =
    (new : Watched S) × (after : Watched K)
    × StatusGives gives unread takes flushes unwritten program status (unused reader) new (unused writer) after
    × (status ≡ 0 → IsDone gives takes flushes program (unused reader) new (unused writer) after)

-- the program ran over these devices, and the process ends with its status
abbrev pub EndsOver : {S K : Type 0} → (S → S → List ℕ → Type 0) → (S → S → Type 0) → (K → K → List ℕ → Type 0) → (K → K → Type 0) → (K → K → Type 0)
    → Program → S → K → ℕ → Type 0
EndsOver gives unread takes flushes unwritten program reader writer status =
    EndsBy gives unread takes flushes unwritten (tongue_of program) program reader writer status

-- the same, where there may be no memory for the writer's buffer
abbrev pub EndsIfBuffered : {S K : Type 0} → (S → S → List ℕ → Type 0) → (S → S → Type 0) → (K → K → List ℕ → Type 0) → (K → K → Type 0) → (K → K → Type 0)
    → Program → S → Result K Failed → ℕ → Type 0
EndsIfBuffered gives unread takes flushes unwritten program reader (Ok writer) status = EndsOver gives unread takes flushes unwritten program reader writer status
EndsIfBuffered gives unread takes flushes unwritten program reader (Err failed) status = status ≡ 5

-- how the process ends for what was asked; a refused command line is told to where errors go
abbrev pub Answers : {S K E : Type 0} → (S → S → List ℕ → Type 0) → (S → S → Type 0) → (K → K → List ℕ → Type 0) → (K → K → Type 0) → (K → K → Type 0)
    → (E → E → Error → Type 0) → Asked → S → Result K Failed → E → E → ℕ → Type 0
Answers gives unread takes flushes unwritten tells (asked.For program) reader writer old new status =
    EndsIfBuffered gives unread takes flushes unwritten program reader writer status × (new ≡ old)
Answers gives unread takes flushes unwritten tells (asked.Refused error) reader writer old new status = (status ≡ 1) × tells old new error
Answers gives unread takes flushes unwritten tells asked.OutOfMemory reader writer old new status = (status ≡ 5) × (new ≡ old)

-- how the process ends for these words: something is what they ask, and that is answered
abbrev pub ProcessGives : {S K E : Type 0} → (S → S → List ℕ → Type 0) → (S → S → Type 0) → (K → K → List ℕ → Type 0) → (K → K → Type 0) → (K → K → Type 0)
    → (E → E → Error → Type 0) → Words → S → Result K Failed → E → E → ℕ → Type 0
ProcessGives gives unread takes flushes unwritten tells words reader writer old new status =
    (it : Asked) × IsAsked words it × Answers gives unread takes flushes unwritten tells it reader writer old new status
