-- How a program ends, and what it did with its devices then (ours).
use Rattle.std.specs.Prelude.{◌≡◌, ◌≤◌, ◌⊎◌, ℕ, List, length, Bool, true, false, Option, Result, Err}
use Rattle.rh_run.specs.declared.fault.RunFault.{RunFault}
use Rattle.rh_run.specs.declared.fault.RunFault.TheVariants as end
use Rattle.rh_run.specs.declared.fault.Told.{Told}
use Rattle.rh_devices.specs.declared.watched.Watched.{Watched}
use Rattle.rh_devices.specs.Devices.{input_limit, Passed, PassedAll, FrontTaken, FrontBroken, ReaderFailed, GaveTooMuch}
use Rattle.rh_run.specs.Faults.{ended}

-- these bytes are all that the reader gave before it had none left; they are no more than a program reads, and it hasn't failed
abbrev pub IsInput : {S : Type 0} → (S → S → List ℕ → Type 0) → Watched S → Watched S → List ℕ → Type 0
IsInput gives old new bytes = PassedAll gives old.inner new.inner bytes × (length bytes ≤ input_limit) × (new.failed ≡ false)

-- which text a program owes for which bytes, and which fault the text tells at its end, or none
abbrev pub Owing : Type 1
Owing = List ℕ → List ℕ → Option Told → Type 0

-- the input was read, and the program owes this text for it, which tells this end
abbrev pub Answers : {S : Type 0} → (S → S → List ℕ → Type 0) → Owing → Watched S → Watched S → List ℕ → Option Told → Type 0
Answers gives owes old new text owed = (bytes : List ℕ) × IsInput gives old new bytes × owes bytes text owed

-- the writer took the whole text, and hasn't failed
abbrev pub IsWritten : {K : Type 0} → (K → K → List ℕ → Type 0) → Watched K → Watched K → List ℕ → Type 0
IsWritten takes old new text = Passed takes old.inner new.inner text × (new.failed ≡ false)

-- how a program may end that owes these texts, and whose threads may make no one history of these inputs
abbrev pub ProgramGives : {S K : Type 0} → (S → S → List ℕ → Type 0) → (S → S → Type 0) → (K → K → List ℕ → Type 0) → (K → K → Type 0)
    → Owing → (List ℕ → Type 0) → Result (Unit {0}) RunFault → Watched S → Watched S → Watched K → Watched K → Type 0
-- the reader failed, or gave too much; nothing was written
ProgramGives gives unread takes unwritten owes torn (Err end.Read) old new before after =
    (ReaderFailed gives unread old new ⊎ GaveTooMuch gives old new) × (after ≡ before)
-- the writer failed; a front of the text was written
ProgramGives gives unread takes unwritten owes torn (Err end.Write) old new before after =
    (text : List ℕ) × (owed : Option Told) × Answers gives owes old new text owed
    × FrontBroken takes unwritten before.inner after.inner text × (after.failed ≡ true)
-- neither device failed; nothing was written, or a front of the text
ProgramGives gives unread takes unwritten owes torn (Err end.OutOfMemory) old new before after =
    (new.failed ≡ false) × (after.failed ≡ false)
    × ((after ≡ before) ⊎ ((text : List ℕ) × (owed : Option Told) × Answers gives owes old new text owed × FrontTaken takes before.inner after.inner text))
-- the threads made no one history; nothing was written
ProgramGives gives unread takes unwritten owes torn (Err end.Room) old new before after =
    (bytes : List ℕ) × IsInput gives old new bytes × torn bytes × (after ≡ before)
-- the whole text was written, and the program says what it tells
ProgramGives gives unread takes unwritten owes torn result old new before after =
    (text : List ℕ) × (owed : Option Told) × Answers gives owes old new text owed × IsWritten takes before after text × (result ≡ ended owed)

-- a program without threads
abbrev pub NoThreads : List ℕ → Type 0
NoThreads bytes = ⊥
