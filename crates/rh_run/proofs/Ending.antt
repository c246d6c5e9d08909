-- How a program ends, by what became of its parts.
use Rattle.std.proofs.Common.{◌≡◌, ℕ, List, Bool, false, Option, Some, None, Result, Ok, Err, inl, inr, refl}
use Rattle.rh_devices.specs.declared.fault.ReadFault.{ReadFault}
use Rattle.rh_devices.specs.declared.fault.ReadFault.TheVariants as reading
use Rattle.rh_devices.specs.declared.fault.WriteFault.{WriteFault}
use Rattle.rh_devices.specs.declared.fault.WriteFault.TheVariants as writing
use Rattle.rh_run.specs.declared.fault.Told.{Told}
use Rattle.rh_run.specs.declared.fault.Told.TheVariants as told
use Rattle.rh_devices.specs.declared.watched.Watched.{Watched}
use Rattle.rh_devices.specs.Devices.{WhyUnread, WroteFront}
use Rattle.rh_run.specs.Faults.{ended, reading_fault, writing_fault}
use Rattle.rh_run.specs.Programs.{IsInput, Owing, Answers, IsWritten, ProgramGives}

module _ {S K : Type 0} (gives : S → S → List ℕ → Type 0) (unread : S → S → Type 0) (takes : K → K → List ℕ → Type 0) (unwritten : K → K → Type 0)
    (owes : Owing) (torn : List ℕ → Type 0) (old new : Watched S) where
  -- the input was not read
  pub not_read : (f : ReadFault) (writer : Watched K) → writer.failed ≡ false → WhyUnread gives unread old new f
      → ProgramGives gives unread takes unwritten owes torn (Err (reading_fault f)) old new writer writer
  not_read reading.Failed writer well why = (inl why, refl)
  not_read reading.TooLong writer well why = (inr why, refl)
  not_read reading.OutOfMemory writer well why = (why, well, inl refl)

  -- the text was not written whole
  pub not_written : (f : WriteFault) (bytes text : List ℕ) (owed : Option Told) (before after : Watched K)
      → IsInput gives old new bytes → owes bytes text owed → WroteFront takes unwritten f text before after
      → ProgramGives gives unread takes unwritten owes torn (Err (writing_fault f)) old new before after
  not_written writing.Failed bytes text owed before after input is wrote = (text, owed, (bytes, input, is), wrote.0, wrote.1)
  not_written writing.OutOfMemory bytes text owed before after input is wrote =
      (input.2, wrote.1, inr (text, owed, (bytes, input, is), wrote.0))

  -- it was
  pub is_written : (owed : Option Told) (bytes text : List ℕ) (before after : Watched K)
      → IsInput gives old new bytes → owes bytes text owed → IsWritten takes before after text
      → ProgramGives gives unread takes unwritten owes torn (ended owed) old new before after
  is_written None bytes text before after input is wrote = (text, None, (bytes, input, is), wrote, refl)
  is_written (Some (told.Cluster f)) bytes text before after input is wrote = (text, Some (told.Cluster f), (bytes, input, is), wrote, refl)
  is_written (Some (told.BadLine k)) bytes text before after input is wrote = (text, Some (told.BadLine k), (bytes, input, is), wrote, refl)
  is_written (Some (told.Sweep f)) bytes text before after input is wrote = (text, Some (told.Sweep f), (bytes, input, is), wrote, refl)
  is_written (Some told.Refused) bytes text before after input is wrote = (text, Some told.Refused, (bytes, input, is), wrote, refl)
  is_written (Some told.Differs) bytes text before after input is wrote = (text, Some told.Differs, (bytes, input, is), wrote, refl)
  is_written (Some told.Unfinished) bytes text before after input is wrote = (text, Some told.Unfinished, (bytes, input, is), wrote, refl)
