-- How sessions end, whose text is one of several.
use Rattle.std.proofs.Common.{◌≡◌, ℕ, List, Bool, Option, Result, Ok, Err, subst}
use Rattle.rh_devices.specs.declared.fault.WriteFault.{WriteFault}
use Rattle.rh_run.specs.declared.fault.Told.{Told}
use Rattle.rh_app.specs.declared.fault.SessionsFault.{SessionsFault}
use Rattle.rh_app.specs.declared.fault.SessionsFault.TheVariants as sessions
use Rattle.rh_devices.specs.declared.watched.Watched.{Watched}
use Rattle.rh_run.specs.Faults.{ended}
use Rattle.rh_app.specs.Faults.{sessions_fault}
use Rattle.rh_run.specs.Programs.{IsInput, Owing, ProgramGives}
use Rattle.rh_run.proofs.Ending.{not_written, is_written}
use Rattle.rh_app.specs.Sessions.{OneWritten, WroteOne}

module _ {S K : Type 0} (gives : S → S → List ℕ → Type 0) (unread : S → S → Type 0) (takes : K → K → List ℕ → Type 0) (unwritten : K → K → Type 0)
    (owes : Owing) (torn : List ℕ → Type 0) (old new : Watched S) where
  -- the text was one of several
  pub not_shared : (f : SessionsFault) (bytes : List ℕ) (before after : Watched K)
      → IsInput gives old new bytes → WroteOne takes unwritten (owes bytes) (torn bytes) (Err f) before after
      → ProgramGives gives unread takes unwritten owes torn (Err (sessions_fault f)) old new before after
  not_shared sessions.Room bytes before after input wrote = (bytes, input, wrote.0, wrote.1)
  not_shared (sessions.Write f) bytes before after input wrote = not_written gives unread takes unwritten owes torn old new f bytes wrote.0 wrote.1 before after input wrote.2 wrote.3

  pub is_shared : (owed : Option Told) (bytes : List ℕ) (before after : Watched K)
      → IsInput gives old new bytes → OneWritten takes unwritten (owes bytes) (Ok owed) before after
      → ProgramGives gives unread takes unwritten owes torn (ended owed) old new before after
  is_shared owed bytes before after input wrote =
      is_written gives unread takes unwritten owes torn old new owed bytes wrote.0 before after input (subst (λ o. owes bytes wrote.0 o) wrote.3.0 wrote.2) (wrote.3.1, wrote.3.2)
