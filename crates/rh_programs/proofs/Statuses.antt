-- What status 0 says of a program's end.
use Rattle.std.proofs.Common.{◌≡◌, ◌∙◌, ℕ, List, Option, Some, None, Result, Ok, Err, inl, inr, refl, sym, subst, arith}
use Rattle.rh_run.specs.declared.fault.RunFault.{RunFault}
use Rattle.rh_run.specs.declared.fault.RunFault.TheVariants as end
use Rattle.rh_run.specs.declared.fault.Told.{Told}
use Rattle.rh_run.specs.declared.fault.Told.TheVariants as told
use Rattle.rh_asked.specs.declared.program.Program.{Program}
use Rattle.rh_devices.specs.declared.watched.Watched.{Watched}
use Rattle.rh_run.specs.Faults.{ended}
use Rattle.rh_run.specs.Programs.{ProgramGives}
use Rattle.rh_programs.specs.Status.{Owes, MayTear, IsDone, StatusGives, status_of}

-- a program that is done was told no fault
no_fault : (owed : Option Told) → Ok tt ≡ ended owed → owed ≡ None
no_fault None is = refl
no_fault (Some (told.Cluster f)) is = cc
no_fault (Some (told.BadLine k)) is = cc
no_fault (Some (told.Sweep f)) is = cc
no_fault (Some told.Refused) is = cc
no_fault (Some told.Differs) is = cc
no_fault (Some told.Unfinished) is = cc

module _ {S K : Type 0} (gives : S → S → List ℕ → Type 0) (unread : S → S → Type 0) (takes : K → K → List ℕ → Type 0)
    (flushes : K → K → Type 0) (unwritten : K → K → Type 0) (program : Program) (old new : Watched S) (before after : Watched K) where
  whole : (result : Result (Unit {0}) RunFault) (written : Watched K)
      → ProgramGives gives unread takes unwritten (Owes program) (MayTear program) result old new before written → status_of result ≡ 0
      → flushes written.inner after.inner → after.failed ≡ written.failed → IsDone gives takes flushes program old new before after
  whole (Ok tt) written gave zero flush kept =
      let owed : gave.1 ≡ None = no_fault gave.1 gave.4 in (
        gave.2.0,
        gave.0,
        written.inner,
        gave.2.1,
        subst (λ o. Owes program gave.2.0 gave.0 o) owed gave.2.2,
        gave.3.0,
        flush,
        kept ∙ gave.3.1,
      )
  whole (Err (end.Cluster f)) written gave zero flush kept = absurd (omega arith)
  whole (Err (end.BadLine k)) written gave zero flush kept = absurd (omega arith)
  whole (Err end.Read) written gave zero flush kept = absurd (omega arith)
  whole (Err end.Write) written gave zero flush kept = absurd (omega arith)
  whole (Err end.OutOfMemory) written gave zero flush kept = absurd (omega arith)
  whole (Err (end.Sweep f)) written gave zero flush kept = absurd (omega arith)
  whole (Err end.Room) written gave zero flush kept = absurd (omega arith)
  whole (Err end.Refused) written gave zero flush kept = absurd (omega arith)
  whole (Err end.Differs) written gave zero flush kept = absurd (omega arith)
  whole (Err end.Unfinished) written gave zero flush kept = absurd (omega arith)

  -- status 0 says that the program is done, and that the writer was flushed
  pub is_done : (status : ℕ) → StatusGives gives unread takes flushes unwritten program status old new before after → status ≡ 0
      → IsDone gives takes flushes program old new before after
  is_done status (result, written, gave, inl flushed) zero =
      let same : status_of result ≡ 0 = sym flushed.2 ∙ zero in
      whole result written gave same flushed.0 flushed.1
  is_done status (result, written, gave, inr failed) zero = absurd (omega arith)
