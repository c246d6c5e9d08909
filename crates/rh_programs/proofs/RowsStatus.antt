-- Worked rows: the exit status of each end of a program.
use Rattle.std.proofs.Common.{◌≡◌, ℕ, Some, None, Ok, Err, refl, inl, inr}
use Rattle.rh_cluster.specs.declared.fault.ClusterFault.TheVariants.{NoNodes}
use Rattle.rh_plans.specs.declared.fault.SweepFault.TheVariants.{BaseNotAtEnd, TrailRoom}
use Rattle.rh_run.specs.declared.fault.RunFault.TheVariants as end
use Rattle.rh_run.specs.declared.fault.Told.TheVariants as told
use Rattle.rh_devices.specs.declared.fault.ReadFault.TheVariants as reading
use Rattle.rh_devices.specs.declared.fault.WriteFault.TheVariants as writing
use Rattle.rh_app.specs.declared.fault.HistoryFault.TheVariants as history
use Rattle.rh_app.specs.declared.fault.SessionsFault.TheVariants as sessions
use Rattle.rh_app.specs.Faults.{history_fault, sessions_fault}
use Rattle.rh_run.specs.Faults.{ended, reading_fault, writing_fault}
use Rattle.rh_devices.specs.declared.watched.Watched.{Watched}
use Rattle.rh_programs.specs.Status.{status_of, Flushed}

-- each status from 0 to 6, and 9 and 10, but 1, which is that of a command line and no program's
statuses_row : (status_of (Ok tt) ≡ 0) × (status_of (Err (end.Cluster NoNodes)) ≡ 2) × (status_of (Err (end.BadLine 7)) ≡ 3)
    × (status_of (Err end.Read) ≡ 4) × (status_of (Err end.Write) ≡ 4) × (status_of (Err end.OutOfMemory) ≡ 5)
    × (status_of (Err (end.Sweep BaseNotAtEnd)) ≡ 6) × (status_of (Err (end.Sweep TrailRoom)) ≡ 6) × (status_of (Err end.Room) ≡ 6)
    × (status_of (Err end.Refused) ≡ 9) × (status_of (Err end.Differs) ≡ 9)
    × (status_of (Err end.Unfinished) ≡ 10)
statuses_row = (refl, refl, refl, refl, refl, refl, refl, refl, refl, refl, refl, refl)

-- a text that was written whole: by the fault that it tells at its end
told_row : (status_of (ended None) ≡ 0) × (status_of (ended (Some (told.Cluster NoNodes))) ≡ 2) × (status_of (ended (Some (told.BadLine 7))) ≡ 3)
    × (status_of (ended (Some (told.Sweep TrailRoom))) ≡ 6) × (status_of (ended (Some told.Refused)) ≡ 9) × (status_of (ended (Some told.Differs)) ≡ 9)
    × (status_of (ended (Some told.Unfinished)) ≡ 10)
told_row = (refl, refl, refl, refl, refl, refl, refl)

-- an input that wasn't read, also one that is too long; a text that wasn't written
devices_row : (status_of (Err (reading_fault reading.Failed)) ≡ 4) × (status_of (Err (reading_fault reading.TooLong)) ≡ 4)
    × (status_of (Err (reading_fault reading.OutOfMemory)) ≡ 5)
    × (status_of (Err (writing_fault writing.Failed)) ≡ 4) × (status_of (Err (writing_fault writing.OutOfMemory)) ≡ 5)
devices_row = (refl, refl, refl, refl, refl)

-- threads that made no one history, or had no memory for one; and the text of a history that wasn't written
threads_row : (status_of (Err (sessions_fault (history_fault history.Room))) ≡ 6) × (status_of (Err (sessions_fault (history_fault history.OutOfMemory))) ≡ 5)
    × (status_of (Err (sessions_fault (sessions.Write writing.Failed))) ≡ 4)
threads_row = (refl, refl, refl)

-- a flush that failed is status 4, though the program was done
flush_row : (before after : Watched (Unit {0})) (status : ℕ) → Flushed (λ a b. ⊥) (λ a b. Unit {0}) before after status (Ok tt) → status ≡ 4
flush_row before after status (inl flushed) = absurd flushed.0
flush_row before after status (inr failed) = failed.2
