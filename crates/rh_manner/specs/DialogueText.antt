-- A run whose lines are answered as they come (ours): what it has written by when, and how it ends.
use Rattle.std.specs.Prelude.{◌≡◌, ◌≢◌, ◌<◌, ◌≤◌, ◌⊎◌, ℕ, List, [], ◌∷◌, ◌++◌, length, filter, true, false, if◌then◌else◌, None, Result, Err}
use Rattle.std.specs.List.{concat, list_any}
use Rattle.rh_devices.specs.declared.watched.Watched.{Watched}
use Rattle.rh_devices.specs.Devices.{input_limit}
use Rattle.rh_script.specs.Lines.{raw_lines, ends_with, is_separator}
use Rattle.rh_run.specs.declared.fault.RunFault.{RunFault}
use Rattle.rh_run.specs.declared.fault.RunFault.TheVariants as end
use Rattle.rh_run.specs.Faults.{ended}
use Rattle.rh_run.specs.RunText.{run_end}
use Rattle.rh_manner.specs.Deeds.{Deed, Gave, Took, Flushed, given, taken, is_flushed, is_ended, Goes}

-- the lines that have come whole: each with its LF
abbrev pub whole_lines : List ℕ → List (List ℕ)
whole_lines bytes = filter (ends_with 10) (raw_lines bytes)

-- what is due when these bytes have come: all that is said for the lines that have come whole, and nothing before the line `===`
abbrev pub due_text : (List ℕ → List ℕ) → List ℕ → List ℕ
due_text said bytes = if list_any is_separator (whole_lines bytes) then said (concat (whole_lines bytes)) else []

-- all that is due was written, and was flushed
abbrev pub IsUpToDate : (List ℕ → List ℕ) → List Deed → Type 0
IsUpToDate said log = (taken log ≡ due_text said (given log)) × (is_flushed log ≡ true)

-- and so it was each time that the device was asked for more
abbrev pub IsPrompt : (List ℕ → List ℕ) → List Deed → Type 0
IsPrompt said [] = Unit {0}
IsPrompt said (Gave bytes ∷ log) = IsUpToDate said log × IsPrompt said log
IsPrompt said (Took bytes ∷ log) = IsPrompt said log
IsPrompt said (Flushed ∷ log) = IsPrompt said log

-- what was written is a front of what is said of all that has come
abbrev pub WroteSome : (List ℕ → List ℕ) → List Deed → Type 0
WroteSome said log = (rest : List ℕ) × (said (given log) ≡ taken log ++ rest)

-- it is all of that; the run ends as it tells: at the end of the input, or before, where it tells a fault
pub record WroteAll (said : List ℕ → List ℕ) (log : List Deed) (result : Result (Unit {0}) RunFault) : Type 0 where
  pub text : taken log ≡ said (given log)
  pub told : result ≡ ended (run_end (given log))
  pub limit : length (given log) ≤ input_limit
  pub whole : (is_ended log ≡ true) ⊎ (run_end (given log) ≢ None)

-- how a dialogue may end behind what was done
abbrev pub EndsSo : {D : Type 0} → (D → D → Type 0) → (D → D → Type 0) → (List ℕ → List ℕ) → List Deed → Result (Unit {0}) RunFault → D → Watched D → Type 0
-- the device failed where it was asked for more, and all that was due was written; or it gave too much
EndsSo unread unwritten said log (Err end.Read) d new =
    (unread d new.inner × (new.failed ≡ true) × IsUpToDate said log) ⊎ ((new.inner ≡ d) × (new.failed ≡ false) × (input_limit < length (given log)))
-- it failed where it was offered bytes, or flushed
EndsSo unread unwritten said log (Err end.Write) d new = unwritten d new.inner × (new.failed ≡ true) × WroteSome said log
-- it didn't fail
EndsSo unread unwritten said log (Err end.OutOfMemory) d new = (new.inner ≡ d) × (new.failed ≡ false) × WroteSome said log
-- the whole text was written
EndsSo unread unwritten said log result d new = (new.inner ≡ d) × (new.failed ≡ false) × WroteAll said log result

-- what was done, always in time, and how it ended behind that
abbrev pub DialogueGives : {D : Type 0} → (D → D → List ℕ → Type 0) → (D → D → Type 0) → (D → D → List ℕ → Type 0) → (D → D → Type 0) → (D → D → Type 0)
    → (List ℕ → List ℕ) → Result (Unit {0}) RunFault → Watched D → Watched D → Type 0
DialogueGives {D = D} gives unread takes flushes unwritten said result old new =
    (log : List Deed) × (d : D) × Goes gives takes flushes old.inner d log × IsPrompt said log × EndsSo unread unwritten said log result d new
