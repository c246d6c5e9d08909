-- Laws of runs in a manner (ours).
use Rattle.std.specs.Prelude.{◌≡◌, ℕ, List, false}
use Rattle.rh_rules.specs.declared.pick.Pick.{Pick}
use Rattle.rh_run.specs.RunText.{run_text, run_end}
use Rattle.rh_asked.specs.declared.manner.Manner.{Manner}
use Rattle.rh_manner.specs.MannerText.{manner_text, manner_end}

-- the manner in which nothing is printed beside the answers, and a refused step is no fault
abbrev pub plain : Manner
plain = record { echo = false; strict = false }

-- a run in that manner writes what `run` writes, and ends as that does
abbrev pub PlainMannerIsRun : Type 0
PlainMannerIsRun = (bytes : List ℕ) (pick : Pick) → (manner_text plain bytes pick ≡ run_text bytes pick) × (manner_end plain bytes pick ≡ run_end bytes)
