-- A dialogue in its midst, and how it ends (ours).
use Rattle.std.specs.Prelude.{◌≡◌, ◌≤◌, ◌+◌, ℕ, List, [], ◌++◌, length, false, Option, Result, Ok, Err}
use Rattle.std.specs.List.{list_any}
use Rattle.rh_devices.specs.declared.watched.Watched.{Watched}
use Rattle.rh_devices.specs.Devices.{input_limit}
use Rattle.rh_script.specs.Lines.{raw_lines, is_separator}
use Rattle.rh_run.specs.declared.fault.Told.{Told}
use Rattle.rh_run.specs.Faults.{ended}
use Rattle.rh_manner.specs.declared.ear.Ear.{Ear}
use Rattle.rh_manner.specs.declared.fault.DialogueFault.{DialogueFault}
use Rattle.rh_manner.specs.declared.stage.Stage.{Stage}
use Rattle.rh_manner.specs.Deeds.{Deed, given, taken, Goes}
use Rattle.rh_manner.specs.DialogueText.{DialogueGives, IsPrompt, WroteAll}
use Rattle.rh_manner.specs.Faults.{dialogue_fault}
use Rattle.rh_manner.specs.Hearing.{AreWhole, has_end}
use Rattle.rh_manner.specs.Speech.{Speech}
use Rattle.rh_manner.specs.Stages.{text_from, end_from, opened_from, opened_end, is_parted, next_number}

-- behind these deeds the run stands at this stage, which these whole lines led to; what stands behind them is kept
pub record Stands {R V : Type 0} (sp : Speech V) (see : R → V) (log : List Deed) (consumed : List ℕ) (ear : Ear) (stage : Stage R) : Type 0 where
  pub come : given log ≡ consumed ++ ear.rest.items
  pub whole : AreWhole consumed
  pub rest : has_end ear.rest.items ≡ false
  pub count : ear.count ≡ length (given log)
  pub limit : ear.count ≤ input_limit
  pub text : (more : List (List ℕ)) → opened_from sp [] (raw_lines consumed ++ more) ≡ taken log ++ text_from sp see stage more
  pub end : (more : List (List ℕ)) → opened_end [] (raw_lines consumed ++ more) ≡ end_from sp see stage more
  pub parted : is_parted stage ≡ list_any is_separator (raw_lines consumed)
  pub silent : is_parted stage ≡ false → taken log ≡ []
  pub number : next_number stage ≤ 1 + length (raw_lines consumed)

-- how a dialogue ends that answers what its text tells
abbrev pub TalkGives : {D : Type 0} → (D → D → List ℕ → Type 0) → (D → D → Type 0) → (D → D → List ℕ → Type 0) → (D → D → Type 0) → (D → D → Type 0)
    → (List ℕ → List ℕ) → Result (Option Told) DialogueFault → Watched D → Watched D → Type 0
TalkGives gives unread takes flushes unwritten said (Ok told) old new =
    (log : List Deed) × Goes gives takes flushes old.inner new.inner log × IsPrompt said log × (new.failed ≡ false) × WroteAll said log (ended told)
TalkGives gives unread takes flushes unwritten said (Err f) old new = DialogueGives gives unread takes flushes unwritten said (Err (dialogue_fault f)) old new
