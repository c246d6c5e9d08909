-- A verification of a whole story (ours).
use Rattle.std.specs.Prelude.{◌≡◌, ◌↔◌, ℕ, List, [], ◌++◌, length, codes, All, true, Option, None}
use Rattle.std.specs.Fmt.{decimal}
use Rattle.rh_model.specs.ClusterView.{ClusterView}
use Rattle.rh_script.specs.Notes.{note_of}
use Rattle.rh_rules.specs.declared.pick.Pick.{Pick}
use Rattle.rh_trail.specs.Lone.{opened}
use Rattle.rh_script.specs.Lines.{script_lines}
use Rattle.rh_script.specs.Commands.{calls_of}
use Rattle.rh_run.specs.declared.fault.Told.{Told}
use Rattle.rh_run.specs.RunText.{lines_asked}
use Rattle.rh_story.specs.StoryText.{OwesStory}
use Rattle.rh_verify.specs.Manual.{manual}
use Rattle.rh_verify.specs.Expected.{Check, asked_by, ahead, wanted_in, wanted_among}
use Rattle.rh_verify.specs.Blocks.{missing}
use Rattle.rh_verify.specs.VerifyText.{first_line, script_checks, OwesVerify}
use Rattle.rh_story_laws.specs.Answers.{IsRun}
use Rattle.rh_story_laws.specs.Again.{HasScript}

-- how many commands the script of an input has
abbrev pub command_count : ClusterView → List ℕ → ℕ
command_count c bytes = length (calls_of (lines_asked c (script_lines bytes)))

-- what a verification says that checks so many commands, all there are, and finds nothing to differ
abbrev pub all_checked : ℕ → List ℕ
all_checked count = codes "ok " ++ decimal count ++ codes " of " ++ decimal count ++ codes " commands checked\n"

-- no line `#? TEXT` stands in the script
abbrev pub WantsNothing : List ℕ → Type 0
WantsNothing bytes = All (λ line. wanted_in (note_of line) ≡ None) (script_lines bytes)

-- each line `#? TEXT` of the script is in the report behind its command, and none stands before the first command
pub record ReportsHold (bytes : List ℕ) (c : ClusterView) (pick : Pick) : Type 0 where
  pub behind : All (λ (x : Check). missing x.report (wanted_among x.behind) ≡ []) (script_checks manual (opened c pick) (first_line bytes) (script_lines bytes))
  pub none_ahead : wanted_among (ahead (asked_by c (script_lines bytes))) ≡ []

-- in the whole story of an input without lines `#?` a verification checks each command, finds nothing to differ and ends in success
abbrev pub WholeStoriesHold : Type 0
WholeStoriesHold =
    (bytes story text : List ℕ) (c : ClusterView) (pick : Pick) (told owed : Option Told) → IsRun bytes c → HasScript bytes → WantsNothing bytes
    → OwesStory pick true bytes story told → OwesVerify pick story text owed
    → (text ≡ all_checked (command_count c bytes)) × (owed ≡ None)

-- a story keeps the lines `#?` of its input, and what they want is all that can differ: so it ends in success exactly if that holds
abbrev pub OnlyReportsDiffer : Type 0
OnlyReportsDiffer =
    (bytes story text : List ℕ) (c : ClusterView) (pick : Pick) (told owed : Option Told) → IsRun bytes c → HasScript bytes
    → OwesStory pick true bytes story told → OwesVerify pick story text owed
    → ((owed ≡ None) ↔ ReportsHold bytes c pick) × (owed ≡ None → text ≡ all_checked (command_count c bytes))
