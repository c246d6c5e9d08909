-- The answers in a story are those of a run (ours).
use Rattle.std.specs.Prelude.{◌≡◌, ℕ, List, [], Bool, if◌then◌else◌, Option, Some, None, Ok}
use Rattle.std.specs.List.{flat_map}
use Rattle.rh_script.specs.declared.notes.Kind.{Kind}
use Rattle.rh_script.specs.declared.notes.Kind.TheVariants as kind
use Rattle.rh_script.specs.Notes.{note_of}
use Rattle.rh_model.specs.ClusterView.{ClusterView}
use Rattle.rh_cluster.specs.ClusterOf.{cluster_of}
use Rattle.rh_rules.specs.declared.pick.Pick.{Pick}
use Rattle.rh_script.specs.Lines.{raw_lines, lines_behind, cluster_text}
use Rattle.rh_run.specs.RunText.{run_text, run_end}
use Rattle.rh_story.specs.StoryText.{story_text}

-- what stands behind the mark `#= `, where a line is an answer
abbrev pub answer_in : Option (Kind × List ℕ) → List ℕ
answer_in (Some (kind.Answer, text)) = text
answer_in other = []

-- what the lines `#= ` among these lines say without the mark, one after the other. A line comes with its end, and the answer has it
abbrev pub answers_in : List (List ℕ) → List ℕ
answers_in lines = flat_map (λ line. answer_in (note_of line)) lines

-- the lines of a story's script, each with its end; where the cluster's text stands before it, those behind the line `===`
abbrev pub told_lines : Bool → List ℕ → List (List ℕ)
told_lines whole story = if whole then lines_behind (raw_lines story) else raw_lines story

-- of an input that `run` takes to its end, with no line that is no command
pub record IsRun (bytes : List ℕ) (c : ClusterView) : Type 0 where
  pub cluster : cluster_of (cluster_text bytes) ≡ Ok c
  pub ends : run_end bytes ≡ None

-- the lines `#= ` of its story, without the mark, are byte for byte what `run` writes of it; times, reasons and the table are none of
-- them, and no answer that an earlier story wrote
abbrev pub StoryAnswersAreRuns : Type 0
StoryAnswersAreRuns =
    (bytes : List ℕ) (c : ClusterView) (pick : Pick) (whole : Bool) → IsRun bytes c
    → answers_in (told_lines whole (story_text bytes pick whole)) ≡ run_text bytes pick
