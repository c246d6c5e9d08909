-- What a story writes for the bytes that it reads: the script again, with what came of each command (ours).
use Rattle.std.specs.Prelude.{◌≡◌, ℕ, ◌+◌, List, [], ◌∷◌, ◌++◌, Bool, if◌then◌else◌, Option, Result, Ok, Err}
use Rattle.std.specs.List.{concat}
use Rattle.rh_model.specs.ClusterView.{ClusterView}
use Rattle.rh_cluster.specs.ClusterOf.{cluster_of}
use Rattle.rh_cluster.specs.declared.fault.ClusterFault.{ClusterFault}
use Rattle.rh_rules.specs.declared.pick.Pick.{Pick}
use Rattle.rh_trail.specs.SimView.{SimView}
use Rattle.rh_trail.specs.Lone.{opened}
use Rattle.rh_script.specs.Lines.{raw_lines, content, lines_behind, cluster_text}
use Rattle.rh_script.specs.Commands.{line_of}
use Rattle.rh_script.specs.Answers.{fault_text}
use Rattle.rh_run.specs.declared.fault.Told.{Told}
use Rattle.rh_run.specs.RunText.{run_end}
use Rattle.rh_story.specs.HeadText.{head_text}
use Rattle.rh_story.specs.LineText.{line_by, behind_by, is_bad, manual}
use Rattle.rh_story.specs.TableText.{lack_behind, shown}
use Rattle.rh_story.specs.Telling.{Telling}

-- the texts of lines, each over the simulation before it, where the first has number k and the text before it lacks so much of
-- its end. Behind the last line comes what is told at the end; what is behind a bad line stands as it is
abbrev pub lines_by : {V : Type 0} → Telling V → V → ℕ → List ℕ → List (List ℕ) → List ℕ
lines_by t s k lack [] = t.ending lack s
lines_by t s k lack (line ∷ lines) =
    let asked = line_of (t.cluster s) (content line) in
    let text = shown line lines (line_by t s k line asked) in
    text ++ (if is_bad asked then concat lines else lines_by t (behind_by t s asked) (k + 1) (lack_behind lack text) lines)

-- the head, where the whole is asked for
abbrev pub head_if : Bool → List (List ℕ) → List ℕ
head_if whole lines = if whole then head_text lines else []

-- the story of an input's lines, over this simulation: the head, and then the script
abbrev pub story_behind : {V : Type 0} → Telling V → V → Bool → List (List ℕ) → List ℕ
story_behind t s whole lines =
    let head = head_if whole lines in
    head ++ lines_by t s 1 (lack_behind [] head) (lines_behind lines)

-- the text for a cluster, of which such a simulation is opened, and the lines of an input, or for the fault of a text that is no
-- cluster
abbrev pub story_by : {V : Type 0} → Telling V → (ClusterView → V) → Bool → List (List ℕ) → Result ClusterView ClusterFault → List ℕ
story_by t start whole lines (Ok c) = story_behind t (start c) whole lines
story_by t start whole lines (Err f) = fault_text f

-- ---- by the rules of the manual

abbrev pub lines_text : SimView → ℕ → List ℕ → List (List ℕ) → List ℕ
lines_text s k lack lines = lines_by manual s k lack lines

abbrev pub story_over : Pick → Bool → List (List ℕ) → Result ClusterView ClusterFault → List ℕ
story_over pick whole lines r = story_by manual (λ c. opened c pick) whole lines r

-- what is written
unfoldable pub story_text : List ℕ → Pick → Bool → List ℕ
story_text bytes pick whole = story_over pick whole (raw_lines bytes) (cluster_of (cluster_text bytes))

-- what a story owes: it ends as a run does
abbrev pub OwesStory : Pick → Bool → List ℕ → List ℕ → Option Told → Type 0
OwesStory pick whole bytes text owed = (text ≡ story_text bytes pick whole) × (owed ≡ run_end bytes)
