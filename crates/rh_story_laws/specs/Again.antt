-- A story of a story (ours).
use Rattle.std.specs.Prelude.{◌≡◌, ◌≢◌, ℕ, List, [], true}
use Rattle.rh_model.specs.ClusterView.{ClusterView}
use Rattle.rh_rules.specs.declared.pick.Pick.{Pick}
use Rattle.rh_script.specs.Lines.{raw_lines, lines_behind}
use Rattle.rh_story.specs.StoryText.{story_text}
use Rattle.rh_story_laws.specs.Answers.{IsRun}

-- the input has a line `===`, and a line behind it. Without a line behind it there is nothing to tell; without a line `===` one is put
-- behind the cluster's text, and no law says here that the text describes the same cluster with an end of line more
abbrev pub HasScript : List ℕ → Type 0
HasScript bytes = lines_behind (raw_lines bytes) ≢ []

-- of an input with no line that is no command the whole story is, byte for byte, the whole story of itself
abbrev pub StoryOfAStoryIsItself : Type 0
StoryOfAStoryIsItself =
    (bytes : List ℕ) (c : ClusterView) (pick : Pick) → IsRun bytes c → HasScript bytes
    → story_text (story_text bytes pick true) pick true ≡ story_text bytes pick true
