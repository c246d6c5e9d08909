-- What a story tells of a tick, by the times at which it was told (ours).
use Rattle.std.specs.Prelude.{◌≡◌, ◌≤◌, ◌==◌, ◌+◌, ℕ, List, [], ◌∷◌, ◌++◌, All, Bool, not, length, map, filter, codes, if◌then◌else◌, Option, Some, None, Ok, is_some}
use Rattle.std.specs.List.{flat_map}
use Rattle.std.specs.List.Sorted.{IsNonDecreasingBy}
use Rattle.std.specs.Fmt.{decimal}
use Rattle.rh_script.specs.declared.notes.Kind.{Kind}
use Rattle.rh_script.specs.declared.notes.Kind.TheVariants as kind
use Rattle.rh_script.specs.Notes.{note_of}
use Rattle.rh_model.specs.ClusterView.{ClusterView}
use Rattle.rh_cluster.specs.ClusterOf.{cluster_of}
use Rattle.rh_rules.specs.declared.pick.Pick.{Pick}
use Rattle.rh_rules.specs.declared.event.Event.TheVariants.{Tick}
use Rattle.rh_rules.specs.declared.notice.Notice.{Notice}
use Rattle.rh_step.specs.Firings.{FiringView, firings, told_by}
use Rattle.rh_calls.specs.declared.call.Call.{Call}
use Rattle.rh_calls.specs.declared.call.Call.TheVariants as call
use Rattle.rh_calls.specs.declared.call.Reply.TheVariants as reply
use Rattle.rh_trail.specs.SimView.{SimView, state_of}
use Rattle.rh_trail.specs.Lone.{opened, served, sim_after}
use Rattle.rh_script.specs.Lines.{raw_lines}
use Rattle.rh_script.specs.Answers.{notice_line, answer_text}
use Rattle.rh_story.specs.LineText.{call_lines}
use Rattle.rh_story_laws.specs.Answers.{answer_in, answers_in}

-- what stands behind the mark `#@ `, where a line is a time
abbrev pub time_in : Option (Kind × List ℕ) → Option (List ℕ)
time_in (Some (kind.Time, text)) = Some text
time_in other = None

-- what the lines `#= ` say up to the next line `#@ `
abbrev pub until_time : List (List ℕ) → List ℕ
until_time [] = []
until_time (line ∷ lines) = if is_some (time_in (note_of line)) then [] else answer_in (note_of line) ++ until_time lines

abbrev pub with_time : Option (List ℕ) → List ℕ → List (List ℕ × List ℕ) → List (List ℕ × List ℕ)
with_time None answers others = others
with_time (Some time) answers others = (time, answers) ∷ others

-- each time that is told, and what the lines `#= ` say below it, up to the next
abbrev pub timed : List (List ℕ) → List (List ℕ × List ℕ)
timed [] = []
timed (line ∷ lines) = with_time (time_in (note_of line)) (until_time lines) (timed lines)

-- ---- a tick
-- what a story writes behind an accepted tick, as lines with their ends
abbrev pub tick_lines : SimView → ℕ → List Notice → List (List ℕ)
tick_lines s ms notices = raw_lines (call_lines s (call.Step (Tick ms)) (reply.Done notices))

-- the timers that fire in it (rh_step)
abbrev pub fired_in_tick : SimView → ℕ → List FiringView
fired_in_tick s ms = firings (state_of s) ms s.pick

abbrev pub tells_some : FiringView → Bool
tells_some f = not (length f.told == 0)

-- when a timer was due, and what it told as `run` writes that
abbrev pub as_told : ClusterView → FiringView → List ℕ × List ℕ
as_told c f = (decimal f.due ++ codes "\n", flat_map (notice_line c) f.told)

pub record IsToldByTimes (s : SimView) (ms : ℕ) (notices : List Notice) : Type 0 where
  -- times left out, the answer is that of a run
  pub answers : answers_in (tick_lines s ms notices) ≡ answer_text s.cluster (reply.Done notices)
  -- before the first time stands that the tick is accepted, and nothing more
  pub front : until_time (tick_lines s ms notices) ≡ codes "ok\n"
  -- each time is that at which a timer was due, and below it stands what this timer told; a timer that told nothing has no time
  pub times : timed (tick_lines s ms notices) ≡ map (as_told s.cluster) (filter tells_some (fired_in_tick s ms))
  -- these timers told the notices that a run answers, in their order
  pub told : told_by (fired_in_tick s ms) ≡ notices
  -- the times never fall, and lie within the tick
  pub order : IsNonDecreasingBy (λ f. f.due) (fired_in_tick s ms)
  pub begins : All (λ f. (state_of s).time ≤ f.due) (fired_in_tick s ms)
  pub ends : All (λ f. f.due ≤ (state_of s).time + ms) (fired_in_tick s ms)

-- so it is with each accepted tick behind any calls, on the cluster of any text
abbrev pub NoticesOfATickAreRuns : Type 0
NoticesOfATickAreRuns =
    (bytes : List ℕ) (c : ClusterView) (pick : Pick) (calls : List Call) (ms : ℕ) (notices : List Notice)
    → cluster_of bytes ≡ Ok c
    → (served (sim_after (opened c pick) calls) (call.Step (Tick ms))).reply ≡ reply.Done notices
    → IsToldByTimes (sim_after (opened c pick) calls) ms notices
