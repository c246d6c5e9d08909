-- What the report of a state tells of it (ours).
use Rattle.std.specs.Prelude.{◌≡◌, ◌≢◌, ◌≤◌, ◌+◌, ℕ, List, All, true, None}
use Rattle.rh_model.specs.ClusterView.{ClusterView}
use Rattle.rh_model.specs.Limits.{timeout_limit}
use Rattle.rh_model.specs.declared.node.Node.{Node}
use Rattle.rh_model.specs.declared.node.App.{App}
use Rattle.rh_state.specs.declared.status.Timer.{Timer}
use Rattle.rh_state.specs.Limits.{time_limit}
use Rattle.rh_state.specs.StateView.{StateView, runs_at, is_started, restart_of, kind_of}
use Rattle.rh_rules.specs.declared.pick.Pick.{Pick}
use Rattle.rh_trace.specs.Validity.{IsValid}
use Rattle.rh_rules.specs.declared.event.Event.{Event}
use Rattle.rh_rules.specs.Refusals.{refused}
use Rattle.rh_rules.specs.Steps.{next}
use Rattle.rh_calls.specs.Report.{report_text}

-- no blank and no line feed stands in a word
abbrev pub IsPlain : List ℕ → Type 0
IsPlain word = All (λ (b : ℕ). (b ≢ 32) × (b ≢ 10)) word

-- the names of nodes and applications are such words
pub record HasPlainNames (c : ClusterView) : Type 0 where
  pub nodes : All IsPlain c.node_names
  pub apps : All IsPlain c.app_names

-- each timer is due within the limits of time and of timeouts
abbrev pub IsDueSoon : StateView → Type 0
IsDueSoon s = All (λ (entry : ℕ × Timer). entry.0 ≤ time_limit + timeout_limit) s.timers

-- in the first state no timer is set, and each step keeps them within these limits
abbrev pub DueWithinLimits : Type 0
DueWithinLimits =
    (s : StateView) (e : Event) (pick : Pick) → IsValid s → refused s e ≡ None → IsDueSoon s
    → IsDueSoon (next s e pick).state

-- two states are alike in all that a report shows: in time, modes and incarnations; in what runs and what
-- waits at each node, in order, with the restart types of both and the start kinds of what runs; in
-- permissions, standings and timers
pub record IsAlike (s t : StateView) : Type 0 where
  pub time : s.time ≡ t.time
  pub modes : s.modes ≡ t.modes
  pub incarnations : s.incarnations ≡ t.incarnations
  pub running : s.running ≡ t.running
  pub waiting : s.waiting ≡ t.waiting
  pub restarts : (n : Node) (a : App) → is_started s n a ≡ true → restart_of s n a ≡ restart_of t n a
  pub kinds : (n : Node) (a : App) → runs_at s n a ≡ true → kind_of s n a ≡ kind_of t n a
  pub allowed : s.allowed ≡ t.allowed
  pub standings : s.standings ≡ t.standings
  pub timers : s.timers ≡ t.timers

-- two valid states of one cluster with one report are alike (ours)
abbrev pub ReportTellsState : Type 0
ReportTellsState =
    (s t : StateView) → IsValid s → IsValid t → IsDueSoon s → IsDueSoon t
    → s.cluster ≡ t.cluster → HasPlainNames s.cluster → report_text s ≡ report_text t
    → IsAlike s t
